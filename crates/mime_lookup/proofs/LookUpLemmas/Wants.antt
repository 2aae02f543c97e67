-- How much of a content is wanted, by what the name gave, and why that is not said.
use Rattle.std.proofs.Common.{◌≡◌, ◌∙◌, ◌⊎◌, ℕ, true, false, max, List, refl, sym, inl, inr}
use Rattle.mime_base.specs.Cache.Bytes.{field}
use Rattle.mime_base.specs.Database.{PlainDatabase}
use Rattle.mime_lookup.specs.Bounds.{stated_extent}
use Rattle.mime_lookup.specs.Cached.{cause_of}
use Rattle.mime_lookup.specs.CheckingOrder.{globs_suffice, read_limit}
use Rattle.mime_lookup.specs.Spelling.{SpellsGlobs, SpellsMagic}
use Rattle.mime_lookup.specs.StepFaults.{IsMagicHeadFault}
use Rattle.mime_lookup.specs.Steps.{Stops}
use Rattle.mime_lookup.specs.Wanted.{IsWanted, wanted_of}
use Rattle.mime_lookup.specs.declared.order.Order.{Order}
use Rattle.mime_lookup.proofs.LookUpLemmas.EnoughFronts.{enough}
use Rattle.mime_lookup.proofs.StopLemmas.PlacedFaults.{no_place}
use Rattle.mime_lookup.proofs.StopLemmas.StepStops.{stops_for}
use Rattle.mime_view.specs.declared.fault.CacheFault.{CacheFault}

module _ (c name : List ℕ) (order : Order) where
  -- nothing, where the globs suffice
  pub wants_none : ((b : PlainDatabase) → SpellsGlobs c b → globs_suffice b name order ≡ true) → IsWanted c name order 0
  wants_none suffice =
      let is : (b : PlainDatabase) → SpellsGlobs c b → 0 ≡ wanted_of b name order = λ b globs. rw (suffice b globs) refl in
      record {
        any_bytes = inl refl;
        globs = λ b globs. rw (suffice b globs) refl;
        most = λ b globs magic. is b globs;
        enough = λ b globs magic. enough b name order 0 globs.ranks (is b globs);
      }

  -- the longest front, where they don't
  pub wants_front : (wanted : ℕ) → ((b : PlainDatabase) → SpellsGlobs c b → globs_suffice b name order ≡ false)
      → wanted ≡ max 128 (stated_extent c) → ((b : PlainDatabase) → SpellsMagic c b → wanted ≡ read_limit b)
      → IsWanted c name order wanted
  wants_front wanted conflict stated spelled =
      let is : (b : PlainDatabase) → SpellsGlobs c b → SpellsMagic c b → wanted ≡ wanted_of b name order =
      λ b globs magic. rw (conflict b globs) (spelled b magic) in
      record {
        any_bytes = inr stated;
        globs = λ b globs. rw (conflict b globs) stated;
        most = is;
        enough = λ b globs magic. enough b name order wanted globs.ranks (is b globs magic);
      }

  -- the head of magic does not lie in the cache
  pub stops_limit : (e : CacheFault) (IsUsed : Type 0) (IsEnough : PlainDatabase → Type 0)
      → IsMagicHeadFault c e → ((b : PlainDatabase) → IsEnough b → ⊥)
      → Stops IsUsed IsEnough (λ _. ⊥) (cause_of e)
  stops_limit e IsUsed IsEnough head need =
      stops_for IsUsed IsEnough (λ _. ⊥) e
      (λ same. absurd (no_place (field c 0 6) (sym head.1 ∙ same))) (λ b enough. absurd (need b enough))

  -- where they don't, what is enough to say so is the magic
  pub magic_for_front : (b : PlainDatabase) → globs_suffice b name order ≡ false
      → (globs_suffice b name order ≡ true) ⊎ SpellsMagic c b → SpellsMagic c b
  magic_for_front b conflict (inl suffice) = absurd cc
  magic_for_front b conflict (inr magic) = magic
