-- What a lookup promises, put together from what its two halves and the reading promise.
use Rattle.std.proofs.Common.{◌≡◌, ℕ, true, false, List, Option, None, Some, inl, inr, arith, ◌+◌, ◌≤◌}
use Rattle.std.specs.Prelude.{IfSome}
use denote.Bor.{Bor}
use Rattle.mime_base.specs.Database.{PlainDatabase}
use Rattle.mime_base.specs.declared.magic.host.Host.{Host}
use Rattle.mime_lookup.specs.Affords.{Affords, rule_records}
use Rattle.mime_lookup.specs.CheckingOrder.{Chooses, GlobsDecide, front_size, globs_suffice, read_of}
use Rattle.mime_lookup.specs.Content.{known_content}
use Rattle.mime_lookup.specs.Fronts.{ReadsFront}
use Rattle.mime_lookup.specs.Halves.{AffordsRest, Decides, Leaves, order_left, owed_records}
use Rattle.mime_lookup.specs.Spelling.{SpellsGlobs, SpellsMagic}
use Rattle.mime_lookup.specs.Spent.{IsUsedUp}
use Rattle.mime_lookup.specs.Steps.{Stops, Suffices, SufficesForContent}
use Rattle.mime_lookup.specs.declared.cached.by_name.NameDecision.TheVariants.{Decided, Left}
use Rattle.mime_lookup.specs.declared.cached.by_name.Candidates.{Candidates}
use Rattle.mime_lookup.specs.declared.order.Order.{Order}
use Rattle.mime_lookup.specs.declared.stopped.Cause.{Cause}
use Rattle.mime_lookup.proofs.OrderLemmas.ByContents.{suffices_globs, used_after, used_for, without}
use Rattle.mime_lookup.proofs.SniffLemmas.Front.{chooses_known, size_known}
use Rattle.mime_lookup.proofs.LookUpLemmas.SpelledParts.{spelled_magic}
use Rattle.mime_lookup.proofs.StopLemmas.StepStops.{stops_then}
use Rattle.mime_view.specs.declared.budget.Budget.{Budget}

-- what implies that there is no content
pub decide_for : (b : PlainDatabase) (name : List ℕ) (order : Order) (A B : Type 0) → (A → B) → GlobsDecide b name order A
    → GlobsDecide b name order B
decide_for b name order A B weaker (inl suffice) = inl suffice
decide_for b name order A B weaker (inr none) = inr (weaker none.0, none.1)

-- a type that is given whatever the content is
pub chosen_anyway : (b : PlainDatabase) (name : List ℕ) (host : Host) (order : Order) (kind : Bor (List ℕ)) (known : Option (Option (List ℕ)))
    → Decides b name order (Decided kind) → IfSome known (λ content. Chooses b name content host order kind.now)
chosen_anyway b name host order kind None gives = tt
chosen_anyway b name host order kind (Some content) gives = gives.1 content host

-- a count of what was read, by whether the globs suffice
pub none_read : (b : PlainDatabase) (name : List ℕ) (order : Order) (known : Option (Option (List ℕ))) (read : ℕ) → read ≡ 0
    → globs_suffice b name order ≡ true → IfSome known (λ content. read ≡ read_of b name content order)
unfolding read_of
none_read b name order None read none suffice = tt
none_read b name order (Some content) read none suffice = rw suffice none

-- where the rules don't suffice, what is read is the front
pub front_read : (b : PlainDatabase) (name : List ℕ) (order : Order) (known : Option (Option (List ℕ))) (read : ℕ)
    → globs_suffice b name order ≡ false → IfSome known (λ content. read ≡ front_size b content)
    → IfSome known (λ content. read ≡ read_of b name content order)
unfolding read_of
front_read b name order None read suffice size = tt
front_read b name order (Some content) read suffice size = rw suffice size

module _ {R : Type 0} (remaining : R → Option (List ℕ)) (c name : List ℕ) (content : Option R) (order : Order) (candidates : Candidates)
    (b : PlainDatabase) (gives : Decides b name order (Left candidates))
  where
    -- where the globs decide there is no content
    pub no_content : GlobsDecide b name order (content ≡ None) → content ≡ None
    no_content decide = without b name (content ≡ None) candidates gives.2 (rw gives.1 decide)

    -- so what stands is enough for the content
    pub content_stands : Suffices c name order (content ≡ None) b → SufficesForContent c (content ≡ None) b
    content_stands (inl whole) = inl (spelled_magic c b whole.0 whole.1)
    content_stands (inr globs) = inr (no_content globs.1)

    module _ (read : ℕ) (front : Option (List ℕ)) (reads : ReadsFront remaining c content read front) where
      -- and for the front
      pub decides : GlobsDecide b name order (content ≡ None) → GlobsDecide b name (order_left candidates) (front ≡ None)
      decides decide = rw gives.1 (decide_for b name order (content ≡ None) (front ≡ None) reads.absent decide)

      pub front_stands : Suffices c name order (content ≡ None) b → Suffices c name (order_left candidates) (front ≡ None) b
      front_stands (inl whole) = inl whole
      front_stands (inr globs) = inr (globs.0, decides globs.1)

      -- the type that the front gives is that of the content
      pub chosen_front : (host : Host) (kind : List ℕ) → Suffices c name order (content ≡ None) b
          → Chooses b name front host (order_left candidates) kind
          → IfSome (known_content remaining content) (λ known. Chooses b name known host order kind)
      chosen_front host kind (inl whole) chosen =
          chooses_known b name host kind order (known_content remaining content) front
          (reads.enough b (spelled_magic c b whole.0 whole.1)) (rw gives.1 at chosen)
      chosen_front host kind (inr globs) chosen =
          let none = no_content globs.1 in
          rw none (rw (reads.absent none, gives.1) at chosen)

      -- and as much was read as the order says
      pub read_front : SpellsMagic c b → IfSome (known_content remaining content) (λ known. read ≡ read_of b name known order)
      read_front spelled =
          front_read b name order (known_content remaining content) read gives.0
          (size_known b (known_content remaining content) front read reads.size (reads.enough b spelled))

-- the front gave nothing
module _ {R : Type 0} (remaining : R → Option (List ℕ)) (c name : List ℕ) (content : Option R) (order : Order) (candidates : Candidates)
    (gives : (b : PlainDatabase) → SpellsGlobs c b → Decides b name order (Left candidates)) (read : ℕ) (front : Option (List ℕ))
    (reads : ReadsFront remaining c content read front)
  where
    pub stops_front : (old kept after : Budget) (stop : Cause) → kept.value_bytes ≡ old.value_bytes → kept.records ≤ old.records
        → ((b : PlainDatabase) → SpellsGlobs c b → old.records + owed_records b candidates ≤ kept.records + rule_records b)
        → Stops (IsUsedUp c (front ≡ None) kept after)
        (λ b. Suffices c name (order_left candidates) (front ≡ None) b × Leaves b name candidates × AffordsRest b candidates kept) (λ _. ⊥)
        stop
        → Stops (IsUsedUp c (content ≡ None) old after) (λ b. Suffices c name order (content ≡ None) b × Affords b old)
        (λ b. GlobsDecide b name order (content ≡ None) → ⊥) stop
    stops_front old kept after stop same fewer takes is =
        stops_then stop is (λ used. used_after c old kept after fewer same (used_for c kept after reads.absent used))
        (λ b enough.
        let globs = suffices_globs c name (content ≡ None) b order enough.0 in (
          front_stands remaining c name content order candidates b (gives b globs) read front reads enough.0,
          (gives b globs).2,
          record {
            records = omega (arith, enough.1.records, takes b globs);
            value_bytes = omega (arith, enough.1.value_bytes, same);
          },
        ))
        (λ b enough none. absurd none)
