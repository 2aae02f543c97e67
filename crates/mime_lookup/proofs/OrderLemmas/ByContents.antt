-- What a front of a content gives after the name, by the step that was last, and which databases the steps answer for.
use Rattle.std.proofs.Common.{◌≡◌, ◌∙◌, ℕ, ◌≤◌, Bool, true, false, cond, List, length, take, Option, inl, inr, ap, sym, arith}
use Rattle.std.specs.List.{All}
use Rattle.std.proofs.lemmas.List.{length-take}
use Rattle.std.proofs.lemmas.List.Elements.{All-take}
use Rattle.std.specs.Prelude.{None, Some, ⊤}
use Rattle.mime_base.specs.Cache.Bytes.{Stands}
use Rattle.mime_base.specs.Database.{PlainDatabase, pairs_of}
use Rattle.mime_base.specs.Format.Header.{HeaderAt, Offsets}
use Rattle.mime_base.specs.Format.Pairs.{PairsAt}
use Rattle.mime_base.specs.declared.magic.host.Host.{Host}
use Rattle.mime_lookup.specs.CheckingOrder.{GlobsDecide, are_one_type}
use Rattle.mime_lookup.specs.Choice.{kept}
use Rattle.mime_lookup.specs.Finding.{PlainFinding, found_in, is_by_magic, is_high}
use Rattle.mime_lookup.specs.Halves.{Leaves, order_left}
use Rattle.mime_lookup.specs.Spelling.{SpellsGlobs, SpellsMagic}
use Rattle.mime_lookup.specs.Spent.{IsUsedUp}
use Rattle.mime_lookup.specs.Steps.{Suffices, SufficesForChoice, SufficesForContent}
use Rattle.mime_lookup.specs.declared.cached.by_name.Candidates.{Candidates}
use Rattle.mime_lookup.specs.declared.cached.by_name.Candidates.TheVariants.{Every, Ignored, Kept, Unasked}
use Rattle.mime_lookup.specs.declared.order.Order.{Order}
use Rattle.mime_lookup.specs.declared.order.Order.TheVariants.{AllGlobs, GlobsFirst, MagicFirst}
use Rattle.mime_lookup.proofs.CostLemmas.Near.{decide_unavailable, decide_without, few_asked, none_kept}
use Rattle.mime_lookup.proofs.LookUpLemmas.SpelledParts.{spelled_globs, spelled_magic, spelled_pairs}
use Rattle.mime_view.specs.declared.budget.Budget.{Budget}

-- where candidates are left and the globs decide, there is no content
pub without : (b : PlainDatabase) (name : List ℕ) (NoContent : Type 0) (candidates : Candidates) → Leaves b name candidates
    → GlobsDecide b name (order_left candidates) NoContent → NoContent
without b name NoContent (Kept kinds) leaves decide = (none_kept b name NoContent kinds leaves.1 leaves.0 decide).1
without b name NoContent (Every kinds asked) leaves decide = (few_asked b name NoContent asked leaves.2 leaves.0 decide).1
without b name NoContent Unasked leaves decide = (decide_without b name NoContent decide).0
without b name NoContent Ignored leaves decide = decide_unavailable b name NoContent decide

-- then nothing of a high priority is found
pub not_high : (b : PlainDatabase) (front : Option (List ℕ)) (host : Host) (found : PlainFinding) → found ≡ found_in b front host
    → front ≡ None → is_high found ≡ true → ⊥
not_high b front host found is none high =
    let both : false ≡ true = sym (ap is_high (rw none at is)) ∙ high in
    absurd cc

-- what implies that there is no content
pub used_for : (c : List ℕ) {A B : Type 0} (old left : Budget) → (A → B) → IsUsedUp c B old left → IsUsedUp c A old left
used_for c old left weaker (inl records) = inl records
used_for c old left weaker (inr value) = inr ((λ none. value.0 (weaker none)), value.1)

-- where there is no content, no record is left, whatever was taken before
pub used_unread : (c : List ℕ) {A B : Type 0} (old mid left : Budget) → B → IsUsedUp c B mid left → IsUsedUp c A old left
used_unread c old mid left none (inl records) = inl records
used_unread c old mid left none (inr value) = absurd (value.0 none)

-- after steps that take no value bytes
pub used_after : (c : List ℕ) {A : Type 0} (old mid left : Budget) → mid.records ≤ old.records → mid.value_bytes ≡ old.value_bytes
    → IsUsedUp c A mid left → IsUsedUp c A old left
used_after c old mid left fewer same (inl records) = inl records
used_after c old mid left fewer same (inr value) =
    let states = value.1 in
    inr (
      value.0,
      record {
        lines = states.lines;
        each = states.each;
        few = omega (arith, states.few, fewer);
        over = omega (arith, states.over, same);
      },
    )

module _ (c name : List ℕ) (NoContent : Type 0) (b : PlainDatabase) where
  -- in each case the glob rules stand
  pub suffices_globs : (order : Order) → Suffices c name order NoContent b → SpellsGlobs c b
  suffices_globs order (inl whole) = spelled_globs c b whole.0 whole.1
  suffices_globs order (inr globs) = globs.0

  -- and what is left for the front stands
  pub suffices_content : (candidates : Candidates) → Leaves b name candidates → Suffices c name (order_left candidates) NoContent b
      → SufficesForContent c NoContent b
  suffices_content candidates leaves (inl whole) = inl (spelled_magic c b whole.0 whole.1)
  suffices_content candidates leaves (inr globs) = inr (without b name NoContent candidates leaves globs.1)

  -- so does what the choice among the kept types needs
  pub suffices_choice : (kinds : List (List ℕ)) → kinds ≡ kept (pairs_of b) b.rules name
      → are_one_type (kept (pairs_of b) b.rules name) ≡ false → Suffices c name GlobsFirst NoContent b → SufficesForChoice c kinds b
  suffices_choice kinds are conflict (inl whole) = inl (spelled_pairs c b whole.1)
  suffices_choice kinds are conflict (inr globs) =
      inr (omega (arith, ap length (none_kept b name NoContent kinds are conflict globs.1).0), globs.0)

  -- and the globs, where they are asked last
  pub suffices_last : Suffices c name MagicFirst NoContent b → Suffices c name GlobsFirst ⊤ b
  suffices_last (inl whole) = inl whole
  suffices_last (inr globs) = inr (globs.0, (decide_without b name NoContent globs.1).1)

-- where no content is available, so few are asked of all types
few_of : (front : Option (List ℕ)) (b : PlainDatabase) (host : Host) (found : PlainFinding) (kinds : List (List ℕ)) (asked : ℕ)
    → found ≡ found_in b front host → front ≡ None → asked ≤ 1 → length (cond (is_by_magic found) kinds (take asked kinds)) ≤ 1
few_of front b host found kinds asked is none few =
    let fixed : is_by_magic found ≡ false = ap is_by_magic (rw none at is) in
    rw fixed (omega (arith, length-take asked kinds, few))

module _ (c name : List ℕ) (front : Option (List ℕ)) (b : PlainDatabase) (host : Host) (found : PlainFinding) (kinds : List (List ℕ))
    (asked : ℕ) (is : found ≡ found_in b front host) (leaves : Leaves b name (Every kinds asked))
  where
    -- where the globs decide, one of all types is asked or none
    pub one_asked : GlobsDecide b name AllGlobs (front ≡ None) → length (cond (is_by_magic found) kinds (take asked kinds)) ≤ 1
    one_asked decide =
        let few = few_asked b name (front ≡ None) asked leaves.2 leaves.0 decide in
        few_of front b host found kinds asked is few.1 few.0

    -- so what the choice among those that are asked needs stands
    pub suffices_asked : Suffices c name AllGlobs (front ≡ None) b
        → SufficesForChoice c (cond (is_by_magic found) kinds (take asked kinds)) b
    suffices_asked (inl whole) = inl (spelled_pairs c b whole.1)
    suffices_asked (inr globs) = inr (one_asked globs.1, globs.0)

-- those that are asked are some of all
pub asked_all : (P : List ℕ → Type 0) (magic : Bool) (kinds : List (List ℕ)) (asked : ℕ) → All P kinds
    → All P (cond magic kinds (take asked kinds))
asked_all P true kinds asked all = all
asked_all P false kinds asked all = All-take P asked kinds all

-- and no more than there are
pub asked_few : (magic : Bool) (kinds : List (List ℕ)) (asked : ℕ) → length (cond magic kinds (take asked kinds)) ≤ length kinds
asked_few true kinds asked = omega arith
asked_few false kinds asked = omega (arith, length-take asked kinds)

-- where there is a content, its magic stands
pub content_magic : {A : Type 0} (c : List ℕ) (content : A) (b : PlainDatabase) → SufficesForContent c (Some content ≡ None) b
    → SpellsMagic c b
content_magic c content b (inl magic) = magic
content_magic c content b (inr none) = absurd cc

-- where a choice can be made, the aliases stand
pub choice_aliases : (c : List ℕ) (kinds : List (List ℕ)) (b : PlainDatabase) → SufficesForChoice c kinds b
    → (offsets : Offsets) × (HeaderAt (Stands c) offsets × PairsAt (Stands c) offsets.aliases b.aliases)
choice_aliases c kinds b (inl pairs) = (pairs.offsets, (pairs.header, pairs.aliases))
choice_aliases c kinds b (inr none) = (none.1.offsets, (none.1.header, none.1.aliases))
