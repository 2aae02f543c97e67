-- An answer of the parent list: what it gives, and which types are marked after it.
use Rattle.std.proofs.Common.{◌≡◌, ◌⊎◌, ℕ, Bool, true, false, IsTrue, List, [], ◌++◌, map}
use Rattle.std.proofs.Common.{refl, sym, ap, inl, inr, ⊎_elim, ◌∙◌, Option, None, Some}
use Rattle.std.proofs.lemmas.Bool.{cases_Bool}
use Rattle.mime_base.specs.Database.Subclass.{Pairs, above, parents, resolved}
use Rattle.mime_lookup.specs.Ancestry.{Expanded}
use Rattle.mime_view.specs.Parents.{IsGiven, TakesParents, is_marked, unmarked_parents}
use Rattle.mime_view.specs.declared.parents.Parents.{Parents}
use Rattle.mime_view.specs.declared.spending.Spending.{Spending}
use Rattle.mime_lookup.proofs.AncestryLemmas.PlaceMarks.{marked_here, marked_now, marked_others, marked_still}

-- a type was asked for its parents: what was due came, and it alone is marked besides
pub record Asked (pairs : List (List ℕ × List ℕ)) (kind : List ℕ) (before after : List ℕ → Bool) (came : List (List ℕ)) :
    Type 0 where
  pub due : came ≡ unmarked_parents pairs (before kind) kind
  pub kept : (x : List ℕ) → IsTrue (before x) → IsTrue (after x)
  pub others : (x : List ℕ) → IsTrue (after x) → IsTrue (before x) ⊎ (x ≡ kind)
  pub itself : (came ≡ []) ⊎ IsTrue (after kind)

-- what an answer brings
abbrev pub came : Option Parents → List (List ℕ)
came None = []
came (Some found) = found.types

-- a type without parents has none that aren't marked
no_parents : (pairs : List (List ℕ × List ℕ)) (kind : List ℕ) (marked : Bool) → parents pairs kind ≡ []
    → [] ≡ unmarked_parents pairs marked kind
no_parents pairs kind true none = refl
no_parents pairs kind false none = sym none

-- an answer, of any bytes and of the pairs that stand
pub asked : (c : List ℕ) (at : ℕ) (pairs : List (List ℕ × List ℕ)) (kinds : List (List ℕ)) (kind marks after : List ℕ)
    (old new : Spending) (found : Option Parents) → IsGiven pairs kinds (is_marked c at marks kind) kind found
    → TakesParents c at kind old new marks after found
    → Asked pairs kind (is_marked c at marks) (is_marked c at after) (came found)
asked c at pairs kinds kind marks after old new None given taken = record {
  due = no_parents pairs kind (is_marked c at marks kind) given.1;
  kept = λ x is. rw taken.marked is;
  others = λ x is. inl (rw taken.marked at is);
  itself = inl refl;
}
asked c at pairs kinds kind marks after before now (Some found) given taken =
    let read = taken.read in
    ⊎_elim
    (λ old. record {
      due = given.2;
      kept = λ x is. rw old.1 is;
      others = λ x is. inl (rw old.1 at is);
      itself = inr (rw old.1 (marked_here c at marks kind found.entry read.entry old.0));
    })
    (λ new. record {
      due = given.2;
      kept = λ x is. rw new.1 (marked_still c at marks kind found.entry read.entry new.0 x is);
      others = λ x is. marked_others c at marks kind found.entry read.entry new.0 x (rw new.1 at is);
      itself = inr (rw new.1 (marked_now c at marks kind found.entry read.entry new.0));
    })
    taken.marked

-- what came, each after one alias step and put at the end of the queue, expands the type
pub expanded_by : (pairs : Pairs) (kind : List ℕ) (before after : List ℕ → Bool) (came queue queue_after : List (List ℕ))
    → Asked pairs.parents kind before after came → queue_after ≡ queue ++ map (resolved pairs.aliases) came
    → Expanded pairs kind before after queue queue_after
unfolding above
expanded_by pairs kind before after came queue queue_after is grown =
    let all : before kind ≡ false → map (resolved pairs.aliases) came ≡ above pairs kind =
    λ fresh. ap (map (resolved pairs.aliases)) (is.due ∙ ap (λ b. unmarked_parents pairs.parents b kind) fresh) in
    let none : before kind ≡ true → map (resolved pairs.aliases) came ≡ [] =
    λ old. ap (map (resolved pairs.aliases)) (is.due ∙ ap (λ b. unmarked_parents pairs.parents b kind) old) in
    record {
      more = map (resolved pairs.aliases) came;
      grown = grown;
      all_or_none = ⊎_elim (λ old. inr (old, none old)) (λ fresh. inl (all fresh)) (cases_Bool (before kind));
      marks = λ x h.
          ⊎_elim
          (λ old. inl old)
          (λ new. ⊎_elim (λ old. inl (ap before new ∙ old)) (λ fresh. inr (new, all fresh)) (cases_Bool (before kind)))
          (is.others x h);
    }
