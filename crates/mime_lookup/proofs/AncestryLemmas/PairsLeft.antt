-- How many pairs are left unmarked after an answer of the parent list.
use Rattle.std.proofs.Common.{◌≡◌, ℕ, ◌+◌, ◌≤◌, Bool, true, false, IsTrue, List, [], ◌∷◌, length, bytes_eq}
use Rattle.std.proofs.Common.{refl, ap, ⊎_elim, ◌∙◌, arith}
use Rattle.std.proofs.lemmas.Bool.{cases_Bool}
use Rattle.std.proofs.lemmas.Slice.Eq.{bytes_eq-Decides}
use Rattle.mime_base.specs.Database.Subclass.{parents}
use Rattle.mime_view.specs.Parents.{unmarked_parents}
use Rattle.mime_lookup.specs.Ancestry.{unmarked}
use Rattle.mime_lookup.proofs.AncestryLemmas.Marks.{unmarked-marked, unmarked-new}
use Rattle.mime_lookup.proofs.AncestryLemmas.PairSteps.{parents-here, parents-past}
use Rattle.mime_lookup.proofs.AncestryLemmas.ParentSteps.{Asked}

-- at one pair: more marks, and no more pairs left
head_fewer : (pair : List ℕ × List ℕ) (pairs : List (List ℕ × List ℕ)) (before after : List ℕ → Bool) (k : ℕ)
    → (IsTrue (before pair.0) → IsTrue (after pair.0)) → unmarked pairs after + k ≤ unmarked pairs before
    → unmarked (pair ∷ pairs) after + k ≤ unmarked (pair ∷ pairs) before
head_fewer pair pairs before after k kept less =
    ⊎_elim
    (λ old. omega (arith, unmarked-marked pair pairs before old, unmarked-marked pair pairs after (kept old)))
    (λ fresh.
    ⊎_elim
    (λ now. omega (arith, unmarked-new pair pairs before fresh, unmarked-marked pair pairs after now))
    (λ still. omega (arith, unmarked-new pair pairs before fresh, unmarked-new pair pairs after still))
    (cases_Bool (after pair.0)))
    (cases_Bool (before pair.0))

-- more marks, and no more pairs left
fewer : (pairs : List (List ℕ × List ℕ)) (before after : List ℕ → Bool) → ((x : List ℕ) → IsTrue (before x) → IsTrue (after x))
    → unmarked pairs after + 0 ≤ unmarked pairs before
unfolding unmarked
fewer [] before after kept = omega arith
fewer (pair ∷ pairs) before after kept = head_fewer pair pairs before after 0 (kept pair.0) (fewer pairs before after kept)

-- the pairs of a type that is marked now are not left
paid : (pairs : List (List ℕ × List ℕ)) (kind : List ℕ) (before after : List ℕ → Bool)
    → ((x : List ℕ) → IsTrue (before x) → IsTrue (after x)) → before kind ≡ false → IsTrue (after kind)
    → unmarked pairs after + length (parents pairs kind) ≤ unmarked pairs before
unfolding unmarked parents
paid [] kind before after kept fresh now = omega arith
paid (pair ∷ pairs) kind before after kept fresh now =
    let rest = paid pairs kind before after kept fresh now in
    ⊎_elim
    (λ hit.
    let same : pair.0 ≡ kind = (bytes_eq-Decides pair.0 kind).0 hit in
    let new = unmarked-new pair pairs before (ap before same ∙ fresh) in
    let marked = unmarked-marked pair pairs after (ap after same ∙ now) in
    omega (arith, rest, new, marked, ap length (parents-here pair.0 pair.1 kind pairs hit)))
    (λ miss.
    let same = ap length (parents-past pair.0 pair.1 kind pairs miss) in
    let less = head_fewer pair pairs before after (length (parents pairs kind)) (kept pair.0) rest in
    omega (arith, same, less))
    (cases_Bool (bytes_eq pair.0 kind))

-- what comes is not left
pub asked_falls : (pairs : List (List ℕ × List ℕ)) (kind : List ℕ) (before after : List ℕ → Bool) (came : List (List ℕ))
    → Asked pairs kind before after came → unmarked pairs after + length came ≤ unmarked pairs before
asked_falls pairs kind before after came is =
    let less = fewer pairs before after is.kept in
    ⊎_elim
    (λ none. omega (arith, less, ap length none))
    (λ now.
    ⊎_elim
    (λ old. let none : came ≡ [] = is.due ∙ ap (λ b. unmarked_parents pairs b kind) old in omega (arith, less, ap length none))
    (λ fresh.
    let all : came ≡ parents pairs kind = is.due ∙ ap (λ b. unmarked_parents pairs b kind) fresh in
    omega (arith, paid pairs kind before after is.kept fresh now, ap length all))
    (cases_Bool (before kind)))
    is.itself

-- no more is due than is left
pub due_left : (pairs : List (List ℕ × List ℕ)) (marked : List ℕ → Bool) (kind : List ℕ)
    → length (unmarked_parents pairs (marked kind) kind) ≤ unmarked pairs marked
due_left pairs marked kind =
    ⊎_elim
    (λ old. omega (arith, ap length (ap (λ b. unmarked_parents pairs b kind) old)))
    (λ fresh.
    let all = ap length (ap (λ b. unmarked_parents pairs b kind) fresh) in
    omega (arith, all, paid pairs kind marked (λ _. true) (λ x _. refl) fresh refl))
    (cases_Bool (marked kind))

-- no more pairs are left than there are
pub unmarked_most : (pairs : List (List ℕ × List ℕ)) (marked : List ℕ → Bool) → unmarked pairs marked ≤ length pairs
unfolding unmarked
unmarked_most [] marked = omega arith
unmarked_most (pair ∷ pairs) marked =
    let less = unmarked_most pairs marked in
    ⊎_elim
    (λ old. omega (arith, less, unmarked-marked pair pairs marked old))
    (λ fresh. omega (arith, less, unmarked-new pair pairs marked fresh))
    (cases_Bool (marked pair.0))
