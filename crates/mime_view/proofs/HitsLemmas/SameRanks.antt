-- Rules of one rank have one class, one length and one case; and what is kept of rules is told by those of each rank.
use Rattle.std.proofs.Common.{◌≡◌, ℕ, ◌+◌, ◌*◌, ◌<◌, ◌≤◌, ◌==◌, Bool, true, false, cond, inl, inr, List, [], ◌∷◌, length}
use Rattle.std.proofs.Common.{refl, sym, ap, ◌∙◌, arith}
use Rattle.std.specs.List.{filter}
use Rattle.std.proofs.lemmas.Bool.{cases_lt, ne_eqb}
use Rattle.mime_base.specs.Kept.{FitsRank, earliness, greatest, of_greatest, rank, rank_of_rule}
use Rattle.mime_base.specs.Kept.Classes.{class_of}
use Rattle.mime_base.specs.declared.kept.class.Class.{Class}
use Rattle.mime_base.specs.declared.kept.class.Class.TheVariants.{Full, Literal, Suffix}
use Rattle.mime_base.specs.declared.database.rule.GlobRule.{GlobRule}
use Rattle.mime_base.proofs.KeptLemmas.Greatest.{of_greatest-none}

-- how early a class stands tells the class
earliness-only : (a b : Class) → earliness a ≡ earliness b → a ≡ b
earliness-only Literal Literal same = refl
earliness-only Literal Suffix same = absurd (omega arith)
earliness-only Literal Full same = absurd (omega arith)
earliness-only Suffix Literal same = absurd (omega arith)
earliness-only Suffix Suffix same = refl
earliness-only Suffix Full same = absurd (omega arith)
earliness-only Full Literal same = absurd (omega arith)
earliness-only Full Suffix same = absurd (omega arith)
earliness-only Full Full same = refl

-- twice a number and a flag tell both
flag-only : (a b : Bool) (m n : ℕ) → m * 2 + cond a 1 0 ≡ n * 2 + cond b 1 0 → (m ≡ n) × (a ≡ b)
flag-only true true m n same = (omega arith, refl)
flag-only true false m n same = absurd (omega arith)
flag-only false true m n same = absurd (omega arith)
flag-only false false m n same = (omega arith, refl)

-- a number of 65,536s and a length tell both
length-only : (a b m n : ℕ) → m < 65536 → n < 65536 → a * 65536 + m ≡ b * 65536 + n → (a ≡ b) × (m ≡ n)
length-only a b m n first second same = (omega arith, omega arith)

-- a number of 256s and a weight tell the number
class-only : (a b m n : ℕ) → m < 256 → n < 256 → a * 256 + m ≡ b * 256 + n → a ≡ b
class-only a b m n first second same = omega arith

-- what a rank tells of its rules
pub same_rank : (one other : GlobRule) → FitsRank one → FitsRank other → rank_of_rule one ≡ rank_of_rule other
    → (class_of one.pattern ≡ class_of other.pattern) × (length one.pattern ≡ length other.pattern) × (one.cased ≡ other.cased)
unfolding rank
same_rank one other (light, short) (light', short') same =
    let flag = flag-only one.cased other.cased _ _ same in
    let place = length-only _ _ (length one.pattern) (length other.pattern) short short' flag.0 in
    let first = class-only _ _ one.weight other.weight light light' place.0 in
    (earliness-only _ _ first, place.1, flag.1)

module _ {X : Type 0} (f : X → ℕ) where
  -- two lists with the same members of each number, in one order
  abbrev Alike : List X → List X → Type 0
  Alike xs ys = (n : ℕ) → filter (λ x. f x == n) xs ≡ filter (λ x. f x == n) ys

  -- no member has a number above the greatest
  none_above : (n : ℕ) (xs : List X) → greatest f xs < n → filter (λ x. f x == n) xs ≡ []
  none_above n [] above = refl
  none_above n (x ∷ xs) above = rw (ne_eqb (f x) n (λ e. omega arith), none_above n xs (omega arith))

  -- the greatest number of one is not above that of the other
  not_above : (xs ys : List X) → Alike xs ys → greatest f xs ≤ greatest f ys
  not_above xs ys each = elim (cases_lt (greatest f ys) (greatest f xs)) [
    | inl above ↦ (let none = of_greatest-none f xs (each (greatest f xs) ∙ none_above (greatest f xs) ys above) in
        let zero : greatest f xs ≡ 0 = ap (greatest f) none in absurd (omega arith))
    | inr within ↦ within
  ]

  -- what is kept of them is the same
  pub of_greatest-each : (xs ys : List X) → Alike xs ys → of_greatest f xs ≡ of_greatest f ys
  of_greatest-each xs ys each =
      let below = not_above xs ys each in
      let above = not_above ys xs (λ n. sym (each n)) in
      let top : greatest f xs ≡ greatest f ys = omega arith in
      each (greatest f xs) ∙ ap (λ n. filter (λ x. f x == n) ys) top
