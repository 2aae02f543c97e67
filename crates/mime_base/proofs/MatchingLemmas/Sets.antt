-- Sets over a text that is folded: folding leaves the marks of a pattern alone.
use Rattle.std.proofs.Common.{◌≡◌, ℕ, ◌<◌, Bool, true, false, cond, not, ◌==◌, List, [], ◌∷◌, map, drop, refl, ap, ◌∙◌}
use Rattle.std.proofs.Common.{◌⊎◌, inl, inr, arith, lit<, None, is_some, IfSome, Option, Bor}
use mathlib.Core.Bool.{beq}
use Rattle.std.specs.Bool.{then_some}
use Rattle.std.specs.List.{prefix_len, position}
use Rattle.std.proofs.lemmas.Bool.Decides.{nat_tests}
use Rattle.std.proofs.lemmas.List.{drop-map, take-map, length-map}
use Rattle.mime_base.specs.Matching.Elements.{IsSet, none_of, one_of, admits, body, end_of_set, in_ranges, is_negated}
use Rattle.mime_base.specs.Matching.Elements.{is_literal_text, is_special, one_byte, ranges, width_after}
use Rattle.mime_base.specs.Matching.Folding.{compared, compared_byte}

-- a byte that is no letter is one after folding exactly where it was one
pub compared_byte-mark : (cased : Bool) (b mark : ℕ) → (mark < 65) ⊎ ((90 < mark) × (mark < 97)) →
    (compared_byte cased b == mark) ≡ (b == mark)
compared_byte-mark true b mark h = refl
compared_byte-mark false b mark h = grind (arith, nat_tests)

-- a test that a map doesn't change stops at the same place
prefix_len-map : (p : ℕ → Bool) (f : ℕ → ℕ) (same : (b : ℕ) → p (f b) ≡ p b) (xs : List ℕ) →
    prefix_len p (map f xs) ≡ prefix_len p xs
prefix_len-map p f same [] = refl
prefix_len-map p f same (x ∷ xs) = rw (same x, prefix_len-map p f same xs)

-- folding moves no end of a set
position-compared : (cased : Bool) (xs : List ℕ) → position (λ b. b == 93) (compared cased xs) ≡ position (λ b. b == 93) xs
position-compared cased xs =
    let mark = λ (b : ℕ). ap not (compared_byte-mark cased b 93 (inr (lit< tt, lit< tt))) in
    rw (prefix_len-map (λ b. not (b == 93)) (compared_byte cased) mark xs, length-map xs (compared_byte cased))

-- nor does it change a negation
is_negated-compared : (cased : Bool) (after : List ℕ) → is_negated (compared cased after) ≡ is_negated after
is_negated-compared cased [] = refl
is_negated-compared cased (b ∷ rest) =
    rw (compared_byte-mark cased b 33 (inl (lit< tt)), compared_byte-mark cased b 94 (inr (lit< tt, lit< tt)))

-- the bytes of a set are folded with the text
body-compared : (cased : Bool) (after : List ℕ) → body (compared cased after) ≡ compared cased (body after)
body-compared cased after = rw (is_negated-compared cased after) (pulled (is_negated after))
  where
    pulled : (negated : Bool) →
        cond negated (drop 1 (compared cased after)) (compared cased after) ≡ compared cased (cond negated (drop 1 after) after)
    pulled true = drop-map (compared_byte cased) 1 after
    pulled false = refl

-- the end of a set is at the same place
end_of_set-compared : (cased : Bool) (after : List ℕ) → end_of_set (compared cased after) ≡ end_of_set after
end_of_set-compared cased after =
    ap (λ text. position (λ b. b == 93) (drop 1 text)) (body-compared cased after)
    ∙ ap (position (λ b. b == 93)) (drop-map (compared_byte cased) 1 (body after))
    ∙ position-compared cased (drop 1 (body after))

-- a test and its negation, by the flag
negated_or_not : (negated inside : Bool) → cond negated (not inside) inside ≡ not (beq inside negated)
negated_or_not true true = refl
negated_or_not true false = refl
negated_or_not false true = refl
negated_or_not false false = refl

-- a set admits what its ranges have, unless it is negated
admits-set_of : (negated : Bool) (ranges : List (ℕ × ℕ)) (b : ℕ) →
    admits (cond negated (none_of ranges) (one_of ranges)) b
    ≡ not (beq (in_ranges ranges b) negated)
admits-set_of true ranges b = negated_or_not true (in_ranges ranges b)
admits-set_of false ranges b = negated_or_not false (in_ranges ranges b)

-- a set admits what is among its members, or is not where it is negated
pub admits-set : (cased : Bool) (after : List ℕ) (negated : Bool) (members rest : List ℕ) (b : ℕ) →
    IsSet after negated members rest →
    admits (one_byte 91 (compared cased after)) b ≡ not (beq (in_ranges (ranges (compared cased members)) b) negated)
admits-set cased after negated members rest b (k, end, is_negated, is_members, _) =
    let negation = is_negated-compared cased after in
    rw (end_of_set-compared cased after, end, body-compared cased after, take-map, ← is_members, negation, ← is_negated)
    (admits-set_of negated (ranges (compared cased members)) b)

-- what stands after a set
pub width_after-set : (first : ℕ) (cased : Bool) (after : List ℕ) (negated : Bool) (members rest : List ℕ) → first ≡ 91 →
    IsSet after negated members rest → rest ≡ drop (width_after first (compared cased after)) after
width_after-set first cased after negated members rest is (k, end, _, _, is_rest) =
    rw (is, end_of_set-compared cased after, end, is_negated-compared cased after) is_rest

-- the test for a `[` from either side
swapped : (b : ℕ) → (91 == b) ≡ (b == 91)
swapped b = grind (arith, nat_tests)

-- a `[` that begins no set is itself
pub admits-no_set : (cased : Bool) (after : List ℕ) (b : ℕ) → end_of_set after ≡ None →
    admits (one_byte 91 (compared cased after)) b ≡ (b == 91)
admits-no_set cased after b end = rw (end_of_set-compared cased after, end) (swapped b)

-- and after a `[` that begins none
pub width_after-no_set : (first : ℕ) (cased : Bool) (after : List ℕ) → first ≡ 91 → end_of_set after ≡ None →
    after ≡ drop (width_after first (compared cased after)) after
width_after-no_set first cased after is end = rw (is, end_of_set-compared cased after, end)

-- folding makes no special byte and takes none away
pub is_special-compared : (cased : Bool) (b : ℕ) → is_special (compared_byte cased b) ≡ is_special b
is_special-compared cased b =
    rw (
      compared_byte-mark cased b 42 (inl (lit< tt)),
      compared_byte-mark cased b 63 (inl (lit< tt)),
      compared_byte-mark cased b 91 (inr (lit< tt, lit< tt)),
      compared_byte-mark cased b 92 (inr (lit< tt, lit< tt)),
    )

-- nor does it change how wide an element is
pub width_after-compared : (cased : Bool) (first : ℕ) (after : List ℕ) → width_after (compared_byte cased first) after ≡ width_after first after
width_after-compared cased first after =
    rw (compared_byte-mark cased first 92 (inr (lit< tt, lit< tt)), compared_byte-mark cased first 91 (inr (lit< tt, lit< tt)))

-- and leaves a text literal that is
pub is_literal_text-compared : (cased : Bool) (text : List ℕ) → is_literal_text (compared cased text) ≡ is_literal_text text
is_literal_text-compared cased [] = refl
is_literal_text-compared cased (b ∷ rest) = rw (is_special-compared cased b, is_literal_text-compared cased rest)

-- what stands after an element, given where it admits

-- an answer is given where the test passes
pub is_some-then_some : {X : Type 0} (test : Bool) (x : X) → is_some (then_some test x) ≡ test
is_some-then_some true x = refl
is_some-then_some false x = refl

-- and holds where it does
pub IfSome-then_some : (answer : Option (Bor (List ℕ))) (test : Bool) (rest : Bor (List ℕ)) (text : List ℕ) →
    answer ≡ then_some test rest → rest.now ≡ text → IfSome answer (λ rest. rest.now ≡ text)
IfSome-then_some answer true rest text is h = rw is h
IfSome-then_some answer false rest text is h = rw is tt

-- what stands after a set, and after a `[` that begins none
pub after-set : (first : ℕ) (after : List ℕ) (negated : Bool) (members rest : List ℕ) → first ≡ 91 → IsSet after negated members rest →
    (cased : Bool) → rest ≡ drop (width_after first (compared cased after)) after
after-set first after negated members rest is set cased = width_after-set first cased after negated members rest is set

-- and after a `[` that begins none, however it is compared
pub after-no_set : (first : ℕ) (after : List ℕ) → first ≡ 91 → end_of_set after ≡ None →
    (cased : Bool) → after ≡ drop (width_after first (compared cased after)) after
after-no_set first after is end cased = width_after-no_set first cased after is end
