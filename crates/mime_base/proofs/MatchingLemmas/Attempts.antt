-- What an attempt says of the whole: from how elements went and halted, whether they match, and how many tests they owe.
use Rattle.std.proofs.Common.{◌≡◌, ℕ, zero, suc, ◌+◌, ◌<◌, ◌≤◌, Bool, true, false, ◌&&◌, ◌||◌, List, [], ◌∷◌}
use Rattle.std.proofs.Common.{length, drop, refl, sym, ap, ◌∙◌, arith, length-drop}
use Rattle.std.proofs.lemmas.Bool.{false_from_ne_true, not-true, true≢false}
use Rattle.std.proofs.lemmas.List.{drop-drop}
use Rattle.mime_base.specs.Matching.Attempt.{Goes, HaltsAt, decided, last_tests, owed}
use Rattle.mime_base.specs.Matching.Elements.{Element, any_bytes, one, OneByte, admits}
use Rattle.mime_base.specs.Matching.Matches.{matches, some_ending}
use Rattle.mime_base.specs.declared.matching.attempt.Halt.{Halt}
use Rattle.mime_base.specs.declared.matching.attempt.Halt.TheVariants.{BothEnd, PatternEnds, NameEnds, Star, Refused}
use Rattle.mime_base.proofs.MatchingLemmas.Matches.{matches-nil, matches-one, matches-star, one-next, star_cut, star_from}

-- two tests are equal where each passes with the other
pub same_truth : (a b : Bool) → (a ≡ true → b ≡ true) → (b ≡ true → a ≡ true) → a ≡ b
same_truth true b h k = sym (h refl)
same_truth false true h k = k refl
same_truth false false h k = refl

-- where they halt at once

-- why elements go no further decides whether they match
halts-decided : (halt : Halt) (es : List Element) (name : List ℕ) (after : List Element) → HaltsAt halt es name after →
    matches es name ≡ decided halt after name
halts-decided BothEnd es name after (none, over) = rw (none, over) (matches-nil [])
halts-decided PatternEnds es [] after (none, more) = absurd (omega arith)
halts-decided PatternEnds es (b ∷ name) after (none, more) = rw none (matches-nil (b ∷ name))
halts-decided NameEnds [] name after (taker, over) = absurd (true≢false (sym taker))
halts-decided NameEnds (any_bytes ∷ es) name after (taker, over) = absurd (true≢false (sym taker))
halts-decided NameEnds (one w ∷ es) name after (taker, over) = rw over (matches-one w es [])
halts-decided Star es name after is = rw is refl
halts-decided Refused [] name after refused = absurd (true≢false (sym refused))
halts-decided Refused (any_bytes ∷ es) name after refused = absurd (true≢false (sym refused))
halts-decided Refused (one w ∷ es) [] after refused = absurd (true≢false (sym refused))
halts-decided Refused (one w ∷ es) (b ∷ name) after refused =
    matches-one w es (b ∷ name) ∙ ap (λ t. t && matches es name) (not-true (admits w b) refused)

-- the first elements take their bytes whatever the rest does: what is left decides
pub goes-decided : (halt : Halt) (k : ℕ) (es : List Element) (name : List ℕ) (after : List Element) → Goes halt k es name after →
    matches es name ≡ decided halt after (drop k name)
goes-decided halt zero es name after goes = halts-decided halt es name after goes
goes-decided halt (suc k) [] name after goes = absurd goes
goes-decided halt (suc k) (any_bytes ∷ es) name after goes = absurd goes
goes-decided halt (suc k) (one w ∷ es) [] after goes = absurd goes
goes-decided halt (suc k) (one w ∷ es) (b ∷ name) after goes =
    matches-one w es (b ∷ name) ∙ ap (λ t. t && matches es name) goes.0 ∙ goes-decided halt k es name after goes.1

-- how far they can have gone
name_ends-length : (k : ℕ) (es : List Element) (name : List ℕ) (after : List Element) → Goes NameEnds k es name after → length name ≡ k
name_ends-length zero es name after goes = rw goes.1 refl
name_ends-length (suc k) [] name after goes = absurd goes
name_ends-length (suc k) (any_bytes ∷ es) name after goes = absurd goes
name_ends-length (suc k) (one w ∷ es) [] after goes = absurd goes
name_ends-length (suc k) (one w ∷ es) (b ∷ name) after goes = let h = name_ends-length k es name after goes.1 in omega arith

-- an element that refused had a byte
pub refused-within : (k : ℕ) (es : List Element) (name : List ℕ) (after : List Element) → Goes Refused k es name after → k < length name
refused-within zero [] name after goes = absurd (true≢false (sym goes))
refused-within zero (any_bytes ∷ es) name after goes = absurd (true≢false (sym goes))
refused-within zero (one w ∷ es) [] after goes = absurd (true≢false (sym goes))
refused-within zero (one w ∷ es) (b ∷ name) after goes = omega arith
refused-within (suc k) [] name after goes = absurd goes
refused-within (suc k) (any_bytes ∷ es) name after goes = absurd goes
refused-within (suc k) (one w ∷ es) [] after goes = absurd goes
refused-within (suc k) (one w ∷ es) (b ∷ name) after goes = let h = refused-within k es name after goes.1 in omega arith

-- that many tests are owed, and no more were due
pub goes-owed : (halt : Halt) (k : ℕ) (es : List Element) (name : List ℕ) (after : List Element) → Goes halt k es name after →
    owed halt es after ≤ k + last_tests halt
goes-owed BothEnd zero es name after goes = rw goes.0 (omega arith)
goes-owed PatternEnds zero es name after goes = rw goes.0 (omega arith)
goes-owed NameEnds zero es name after goes = omega arith
goes-owed Star zero es name after goes = rw goes (omega arith)
goes-owed Refused zero es name after goes = omega arith
goes-owed halt (suc k) [] name after goes = absurd goes
goes-owed halt (suc k) (any_bytes ∷ es) name after goes = absurd goes
goes-owed halt (suc k) (one w ∷ es) [] after goes = absurd goes
goes-owed BothEnd (suc k) (one w ∷ es) (b ∷ name) after goes = let h = goes-owed BothEnd k es name after goes.1 in omega arith
goes-owed PatternEnds (suc k) (one w ∷ es) (b ∷ name) after goes = omega arith
goes-owed NameEnds (suc k) (one w ∷ es) (b ∷ name) after goes = omega arith
goes-owed Star (suc k) (one w ∷ es) (b ∷ name) after goes = let h = goes-owed Star k es name after goes.1 in omega arith
goes-owed Refused (suc k) (one w ∷ es) (b ∷ name) after goes = omega arith

-- after a star: one element that takes a byte
one-over : (w : OneByte) (es : List Element) (name : List ℕ) → length name ≤ 0 → matches (one w ∷ es) name ≡ false
one-over w es [] h = matches-one w es []
one-over w es (b ∷ name) h = absurd (omega arith)

-- where the name ended, every text that is no longer ends too
name_ends-false : (k : ℕ) (es : List Element) (name : List ℕ) (after : List Element) → Goes NameEnds k es name after →
    (text : List ℕ) → length text ≤ k → matches es text ≡ true → ⊥
name_ends-false zero [] name after goes text short m = true≢false (sym goes.0)
name_ends-false zero (any_bytes ∷ es) name after goes text short m = true≢false (sym goes.0)
name_ends-false zero (one w ∷ es) name after goes text short m = true≢false (sym m ∙ one-over w es text short)
name_ends-false (suc k) [] name after goes text short m = goes
name_ends-false (suc k) (any_bytes ∷ es) name after goes text short m = goes
name_ends-false (suc k) (one w ∷ es) [] after goes text short m = goes
name_ends-false (suc k) (one w ∷ es) (b ∷ name) after goes [] short m = true≢false (sym m ∙ matches-one w es [])
name_ends-false (suc k) (one w ∷ es) (b ∷ name) after goes (c ∷ text) short m =
    name_ends-false k es name after goes.1 text (omega arith) (one-next w es c text m)

-- where a star was next, what is left of any text that matches that many bytes on matches from that star on
star-carried : (k : ℕ) (es : List Element) (name : List ℕ) (after : List Element) → Goes Star k es name after →
    (text : List ℕ) → matches es text ≡ true → matches (any_bytes ∷ after) (drop k text) ≡ true
star-carried zero es name after goes text m = rw goes at m
star-carried (suc k) [] name after goes text m = absurd goes
star-carried (suc k) (any_bytes ∷ es) name after goes text m = absurd goes
star-carried (suc k) (one w ∷ es) [] after goes text m = absurd goes
star-carried (suc k) (one w ∷ es) (b ∷ name) after goes [] m = absurd (true≢false (sym m ∙ matches-one w es []))
star-carried (suc k) (one w ∷ es) (b ∷ name) after goes (c ∷ text) m = star-carried k es name after goes.1 text (one-next w es c text m)

-- elements that went to the end of either text or to a star are as good as they are anywhere after
pub goes-after_star : (halt : Halt) (k : ℕ) (es : List Element) (name : List ℕ) (after : List Element) → Goes halt k es name after →
    (halt ≡ PatternEnds → ⊥) → (halt ≡ Refused → ⊥) → matches (any_bytes ∷ es) name ≡ decided halt after (drop k name)
goes-after_star BothEnd k es name after goes p r = star_from es 0 name (goes-decided BothEnd k es name after goes)
goes-after_star PatternEnds k es name after goes p r = absurd (p refl)
goes-after_star NameEnds k es name after goes p r =
    false_from_ne_true _
    (λ m. (let cut = star_cut es name m in
    let size = name_ends-length k es name after goes in
    name_ends-false k es name after goes (drop cut.0 name) (omega (arith, size, length-drop cut.0 name)) cut.1))
goes-after_star Star k es name after goes p r =
    same_truth _ _
    (λ m. (let cut = star_cut es name m in
    let next = star_cut after (drop k (drop cut.0 name)) (star-carried k es name after goes (drop cut.0 name) cut.1) in
    let place : k + (cut.0 + next.0) ≡ cut.0 + (k + next.0) = omega arith in
    star_from after (cut.0 + next.0) (drop k name) (rw (drop-drop, place) (rw (drop-drop, drop-drop) at next.1))))
    (λ m. star_from es 0 name (goes-decided Star k es name after goes ∙ m))
goes-after_star Refused k es name after goes p r = absurd (r refl)

-- where an element refused, the star takes one byte more
pub refused-after_star : (k : ℕ) (es : List Element) (name : List ℕ) (after : List Element) → Goes Refused k es name after →
    (k < length name) × (matches (any_bytes ∷ es) name ≡ matches (any_bytes ∷ es) (drop 1 name))
refused-after_star k es name after goes = (refused-within k es name after goes, one_more k es name after goes)
  where
    one_more : (k : ℕ) (es : List Element) (name : List ℕ) (after : List Element) → Goes Refused k es name after →
        matches (any_bytes ∷ es) name ≡ matches (any_bytes ∷ es) (drop 1 name)
    one_more k es [] after goes = refl
    one_more k es (b ∷ name) after goes =
        matches-star es (b ∷ name)
        ∙ ap (λ t. t || some_ending (matches es) name) (goes-decided Refused k es (b ∷ name) after goes)
        ∙ sym (matches-star es name)
