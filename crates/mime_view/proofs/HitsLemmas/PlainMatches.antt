-- What plain texts match: a pattern without a special byte its text alone, a `*` before such a text the names that end so.
use Rattle.std.proofs.Common.{◌≡◌, ℕ, Bool, true, not, ◌||◌, ◌&&◌, ◌==◌, eqb, false, List, [], ◌∷◌, ◌++◌, length, map, drop, take}
use Rattle.std.proofs.Common.{reverse, bytes_eq, refl, sym, ap, ◌∙◌}
use Rattle.std.specs.List.{starts_with}
use Rattle.std.proofs.lemmas.Bool.{and_parts, not-true, or_parts}
use Rattle.std.proofs.lemmas.Bool.Decides.{Decides-eqb}
use Rattle.std.proofs.lemmas.List.{drop_at, reverse-append, reverse-reverse, take-append-drop}
use Rattle.std.proofs.lemmas.Slice.Eq.{bytes_eq-Decides, starts_is}
use Rattle.mime_base.specs.Matching.Elements.{Element, any_bytes, one, this_byte, elements, is_literal_text, is_special}
use Rattle.mime_base.specs.Matching.Folding.{compared}
use Rattle.mime_base.specs.Matching.Matches.{matches, rule_matches}
use Rattle.mime_base.proofs.MatchingLemmas.Attempts.{same_truth}
use Rattle.mime_base.proofs.MatchingLemmas.Matches.{matches-nil, matches-one, rule_matches-compared, star_cut, star_from}
use Rattle.mime_base.proofs.MatchingLemmas.Places.{elements-cons, elements-nil, elements-star}
use Rattle.mime_base.proofs.MatchingLemmas.Sets.{is_literal_text-compared}

-- each byte is an element that takes itself
abbrev literals : List ℕ → List Element
literals text = map (λ b. one (this_byte b)) text

-- they are the elements of a plain text
elements-literals : (text : List ℕ) → is_literal_text text ≡ true → elements text ≡ literals text
elements-literals [] plain = elements-nil
elements-literals (b ∷ rest) plain =
    let both : (not (is_special b) ≡ true) × (is_literal_text rest ≡ true) = and_parts _ _ plain in
    let three : ((b == 42 || b == 63 || b == 91) ≡ false) × ((b == 92) ≡ false) = or_parts _ _ (not-true (is_special b) both.0) in
    let two : ((b == 42 || b == 63) ≡ false) × ((b == 91) ≡ false) = or_parts _ _ three.0 in
    let one_each : ((b == 42) ≡ false) × ((b == 63) ≡ false) = or_parts _ _ two.0 in
    elements-cons b rest
    ∙ (rw (one_each.0, one_each.1, two.1, three.1) (ap (λ es. one (this_byte b) ∷ es) (elements-literals rest both.1)))

-- they match the text alone
matches-literals : (text name : List ℕ) → matches (literals text) name ≡ bytes_eq text name
matches-literals [] [] = matches-nil []
matches-literals [] (b ∷ name) = matches-nil (b ∷ name)
matches-literals (x ∷ text) [] = matches-one (this_byte x) (literals text) []
matches-literals (x ∷ text) (b ∷ name) =
    matches-one (this_byte x) (literals text) (b ∷ name) ∙ ap (λ t. (x == b) && t) (matches-literals text name)

-- and those of what is compared of one
elements-compared : (text : List ℕ) (cased : Bool) → is_literal_text text ≡ true →
    elements (compared cased text) ≡ literals (compared cased text)
elements-compared text cased plain = elements-literals (compared cased text) (is_literal_text-compared cased text ∙ plain)

-- a literal pattern matches its own text alone
pub literal-matches : (pattern : List ℕ) (cased : Bool) (name : List ℕ) → is_literal_text pattern ≡ true →
    rule_matches pattern cased name ≡ bytes_eq (compared cased pattern) (compared cased name)
literal-matches pattern cased name plain =
    rule_matches-compared pattern cased name
    ∙ ap (λ es. matches es (compared cased name)) (elements-compared pattern cased plain)
    ∙ matches-literals (compared cased pattern) (compared cased name)

-- what it is for a path to start with a front
pub starts_with-is : (path front : List ℕ) → (starts_with eqb path front ≡ true → path ≡ front ++ drop (length front) path)
    × ((rest : List ℕ) → path ≡ front ++ rest → starts_with eqb path front ≡ true)
starts_with-is path front = starts_is Decides-eqb path front (starts_with eqb path front) refl

-- after a star they match the names that end so
ends-so : (ending name : List ℕ) → matches (any_bytes ∷ literals ending) name ≡ starts_with eqb (reverse name) (reverse ending)
ends-so ending name =
    same_truth _ _
    (λ matched. (let cut = star_cut (literals ending) name matched in
    let front = take cut.0 name in
    let rest = drop cut.0 name in
    let is : ending ≡ rest = (bytes_eq-Decides ending rest).0 (sym (matches-literals ending rest) ∙ cut.1) in
    (starts_with-is (reverse name) (reverse ending)).1 (reverse front)
    (ap reverse (sym (take-append-drop cut.0 name) ∙ ap (λ end. front ++ end) (sym is)) ∙ reverse-append front ending)))
    (λ starts. (let rest = drop (length (reverse ending)) (reverse name) in
    let front = reverse rest in
    let is : name ≡ front ++ ending = sym (reverse-reverse name)
    ∙ ap reverse ((starts_with-is (reverse name) (reverse ending)).0 starts)
    ∙ reverse-append (reverse ending) rest ∙ ap (λ end. front ++ end) (reverse-reverse ending) in
    let left : drop (length front) name ≡ ending = ap (drop (length front)) is ∙ drop_at front ending (length front) refl in
    star_from (literals ending) (length front) name
    (matches-literals ending (drop (length front) name)
    ∙ (bytes_eq-Decides ending (drop (length front) name)).1 (sym left))))

-- a `*` and a plain ending match the names with that ending
pub ending-matches : (ending : List ℕ) (cased : Bool) (name : List ℕ) → is_literal_text ending ≡ true →
    rule_matches (42 ∷ ending) cased name ≡ starts_with eqb (reverse (compared cased name)) (reverse (compared cased ending))
ending-matches ending cased name plain =
    let parts = elements-star cased ending ∙ ap (λ es. any_bytes ∷ es) (elements-compared ending cased plain) in
    rule_matches-compared (42 ∷ ending) cased name
    ∙ ap (λ es. matches es (compared cased name)) parts
    ∙ ends-so (compared cased ending) (compared cased name)
