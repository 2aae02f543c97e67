-- Entries of a literal list that stands in a cache, and those of them that a search for a text visits.
use Rattle.std.proofs.Common.{◌≡◌, ℕ, zero, suc, ◌+◌, ◌*◌, ◌<◌, ◌≤◌, true, false, true≢false, List, [], ◌∷◌, length, get_or, map}
use Rattle.std.proofs.Common.{drop, refl, sym, ap, ap₂, ◌∙◌, arith}
use Rattle.std.specs.Prelude.{IsPermutation, bytes_eq}
use Rattle.std.specs.List.{All}
use Rattle.std.proofs.lemmas.Bool.{false_from_ne_true}
use Rattle.std.proofs.lemmas.List.{get_or-map, length-map}
use Rattle.std.proofs.lemmas.List.Elements.{All-filter, filter_passes}
use Rattle.std.proofs.lemmas.List.Sorted.{All-permutation, sorted_far}
use Rattle.std.proofs.lemmas.Slice.Eq.{bytes_eq-Decides}
use Rattle.mime_base.specs.Cache.Bytes.{Stands, field}
use Rattle.mime_base.specs.Cache.Texts.{text_at}
use Rattle.mime_base.specs.Format.Records.{RecordsAt}
use Rattle.mime_base.specs.Format.Rules.{IsRule}
use Rattle.mime_base.specs.Format.Sorted.{text_lt}
use Rattle.mime_base.specs.Format.Stored.{is_in_literals, is_literal_class, literal_rules, stored_text, weight_and_flags}
use Rattle.mime_base.specs.Kept.{FitsRank}
use Rattle.mime_base.specs.Kept.Classes.{class_of}
use Rattle.mime_base.specs.Matching.Folding.{compared_byte}
use Rattle.mime_base.specs.declared.database.rule.GlobRule.{GlobRule}
use Rattle.mime_base.specs.declared.kept.class.Class.{Class}
use Rattle.mime_base.specs.declared.kept.class.Class.TheVariants.{Full, Literal, Suffix}
use Rattle.mime_base.proofs.FormatLemmas.TextOrder.{less_differs, neither_less, same_less, text_order}
use Rattle.std.specs.List.Sorted.{IsSortedBy}
use Rattle.mime_view.specs.Lists.{AreSorted, KeysAt, SplitsAt}
use Rattle.mime_view.specs.Literals.{AreRun, IsLiteral, ReadsRules, of_text}
use Rattle.mime_view.proofs.ListLemmas.Records.{first_read, numbers_read, second_read, text_read}

-- the stored texts of rules
abbrev pub texts_of : List GlobRule → List (List ℕ)
texts_of rules = map stored_text rules

-- a rule of the text has a pattern as long as it
pub length-pattern : (rule : GlobRule) (key : List ℕ) → bytes_eq (stored_text rule) key ≡ true → length rule.pattern ≡ length key
length-pattern rule key same =
    let is : stored_text rule ≡ key = (bytes_eq-Decides (stored_text rule) key).0 same in
    sym (length-map rule.pattern (compared_byte rule.cased)) ∙ ap length is

-- rules in records are read by what their numbers name
pub rules_read : (c : List ℕ) (at : ℕ) (rules : List GlobRule) → RecordsAt (Stands c) 12 (IsRule (Stands c)) at rules
    → ReadsRules c at rules
rules_read c at [] stand = stand
rules_read c at (rule ∷ rules) (numbers, here, (text, kind, are, stored, type), rest) =
    let here = rw are at here in
    let flags : field c at 2 ≡ weight_and_flags rule =
    ap (λ (ns : List ℕ). get_or ns 2 0) (numbers_read c at (text ∷ kind ∷ weight_and_flags rule ∷ []) here) in (
      record {
        text = ap (text_at c) (first_read c at text (kind ∷ weight_and_flags rule ∷ []) here) ∙ text_read c text (stored_text rule) stored;
        kind = ap (text_at c) (second_read c at text kind (weight_and_flags rule ∷ []) here) ∙ text_read c kind rule.kind type;
        flags = flags;
      },
      rules_read c (at + 12) rules rest,
    )

-- a record of a rule has three numbers
pub rule_size : (c : List ℕ) (rule : GlobRule) (numbers : List ℕ) → IsRule (Stands c) rule numbers → 4 * length numbers ≡ 12
rule_size c rule numbers (text, kind, are, stored, type) = ap (λ (ns : List ℕ). 4 * length ns) are

-- the texts of rules that are read
pub texts_read : (c : List ℕ) (at : ℕ) (rules : List GlobRule) → ReadsRules c at rules → KeysAt c at 12 (texts_of rules)
texts_read c at [] reads = reads
texts_read c at (rule ∷ rules) reads = (reads.0.text, texts_read c (at + 12) rules reads.1)

-- rules from a place on
pub rules_from : (c : List ℕ) (at place : ℕ) (rules : List GlobRule) → ReadsRules c at rules
    → ReadsRules c (at + 12 * place) (drop place rules)
rules_from c at zero rules reads = let e : at + 12 * 0 ≡ at = omega arith in rw e reads
rules_from c at (suc place) [] reads = reads
rules_from c at (suc place) (rule ∷ rules) reads =
    let e : at + 12 * suc place ≡ at + 12 + 12 * place = omega arith in
    rw e (rules_from c (at + 12) place rules reads.1)

-- rules that are sorted by their texts have sorted texts
pub texts_sorted : (rules : List GlobRule) → IsSortedBy (λ left right. text_lt (stored_text left) (stored_text right)) rules
    → AreSorted (texts_of rules)
texts_sorted rules sorted k d low within =
    let none : GlobRule = record { weight = 0; kind = []; pattern = []; cased = false } in
    let size = length-map rules stored_text in
    let text : (i : ℕ) → i < length rules → get_or (texts_of rules) i d ≡ stored_text (get_or rules i none) =
    λ i l. get_or-map stored_text rules i none d l in
    ap₂ text_lt (text (k + 1) (omega arith)) (text k (omega arith)) ∙ sorted k none low (omega arith)

-- a class is that of the literal list
literal_class : (class : Class) → is_literal_class class ≡ true → class ≡ Literal
literal_class Literal is = refl
literal_class Suffix is = absurd (true≢false (sym is))
literal_class Full is = absurd (true≢false (sym is))

-- the entries of the literal list are literal rules
pub literal_each : (rules entries : List GlobRule) → IsPermutation (literal_rules rules) entries → All FitsRank rules
    → All IsLiteral entries
literal_each rules entries permuted fits =
    let passes = filter_passes is_in_literals rules in
    let fit = All-filter is_in_literals FitsRank rules fits in
    All-permutation IsLiteral (literal_rules rules) entries permuted
    (λ k d l. (fit k d l, literal_class (class_of (get_or (literal_rules rules) k d).pattern) (passes k d l)))

module _ (key : List ℕ) where
  -- no rule is of the text
  none_of_text : (rules : List GlobRule) → ((i : ℕ) → i < length rules → bytes_eq (get_or (texts_of rules) i []) key ≡ false)
      → of_text key rules ≡ []
  none_of_text [] others = refl
  none_of_text (rule ∷ rules) others =
      rw (others 0 (omega arith)) (none_of_text rules (λ i l. others (suc i) (omega arith)))

  -- rules of lesser texts are skipped
  pub of_text-from : (place : ℕ) (rules : List GlobRule) → ((i : ℕ) → i < place → text_lt (get_or (texts_of rules) i []) key ≡ true)
      → place ≤ length rules → of_text key (drop place rules) ≡ of_text key rules
  of_text-from zero rules less within = refl
  of_text-from (suc place) [] less within = refl
  of_text-from (suc place) (rule ∷ rules) less within =
      rw (less_differs (stored_text rule) key (less 0 (omega arith)))
      (of_text-from place rules (λ i l. less (suc i) (omega arith)) (omega arith))

  -- after a text that is not less and is another, a text that is not less than it is another
  after_other : (first later : List ℕ) → text_lt first key ≡ false → text_lt later first ≡ false → bytes_eq first key ≡ false
      → bytes_eq later key ≡ false
  after_other first later low far other = false_from_ne_true _ (λ same.
      let back : text_lt key first ≡ false = sym (same_less later key first same) ∙ far in
      true≢false (sym (neither_less first key low back) ∙ other))

  -- rules of texts that are not less and rise are a run
  run_of : (rules : List GlobRule)
      → ((i j : ℕ) → i ≤ j → j < length rules → text_lt (get_or (texts_of rules) j []) (get_or (texts_of rules) i []) ≡ false)
      → ((i : ℕ) → i < length rules → text_lt (get_or (texts_of rules) i []) key ≡ false) → AreRun key rules
  run_of [] far low = tt
  run_of (rule ∷ rules) far low = (
    λ other. none_of_text rules (λ i l. after_other (stored_text rule) (get_or (texts_of rules) i [])
        (low 0 (omega arith)) (far 0 (suc i) (omega arith) (omega arith)) other),
    run_of rules (λ i j l w. far (suc i) (suc j) (omega arith) (omega arith)) (λ i l. low (suc i) (omega arith)),
  )

  -- from a place on where none is less, the rules are a run
  run_from : (place : ℕ) (rules : List GlobRule)
      → ((i j : ℕ) → i ≤ j → j < length rules → text_lt (get_or (texts_of rules) j []) (get_or (texts_of rules) i []) ≡ false)
      → ((i : ℕ) → place ≤ i → i < length rules → text_lt (get_or (texts_of rules) i []) key ≡ false) → AreRun key (drop place rules)
  run_from zero rules far low = run_of rules far (λ i l. low i (omega arith) l)
  run_from (suc place) [] far low = tt
  run_from (suc place) (rule ∷ rules) far low =
      run_from place rules (λ i j l w. far (suc i) (suc j) (omega arith) (omega arith)) (λ i l w. low (suc i) (omega arith) (omega arith))

  -- sorted rules from the place of a search on are a run
  pub run_sorted : (place : ℕ) (rules : List GlobRule) → AreSorted (texts_of rules) → SplitsAt (texts_of rules) key place
      → AreRun key (drop place rules)
  run_sorted place rules sorted splits =
      let size = length-map rules stored_text in
      run_from place rules
      (λ i j l w. sorted_far text_lt text_order (texts_of rules) sorted i j [] l (omega arith))
      (λ i l w. splits.not_less i l (omega arith))
