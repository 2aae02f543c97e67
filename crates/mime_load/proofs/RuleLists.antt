-- Lists of rules that were read one after another.
use Rattle.std.proofs.Common.{◌≡◌, ℕ, ◌+◌, ◌-◌, ◌%◌, ◌<◌, Bool, true, false, List, [], ◌∷◌, ◌++◌, length, map, get_or, ap, refl, ◌∙◌, arith, cond}
use Rattle.std.specs.Prelude.{nat_le, filter}
use Rattle.std.proofs.lemmas.Bool.{leb-true, leb-false}
use Rattle.std.specs.List.{All}
use Rattle.std.specs.List.Sorted.{IsSortedBy}
use Rattle.std.proofs.lemmas.List.{get_or-map, length-map, map-append}
use Rattle.std.proofs.lemmas.List.Elements.{All-push, All-head, All-tail, All-weaker}
use Rattle.std.proofs.lemmas.List.Kept.{IsSortedBy-push}
use Rattle.std.proofs.lemmas.List.Sorted.{IsPermutation-refl}
use Rattle.mime_base.specs.Cache.Bytes.{Stands}
use Rattle.mime_base.specs.Format.Records.{CardsAt, TextAt}
use Rattle.mime_base.specs.Format.Sorted.{IsSortedByText, text_lt}
use Rattle.mime_base.specs.Format.Stored.{is_in_literals, literal_rules, stored_text}
use Rattle.mime_base.specs.Matching.Folding.{compared}
use Rattle.mime_base.specs.declared.database.lent.LentRule.{LentRule}
use Rattle.mime_base.specs.declared.database.rule.GlobRule.{GlobRule}
use Rattle.mime_base.specs.Database.Lent.{plain_rule}
use Rattle.mime_load.specs.Lent.{plain_rules}
use Rattle.mime_load.specs.Parts.{IsStoredLiteral, IsStoredRule}

-- the number of a weight and a flag
pub flags_are : (flags weight : ℕ) (cased : Bool) → flags < 512 → weight ≡ flags % 256 → cased ≡ nat_le 256 flags
    → flags ≡ cond cased (weight + 256) weight
flags_are flags weight cased small is flag = rw flag (by (nat_le 256 flags) refl)
  where
    by : (test : Bool) → nat_le 256 flags ≡ test → flags ≡ cond test (weight + 256) weight
    by true e = omega (arith, is, leb-true 256 flags e)
    by false e = omega (arith, is, leb-false 256 flags e)

-- the record of a rule that was read
pub rule_at : (c : List ℕ) (at text kind flags : ℕ) (rule : GlobRule) → CardsAt (Stands c) at (text ∷ kind ∷ flags ∷ []) → flags < 512
    → rule.weight ≡ flags % 256 → rule.cased ≡ nat_le 256 flags → TextAt (Stands c) text rule.pattern
    → compared rule.cased rule.pattern ≡ rule.pattern → All (λ b. b < 256) rule.pattern → TextAt (Stands c) kind rule.kind
    → IsStoredRule c at rule
rule_at c at text kind flags rule cards small weight cased pattern stored bytes type =
    let is = flags_are flags rule.weight rule.cased small weight cased in
    record {
      stand = record {
        numbers = text ∷ kind ∷ flags ∷ [];
        cards = cards;
        is = (text, kind, ap (λ (n : ℕ). text ∷ kind ∷ n ∷ []) is, rw stored pattern, type);
      };
      stored = stored;
      limits = (omega (arith, weight), omega (arith, pattern.is_text.short), bytes);
    }

-- one more element, in a view of the elements
pub mapped_pushed : {X Y : Type 0} (plain : Y → X) (before after : List Y) (y : Y) → after ≡ before ++ y ∷ []
    → map plain after ≡ map plain before ++ plain y ∷ []
mapped_pushed plain before after y is = rw is (map-append plain before (y ∷ []))

-- what holds of each and of one more
pub all_pushed : {X Y : Type 0} (P : X → Type 0) (plain : Y → X) (before after : List Y) (y : Y) → after ≡ before ++ y ∷ []
    → All P (map plain before) → P (plain y) → All P (map plain after)
all_pushed P plain before after y is all one = rw (mapped_pushed plain before after y is) (All-push P (map plain before) (plain y) all one)

-- rules of which each passes are all kept
pub all_kept : (p : GlobRule → Bool) (rules : List GlobRule) → All (λ rule. p rule ≡ true) rules → filter p rules ≡ rules
all_kept p [] all = refl
all_kept p (rule ∷ rules) all =
    rw (All-head (λ rule. p rule ≡ true) rule rules all, all_kept p rules (All-tail (λ rule. p rule ≡ true) rule rules all)) refl

-- a rule's stored text comes before that of another
abbrev pub stored_before : GlobRule → GlobRule → Bool
stored_before left right = text_lt (stored_text left) (stored_text right)

-- one more rule that is not before the last
pub sorted_pushed : (before after : List LentRule) (rule : LentRule) → after ≡ before ++ rule ∷ [] → All IsStoredLiteral (plain_rules before)
    → stored_text (plain_rule rule) ≡ (plain_rule rule).pattern → IsSortedBy stored_before (plain_rules before)
    → ((d : LentRule) → 0 < length before → text_lt rule.pattern.now (get_or before (length before - 1) d).pattern.now ≡ false)
    → IsSortedBy stored_before (plain_rules after)
sorted_pushed before after rule is fit stored sorted last =
    rw (mapped_pushed plain_rule before after rule is)
    (IsSortedBy-push stored_before (plain_rules before) (plain_rule rule) sorted (λ d some. not_less d some))
  where
    not_less : (d : GlobRule) → 0 < length (plain_rules before)
        → stored_before (plain_rule rule) (get_or (plain_rules before) (length (plain_rules before) - 1) d) ≡ false
    not_less d some =
        let size = length-map before plain_rule in
        let place : length (plain_rules before) - 1 ≡ length before - 1 = omega (arith, size) in
        let here : get_or (plain_rules before) (length (plain_rules before) - 1) d ≡ plain_rule (get_or before (length before - 1) rule) =
        ap (λ (k : ℕ). get_or (plain_rules before) k d) place
        ∙ get_or-map plain_rule before (length before - 1) rule d (omega (arith, size)) in
        let same : stored_text (get_or (plain_rules before) (length (plain_rules before) - 1) d)
        ≡ (get_or (plain_rules before) (length (plain_rules before) - 1) d).pattern =
        (fit (length (plain_rules before) - 1) d (omega arith)).0 in
        rw (stored, same, here) (last rule (omega (arith, size)))

-- literal rules in that order are those of a literal list
pub literals_by_text : (rules : List GlobRule) → All IsStoredLiteral rules → IsSortedBy stored_before rules
    → IsSortedByText stored_text (literal_rules rules) rules
literals_by_text rules fit sorted =
    let all = all_kept is_in_literals rules (All-weaker IsStoredLiteral (λ rule. is_in_literals rule ≡ true) (λ rule one. one.1) rules fit) in
    rw all (record { permuted = IsPermutation-refl rules; in_order = sorted; ties = λ text. refl })
