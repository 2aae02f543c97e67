-- How hidden rules are found: by the weights of case-sensitive patterns, and the least of them among a text's spellings.
use Rattle.std.specs.Prelude.{◌≡◌, ℕ, ◌+◌, min, Bool, false, not, ◌&&◌, nat_lt, bytes_eq, if◌then◌else◌, Option, None}
use Rattle.std.specs.Prelude.{Some, List, [], ◌∷◌, All}
use Rattle.std.specs.Cmp.Lexicographic.{slice_cmp}
use Rattle.std.specs.List.{list_all}
use Rattle.std.specs.Ordering.{nat_cmp}
use Rattle.std.specs.Borrow.{Bor}
use Rattle.std.specs.BTreeMap.{BTreeMap, get_by}
use Rattle.std.specs.Global.{Vec}
use Rattle.mime_base.specs.Kept.{greatest}
use Rattle.mime_base.specs.Kept.Classes.{class_of}
use Rattle.mime_base.specs.Kept.Hidden.{is_by_text, spellings}
use Rattle.mime_base.specs.Matching.Folding.{compared}
use Rattle.mime_base.specs.declared.database.rule.GlobRule.{GlobRule}

-- one more than the weight of a case-sensitive rule with this pattern, 0 for any other rule
abbrev pub weight_of_twin : List ℕ → GlobRule → ℕ
weight_of_twin text rule = if rule.cased && bytes_eq rule.pattern text then rule.weight + 1 else 0

-- the greatest of these among rules
abbrev pub cased_weight : List GlobRule → List ℕ → ℕ
cased_weight rules text = greatest (weight_of_twin text) rules

-- a number, or 0 where there is none
abbrev pub or_zero : Option ℕ → ℕ
or_zero None = 0
or_zero (Some n) = n

-- the number that a map has for a text, 0 where it has none
abbrev pub weight_in : BTreeMap (Bor (List ℕ)) ℕ → List ℕ → ℕ
weight_in weights text = or_zero (get_by (λ key. slice_cmp nat_cmp text key.now) weights)

-- the least number that f gives over texts, at most 65,535
abbrev pub least : (List ℕ → ℕ) → List (List ℕ) → ℕ
least f [] = 65535
least f (text ∷ texts) = min (f text) (least f texts)

-- what is known of texts is the least over their spellings
abbrev pub AreLeast : (List ℕ → ℕ) → BTreeMap (Vec ℕ) ℕ → Type 0
AreLeast f known = All (λ entry. entry.1 ≡ least f (spellings entry.0.items)) known.entries

-- whether a rule is hidden, by the weights of case-sensitive patterns
abbrev pub is_outweighed : (List ℕ → ℕ) → GlobRule → Bool
is_outweighed f rule =
    not rule.cased && is_by_text (class_of rule.pattern)
    && list_all (λ text. nat_lt rule.weight (f text)) (spellings (compared false rule.pattern))
