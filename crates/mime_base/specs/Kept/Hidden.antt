-- The rules that are never kept: whatever name one matches, a case-sensitive rule matches too and is preferred to it.
use Rattle.std.specs.Prelude.{◌≡◌, ℕ, ◌-◌, Bool, true, false, not, ◌&&◌, nat_le, bytes_eq, if◌then◌else◌, List, [], ◌∷◌, map}
use Rattle.std.specs.Prelude.{filter, ◌↔◌}
use Rattle.std.specs.List.{list_all, list_any, flat_map, Contains}
use Rattle.mime_base.specs.Kept.{kept_rules}
use Rattle.mime_base.specs.Kept.Classes.{class_of}
use Rattle.mime_base.specs.Matching.Folding.{compared}
use Rattle.mime_base.specs.declared.kept.class.Class.{Class}
use Rattle.mime_base.specs.declared.kept.class.Class.TheVariants.{Literal, Suffix, Full}
use Rattle.mime_base.specs.declared.database.rule.GlobRule.{GlobRule}

-- the bytes that fold to a folded byte: a small letter and its capital, any other byte alone
abbrev pub cases_of : ℕ → List ℕ
cases_of b = if nat_le 97 b && nat_le b 122 then b ∷ (b - 32) ∷ [] else b ∷ []

-- the texts that fold to a folded text, in each spelling of its letters
abbrev pub spellings : List ℕ → List (List ℕ)
spellings [] = [] ∷ []
spellings (b ∷ rest) = flat_map (λ first. map (λ text. first ∷ text) (spellings rest)) (cases_of b)

-- whether names of this class are told by one text, whole or at their end
abbrev pub is_by_text : Class → Bool
is_by_text Literal = true
is_by_text Suffix = true
is_by_text Full = false

-- whether a rule is case-sensitive, has this pattern, and at least this weight
abbrev pub is_cased_twin : ℕ → List ℕ → GlobRule → Bool
is_cased_twin weight text rule = rule.cased && bytes_eq rule.pattern text && nat_le weight rule.weight

-- whether a rule is never kept: a Literal or a Suffix without `cs`, of which each spelling is a `cs` rule's that weighs no less
unfoldable pub is_hidden : List GlobRule → GlobRule → Bool
is_hidden rules rule =
    not rule.cased && is_by_text (class_of rule.pattern)
    && list_all (λ text. list_any (is_cased_twin rule.weight text) rules) (spellings (compared false rule.pattern))

-- the rules that aren't hidden, in their order
unfoldable pub visible : List GlobRule → List GlobRule
visible rules = filter (λ rule. not (is_hidden rules rule)) rules

-- the spellings of a text are the texts that fold as it does
abbrev pub SpellingsFoldAlike : Type 0
SpellingsFoldAlike = (text other : List ℕ) →
    Contains (spellings (compared false text)) other ↔ (compared false other ≡ compared false text)

-- for every name the rules that are kept of the visible ones are those that are kept of all
abbrev pub VisibleIsEnough : Type 0
VisibleIsEnough = (rules : List GlobRule) (name : List ℕ) → kept_rules (visible rules) name ≡ kept_rules rules name
