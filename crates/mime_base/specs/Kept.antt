-- The rules that are kept of those that match a name: the first class that has one, then the greatest
-- weight, then the longest pattern, then the case-sensitive ones if any is. And all that match, in this order.
pub mod Rows
pub mod CandidateRows
pub mod Classes
pub mod Hidden
pub mod HiddenRows
pub mod Twins
pub mod TwinRows
use Rattle.std.specs.Prelude.{◌≡◌, ℕ, ◌+◌, ◌*◌, ◌<◌, Bool, false, ◌||◌, ◌==◌, if◌then◌else◌, List, [], ◌∷◌, length, take, max, filter, All}
use Rattle.mime_base.specs.Falling.{falling}
use Rattle.mime_base.specs.Kept.Classes.{class_of}
use Rattle.mime_base.specs.Matching.Matches.{rule_matches}
use Rattle.mime_base.specs.declared.kept.class.Class.{Class}
use Rattle.mime_base.specs.declared.kept.class.Class.TheVariants.{Literal, Suffix, Full}
use Rattle.mime_base.specs.declared.database.rule.GlobRule.{GlobRule}

-- the greatest number that f gives over a list, 0 over an empty one
abbrev pub greatest : {X : Type 0} → (X → ℕ) → List X → ℕ
greatest f [] = 0
greatest f (x ∷ xs) = max (f x) (greatest f xs)

-- the elements to which f gives the greatest number, in their order
abbrev pub of_greatest : {X : Type 0} → (X → ℕ) → List X → List X
of_greatest f xs = filter (λ x. f x == greatest f xs) xs

-- how early a class stands in the order Literal, Suffix, Full
abbrev pub earliness : Class → ℕ
earliness Literal = 2
earliness Suffix = 1
earliness Full = 0

-- whether one of the rules is case-sensitive
abbrev pub any_cased : List GlobRule → Bool
any_cased [] = false
any_cased (rule ∷ rules) = rule.cased || any_cased rules

-- all rules that match a name, in merged order
abbrev pub hits : List GlobRule → List ℕ → List GlobRule
hits rules name = filter (λ rule. rule_matches rule.pattern rule.cased name) rules

-- those of the first class that has one
abbrev pub of_first_class : List GlobRule → List GlobRule
of_first_class rules = of_greatest (λ rule. earliness (class_of rule.pattern)) rules

-- those of the greatest weight
abbrev pub heaviest : List GlobRule → List GlobRule
heaviest rules = of_greatest (λ rule. rule.weight) rules

-- those with the longest pattern
abbrev pub longest : List GlobRule → List GlobRule
longest rules = of_greatest (λ rule. length rule.pattern) rules

-- those that are case-sensitive, if any is
abbrev pub cased_if_any : List GlobRule → List GlobRule
cased_if_any rules = if any_cased rules then filter (λ rule. rule.cased) rules else rules

-- the hits that no other is preferred to: by class, then by weight, by length and by case
unfoldable pub preferred : List GlobRule → List GlobRule
preferred rules = cased_if_any (longest (heaviest (of_first_class rules)))

-- the rules that are kept for a name, in merged order
unfoldable pub kept_rules : List GlobRule → List ℕ → List GlobRule
kept_rules rules name = preferred (hits rules name)

-- the class, then the weight, the length and the flag, each with room for all below it
unfoldable pub rank : Class → ℕ → ℕ → Bool → ℕ
rank class weight length cased =
    ((earliness class * 256 + weight) * 65536 + length) * 2 + (if cased then 1 else 0)

-- the rank of a rule that matches
abbrev pub rank_of_rule : GlobRule → ℕ
rank_of_rule rule = rank (class_of rule.pattern) rule.weight (length rule.pattern) rule.cased

-- the weight and the length keep to their room
abbrev pub FitsRank : GlobRule → Type 0
FitsRank rule = (rule.weight < 256) × (length rule.pattern < 65536)

-- of any hits, those of the greatest rank are those that are preferred
abbrev pub GreatestRankIsPreferred : Type 0
GreatestRankIsPreferred = (hits : List GlobRule) → All FitsRank hits → of_greatest rank_of_rule hits ≡ preferred hits

-- all rules that match a name, the preferred first: by falling rank, those of one rank in merged order
unfoldable pub candidate_rules : List GlobRule → List ℕ → List GlobRule
candidate_rules rules name = falling rank_of_rule (hits rules name)

-- for every name the kept rules are the first of the candidates
abbrev pub KeptComeFirst : Type 0
KeptComeFirst = (rules : List GlobRule) → All FitsRank rules → (name : List ℕ) →
    take (length (kept_rules rules name)) (candidate_rules rules name) ≡ kept_rules rules name

-- of offers, each a rank and an item, those of the greatest rank, in their order
abbrev pub best : {X : Type 0} → List (ℕ × X) → List (ℕ × X)
best offers = of_greatest (λ offer. offer.0) offers
