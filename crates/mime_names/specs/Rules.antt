-- Rules as an index has them: a pattern is lent, or stands in the text of all.
use Rattle.std.specs.Prelude.{◌≡◌, ◌+◌, ◌<◌, ℕ, Bool, true, false, not, ◌&&◌, List, filter, get_or, length}
use Rattle.std.specs.Borrow.{Bor}
use Rattle.mime_base.specs.Kept.{FitsRank, rank_of_rule}
use Rattle.mime_base.specs.Kept.Classes.{class_of}
use Rattle.mime_base.specs.Matching.Matches.{rule_matches}
use Rattle.mime_base.specs.declared.database.rule.GlobRule.{GlobRule}
use Rattle.mime_base.specs.declared.kept.class.Class.{Class}
use Rattle.mime_base.specs.declared.kept.class.Class.TheVariants.{Literal, Suffix, Full}
use Rattle.mime_names.specs.Patterns.{IsWithin, pattern_in}
use Rattle.mime_names.specs.declared.indexed_rule.IndexedRule.{IndexedRule}
use Rattle.mime_names.specs.declared.named_rule.NamedRule.{NamedRule}

-- the plain value of a rule that is lent
abbrev pub plain_named : List ℕ → NamedRule → GlobRule
plain_named patterns rule = record { weight = rule.weight; kind = rule.kind.now; pattern = pattern_in patterns rule.pattern; cased = rule.cased }

-- the plain value of a rule that is lent, with its own type
abbrev pub own_named : List ℕ → NamedRule → GlobRule
own_named patterns rule = record {
  weight = rule.weight;
  kind = rule.own_kind.now;
  pattern = pattern_in patterns rule.pattern;
  cased = rule.cased;
}

-- What is found of a rule that is lent.
pub record IsEntryOf (patterns : List ℕ) (named : NamedRule) (rule : IndexedRule) : Type 0 where
  -- Its pattern stands where the rule's does.
  pub pattern : rule.pattern ≡ named.pattern
  -- It has the rule's weight.
  pub weight : rule.weight ≡ named.weight
  -- It gives the rule's type.
  pub kind : rule.kind ≡ named.kind
  -- It has the rule's own.
  pub own_kind : rule.own_kind ≡ named.own_kind
  -- It is case-sensitive where the rule is.
  pub cased : rule.cased ≡ named.cased
  -- Its class is that of the rule's pattern.
  pub class : rule.class ≡ class_of (pattern_in patterns named.pattern)
  -- Its rank is the rule's.
  pub rank : rule.rank ≡ rank_of_rule (plain_named patterns named)

-- a rule's pattern, where the patterns that aren't lent stand
abbrev pub pattern_of : List ℕ → IndexedRule → List ℕ
pattern_of patterns rule = pattern_in patterns rule.pattern

-- a rule has this case and this pattern
abbrev pub HasPattern : List ℕ → Bool → List ℕ → IndexedRule → Type 0
HasPattern patterns cased pattern rule = (rule.cased ≡ cased) × (pattern_of patterns rule ≡ pattern)

-- the plain value of a rule of an index
abbrev pub plain : List ℕ → IndexedRule → GlobRule
plain patterns rule = record { weight = rule.weight; kind = rule.kind.now; pattern = pattern_of patterns rule; cased = rule.cased }

-- the plain value of a rule of an index, with its own type
abbrev pub own_plain : List ℕ → IndexedRule → GlobRule
own_plain patterns rule = record { weight = rule.weight; kind = rule.own_kind.now; pattern = pattern_of patterns rule; cased = rule.cased }

-- the pattern is there, and class and rank are the rule's own, and have their room
pub record IsIndexedRule (patterns : List ℕ) (rule : IndexedRule) : Type 0 where
  pub within : IsWithin patterns rule.pattern
  pub class : rule.class ≡ class_of (pattern_of patterns rule)
  pub rank : rule.rank ≡ rank_of_rule (plain patterns rule)
  pub fits : FitsRank (plain patterns rule)

-- whether a class is one of texts
abbrev pub of_texts : Class → Bool
of_texts Literal = true
of_texts Suffix = true
of_texts Full = false

-- how many rules are no text and no star before a text
abbrev pub count_general : List IndexedRule → ℕ
count_general rules = length (filter (λ rule. not (of_texts rule.class)) rules)

-- whether a rule is one of a text
abbrev pub is_text_rule : GlobRule → Bool
is_text_rule rule = of_texts (class_of rule.pattern)

-- whether a rule is one of a text, by its plain value
abbrev pub texts : List ℕ → IndexedRule → Bool
texts patterns rule = is_text_rule (plain patterns rule)

-- whether it is one of no text
abbrev pub others : List ℕ → IndexedRule → Bool
others patterns rule = not (is_text_rule (plain patterns rule))

-- each rule is one of all
abbrev pub every : List ℕ → IndexedRule → Bool
every patterns rule = true

-- a type, a weight and whether a rule is case-sensitive
abbrev pub Parts : Type 0
Parts = List ℕ × (ℕ × Bool)

-- those of a rule
abbrev pub parts_of : GlobRule → Parts
parts_of rule = (rule.kind, (rule.weight, rule.cased))

-- those of a rule of an index that is lent, with its own type
abbrev pub own_parts : Bor IndexedRule → Parts
own_parts rule = (rule.now.own_kind.now, (rule.now.weight, rule.now.cased))

-- a rule's rank and its type
abbrev pub offer_of : List ℕ → IndexedRule → ℕ × Bor (List ℕ)
offer_of patterns rule = (rank_of_rule (plain patterns rule), rule.kind)

-- whether a rule matches a name
abbrev pub is_match : List ℕ → List ℕ → IndexedRule → Bool
is_match patterns name rule = rule_matches (pattern_of patterns rule) rule.cased name

-- Of some rules those that repeat the one before them are known.
pub record AreRepeats (patterns : List ℕ) (rules : List IndexedRule) : Type 0 where
  -- The first rule repeats none.
  pub first : (rule : IndexedRule) → 0 < length rules → rule ≡ get_or rules 0 rule → rule.repeats ≡ false
  -- One that does matches what the rule before it matches.
  pub others :
      (place : ℕ) (before rule : IndexedRule) (name : List ℕ) → place + 1 < length rules → before ≡ get_or rules place before →
      rule ≡ get_or rules (place + 1) rule → rule.repeats ≡ true → is_match patterns name before ≡ true → is_match patterns name rule ≡ true

-- the rules of a part that match a name
abbrev pub hits_of : List ℕ → (IndexedRule → Bool) → List IndexedRule → List ℕ → List IndexedRule
hits_of patterns part rules name = filter (λ rule. part rule && is_match patterns name rule) rules
