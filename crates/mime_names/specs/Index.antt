-- An index over rules.
use Rattle.std.specs.Prelude.{◌≡◌, ℕ, List, [], ◌∷◌, map}
use Rattle.std.specs.Borrow.{Bor}
use Rattle.std.specs.List.{All}
use Rattle.mime_base.specs.declared.database.rule.GlobRule.{GlobRule}
use Rattle.mime_names.specs.Keys.{IsTableOf}
use Rattle.mime_names.specs.Rules.{AreRepeats, IsIndexedRule, count_general, own_plain, plain}
use Rattle.mime_names.specs.declared.indexed_rule.IndexedRule.{IndexedRule}
use Rattle.mime_names.specs.declared.keys.KeyTable.{KeyTable}
use Rattle.mime_names.specs.declared.kept.KeptTypes.{KeptTypes}
use Rattle.mime_names.specs.declared.kept.KeptTypes.TheVariants.{One, Others}

-- each rule has its pattern, its class, its rank and its key, it is known which repeat the one before them, and those that are no text and no star before a text are counted
pub record IsIndex (patterns : List ℕ) (rules : List IndexedRule) (table : KeyTable) (general : ℕ) : Type 0 where
  pub own : All (IsIndexedRule patterns) rules
  pub repeated : AreRepeats patterns rules
  pub keyed : IsTableOf table patterns rules
  pub counted : general ≡ count_general rules

-- The rules of an index.
pub record PlainIndex : Type 0 where
  -- Each with the type that it gives.
  pub given : List GlobRule
  -- Each with its own type.
  pub own : List GlobRule

-- Rules that an index is to be made of.
pub record PlainRules : Type 0 where
  -- Each with the type that it gives.
  pub given : List GlobRule
  -- Each with its own type.
  pub own : List GlobRule
  -- The text of patterns that aren't lent.
  pub patterns : List ℕ

-- the plain values of its rules
abbrev pub rules_of_index : List ℕ → List IndexedRule → List GlobRule
rules_of_index patterns rules = map (plain patterns) rules

-- with the types that they give, and with their own
abbrev pub plain_index : List ℕ → List IndexedRule → PlainIndex
plain_index patterns rules = record { given = rules_of_index patterns rules; own = map (own_plain patterns) rules }

-- the same of rules that an index is to be made of, with the text of patterns
abbrev pub plain_rules : List ℕ → List IndexedRule → PlainRules
plain_rules patterns rules = record { given = rules_of_index patterns rules; own = map (own_plain patterns) rules; patterns = patterns }

-- the types that are lent
abbrev pub texts_of : List (Bor (List ℕ)) → List (List ℕ)
texts_of kinds = map (λ kind. kind.now) kinds

-- the types that are kept, one of which is held in place
abbrev pub held_kinds : KeptTypes → List (Bor (List ℕ))
held_kinds (One kind) = kind ∷ []
held_kinds (Others kinds) = kinds.items

-- their texts
abbrev pub held_types : KeptTypes → List (List ℕ)
held_types types = texts_of (held_kinds types)
