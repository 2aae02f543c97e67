-- The glob rules of a cache that were read back, and the types of names by them.
use Rattle.std.specs.Prelude.{◌≡◌, ℕ, List, ◌++◌, map, length}
use Rattle.std.specs.Borrow.{Bor}
use Rattle.std.specs.Option.{option_map_or}
use Rattle.mime_base.specs.Cache.Bytes.{Stands}
use Rattle.mime_base.specs.Database.{PlainDatabase, pairs_of}
use Rattle.mime_base.specs.Database.Subclass.{resolved}
use Rattle.mime_base.specs.Format.Header.{HeaderAt, Offsets}
use Rattle.mime_base.specs.Format.Pairs.{PairsAt}
use Rattle.mime_base.specs.declared.database.rule.GlobRule.{GlobRule}
use Rattle.mime_lookup.specs.Choice.{kept}
use Rattle.mime_lookup.specs.Indexed.{unaliased_rule}
use Rattle.mime_lookup.specs.NameMap.{IsNameMap, value_in}
use Rattle.mime_lookup.specs.NameTypes.{types_for}
use Rattle.mime_lookup.specs.Spelling.{SpellsGlobs}
use Rattle.mime_lookup.specs.declared.name_map.NameMap.{NameMap}
use Rattle.mime_names.specs.Index.{PlainIndex, PlainRules}
use Rattle.mime_view.specs.declared.name_hits.NameHits.{NameHits}
use Rattle.mime_view.specs.declared.name_hits.Which.{Which}

-- the target that a map has for a type, or the type itself
abbrev pub target_in : NameMap (Bor (List ℕ)) → List ℕ → List ℕ
target_in targets kind = option_map_or (λ target. target.now) (value_in targets kind) kind

-- each type goes one alias step by the targets that a map has
abbrev pub AreTargets : List (List ℕ × List ℕ) → NameMap (Bor (List ℕ)) → Type 0
AreTargets aliases targets = (kind : List ℕ) → resolved aliases kind ≡ target_in targets kind

-- a rule whose type went one alias step by the targets that a map has
abbrev pub target_rule : NameMap (Bor (List ℕ)) → GlobRule → GlobRule
target_rule targets rule =
    record { weight = rule.weight; kind = target_in targets rule.kind; pattern = rule.pattern; cased = rule.cased }

-- Rules that an index is to be made of, and more after them, which give their types by the targets that a map has.
pub record AddsRules (targets : NameMap (Bor (List ℕ))) (more : List GlobRule) (old new : PlainRules) : Type 0 where
  -- They give their types after one alias step.
  pub given : new.given ≡ old.given ++ map (target_rule targets) more
  -- They are these.
  pub own : new.own ≡ old.own ++ more
  -- The text of patterns is the same.
  pub patterns : new.patterns ≡ old.patterns

-- Targets are those of the aliases that a cache spells.
pub record AreTargetsOf (c : List ℕ) (targets : NameMap (Bor (List ℕ))) : Type 0 where
  -- Where its parts stand.
  pub offsets : Offsets
  -- Its header says so.
  pub header : HeaderAt (Stands c) offsets
  -- Its aliases.
  pub aliases : List (List ℕ × List ℕ)
  -- They stand there.
  pub stand : PairsAt (Stands c) offsets.aliases aliases
  -- Its names are found.
  pub valid : IsNameMap targets
  -- Each type goes one alias step by the targets.
  pub are : AreTargets aliases targets

-- The rules of an index are those of a cache, and give their types after one alias step.
pub record AreRulesReadBack (c : List ℕ) (index : PlainIndex) : Type 0 where
  -- What the cache spells.
  pub database : PlainDatabase
  -- It does.
  pub spelled : SpellsGlobs c database
  -- They give the types of its rules.
  pub are : index.given ≡ map (unaliased_rule database.aliases) database.rules
  -- They are its rules.
  pub own : index.own ≡ database.rules

-- The types of the rules that are asked for, and how many of these are kept.
pub record AreTypesOf (which : Which) (b : PlainDatabase) (name : List ℕ) (hits : NameHits) : Type 0 where
  -- The types, each after one alias step.
  pub types : hits.kinds ≡ types_for which b name
  -- As many of the first are those of the kept rules.
  pub count : hits.kept ≡ length (kept (pairs_of b) b.rules name)
