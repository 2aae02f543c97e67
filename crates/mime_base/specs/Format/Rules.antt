-- The literal list and the glob list of a cache.
use Rattle.std.specs.Prelude.{◌≡◌, ℕ, List, [], ◌∷◌}
use Rattle.mime_base.specs.Format.Records.{ListAt, Standing, TextAt}
use Rattle.mime_base.specs.Format.Sorted.{IsSortedByText}
use Rattle.mime_base.specs.Format.Stored.{glob_rules, literal_rules, stored_text, weight_and_flags}
use Rattle.mime_base.specs.declared.database.rule.GlobRule.{GlobRule}

-- three numbers: the offsets of the stored text and of the type, weight and flags
abbrev pub IsRule : Standing → GlobRule → List ℕ → Type 0
IsRule S rule numbers =
    (text kind : ℕ) × (numbers ≡ text ∷ kind ∷ weight_and_flags rule ∷ [])
    × TextAt S text (stored_text rule) × TextAt S kind rule.kind

-- the literal rules stand sorted by their stored texts
pub record LiteralsAt (S : Standing) (at : ℕ) (rules : List GlobRule) : Type 0 where
  pub entries : List GlobRule
  pub sorted : IsSortedByText stored_text (literal_rules rules) entries
  pub stand : ListAt S 12 (IsRule S) at entries

-- the rules of no other list stand in merged order
abbrev pub GlobsAt : Standing → ℕ → List GlobRule → Type 0
GlobsAt S at rules = ListAt S 12 (IsRule S) at (glob_rules rules)
