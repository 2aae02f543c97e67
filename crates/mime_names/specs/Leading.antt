-- What leads among offers: places of rules, at the front of some places.
pub mod Rows
use Rattle.std.specs.Prelude.{◌≡◌, ℕ, List, [], map, take, drop}
use Rattle.std.specs.Borrow.{Bor}
use Rattle.std.specs.List.{flat_map}
use Rattle.mime_base.specs.Kept.{best}
use Rattle.mime_names.specs.declared.indexed_rule.IndexedRule.{IndexedRule}
use Rattle.mime_names.specs.declared.leading.Leader.{Leader}

-- the types that the rules at some places give
abbrev pub kinds_at : List IndexedRule → List ℕ → List (Bor (List ℕ))
kinds_at rules places = flat_map (λ place. map (λ rule. rule.kind) (take 1 (drop place rules))) places

-- What leads among some offers, each a rank and a type.
pub record IsLeader (rules : List IndexedRule) (places : List ℕ) (leader : Leader) (offers : List (ℕ × Bor (List ℕ))) : Type 0 where
  -- The rules at the first places give the best of them.
  pub best : map (λ kind. (leader.rank, kind)) (kinds_at rules (take leader.count places)) ≡ best offers
  -- Without one the rank is 0.
  pub none : kinds_at rules (take leader.count places) ≡ [] → leader.rank ≡ 0
