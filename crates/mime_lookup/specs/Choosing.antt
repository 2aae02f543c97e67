-- The choice among the types of a name over a cache: what it gives, and what it costs.
use Rattle.std.specs.Prelude.{ℕ, ◌+◌, ◌*◌, ◌<◌, ◌≤◌, List, length, Result, IfOk, OnOk, ⊤}
use Rattle.std.specs.Borrow.{Bor}
use Rattle.mime_base.specs.Database.{PlainDatabase}
use Rattle.mime_lookup.specs.Bounds.{near_max}
use Rattle.mime_lookup.specs.Cached.{ChoosesFound, IsKind}
use Rattle.mime_lookup.specs.CheckingOrder.{GlobsDecide}
use Rattle.mime_lookup.specs.Costs.{Costs, CostsSearch, LooksAt}
use Rattle.mime_lookup.specs.Searching.{search_cost}
use Rattle.mime_lookup.specs.Spelling.{SpellsGlobs}
use Rattle.mime_lookup.specs.declared.cached.sniff.Finding.{Finding}
use Rattle.mime_lookup.specs.declared.order.Order.TheVariants.{GlobsFirst}
use Rattle.mime_view.specs.Hits.{near}
use Rattle.mime_view.specs.declared.fault.CacheFault.{CacheFault}
use Rattle.mime_view.specs.declared.spending.Spending.{Spending}

-- What a choice among types gives for what was found; `kinds` are the types that a database has.
pub record ChoosesKind (c : List ℕ) (IsEnough : PlainDatabase → Type 0) (kinds : PlainDatabase → List (List ℕ)) (found : Finding)
    (result : Result (Bor (List ℕ)) CacheFault) : Type 0 where
  -- Where enough of a database stands, it is the one that is chosen among them.
  pub chosen : (b : PlainDatabase) → IsEnough b → ChoosesFound b (kinds b) found result
  -- Whatever the bytes are, it is a text of the cache, or fixed.
  pub kind : IfOk result (λ kind. IsKind c kind.now)

-- What a choice among that many types costs.
pub record CostsChoice (count : ℕ) (old new : Spending) : Type 0 where
  -- Among one at most it is an alias step.
  pub alone : count ≤ 1 → LooksAt 29 old new
  -- Else it is a search for a subclass too, with 29 nodes for each type besides.
  pub cost : Costs search_cost 0 (29 + 29 * count) old new

-- What a search for the types of a name costs, and the choice among them.
pub record CostsGlobs {X E : Type 0} (c name : List ℕ) (old new : Spending) (result : Result X E) : Type 0 where
  -- Where the glob rules stand and decide, the nodes are fewer than the bound by the rules near the name.
  pub near : (b : PlainDatabase) → SpellsGlobs c b → GlobsDecide b name GlobsFirst ⊤ →
      OnOk result (new.meter.nodes < old.meter.nodes + near_max (length name) (near name b.rules))
  -- Whatever the bytes are, it costs the search, and 29 nodes besides.
  pub cost : CostsSearch (length name) 0 29 old new
