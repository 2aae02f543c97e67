use Rattle.std.proofs.Common.{◌+◌, ◌*◌, ◌≤◌, List, ℕ, drop, length}
use Rattle.mime_base.specs.Database.{PlainDatabase, pairs_of}
use Rattle.mime_lookup.specs.Ancestry.{NoneLeadsTo, kinds_of, unmarked}
use Rattle.mime_lookup.specs.Choice.{IsFirst}
use Rattle.mime_lookup.specs.Costs.{Costs}
use Rattle.mime_lookup.specs.Searching.{marked_by, search_cost}
use Rattle.mime_lookup.specs.Spelling.{SpellsPairs}
use Rattle.mime_lookup.proofs.cached.ancestry.first_of.Given as goal

abbrev pub invariant-loop-kind : goal.invariant-loop-kind
invariant-loop-kind l = record {
  settled : (b : PlainDatabase) → SpellsPairs l.indexed b → NoneLeadsTo (marked_by l.indexed l.marks) (pairs_of b) l.base;
  rest : (b : PlainDatabase) → SpellsPairs l.indexed b → (answer : List ℕ) →
      IsFirst (pairs_of b) l.base l.default (kinds_of (drop l.kind-index l.kinds)) answer →
      IsFirst (pairs_of b) l.base l.default (kinds_of l.kinds) answer;
  owed : (b : PlainDatabase) → SpellsPairs l.indexed b →
      unmarked b.parents (marked_by l.indexed l.marks) + l.fn.spending.budget.records ≤ length b.parents + l.spending.budget.records;
  cost : Costs search_cost 0 (29 * l.kind-index) l.fn.spending l.spending;
}
