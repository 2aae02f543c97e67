use Rattle.std.proofs.Common.{◌+◌, ◌*◌, ◌≤◌, length}
use Rattle.mime_base.specs.Database.{PlainDatabase, pairs_of}
use Rattle.mime_lookup.specs.Ancestry.{NoneLeadsTo, unmarked}
use Rattle.mime_lookup.specs.Costs.{CostsOwing}
use Rattle.mime_lookup.specs.Searching.{marked_by, search_cost}
use Rattle.mime_lookup.specs.Spelling.{SpellsPairs}
use Rattle.mime_lookup.proofs.AncestryLemmas.Searches.{Searched}
use Rattle.mime_lookup.proofs.cached.ancestry.leads_to.Given as goal

abbrev pub invariant-loop-here : goal.invariant-loop-here
invariant-loop-here l = record {
  searched : (b : PlainDatabase) → SpellsPairs l.indexed b → NoneLeadsTo (marked_by l.indexed l.fn.marks) (pairs_of b) l.base →
      Searched (pairs_of b) l.base l.kind (marked_by l.indexed l.marks) l.queue;
  owed : (b : PlainDatabase) → SpellsPairs l.indexed b →
      unmarked b.parents (marked_by l.indexed l.marks) + l.fn.spending.budget.records
      ≤ unmarked b.parents (marked_by l.indexed l.fn.marks) + l.spending.budget.records;
  paid : CostsOwing (29 * length l.queue) search_cost 0 29 l.fn.spending l.spending;
}

abbrev pub decreases-loop-here : goal.decreases-loop-here
decreases-loop-here l = length l.queue + l.spending.budget.records
