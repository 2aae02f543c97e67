use Rattle.std.proofs.Common.{◌+◌, ◌≤◌, List}
use Rattle.std.specs.Prelude.{Ok}
use Rattle.mime_base.specs.declared.database.rule.GlobRule.{GlobRule}
use Rattle.mime_view.specs.Listing.{Adds}
use Rattle.mime_view.specs.Listing.Faults.{IsRulesFault}
use Rattle.mime_view.specs.Listing.Sources.{AddsSome, IsListRule}
use Rattle.mime_view.specs.Listing.Reads.{ReadsListedRules}
use Rattle.mime_view.proofs.LiteralLemmas.EntryRows.{Left}
use Rattle.mime_view.proofs.rules.entries.add_entries.Given as goal

abbrev pub invariant-loop-i : goal.invariant-loop-i
invariant-loop-i l = record {
  left : (rules : List GlobRule) → ReadsListedRules l.source.counted.now l.at rules
      → Left l.source.counted.now l.first l.count rules l.fn.listing l.i l.listing;
  most : l.fn.spending.budget.records ≤ l.spending.budget.records + l.i;
  sources : AddsSome (IsListRule l.source.counted.now l.at) l.fn.listing l.listing;
  adds : Adds {X = Unit {0}} l.source.counted.now (IsRulesFault l.source.counted.now l.at) 1
      l.fn.listing l.listing l.fn.spending l.spending (Ok tt);
}
