use Rattle.std.proofs.Common.{◌≡◌, ◌+◌, ◌*◌, ◌++◌, length, map, take}
use Rattle.mime_base.specs.Database.{PlainDatabase}
use Rattle.mime_base.specs.Database.Subclass.{resolved}
use Rattle.mime_view.specs.Spending.{Looks}
use Rattle.mime_lookup.specs.Ancestry.{kinds_of}
use Rattle.mime_lookup.specs.Spelling.{SpellsPairs}
use Rattle.mime_lookup.proofs.cached.ancestry.push_unaliased.Given as goal

abbrev pub invariant-loop-kind : goal.invariant-loop-kind
invariant-loop-kind l = record {
  queue : (b : PlainDatabase) → SpellsPairs l.indexed b →
      l.queue ≡ l.fn.queue ++ map (resolved b.aliases) (kinds_of (take l.kind-index l.kinds));
  longer : length l.queue ≡ length l.fn.queue + l.kind-index;
  budget : l.spending.budget ≡ l.fn.spending.budget;
  cost : Looks (29 * l.kind-index) (256 * 29 * l.kind-index) l.fn.spending.meter l.spending.meter;
}
