use Rattle.std.proofs.Common.{◌+◌, ◌≤◌, length, subst}
use Rattle.mime_base.specs.Database.Subclass.{Pairs}
use Rattle.mime_lookup.specs.IndexBytes.{search_bytes}
use Rattle.std.specs.Prelude.{IfOk}
use Rattle.mime_lookup.specs.Ancestry.{kinds_of}
use Rattle.mime_lookup.specs.Choice.{IsFirst}
use Rattle.mime_lookup.proofs.IndexLemmas.Indexes.{indexed_pairs}
use Rattle.mime_lookup.proofs.indexed.look_up.IndexedDatabaseAsked.first_of.Goals as goal

pub returns-clause-first : goal.returns-clause-first
returns-clause-first c =
    let inside = c.self.inside in
    subst (λ pairs. IfOk c.first_at.result
    (λ kind. IsFirst pairs c.args.base.now c.args.default.now (kinds_of c.args.kinds.now) kind.now))
    (indexed_pairs inside.database.now c.args.self.now inside.names inside.pairs
    c.self.invariant.0 c.self.view_is)
    c.first_at.ensures.first

pub returns-clause-bytes : goal.returns-clause-bytes
returns-clause-bytes c =
    let inside = c.self.inside in
    subst (λ (pairs : Pairs). c.first_at.new.meter.bytes
    ≤ c.args.meter.now.bytes + search_bytes (length c.args.kinds.now) (length pairs.parents) (length c.args.base.now))
    (indexed_pairs inside.database.now c.args.self.now inside.names inside.pairs
    c.self.invariant.0 c.self.view_is)
    c.first_at.ensures.bytes
