use Rattle.std.proofs.Common.{◌+◌, ◌≤◌, length, subst}
use Rattle.mime_base.specs.Database.Subclass.{Pairs}
use Rattle.mime_lookup.specs.IndexBytes.{search_bytes}
use Rattle.mime_lookup.proofs.ancestry.first_of.Goals as goal

pub returns-clause-first : goal.returns-clause-first
returns-clause-first c = rw c.in_ok-both.ensures.pairs at c.in_ok-kind.ensures.first

pub returns-in_err-kind-clause-bytes : goal.returns-in_err-kind-clause-bytes
returns-in_err-kind-clause-bytes c =
    subst (λ (pairs : Pairs). c.first_at.new.meter.bytes
    ≤ c.args.meter.now.bytes + search_bytes (length c.args.kinds.now) (length pairs.parents) (length c.args.base.now))
    c.in_ok-both.ensures.pairs c.first_at.ensures.bytes

pub returns-clause-bytes : goal.returns-clause-bytes
returns-clause-bytes c =
    subst (λ (pairs : Pairs). c.first_at.new.meter.bytes
    ≤ c.args.meter.now.bytes + search_bytes (length c.args.kinds.now) (length pairs.parents) (length c.args.base.now))
    c.in_ok-both.ensures.pairs c.first_at.ensures.bytes
