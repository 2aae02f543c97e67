use Rattle.std.proofs.Common.{subst, sym, arith}
use Rattle.std.specs.List.{All}
use Rattle.std.proofs.lemmas.List.Elements.{All-weaker}
use Rattle.mime_base.specs.Database.Limits.{KeepsLimits}
use Rattle.mime_base.specs.Kept.{FitsRank}
use Rattle.mime_lookup.proofs.indexed.IndexedDatabase.new.Goals as goal

pub lent_rules-requires-clause-limits : goal.lent_rules-requires-clause-limits
lent_rules-requires-clause-limits c =
    subst (All FitsRank) (sym c.deref-3.ensures.value)
    (All-weaker KeepsLimits FitsRank (λ rule is. (is.0, omega (arith, is.1))) c.args.database.now.rules.items c.database_keeps_limits.ensures.rules)
