use Rattle.std.proofs.Common.{◌≡◌, drop}
use Rattle.mime_base.specs.Database.Subclass.{resolved}
use Rattle.mime_load.specs.Lent.{plain_pairs}
use Rattle.mime_tool.proofs.explain.aliases.unalias.Given as goal

abbrev pub invariant-loop-pair : goal.invariant-loop-pair
invariant-loop-pair l = resolved (plain_pairs l.aliases) l.kind ≡ resolved (plain_pairs (drop l.pair-index l.aliases)) l.kind
