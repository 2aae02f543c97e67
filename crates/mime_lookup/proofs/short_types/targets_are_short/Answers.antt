use Rattle.std.proofs.Common.{ℕ, ◌≤◌, List, length, arith}
use Rattle.std.proofs.lemmas.List.Elements.{All-map}
use Rattle.mime_base.specs.Database.PlainPairs.{plain_pair}
use Rattle.mime_lookup.proofs.short_types.targets_are_short.Goals as goal

pub returns : goal.returns
returns c =
    All-map (λ (pair : List ℕ × List ℕ). length pair.1 ≤ 255) plain_pair c.args.pairs.now
    (λ k d within. c.loop-pair.invariant k d (omega (arith, within, c.loop-pair-test.false)))
