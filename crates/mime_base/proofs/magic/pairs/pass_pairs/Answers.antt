use Rattle.std.proofs.Common.{arith}
use Rattle.std.proofs.lemmas.List.{take_rest}
use Rattle.mime_base.proofs.MagicLemmas.PassedPairs.{passes_then}
use Rattle.mime_base.proofs.MagicLemmas.StoppedPairs.{stops_then}
use Rattle.mime_base.proofs.magic.pairs.pass_pairs.Goals as goal

pub returns-clause-passed : goal.returns-clause-passed
returns-clause-passed c =
    passes_then c.args.first c.args.second c.args.bytes.now c.pass_blocks-blocks.result.length c.pass_blocks-blocks.result.firsts
    c.pass_rest-rest.result.length c.pass_rest-rest.result.firsts (omega arith) c.pass_blocks-blocks.ensures.passed
    (rw (take_rest c.args.bytes.now c.pass_blocks-blocks.result.length) at c.pass_rest-rest.ensures.passed)

pub returns-clause-stops : goal.returns-clause-stops
returns-clause-stops c =
    let rest = take_rest c.args.bytes.now c.pass_blocks-blocks.result.length in
    stops_then c.args.first c.args.second c.args.bytes.now c.pass_blocks-blocks.result.length c.pass_rest-rest.result.length
    c.pass_rest-rest.result.firsts c.args.count c.pass_rest-rest.ensures.limit c.pass_blocks-blocks.ensures.stops
    (rw rest at c.pass_rest-rest.ensures.passed) (rw rest at c.pass_rest-rest.ensures.stops)
