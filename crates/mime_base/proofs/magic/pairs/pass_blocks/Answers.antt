use Rattle.std.proofs.Common.{◌+◌, refl, arith}
use Rattle.std.proofs.lemmas.List.{take_rest}
use Rattle.mime_base.proofs.MagicLemmas.PassedPairs.{passes_few, passes_then}
use Rattle.mime_base.proofs.magic.pairs.pass_blocks.Goals as goal

pub overflow_add-firsts : goal.overflow_add-firsts
overflow_add-firsts c =
    let block = rw (take_rest c.args.bytes.now c.loop-length.length) at (rw c.in-Some.is at c.firsts_of_block.ensures.some) in
    let all = passes_then c.args.first c.args.second c.args.bytes.now c.loop-length.length c.loop-length.firsts 32 c.in-Some.more
    (omega arith) c.loop-length.invariant.passed block in
    record {
      fits = omega (
        arith,
        passes_few c.args.first c.args.second c.args.bytes.now (c.loop-length.length + 32) (c.loop-length.firsts + c.in-Some.more)
            (omega arith) all,
      );
    }

pub loop-length-preserved : goal.loop-length-preserved
loop-length-preserved c =
    let block = rw (take_rest c.args.bytes.now c.loop-length.length) at (rw c.in-Some.is at c.firsts_of_block.ensures.some) in
    let all = passes_then c.args.first c.args.second c.args.bytes.now c.loop-length.length c.loop-length.firsts 32 c.in-Some.more
    (omega arith) c.loop-length.invariant.passed block in
    record {
      passed = all;
      few = passes_few c.args.first c.args.second c.args.bytes.now (c.loop-length.length + 32) (c.loop-length.firsts + c.in-Some.more)
          (omega arith) all;
      limit = omega arith;
    }

pub returns-in-None-clause-stops : goal.returns-in-None-clause-stops
returns-in-None-clause-stops c = λ within.
    rw (take_rest c.args.bytes.now c.loop-length.length) at (c.in-None.ensures.none refl)
