use Rattle.std.proofs.Common.{◌+◌, length, arith}
use Rattle.std.proofs.lemmas.List.{length-take}
use Rattle.std.proofs.lemmas.Slice.{between_to_end}
use Rattle.mime_base.proofs.CacheLemmas.Zeros.{before_zero-early}
use Rattle.mime_base.proofs.CacheLemmas.ZeroLanes.{zero-window, zero-windows}
use Rattle.mime_base.proofs.cache.early_zero.Goals as goal

pub returns-then-end-lt16 : goal.returns-then-end-lt16
returns-then-end-lt16 c =
    let end = c.zero_of_sixteen-end.result in
    let is = zero-window 16 end c.args.bytes.now (omega arith) c.zero_of_sixteen-end.ensures c.if-end-lt16.true in (
      omega arith,
      omega (arith, length-take 256 c.args.bytes.now),
      before_zero-early 256 end c.args.bytes.now is (omega arith) (omega arith),
    )

pub returns-then-end-lt16-2 : goal.returns-then-end-lt16-2
returns-then-end-lt16-2 c =
    let end = c.zero_of_sixteen-end-2.result in
    let rest = between_to_end c.args.bytes.now 16 (length c.args.bytes.now) (omega arith) in
    let is = zero-windows 16 c.zero_of_sixteen-end.result end c.args.bytes.now (omega arith) c.zero_of_sixteen-end.ensures
    (omega (arith, c.if-end-lt16.false)) (rw rest at c.zero_of_sixteen-end-2.ensures) c.if-end-lt16-2.true in (
      omega arith,
      omega (arith, length-take 256 c.args.bytes.now),
      before_zero-early 256 (16 + end) c.args.bytes.now is (omega arith) (omega arith),
    )
