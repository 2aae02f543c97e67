use Rattle.std.proofs.Common.{ℕ, List, ◌++◌, drop, length, replicate, sym, ap, append-nil, ◌∙◌, arith}
use Rattle.std.proofs.Math.Seq.{take-length}
use Rattle.mime_base.proofs.CacheLemmas.Padding.{padded-laid}
use Rattle.mime_base.proofs.cache.key.Key.new.Goals as goal
use Rattle.mime_base.proofs.cache.key.Key.new.Goals.{then-bytes-lt-FRONT, else-bytes-lt-FRONT}

pub invariant_of-result : goal.invariant_of-result
invariant_of-result c = elim c.if-bytes-lt-FRONT.branch [
  | then-bytes-lt-FRONT w ↦
      w.front-is
      ∙ ap (λ (shown : List ℕ). shown ++ drop (length c.args.bytes.now) (replicate 16 0))
      (w.copy_from_slice.ensures.after ∙ sym (take-length c.args.bytes.now))
      ∙ padded-laid 16 (length c.args.bytes.now) c.args.bytes.now (omega (arith, w.if-bytes-lt-FRONT.true))
  | else-bytes-lt-FRONT w ↦
      w.front-is ∙ w.copy_from_slice-else-bytes-lt-FRONT.ensures.after ∙ sym (append-nil _)
      ∙ padded-laid 16 16 c.args.bytes.now (omega (arith, w.if-bytes-lt-FRONT.false))
]
