use Rattle.std.proofs.Common.{◌≡◌, ◌+◌, drop, nat_eq}
use Rattle.std.specs.List.{common_prefix_len}
use Rattle.mime_base.specs.Magic.Masking.{in_host_order, under_mask}
use Rattle.mime_base.proofs.magic.masking.equal_bytes.Given as goal

abbrev pub invariant-loop-i : goal.invariant-loop-i
invariant-loop-i l =
    l.i + common_prefix_len nat_eq
    (drop l.i (under_mask l.value l.mask l.word l.fn.host l.window))
    (drop l.i (under_mask l.value l.mask l.word l.fn.host (in_host_order l.word l.fn.host l.value)))
    ≡ common_prefix_len nat_eq (under_mask l.value l.mask l.word l.fn.host l.window)
    (under_mask l.value l.mask l.word l.fn.host (in_host_order l.word l.fn.host l.value))
