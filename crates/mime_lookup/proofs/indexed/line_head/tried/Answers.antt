use Rattle.std.proofs.Common.{arith, inl, inr}
use Rattle.mime_base.specs.Magic.{line_from}
use Rattle.mime_base.proofs.MagicLemmas.HoldingLines.{equals_from-outside}
use Rattle.mime_lookup.proofs.indexed.line_head.tried.Goals as goal

pub returns : goal.returns
returns c = λ range word mask. record {
  refuses = λ content host refuses. elim refuses [
    | inl short ↦
        equals_from-outside (line_from c.args.start range word c.args.value.now mask) host content c.args.start range
        (omega (arith, short, c.min-size.ensures, c.saturating_add.ensures))
    | inr lacks ↦ absurd (omega (arith, lacks.known))
  ];
  within = λ size. omega arith;
}
