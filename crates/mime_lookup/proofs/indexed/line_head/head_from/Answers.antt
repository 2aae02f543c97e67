use Rattle.std.proofs.Common.{◌+◌, arith, inl, inr, refl}
use Rattle.mime_base.specs.Magic.{line_from}
use Rattle.mime_base.proofs.MagicLemmas.HoldingLines.{equals_from-outside}
use Rattle.mime_lookup.proofs.IndexLemmas.LineHeads.{none_equals}
use Rattle.mime_lookup.proofs.indexed.line_head.head_from.Goals as goal

pub returns : goal.returns
returns c = λ mask kept. record {
  refuses = λ content host refuses.
      let own = line_from c.args.start c.args.range c.args.word c.args.value.now mask in
      elim refuses [
        | inl short ↦ equals_from-outside own host content c.args.start c.args.range (omega (arith, short))
        | inr lacks ↦
            none_equals own host content _
            (record {
              size = refl;
              first = refl;
              second = λ two. c.byte_at.ensures two;
              third = λ inside. rw c.from-later.ensures at (c.byte_at-2.ensures (omega (arith, inside, c.from-later.ensures)));
              fourth = λ inside. rw c.from-later.ensures at (c.byte_at-3.ensures (omega (arith, inside, c.from-later.ensures)));
            })
            kept (omega arith) lacks.known (λ i. omega (arith, c.type_inv.value i)) lacks.bytes c.args.range c.args.start
            (λ i below fits shown. lacks.lacks (c.args.start + i) (omega arith) (omega (arith, below)) fits shown)
      ];
  within = λ size. omega arith;
}
