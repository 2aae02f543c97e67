use Rattle.std.proofs.Common.{◌++◌, drop, sym, ap, ◌∙◌, arith, append-nil}
use Rattle.std.proofs.lemmas.List.{drop_all}
use Rattle.mime_load.specs.Lent.{sections_over}
use Rattle.mime_lookup.specs.TopLines.{lent_top, plain_tops, top_lines}
use Rattle.mime_lookup.proofs.IndexLemmas.LentTops.{tops_more}
use Rattle.mime_lookup.proofs.indexed.magic_index.MagicIndex.new.Goals as goal

pub loop-section-preserved : goal.loop-section-preserved
loop-section-preserved c =
    let before = c.loop-section.invariant in
    let lines = c.args.magic.lines in
    record {
      within = omega (arith, before.within, c.min.ensures, c.len-in-loop-section.ensures, lines.ok.0);
      left = tops_more c.deref-section-items.result.now lines.items c.loop-section.section-index c.loop-section.from c.min.result _ _ _ _ _
          c.loop-section-test.true c.min.ensures (omega (arith, c.len-in-loop-section.ensures, lines.ok.0))
          (rw c.deref.ensures.value at c.in_ok-push_tops.ensures) before.left;
    }

pub returns : goal.returns
returns c =
    let lines = c.args.magic.lines.items in
    let sections = c.deref-section-items.result.now in
    let tops = plain_tops (lent_top lines) c.loop-section.tops.items in
    let rest = drop c.loop-section.from lines in
    let none = drop_all c.loop-section.section-index sections c.loop-section-test.false in
    c.in_ok-heads.ensures.tops
    ∙ sym (append-nil tops)
    ∙ ap (λ ss. tops ++ top_lines (sections_over ss rest)) (sym none)
    ∙ c.loop-section.invariant.left
    ∙ ap (λ ss. top_lines (sections_over ss lines)) c.deref-section-items.ensures.value
