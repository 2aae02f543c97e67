-- An entry less, which is taken if it is marked.
use Rattle.std.proofs.Common.{◌≡◌, ◌++◌, ◌∙◌, length, reverse, sym, ap, arith, length-append}
use Rattle.std.specs.List.{list_all}
use Rattle.mime_text.proofs.Merges.Picking.{leaves-others, picked-all, takes-marked}
use Rattle.mime_text.specs.Merging.{picked}
use Rattle.mime_text.proofs.merging.first.marked.Goals as goal

pub loop-entry-preserved-in_ok-push : goal.loop-entry-preserved-in_ok-push
loop-entry-preserved-in_ok-push g c =
    let entries = c.pop.new.self.items in
    let marks = c.pop-in-loop-entry.new.self.items in
    let pops = c.in-Some-Some in
    let fewer = simp length-append at (ap length pops.ensures.items) in
    let fewer_marks = simp length-append at (ap length pops.ensures'.items) in
    let same : length marks ≡ length entries = omega (arith, fewer, fewer_marks, c.loop-entry.invariant.lengths) in
    record {
      lengths = same;
      kept = ap (λ ys. picked marks entries ++ reverse ys) c.in_ok-push.ensures.items
          ∙ takes-marked marks entries c.loop-entry.kept.items pops.mark pops.entry _ _ pops.ensures'.items pops.ensures.items same
          c.if-mark.true
          ∙ c.loop-entry.invariant.kept;
    }

pub loop-entry-preserved : goal.loop-entry-preserved
loop-entry-preserved g c =
    let entries = c.pop.new.self.items in
    let marks = c.pop-in-loop-entry.new.self.items in
    let pops = c.in-Some-Some in
    let fewer = simp length-append at (ap length pops.ensures.items) in
    let fewer_marks = simp length-append at (ap length pops.ensures'.items) in
    let same : length marks ≡ length entries = omega (arith, fewer, fewer_marks, c.loop-entry.invariant.lengths) in
    record {
      lengths = same;
      kept = leaves-others marks entries c.loop-entry.kept.items pops.mark pops.entry _ _ pops.ensures'.items pops.ensures.items same
          c.if-mark.false
          ∙ c.loop-entry.invariant.kept;
    }

pub returns-then-are_all_marked : goal.returns-then-are_all_marked
returns-then-are_all_marked g c =
    sym (picked-all c.args.marks.items c.args.entries.items c.requires
    (ap (list_all (λ mark. mark)) (sym c.deref.ensures.value) ∙ sym c.are_all_marked.ensures ∙ c.if-are_all_marked.true))
