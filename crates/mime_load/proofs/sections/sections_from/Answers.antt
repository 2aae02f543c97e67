use Rattle.std.proofs.Common.{◌≡◌, ◌+◌, ◌*◌, ◌++◌, ◌∷◌, [], ℕ, length, arith, ap, ◌∙◌}
use Rattle.std.proofs.lemmas.List.{length_push}
use Rattle.std.proofs.lemmas.Result.{err_from_is_err_and}
use Rattle.mime_load.specs.Taking.{HasSectionRoom}
use Rattle.mime_load.proofs.AddedSections.{length-read, reads_more}
use Rattle.mime_load.proofs.WholeLemmas.{next_room, next_section}
use Rattle.mime_load.proofs.TakingLemmas.{wide_then}
use Rattle.mime_load.proofs.sections.sections_from.Goals as goal

pub loop-i-preserved : goal.loop-i-preserved
loop-i-preserved c =
    let before = c.loop-i.invariant in
    let pushed : c.push.new.self.items ≡ c.loop-i.sections.items ++ c.in_ok-section.section ∷ [] = c.in_ok-push.ensures.items in
    record {
      reads = rw pushed (reads_more c.args.source.now.counted.now c.args.first c.loop-i.i _ c.loop-i.sections.items c.in_ok-section.section
          c.loop-i.lines.items c.section_at.new.lines.items c.args.taking.now c.loop-i.taking c.section_at.new.taking before.reads
          before.count (omega (arith, c.from.ensures, c.from-in-loop-i.ensures)) c.in_ok-section.ensures.adds);
      count = ap length pushed ∙ length_push c.loop-i.sections.items c.in_ok-section.section ∙ ap (λ (n : ℕ). n + 1) before.count;
      wide = wide_then c.args.taking.now c.loop-i.taking c.section_at.new.taking before.wide c.section_at.ensures.wide;
    }

pub returns-in_err-section-clause-need : goal.returns-in_err-section-clause-need
returns-in_err-section-clause-need c = λ sections size stands room.
    let cache = c.args.source.now.counted.now in
    let before = c.loop-i.invariant.reads in
    let n = next_section cache c.args.first c.loop-i.i (c.from.result + 16 * c.from-in-loop-i.result)
    before.plain sections (length-read _ _ _ _ _ _ before ∙ c.loop-i.invariant.count)
    (omega (arith, size, c.loop-i-test.true)) (omega (arith, c.from.ensures, c.from-in-loop-i.ensures)) before.stand stands in
    let r = next_room before.plain n.more sections n.section n.whole in
    let left : HasSectionRoom c.loop-i.taking (n.section ∷ []) = record {
      records = omega (arith, room.records, before.taken.records, r.0, r.1);
      value_bytes = omega (arith, room.value_bytes, before.taken.value_bytes, r.2);
    } in
    let p = err_from_is_err_and c.from_residual.result c.from_residual.ensures.1 in
    rw (p.1, p.2) (c.in_err-section.ensures.need n.section n.stands left)
