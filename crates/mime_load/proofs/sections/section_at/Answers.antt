use Rattle.std.proofs.Common.{◌≡◌, ℕ, ◌-◌, length, get_or, ◌∙◌, ap, sym, refl, ⊎_elim, arith}
use Rattle.std.proofs.lemmas.Result.{err_from_is_err_and}
use Rattle.mime_base.specs.Cache.Texts.{text_at}
use Rattle.mime_load.proofs.AddedLines.{length-added}
use Rattle.mime_load.proofs.AddedSections.{adds_section}
use Rattle.mime_load.proofs.SectionsRead.{section_inside, section_read}
use Rattle.mime_load.proofs.sections.section_at.Goals as goal

pub overflow_sub-result : goal.overflow_sub-result
overflow_sub-result c =
    let more = length-added _ _ _ _ _ _ _ _ c.in_ok-push_lines.ensures.adds in
    omega (arith, more, c.len-before.ensures, c.len.ensures, c.args.lines.now.ok.0, c.push_lines.new.lines.ok.0)

pub returns-clause-adds : goal.returns-clause-adds
returns-clause-adds c =
    let cache = c.args.source.now.counted.now in
    let size : c.len.result - c.len-before.result ≡ length c.push_lines.new.lines.items - length c.args.lines.now.items =
    omega (arith, c.len-before.ensures, c.len.ensures, c.args.lines.now.ok.0, c.push_lines.new.lines.ok.0) in
    adds_section cache c.args.at c.in_ok-priority.field-0 _ _ _ c.args.lines.now.items c.push_lines.new.lines.items
    c.args.taking.now _ c.push_lines.new.taking c.in_ok-priority.ensures.numbers c.in_ok-priority.ensures.stand refl
    (ap (text_at cache) (sym c.from.ensures) ∙ c.in_ok-kind.ensures.text) (ap (λ (n : ℕ). (get_or c.in_ok-priority.field-0 0 0, c.in_ok-kind.kind.now, n)) size)
    c.in_ok-priority.ensures.taken c.in_ok-priority.ensures.visits.value_bytes c.in_ok-push_lines.ensures.adds

pub returns-in_err-priority-clause-need : goal.returns-in_err-priority-clause-need
returns-in_err-priority-clause-need c = λ section stands room.
    let inside = section_inside c.args.source.now.counted.now c.args.at section stands in
    absurd (⊎_elim (λ few. absurd (omega (arith, room.records))) (λ out. absurd (omega arith)) c.in_err-priority.ensures.fault)

pub returns-in_err-kind-clause-need : goal.returns-in_err-kind-clause-need
returns-in_err-kind-clause-need c = λ section stands room.
    let cache = c.args.source.now.counted.now in
    let read = section_read cache c.args.at c.in_ok-priority.field-0 section c.in_ok-priority.ensures.numbers stands in
    absurd (cc (read.text, c.in_err-kind.ensures.text))

pub returns-in_err-push_lines-clause-need : goal.returns-in_err-push_lines-clause-need
returns-in_err-push_lines-clause-need c = λ section stands room.
    let cache = c.args.source.now.counted.now in
    let read = section_read cache c.args.at c.in_ok-priority.field-0 section c.in_ok-priority.ensures.numbers stands in
    let taken = c.in_ok-priority.ensures.taken in
    let bytes = c.in_ok-priority.ensures.visits.value_bytes in
    let p = err_from_is_err_and c.from_residual-in_err-push_lines.result c.from_residual-in_err-push_lines.ensures.1 in
    rw (p.1, p.2) (c.in_err-push_lines.ensures.need section.lines read.count read.lines (record {
      records = omega (arith, room.records, taken);
      value_bytes = omega (arith, room.value_bytes, bytes);
    }))
