use Rattle.std.proofs.Common.{arith, ◌∙◌}
use Rattle.mime_store.proofs.MagicLemmas.Lines.{room-lines}
use Rattle.mime_store.proofs.MagicLemmas.Sections.{section_row}
use Rattle.mime_store.proofs.magic.SectionEntry4.write.Goals as goal

pub overflow_cast-result : goal.overflow_cast-result
overflow_cast-result c =
    omega (arith, c.requires.fits, c.len.ensures, c.args.self.now.lines.ok.0, room-lines c.args.self.now.lines.items)

pub returns-clause-row : goal.returns-clause-row
returns-clause-row c =
    section_row c.append_text.new.out.items _ c.args.self.now _ _ _ _
    (c.len.ensures ∙ c.args.self.now.lines.ok.0) (rw c.bytes.ensures.text at c.in_ok-kind.ensures.stands)
    (rw c.deref.ensures.value at c.in_ok-first.ensures.grew) (rw c.deref.ensures.value at c.in_ok-first.ensures.stand)
