use Rattle.mime_text.specs.Magic.Entries.{plain_flat_sections}
use Rattle.mime_text.proofs.MagicLemmas.SectionsFound.{whole_found}
use Rattle.mime_text.proofs.MagicLemmas.AllowedLines.{bytes_are}
use Rattle.mime_text.proofs.MagicLemmas.AllowedSections.{text_allowed}
use Rattle.mime_text.proofs.magic.read.file.Goals as goal

pub invariant_of-result : goal.invariant_of-result
invariant_of-result c =
    let flat_sections = plain_flat_sections c.in_ok-flat_sections.flat_sections.items in
    let spelled = whole_found c.args.text.now flat_sections c.in_ok-flat_sections.ensures in
    record {
      allowed =
          rw c.in_ok-sections.ensures (text_allowed c.args.text.now flat_sections (bytes_are c.args.text.now c.type_inv.text) spelled);
    }
