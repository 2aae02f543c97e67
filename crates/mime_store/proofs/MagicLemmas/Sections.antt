-- Sections of magic, and the magic list.
use Rattle.std.proofs.Common.{◌≡◌, ℕ, List, [], ◌∷◌, length}
use Rattle.std.proofs.Common.{refl}
use Rattle.std.proofs.lemmas.List.{length-map}
use Rattle.mime_base.specs.Format.Magic.{IsSectionRecord, LinesAt, MagicAt}
use Rattle.mime_base.specs.Format.Records.{CardsAt, RecordsAt, TextAt}
use Rattle.mime_base.specs.Magic.Extent.{sections_extent}
use Rattle.mime_base.specs.Magic.{forest_of, plain_matchlets, plain_section, plain_sections}
use Rattle.mime_base.specs.declared.magic.Section.{Section}
use Rattle.mime_store.specs.Lists.{IsRow}
use Rattle.mime_store.specs.Written.{Grew, Written}
use Rattle.mime_store.proofs.ListLemmas.Entries.{records_carry, text_carry}
use Rattle.mime_store.proofs.ListLemmas.Gather.{row_is}
use Rattle.mime_store.proofs.BytesLemmas.Written.{written_more}
use Rattle.mime_store.proofs.MagicLemmas.Lines.{section_keeps, width-lines}

-- the row of a section, whose type and lines were written one after another
pub section_row : (mid new : List ℕ) (section : Section) (kind first n size : ℕ) → n ≡ length section.lines.items
    → TextAt (Written mid) kind section.kind → Grew mid new size
    → LinesAt (Written new) first (forest_of (plain_matchlets section.lines.items))
    → IsRow IsSectionRecord 4 new (plain_section section) (section.priority ∷ kind ∷ n ∷ first ∷ [])
section_row mid new section kind first n size en w g lines =
    row_is IsSectionRecord section_keeps 4 new (plain_section section) (section.priority ∷ kind ∷ n ∷ first ∷ []) refl (
      kind,
      first,
      rw (en, width-lines section.lines.items) refl,
      text_carry (Written mid) (Written new) (written_more mid new size g) kind section.kind w,
      lines,
    )

-- the magic list, whose head was written last
pub magic_stands : (mid new : List ℕ) (sections : List Section) (first n e at size : ℕ)
    → RecordsAt (Written mid) 16 (IsSectionRecord (Written mid)) first (plain_sections sections) → Grew mid new size
    → n ≡ length sections → e ≡ sections_extent (plain_sections sections)
    → CardsAt (Written new) at (n ∷ e ∷ first ∷ []) → MagicAt (Written new) at (plain_sections sections)
magic_stands mid new sections first n e at size records g en ee head = record {
  first = first;
  head = rw (length-map sections plain_section, ← en, ← ee) head;
  stand = records_carry IsSectionRecord section_keeps (Written mid) (Written new) (written_more mid new size g) 16 first
      (plain_sections sections) records;
}
