-- A magic list that stands in a cache, of lines that are allowed, is read as its sections.
use Rattle.std.proofs.Common.{◌≡◌, ℕ, zero, suc, ◌+◌, ◌*◌, ◌<◌, ◌≤◌, true, true≢false, List, [], ◌∷◌}
use Rattle.std.proofs.Common.{length, get_or, sym, ap, subst, ◌∙◌, arith, inl, inr}
use Rattle.std.proofs.lemmas.Bool.{cases_lt}
use Rattle.std.specs.Prelude.{nat_lt}
use Rattle.mime_base.specs.Cache.Bytes.{Stands, field, fields}
use Rattle.mime_base.specs.Format.Header.{HeaderAt, Offsets}
use Rattle.mime_base.specs.Format.Magic.{IsSectionRecord, LinesAt, MagicAt, line_numbers, width}
use Rattle.mime_base.specs.Format.Records.{CardsAt, RecordsAt}
use Rattle.mime_base.specs.Magic.{Forest, PlainLine, PlainSection, are_allowed, are_allowed_sections}
use Rattle.mime_base.specs.Magic.{bare, fits_mask, fits_word, is_allowed, line}
use Rattle.mime_base.proofs.CacheLemmas.Standing.{value_at-standing}
use Rattle.mime_view.specs.Magic.{ReadsLines, ReadsMagic, ReadsSection, ReadsSections}
use Rattle.mime_view.proofs.ListLemmas.Headers.{magic_read}
use Rattle.mime_view.proofs.HitsLemmas.AllOf.{both_left, both_right, first_of, last, second, third}
use Rattle.mime_view.proofs.MagicLemmas.StandingValues.{both_standing, mask_standing}
use Rattle.mime_view.proofs.ListLemmas.Records.{numbers_read, record_inside, records_inside, text_read}

-- lines lie in the cache
lines_inside : (c : List ℕ) (at : ℕ) (lines : Forest) → LinesAt (Stands c) at lines → 0 < width lines → at + 32 * width lines ≤ length c
lines_inside c at bare stand some = absurd (omega arith)
lines_inside c at (line own children rest) (value, mask, first, here, is, bits, below, later) some =
    let inside : at + 4 * 8 ≤ length c = record_inside c at (line_numbers own value mask (width children) first) here in
    elim (cases_lt 0 (width rest)) [
      | inl more ↦ let rest_inside = lines_inside c (at + 32) rest later more in (omega arith)
      | inr none ↦ (omega arith)
    ]

-- a line that is allowed has a mask of its value's length
mask_fits : (own : PlainLine) → is_allowed own ≡ true → fits_mask own.mask (length own.value) ≡ true
mask_fits own allowed =
    last (nat_lt (own.start + own.range + length own.value) 4294967296) (nat_lt (length own.value) 65536)
    (fits_word own.word (length own.value)) (fits_mask own.mask (length own.value)) allowed

-- lines that stand are read
lines_read : (c : List ℕ) (at levels : ℕ) (lines : Forest) → are_allowed levels lines ≡ true
    → LinesAt (Stands c) at lines → ReadsLines c at lines
lines_read c at levels bare allowed stand = stand
lines_read c at zero (line own children rest) allowed stand = absurd (true≢false (sym allowed))
lines_read c at (suc levels) (line own children rest) allowed (value, mask, first, here, is, bits, below, later) =
    let numbers = numbers_read c at (line_numbers own value mask (width children) first) here in
    let number : (i : ℕ) → get_or (fields c at 8) i 0 ≡ get_or (line_numbers own value mask (width children) first) i 0 =
    λ i. ap (λ (ns : List ℕ). get_or ns i 0) numbers in
    let fits = mask_fits own (first_of (is_allowed own) (are_allowed levels children) (are_allowed (suc levels) rest) allowed) in
    let inner = second (is_allowed own) (are_allowed levels children) (are_allowed (suc levels) rest) allowed in
    let outer = third (is_allowed own) (are_allowed levels children) (are_allowed (suc levels) rest) allowed in
    let at_value : field c at 4 ≡ value = number 4 in
    let at_mask : field c at 5 ≡ mask = number 5 in
    let count : field c at 6 ≡ width children = number 6 in
    let at_first : field c at 7 ≡ first = number 7 in (
      record {
        start = number 0;
        range = number 1;
        word = number 2;
        size = number 3;
        lies = rw (at_value, at_mask) (both_standing c value mask own.value own.mask is bits fits);
        value = rw at_value (value_at-standing c value own.value is);
        mask = rw at_mask (mask_standing c mask own.mask (length own.value) bits fits);
      },
      count,
      rw at_first (record { inside = λ some. lines_inside c first children below some }),
      rw at_first (lines_read c first levels children inner below),
      lines_read c (at + 32) (suc levels) rest outer later,
    )

-- a section that stands is read with its lines
section_read : (c : List ℕ) (at levels : ℕ) (section : PlainSection) (numbers : List ℕ) → are_allowed levels section.lines ≡ true
    → CardsAt (Stands c) at numbers → IsSectionRecord (Stands c) section numbers → ReadsSection c at section
section_read c at levels section numbers allowed here (kind, first, are, text, lines) =
    let read = numbers_read c at (section.priority ∷ kind ∷ width section.lines ∷ first ∷ []) (rw are at here) in
    let number : (i : ℕ) → get_or (fields c at 4) i 0 ≡ get_or (section.priority ∷ kind ∷ width section.lines ∷ first ∷ []) i 0 =
    λ i. ap (λ (ns : List ℕ). get_or ns i 0) read in
    let at_kind : field c at 1 ≡ kind = number 1 in
    let at_first : field c at 3 ≡ first = number 3 in
    record {
      priority = number 0;
      kind = rw at_kind (text_read c kind section.kind text);
      count = number 2;
      block = rw at_first (record { inside = λ some. lines_inside c first section.lines lines some });
      lines = rw at_first (lines_read c first levels section.lines allowed lines);
    }

-- and so are sections that stand side by side
sections_read : (c : List ℕ) (at : ℕ) (sections : List PlainSection) → are_allowed_sections sections ≡ true
    → RecordsAt (Stands c) 16 (IsSectionRecord (Stands c)) at sections → ReadsSections c at sections
sections_read c at [] allowed stand = stand
sections_read c at (section ∷ sections) allowed (numbers, here, is, rest) = (
  section_read c at 64 section numbers (both_left (are_allowed 64 section.lines) (are_allowed_sections sections) allowed) here is,
  sections_read c (at + 16) sections (both_right (are_allowed 64 section.lines) (are_allowed_sections sections) allowed) rest,
)

-- the numbers of a section take 16 bytes
section_size : (c : List ℕ) (section : PlainSection) (numbers : List ℕ) → IsSectionRecord (Stands c) section numbers → 4 * length numbers ≡ 16
section_size c section numbers (kind, first, are, text, lines) = ap (λ (ns : List ℕ). 4 * length ns) are

-- sections lie in the cache
sections_inside : (c : List ℕ) (at : ℕ) (sections : List PlainSection) → RecordsAt (Stands c) 16 (IsSectionRecord (Stands c)) at sections
    → 0 < length sections → at + 16 * length sections ≤ length c
sections_inside c at [] stand some = absurd (omega arith)
sections_inside c at (section ∷ sections) (numbers, here, is, rest) some =
    let inside = record_inside c at numbers here in
    records_inside c 16 (IsSectionRecord (Stands c)) at (section ∷ sections) (section_size c) (omega arith) (numbers, here, is, rest)

-- a list that stands is read as its sections
magic_reads : (c : List ℕ) (at : ℕ) (sections : List PlainSection) → are_allowed_sections sections ≡ true → MagicAt (Stands c) at sections
    → ReadsMagic c at sections
magic_reads c at sections allowed stand =
    let read = numbers_read c at _ stand.head in
    let inside : at + 4 * 3 ≤ length c = record_inside c at _ stand.head in
    let at_first : field c at 2 ≡ stand.first = ap (λ (ns : List ℕ). get_or ns 2 0) read in
    record {
      head = omega arith;
      count = ap (λ (ns : List ℕ). get_or ns 0 0) read;
      block = rw at_first (record { inside = λ some. sections_inside c stand.first sections stand.stand some });
      sections_read = rw at_first (sections_read c stand.first sections allowed stand.stand);
    }

-- the same by the number of the header that names the list, on bytes that are the cache's
pub magic_named : (c d : List ℕ) (at : ℕ) (offsets : Offsets) (sections : List PlainSection) → d ≡ c → at ≡ field d 0 6
    → HeaderAt (Stands c) offsets → are_allowed_sections sections ≡ true → MagicAt (Stands c) offsets.magic sections
    → ReadsMagic d at sections
magic_named c d at offsets sections same number header allowed stand =
    let here : at ≡ offsets.magic = number ∙ ap (λ (bytes : List ℕ). field bytes 0 6) same ∙ magic_read c offsets header in
    let reads = subst (λ (n : ℕ). ReadsMagic c n sections) (sym here) (magic_reads c offsets.magic sections allowed stand) in
    subst (λ (bytes : List ℕ). ReadsMagic bytes at sections) (sym same) reads
