-- A section that stands is read, and so is the head of a magic list.
use Rattle.std.proofs.Common.{◌≡◌, ℕ, ◌+◌, ◌≤◌, List, [], ◌∷◌, length, get_or}
use Rattle.std.proofs.Common.{Ok, refl, ap, ◌∙◌, sym, arith}
use Rattle.mime_base.specs.Cache.Bytes.{fields}
use Rattle.mime_base.specs.Cache.Texts.{text_at}
use Rattle.mime_base.specs.Format.Magic.{width}
use Rattle.mime_base.specs.Magic.Extent.{sections_extent}
use Rattle.mime_base.specs.Magic.{Forest, PlainSection}
use Rattle.mime_base.proofs.CacheLemmas.Numbers.{fields-standing}
use Rattle.mime_base.proofs.CacheLemmas.TextsStand.{text_at-standing}
use Rattle.mime_load.specs.MagicStanding.{ForestStands, MagicStands, SectionStands, SectionsStand}
use Rattle.mime_load.proofs.SameLemmas.{numbers_inside, same_lines}

-- What is read of a section that stands.
pub record ReadsSection (c r : List ℕ) (section : PlainSection) : Type 0 where
  pub text : text_at c (get_or r 1 0) ≡ Ok section.kind
  pub count : width section.lines ≡ get_or r 2 0
  pub lines : ForestStands c (get_or r 3 0) 64 section.lines
  pub priority : section.priority ≡ get_or r 0 0

-- the numbers of a section that stands
section_numbers : (c : List ℕ) (at : ℕ) (section : PlainSection) (h : SectionStands c at section) → fields c at 4 ≡ h.numbers
section_numbers c at section h =
    let size : 4 ≡ length h.numbers = sym (ap (λ (ns : List ℕ). length ns) h.is.2) in
    ap (fields c at) size ∙ fields-standing c at h.numbers h.stand.small h.stand.stand

-- a section that stands is read
pub section_read : (c : List ℕ) (at : ℕ) (r : List ℕ) (section : PlainSection) → r ≡ fields c at 4 → SectionStands c at section
    → ReadsSection c r section
section_read c at r section is h =
    let e : r ≡ section.priority ∷ h.is.0 ∷ width section.lines ∷ h.is.1 ∷ [] = is ∙ section_numbers c at section h ∙ h.is.2 in
    rw e (record {
      text = text_at-standing c h.is.0 section.kind h.is.3.is_text h.is.3.stand;
      count = refl;
      lines = record { stand = h.is.4; allowed = h.allowed };
      priority = refl;
    })

-- the record of a section lies in the cache
pub section_inside : (c : List ℕ) (at : ℕ) (section : PlainSection) → SectionStands c at section → at + 16 ≤ length c
section_inside c at section h =
    omega (arith, numbers_inside c at h.numbers h.stand, ap (λ (ns : List ℕ). length ns) h.is.2)

-- sections whose parts are the same
same_section_parts : (a b : PlainSection) → a.priority ≡ b.priority → a.kind ≡ b.kind → a.lines ≡ b.lines → a ≡ b
same_section_parts a b ep ek el =
    let from : ℕ → List ℕ → Forest → PlainSection = λ (p : ℕ) (k : List ℕ) (l : Forest). record { priority = p; kind = k; lines = l } in
    let h : from a.priority a.kind a.lines ≡ from b.priority b.kind b.lines = rw (ep, ek, el) refl in h

-- a section is determined by the bytes
pub same_section : (c : List ℕ) (at : ℕ) (a b : PlainSection) → SectionStands c at a → SectionStands c at b → a ≡ b
same_section c at a b one other =
    let x = section_read c at (fields c at 4) a refl one in
    let y = section_read c at (fields c at 4) b refl other in
    let kinds : a.kind ≡ b.kind = cc (x.text, y.text) in
    same_section_parts a b (x.priority ∙ sym y.priority) kinds
    (same_lines c (get_or (fields c at 4) 3 0) 64 a.lines b.lines (x.count ∙ sym y.count) x.lines y.lines)

-- What is read of the head of sections that stand.
pub record ReadsHead (c r : List ℕ) (sections : List PlainSection) : Type 0 where
  pub size : length sections ≡ get_or r 0 0
  pub extent : sections_extent sections ≡ get_or r 1 0
  pub stand : SectionsStand c (get_or r 2 0) sections

-- the head is read
pub head_read : (c : List ℕ) (at : ℕ) (r : List ℕ) (sections : List PlainSection) → r ≡ fields c at 3 → MagicStands c at sections
    → ReadsHead c r sections
head_read c at r sections is h =
    let ns = length sections ∷ sections_extent sections ∷ h.list.first ∷ [] in
    let e : r ≡ length sections ∷ sections_extent sections ∷ h.list.first ∷ [] =
    is ∙ fields-standing c at (length sections ∷ sections_extent sections ∷ h.list.first ∷ []) h.list.head.small h.list.head.stand in
    rw e (record {
      size = refl;
      extent = refl;
      stand = record { stand = h.list.stand; allowed = h.allowed };
    })

-- it lies in the cache
pub head_inside : (c : List ℕ) (at : ℕ) (sections : List PlainSection) → MagicStands c at sections → at + 12 ≤ length c
head_inside c at sections h = numbers_inside c at (length sections ∷ sections_extent sections ∷ h.list.first ∷ []) h.list.head
