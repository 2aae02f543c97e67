-- Sections that stand are determined by the bytes, one after another.
use Rattle.std.proofs.Common.{◌≡◌, ℕ, ◌+◌, ◌*◌, ◌<◌, ◌≤◌, true, List, [], ◌∷◌, ◌++◌, length, get_or}
use Rattle.std.proofs.Common.{refl, ap, ◌∙◌, sym, subst, arith, append-nil, length-append}
use Rattle.std.proofs.lemmas.Bool.{and_parts}
use Rattle.std.proofs.lemmas.List.Sums.{sum_by-append, sum_by-cons}
use Rattle.mime_base.specs.Cache.Bytes.{Stands, fields}
use Rattle.mime_base.specs.Format.Magic.{IsSectionRecord, line_count}
use Rattle.mime_base.specs.Format.Packed.{forest_value_length, matchlet_count, value_length}
use Rattle.mime_base.specs.Format.Records.{RecordsAt}
use Rattle.mime_base.specs.Magic.{PlainSection, are_allowed, are_allowed_sections}
use Rattle.mime_load.specs.MagicStanding.{MagicStands, SectionStands, SectionsStand}
use Rattle.mime_load.proofs.SectionsRead.{head_read, same_section}

-- Those of the sections that stand behind those that were read.
pub record Behind (c : List ℕ) (at : ℕ) (before all : List PlainSection) : Type 0 where
  pub more : List PlainSection
  pub whole : all ≡ before ++ more
  pub stand : RecordsAt (Stands c) 16 (IsSectionRecord (Stands c)) (at + 16 * length before) more
  pub allowed : are_allowed_sections more ≡ true

-- What stands first of sections, and behind it.
first_of : (c : List ℕ) (at : ℕ) (s : PlainSection) (ss : List PlainSection)
    → RecordsAt (Stands c) 16 (IsSectionRecord (Stands c)) at (s ∷ ss) → are_allowed_sections (s ∷ ss) ≡ true
    → SectionStands c at s
first_of c at s ss h allowed = record {
  numbers = h.0;
  stand = h.1;
  is = h.2;
  allowed = (and_parts (are_allowed 64 s.lines) (are_allowed_sections ss) allowed).0;
}

-- they begin with those that were read
behind : (c : List ℕ) (at : ℕ) (xs ys : List PlainSection) → length xs ≤ length ys
    → RecordsAt (Stands c) 16 (IsSectionRecord (Stands c)) at xs → are_allowed_sections xs ≡ true
    → RecordsAt (Stands c) 16 (IsSectionRecord (Stands c)) at ys → are_allowed_sections ys ≡ true
    → Behind c at xs ys
behind c at [] ys short hx ax hy ay = record {
  more = ys;
  whole = refl;
  stand = subst (λ (a : ℕ). RecordsAt (Stands c) 16 (IsSectionRecord (Stands c)) a ys) (omega arith) hy;
  allowed = ay;
}
behind c at (x ∷ xs) [] short hx ax hy ay = absurd (omega arith)
behind c at (x ∷ xs) (y ∷ ys) short hx ax hy ay =
    let same = same_section c at x y (first_of c at x xs hx ax) (first_of c at y ys hy ay) in
    let rest = behind c (at + 16) xs ys (omega arith) hx.3 (and_parts (are_allowed 64 x.lines) (are_allowed_sections xs) ax).1
    hy.3 (and_parts (are_allowed 64 y.lines) (are_allowed_sections ys) ay).1 in
    record {
      more = rest.more;
      whole = ap (λ (s : PlainSection). s ∷ ys) (sym same) ∙ ap (λ (ss : List PlainSection). x ∷ ss) rest.whole;
      stand = subst (λ (a : ℕ). RecordsAt (Stands c) 16 (IsSectionRecord (Stands c)) a rest.more) (omega arith) rest.stand;
      allowed = rest.allowed;
    }

-- as many sections at one offset are the same
pub same_sections : (c : List ℕ) (at : ℕ) (xs ys : List PlainSection) → length xs ≡ length ys → SectionsStand c at xs → SectionsStand c at ys
    → xs ≡ ys
same_sections c at xs ys size one other =
    let b = behind c at xs ys (omega arith) one.stand one.allowed other.stand other.allowed in
    ended b.more b.whole
  where
    ended : (more : List PlainSection) → ys ≡ xs ++ more → xs ≡ ys
    ended [] whole = sym (whole ∙ append-nil xs)
    ended (m ∷ more) whole = absurd (omega (arith, size, ap (λ (ss : List PlainSection). length ss) whole, length-append xs (m ∷ more)))

-- The next section of those that stand.
pub record NextSection (c : List ℕ) (there : ℕ) (before all : List PlainSection) : Type 0 where
  pub section : PlainSection
  pub more : List PlainSection
  pub whole : all ≡ before ++ section ∷ more
  pub stands : SectionStands c there section

-- there is a next one
pub next_section : (c : List ℕ) (at i there : ℕ) (xs ys : List PlainSection) → length xs ≡ i → i < length ys → there ≡ at + 16 * i
    → SectionsStand c at xs → SectionsStand c at ys → NextSection c there xs ys
next_section c at i there xs ys size within place one other =
    let b = behind c at xs ys (omega arith) one.stand one.allowed other.stand other.allowed in
    next b.more b.whole b.stand b.allowed
  where
    next : (more : List PlainSection) → ys ≡ xs ++ more → RecordsAt (Stands c) 16 (IsSectionRecord (Stands c)) (at + 16 * length xs) more
        → are_allowed_sections more ≡ true → NextSection c there xs ys
    next [] whole stand allowed =
        absurd (omega (arith, size, within, ap (λ (ss : List PlainSection). length ss) whole, ap (λ (ss : List PlainSection). length ss) (append-nil xs)))
    next (m ∷ more) whole stand allowed =
        let here : at + 16 * length xs ≡ there = omega (arith, size, place) in
        record {
          section = m;
          more = more;
          whole = whole;
          stands = subst (λ (a : ℕ). SectionStands c a m) here (first_of c (at + 16 * length xs) m more stand allowed);
        }

-- there is room for the next one
pub next_room : (xs more ys : List PlainSection) (s : PlainSection) → ys ≡ xs ++ s ∷ more
    → (length xs + 1 ≤ length ys) × (matchlet_count xs + line_count s.lines ≤ matchlet_count ys)
    × (value_length xs + forest_value_length s.lines ≤ value_length ys)
next_room xs more ys s whole =
    let size = ap (λ (ss : List PlainSection). length ss) whole in
    let lines = ap (λ (ss : List PlainSection). matchlet_count ss) whole in
    let values = ap (λ (ss : List PlainSection). value_length ss) whole in (
      omega (arith, size, length-append xs (s ∷ more)),
      omega (
        arith,
        lines,
        sum_by-append (λ (t : PlainSection). line_count t.lines) xs (s ∷ more),
        sum_by-cons (λ (t : PlainSection). line_count t.lines) s more,
      ),
      omega (
        arith,
        values,
        sum_by-append (λ (t : PlainSection). forest_value_length t.lines) xs (s ∷ more),
        sum_by-cons (λ (t : PlainSection). forest_value_length t.lines) s more,
      ),
    )

-- the sections of the magic list are determined by the bytes
pub same_magic : (c : List ℕ) (at : ℕ) (xs ys : List PlainSection) → MagicStands c at xs → MagicStands c at ys → xs ≡ ys
same_magic c at xs ys one other =
    let a = head_read c at (fields c at 3) xs refl one in
    let b = head_read c at (fields c at 3) ys refl other in
    same_sections c (get_or (fields c at 3) 2 0) xs ys (a.size ∙ sym b.size) a.stand b.stand
