-- Sections that stand in a cache.
use Rattle.std.proofs.Common.{◌≡◌, ℕ, ◌+◌, ◌*◌, true, List, [], ◌∷◌, ◌++◌, length, get_or}
use Rattle.std.proofs.Common.{Ok, refl, ◌∙◌, sym, subst, arith}
use Rattle.std.proofs.lemmas.Bool.{and_from, and_parts}
use Rattle.mime_base.specs.Cache.Bytes.{Stands, fields}
use Rattle.mime_base.specs.Cache.Texts.{text_at}
use Rattle.mime_base.specs.Format.Magic.{IsSectionRecord, width}
use Rattle.mime_base.specs.Format.Records.{CardsAt, RecordsAt, Standing}
use Rattle.mime_base.specs.Magic.Extent.{sections_extent}
use Rattle.mime_base.specs.Magic.{Forest, PlainSection, are_allowed, are_allowed_sections}
use Rattle.mime_base.proofs.CacheLemmas.TextsStand.{text_at-read}
use Rattle.mime_load.specs.MagicStanding.{ForestStands, MagicStands, SectionStands, SectionsStand}
use Rattle.mime_load.proofs.LineLemmas.{four, three}

-- the numbers that were read are those of the section
pub section_stands : (c : List ℕ) (at : ℕ) (r : List ℕ) (priority : ℕ) (kind : List ℕ) (lines : Forest) → r ≡ fields c at 4
    → CardsAt (Stands c) at r → priority ≡ get_or r 0 0 → text_at c (get_or r 1 0) ≡ Ok kind
    → width lines ≡ get_or r 2 0 → ForestStands c (get_or r 3 0) 64 lines
    → SectionStands c at (record { priority = priority; kind = kind; lines = lines })
section_stands c at r priority kind lines is stand ep text en them =
    let wide : get_or r 2 0 ≡ width lines = sym en in
    let t = text_at-read c (get_or r 1 0) kind text in
    record {
      numbers = r;
      stand = stand;
      is = (
        get_or r 1 0,
        get_or r 3 0,
        four c at r is ∙ rw (ep, ← wide) refl,
        record { is_text = t.0; stand = t.1 },
        them.stand,
      );
      allowed = them.allowed;
    }

-- a record that stands behind others comes to them
records_then : {X : Type 0} (S : Standing) (size : ℕ) (Is : X → List ℕ → Type 0) (at : ℕ) (xs : List X) (y : X) (numbers : List ℕ)
    → RecordsAt S size Is at xs → CardsAt S (at + size * length xs) numbers → Is y numbers → RecordsAt S size Is at (xs ++ y ∷ [])
records_then S size Is at [] y numbers h here is = (numbers, subst (λ (a : ℕ). CardsAt S a numbers) (omega arith) here, is, tt)
records_then S size Is at (x ∷ xs) y numbers h here is = (
  h.0,
  h.1,
  h.2,
  records_then S size Is (at + size) xs y numbers h.3 (subst (λ (a : ℕ). CardsAt S a numbers) (omega arith) here) is,
)

-- one more section that is allowed
allowed_more : (xs : List PlainSection) (y : PlainSection) → are_allowed_sections xs ≡ true → are_allowed 64 y.lines ≡ true
    → are_allowed_sections (xs ++ y ∷ []) ≡ true
allowed_more [] y all one = and_from (are_allowed 64 y.lines) true one refl
allowed_more (x ∷ xs) y all one =
    let parts = and_parts (are_allowed 64 x.lines) (are_allowed_sections xs) all in
    and_from (are_allowed 64 x.lines) (are_allowed_sections (xs ++ y ∷ [])) parts.0 (allowed_more xs y parts.1 one)

-- no sections stand anywhere
pub no_sections : (c : List ℕ) (at : ℕ) → SectionsStand c at []
no_sections c at = record { stand = tt; allowed = refl }

-- one more section
pub sections_more : (c : List ℕ) (first i at : ℕ) (xs : List PlainSection) (s : PlainSection) → SectionsStand c first xs
    → length xs ≡ i → at ≡ first + 16 * i → SectionStands c at s → SectionsStand c first (xs ++ s ∷ [])
sections_more c first i at xs s before size place one =
    let there : at ≡ first + 16 * length xs = omega (arith, size, place) in
    record {
      stand =
          records_then (Stands c) 16 (IsSectionRecord (Stands c)) first xs s one.numbers before.stand
          (subst (λ (a : ℕ). CardsAt (Stands c) a one.numbers) there one.stand) one.is;
      allowed = allowed_more xs s before.allowed one.allowed;
    }

-- the numbers that were read are those of the list
pub magic_stands : (c : List ℕ) (at : ℕ) (r : List ℕ) (sections : List PlainSection) → r ≡ fields c at 3 → CardsAt (Stands c) at r
    → length sections ≡ get_or r 0 0 → sections_extent sections ≡ get_or r 1 0
    → SectionsStand c (get_or r 2 0) sections → MagicStands c at sections
magic_stands c at r sections is stand many extent them = record {
  list = record {
    first = get_or r 2 0;
    head = rw (many, extent) (subst (CardsAt (Stands c) at) (three c at r is) stand);
    stand = them.stand;
  };
  allowed = them.allowed;
}
