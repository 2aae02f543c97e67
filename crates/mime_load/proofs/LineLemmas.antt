-- Lines that stand in a cache.
use Rattle.std.proofs.Common.{◌≡◌, ℕ, true, List, [], ◌∷◌, length, get_or}
use Rattle.std.proofs.Common.{refl, subst}
use Rattle.std.proofs.lemmas.Bool.{and_from}
use Rattle.mime_base.specs.Cache.Bytes.{Stands, fields}
use Rattle.mime_base.specs.Format.Magic.{MaskAt}
use Rattle.mime_base.specs.Format.Records.{CardsAt}
use Rattle.mime_base.specs.Magic.{PlainLine, fits_mask, is_allowed}
use Rattle.mime_load.specs.MagicStanding.{LineStands, is_spellable}

-- a record of eight numbers is its numbers
eight : (c : List ℕ) (at : ℕ) (r : List ℕ) → r ≡ fields c at 8
    → r ≡ get_or r 0 0 ∷ get_or r 1 0 ∷ get_or r 2 0 ∷ get_or r 3 0 ∷ get_or r 4 0 ∷ get_or r 5 0 ∷ get_or r 6 0 ∷ get_or r 7 0 ∷ []
eight c at r is = rw is refl

-- a record of four numbers is its numbers
pub four : (c : List ℕ) (at : ℕ) (r : List ℕ) → r ≡ fields c at 4
    → r ≡ get_or r 0 0 ∷ get_or r 1 0 ∷ get_or r 2 0 ∷ get_or r 3 0 ∷ []
four c at r is = rw is refl

-- a record of three numbers is its numbers
pub three : (c : List ℕ) (at : ℕ) (r : List ℕ) → r ≡ fields c at 3 → r ≡ get_or r 0 0 ∷ get_or r 1 0 ∷ get_or r 2 0 ∷ []
three c at r is = rw is refl

-- what can be spelled is allowed with a mask that fits
allowed_own : (own : PlainLine) (size : ℕ) → length own.value ≡ size → is_spellable own.start own.range own.word size ≡ true
    → fits_mask own.mask size ≡ true → is_allowed own ≡ true
allowed_own own size is spell fits =
    and_from (is_spellable own.start own.range own.word (length own.value)) (fits_mask own.mask (length own.value))
    (rw is spell) (rw is fits)

-- the numbers that were read are those of the line
pub own_stands : (c : List ℕ) (at : ℕ) (r : List ℕ) (own : PlainLine) (count first : ℕ) → r ≡ fields c at 8
    → CardsAt (Stands c) at r → own.start ≡ get_or r 0 0 → own.range ≡ get_or r 1 0 → own.word ≡ get_or r 2 0
    → length own.value ≡ get_or r 3 0 → count ≡ get_or r 6 0 → first ≡ get_or r 7 0
    → Stands c (get_or r 4 0) own.value → MaskAt (Stands c) (get_or r 5 0) own.mask
    → fits_mask own.mask (get_or r 3 0) ≡ true
    → is_spellable (get_or r 0 0) (get_or r 1 0) (get_or r 2 0) (get_or r 3 0) ≡ true
    → LineStands c at own count first
own_stands c at r own count first is stand es er ew ez en ef sv sm fm spell = record {
  value = get_or r 4 0;
  mask = get_or r 5 0;
  numbers = rw (es, er, ew, ez, en, ef) (subst (CardsAt (Stands c) at) (eight c at r is) stand);
  value_stands = sv;
  mask_stands = sm;
  allowed = allowed_own own (get_or r 3 0) ez (rw (es, er, ew) spell) fm;
}
