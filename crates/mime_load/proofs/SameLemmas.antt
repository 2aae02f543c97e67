-- What stands at an offset is determined by the bytes.
use Rattle.std.proofs.Common.{◌≡◌, ℕ, zero, suc, ◌+◌, ◌*◌, ◌≤◌, true, ◌&&◌, List, [], ◌∷◌, length, get_or}
use Rattle.std.proofs.Common.{Option, Some, None, refl, ap, ◌∙◌, sym, subst, arith, length-append}
use Rattle.std.proofs.lemmas.Bool.{and_parts, eqb-true}
use Rattle.mime_base.specs.Cache.Bytes.{Stands, card_bytes, cards, fields, value_at}
use Rattle.mime_base.specs.Format.Magic.{MaskAt, line_numbers, width}
use Rattle.mime_base.specs.Format.Records.{CardsAt}
use Rattle.mime_base.specs.Magic.{Forest, PlainLine, are_allowed, bare, fits_mask, is_allowed, line, line_from}
use Rattle.mime_base.proofs.CacheLemmas.Numbers.{fields-standing, length-card_bytes}
use Rattle.mime_base.proofs.CacheLemmas.Standing.{Stands-inside, value_at-standing}
use Rattle.mime_load.specs.MagicStanding.{ForestStands, LineStands, is_spellable}

-- numbers
pub same_numbers : (c : List ℕ) (at : ℕ) (xs ys : List ℕ) → length xs ≡ length ys → CardsAt (Stands c) at xs → CardsAt (Stands c) at ys
    → xs ≡ ys
same_numbers c at xs ys size one other =
    sym (fields-standing c at xs one.small one.stand) ∙ ap (fields c at) size ∙ fields-standing c at ys other.small other.stand

-- values
pub same_value : (c : List ℕ) (at at' : ℕ) (xs ys : List ℕ) → at ≡ at' → length xs ≡ length ys → Stands c at xs → Stands c at' ys → xs ≡ ys
same_value c at at' xs ys place size one other =
    sym (value_at-standing c at xs one) ∙ ap (value_at c at) size ∙ ap (λ (a : ℕ). value_at c a (length ys)) place
    ∙ value_at-standing c at' ys other

-- masks that fit values of one length
same_mask : (c : List ℕ) (at at' size size' : ℕ) (xs ys : Option (List ℕ)) → at ≡ at' → size ≡ size'
    → fits_mask xs size ≡ true → fits_mask ys size' ≡ true → MaskAt (Stands c) at xs → MaskAt (Stands c) at' ys → xs ≡ ys
same_mask c at at' size size' None None place same fx fy one other = refl
same_mask c at at' size size' None (Some ys) place same fx fy one other = absurd (omega (arith, other.0))
same_mask c at at' size size' (Some xs) None place same fx fy one other = absurd (omega (arith, one.0))
same_mask c at at' size size' (Some xs) (Some ys) place same fx fy one other =
    let ex = eqb-true (length xs) size fx in
    let ey = eqb-true (length ys) size' fy in
    ap Some (same_value c at at' xs ys place (ex ∙ same ∙ sym ey) one.1 other.1)

-- lines whose parts are the same
same_parts : (a b : PlainLine) → a.start ≡ b.start → a.range ≡ b.range → a.word ≡ b.word → a.value ≡ b.value → a.mask ≡ b.mask → a ≡ b
same_parts a b es er ew ev em =
    let h : line_from a.start a.range a.word a.value a.mask ≡ line_from b.start b.range b.word b.value b.mask = rw (es, er, ew, ev, em) refl in h

-- What two lines that stand at one offset share.
pub record SameLine (a b : PlainLine) (n first m second : ℕ) : Type 0 where
  pub line : a ≡ b
  pub count : n ≡ m
  pub place : first ≡ second

-- lines without their children
pub same_line : (c : List ℕ) (at : ℕ) (a b : PlainLine) (n first m second : ℕ) → LineStands c at a n first → LineStands c at b m second
    → SameLine a b n first m second
same_line c at a b n first m second one other =
    let e = same_numbers c at (line_numbers a one.value one.mask n first) (line_numbers b other.value other.mask m second) refl
    one.numbers other.numbers in
    let size : length a.value ≡ length b.value = ap (λ (ns : List ℕ). get_or ns 3 0) e in
    let fa = and_parts (is_spellable a.start a.range a.word (length a.value)) (fits_mask a.mask (length a.value)) one.allowed in
    let fb = and_parts (is_spellable b.start b.range b.word (length b.value)) (fits_mask b.mask (length b.value)) other.allowed in
    record {
      line = same_parts a b (ap (λ (ns : List ℕ). get_or ns 0 0) e) (ap (λ (ns : List ℕ). get_or ns 1 0) e)
          (ap (λ (ns : List ℕ). get_or ns 2 0) e)
          (same_value c one.value other.value a.value b.value (ap (λ (ns : List ℕ). get_or ns 4 0) e) size one.value_stands other.value_stands)
          (same_mask c one.mask other.mask (length a.value) (length b.value) a.mask b.mask (ap (λ (ns : List ℕ). get_or ns 5 0) e) size
          fa.1 fb.1 one.mask_stands other.mask_stands);
      count = ap (λ (ns : List ℕ). get_or ns 6 0) e;
      place = ap (λ (ns : List ℕ). get_or ns 7 0) e;
    }

-- What lines that stand say of the first of them: itself, its children and those behind it.
pub record Opened (c : List ℕ) (at below : ℕ) (own : PlainLine) (children rest : Forest) : Type 0 where
  pub first : ℕ
  pub here : LineStands c at own (width children) first
  pub deeper : ForestStands c first below children
  pub behind : ForestStands c (at + 32) (suc below) rest

-- lines are opened
pub opened : (c : List ℕ) (at below : ℕ) (own : PlainLine) (children rest : Forest)
    → ForestStands c at (suc below) (line own children rest) → Opened c at below own children rest
opened c at below own children rest h =
    let s = h.stand in
    let parts = and_parts (is_allowed own && are_allowed below children) (are_allowed (suc below) rest) h.allowed in
    let ok = and_parts (is_allowed own) (are_allowed below children) parts.0 in
    record {
      first = s.2;
      here = record { value = s.0; mask = s.1; numbers = s.3; value_stands = s.4; mask_stands = s.5; allowed = ok.0 };
      deeper = record { stand = s.6; allowed = ok.1 };
      behind = record { stand = s.7; allowed = parts.1 };
    }

-- lines with their children
pub same_lines : (c : List ℕ) (at levels : ℕ) (f g : Forest) → width f ≡ width g → ForestStands c at levels f → ForestStands c at levels g
    → f ≡ g
same_lines c at levels bare bare wide one other = refl
same_lines c at levels bare (line own children rest) wide one other = absurd (omega arith)
same_lines c at levels (line own children rest) bare wide one other = absurd (omega arith)
same_lines c at zero (line own children rest) (line own' children' rest') wide one other = absurd (cc)
same_lines c at (suc levels) (line own children rest) (line own' children' rest') wide one other =
    let a = opened c at levels own children rest one in
    let b = opened c at levels own' children' rest' other in
    let same = same_line c at own own' (width children) a.first (width children') b.first a.here b.here in
    let below = same_lines c a.first levels children children' same.count a.deeper
    (subst (λ (x : ℕ). ForestStands c x levels children') (sym same.place) b.deeper) in
    let rests = same_lines c (at + 32) (suc levels) rest rest' (omega arith) a.behind b.behind in
    let e1 = same.line in
    rw (e1, below, rests) refl

-- numbers take four bytes each
length-cards : (numbers : List ℕ) → length (cards numbers) ≡ 4 * length numbers
length-cards [] = refl
length-cards (n ∷ numbers) = omega (arith, length-append (card_bytes n) (cards numbers), length-card_bytes n, length-cards numbers)

-- numbers that stand lie in the cache
pub numbers_inside : (c : List ℕ) (at : ℕ) (numbers : List ℕ) → CardsAt (Stands c) at numbers → at + 4 * length numbers ≤ length c
numbers_inside c at numbers stand = omega (arith, Stands-inside c at (cards numbers) stand.stand, length-cards numbers)
