-- Lines that stand are read, one after another.
use Rattle.std.proofs.Common.{◌≡◌, ℕ, zero, suc, ◌+◌, ◌-◌, ◌*◌, ◌<◌, ◌≤◌, true, ◌&&◌, List, length, get_or}
use Rattle.std.proofs.Common.{Option, Some, None, refl, ap, ◌∙◌, sym, subst, arith}
use Rattle.std.proofs.lemmas.Bool.{and_from, and_parts, eqb-true}
use Rattle.mime_base.specs.Cache.Bytes.{Stands, fields}
use Rattle.mime_base.specs.Format.Magic.{MaskAt, line_count, line_numbers, width}
use Rattle.mime_base.specs.Format.Packed.{forest_value_length}
use Rattle.mime_base.specs.Magic.{Forest, PlainLine, are_allowed, bare, fits_mask, is_allowed, line}
use Rattle.mime_base.proofs.CacheLemmas.Numbers.{fields-standing}
use Rattle.mime_base.proofs.CacheLemmas.Standing.{Stands-inside}
use Rattle.mime_load.specs.MagicStanding.{ForestStands, LineStands, is_spellable}
use Rattle.mime_load.proofs.SameLemmas.{numbers_inside, opened, same_line, same_lines}

-- the record of a line lies in the cache
pub line_inside : (c : List ℕ) (at : ℕ) (own : PlainLine) (count first : ℕ) → LineStands c at own count first → at + 32 ≤ length c
line_inside c at own count first h = numbers_inside c at (line_numbers own h.value h.mask count first) h.numbers

-- What is read of a line that stands.
pub record ReadsLine (c r : List ℕ) (own : PlainLine) : Type 0 where
  pub size : get_or r 3 0 ≡ length own.value
  pub value_inside : get_or r 4 0 + get_or r 3 0 ≤ length c
  pub mask_inside : 0 < get_or r 5 0 → get_or r 5 0 + get_or r 3 0 ≤ length c
  pub spellable : is_spellable (get_or r 0 0) (get_or r 1 0) (get_or r 2 0) (get_or r 3 0) ≡ true

-- a mask that stands lies in the cache
mask_inside : (c : List ℕ) (at size : ℕ) (mask : Option (List ℕ)) → MaskAt (Stands c) at mask → fits_mask mask size ≡ true → 0 < at
    → at + size ≤ length c
mask_inside c at size None stands fits some = absurd (omega (arith, stands))
mask_inside c at size (Some mask) stands fits some =
    omega (arith, eqb-true (length mask) size fits, Stands-inside c at mask stands.1)

-- a line that stands is read
pub line_read : (c : List ℕ) (at : ℕ) (r : List ℕ) (own : PlainLine) (count first : ℕ) → r ≡ fields c at 8
    → LineStands c at own count first → ReadsLine c r own
line_read c at r own count first is h =
    let ns = line_numbers own h.value h.mask count first in
    let e : r ≡ line_numbers own h.value h.mask count first =
    is ∙ fields-standing c at (line_numbers own h.value h.mask count first) h.numbers.small h.numbers.stand in
    let fits = and_parts (is_spellable own.start own.range own.word (length own.value)) (fits_mask own.mask (length own.value)) h.allowed in
    let inside = Stands-inside c h.value own.value h.value_stands in
    rw e (record {
      size = refl;
      value_inside = inside;
      mask_inside = λ some. mask_inside c h.mask (length own.value) own.mask h.mask_stands fits.1 some;
      spellable = fits.0;
    })

-- without levels there are no lines
pub no_levels : (c : List ℕ) (at : ℕ) (f : Forest) → ForestStands c at 0 f → width f ≡ 0
no_levels c at bare h = refl
no_levels c at (line own children rest) h = let no = h.allowed in absurd (cc)

-- The next line of lines that stand, behind those that were read.
pub record NextLine (c : List ℕ) (at levels : ℕ) (lines before : Forest) : Type 0 where
  pub own : PlainLine
  pub children : Forest
  pub stands : ForestStands c at levels (line own children bare)
  pub records : line_count (line own children bare) + line_count before ≤ line_count lines
  pub value_bytes : forest_value_length (line own children bare) + forest_value_length before ≤ forest_value_length lines

-- a first line alone
alone : (c : List ℕ) (at below : ℕ) (own : PlainLine) (children rest : Forest) → ForestStands c at (suc below) (line own children rest)
    → ForestStands c at (suc below) (line own children bare)
alone c at below own children rest h =
    let s = h.stand in
    let parts = and_parts (is_allowed own && are_allowed below children) (are_allowed (suc below) rest) h.allowed in
    record {
      stand = (s.0, s.1, s.2, s.3, s.4, s.5, s.6, tt);
      allowed = and_from (is_allowed own && are_allowed below children) true parts.0 refl;
    }

-- there is a next one
pub next_line : (c : List ℕ) (at levels i there : ℕ) (f g : Forest) → width f ≡ i → i < width g
    → there ≡ at + 32 * i → ForestStands c at levels f → ForestStands c at levels g → NextLine c there levels g f
next_line c at levels i there f bare size within place read stands = absurd (omega arith)
next_line c at zero i there f (line own children rest) size within place read stands = let no = stands.allowed in absurd (cc)
next_line c at (suc below) i there bare (line own children rest) size within place read stands =
    let here : at ≡ there = omega arith in
    record {
      own = own;
      children = children;
      stands = subst (λ (a : ℕ). ForestStands c a (suc below) (line own children bare)) here (alone c at below own children rest stands);
      records = omega arith;
      value_bytes = omega arith;
    }
next_line c at (suc below) i there (line own' children' rest') (line own children rest) size within place read stands =
    let a = opened c at below own' children' rest' read in
    let b = opened c at below own children rest stands in
    let same = same_line c at own' own (width children') a.first (width children) b.first a.here b.here in
    let below_same = same_lines c a.first below children' children same.count a.deeper
    (subst (λ (y : ℕ). ForestStands c y below children) (sym same.place) b.deeper) in
    let next = next_line c (at + 32) (suc below) (i - 1) there rest' rest (omega arith) (omega arith) (omega arith) a.behind b.behind in
    let counts : line_count children' ≡ line_count children = ap line_count below_same in
    let values : forest_value_length children' ≡ forest_value_length children = ap forest_value_length below_same in
    let own_values : length own'.value ≡ length own.value = ap (λ (l : PlainLine). length l.value) same.line in
    record {
      own = next.own;
      children = next.children;
      stands = next.stands;
      records = omega (arith, next.records, counts);
      value_bytes = omega (arith, next.value_bytes, values, own_values);
    }
