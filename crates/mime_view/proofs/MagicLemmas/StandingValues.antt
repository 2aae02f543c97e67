-- The value of a line that stands in a cache, and its mask, are read.
use Rattle.std.proofs.Common.{◌≡◌, ℕ, ◌+◌, ◌<◌, ◌==◌, true, false, List, length}
use Rattle.std.proofs.Common.{Option, None, Some, refl, sym, ap, ◌∙◌, arith}
use Rattle.std.proofs.lemmas.Bool.{eqb-true, false_from_ne_true, le-leb}
use Rattle.std.proofs.Math.Bool.{or-true}
use Rattle.mime_base.specs.Cache.Bytes.{Stands, both_lie, lies, optional_mask, value_at}
use Rattle.mime_base.specs.Format.Magic.{MaskAt}
use Rattle.mime_base.specs.Magic.{fits_mask}
use Rattle.mime_base.specs.Magic.Holds.{bytes_of_mask}
use Rattle.mime_base.proofs.CacheLemmas.Standing.{Stands-inside, value_at-standing}

-- bytes that stand lie in the cache
lies_standing : (c : List ℕ) (at : ℕ) (bytes : List ℕ) → Stands c at bytes → lies c at (length bytes) ≡ true
lies_standing c at bytes stand =
    rw (le-leb (at + length bytes) (length c) (Stands-inside c at bytes stand)) (or-true (length bytes == 0))

-- a value and its mask lie in the cache
pub both_standing : (c : List ℕ) (value mask : ℕ) (bytes : List ℕ) (bits : Option (List ℕ)) → Stands c value bytes
    → MaskAt (Stands c) mask bits → fits_mask bits (length bytes) ≡ true → both_lie c value mask (length bytes) ≡ true
both_standing c value mask bytes None stand none fits =
    rw (lies_standing c value bytes stand) (rw none refl)
both_standing c value mask bytes (Some bits) stand some fits =
    let size : length bits ≡ length bytes = eqb-true (length bits) (length bytes) fits in
    let here : lies c mask (length bytes) ≡ true = ap (lies c mask) (sym size) ∙ lies_standing c mask bits some.1 in
    rw (lies_standing c value bytes stand) (rw here (or-true (mask == 0)))

-- a number above 0 is not 0
not_zero : (n : ℕ) → 0 < n → (n == 0) ≡ false
not_zero n l = false_from_ne_true (n == 0) (λ is. let zero : n ≡ 0 = eqb-true n 0 is in absurd (omega arith))

-- a mask reads back
pub mask_standing : (c : List ℕ) (mask : ℕ) (bits : Option (List ℕ)) (size : ℕ) → MaskAt (Stands c) mask bits
    → fits_mask bits size ≡ true → optional_mask c mask size ≡ bytes_of_mask bits
mask_standing c mask None size none fits = rw none refl
mask_standing c mask (Some bits) size some fits =
    let same : size ≡ length bits = sym (eqb-true (length bits) size fits) in
    rw (not_zero mask some.0) (ap (value_at c mask) same ∙ value_at-standing c mask bits some.1)
