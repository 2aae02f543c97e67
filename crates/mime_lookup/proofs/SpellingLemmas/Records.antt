-- What stands at an offset of a cache is determined by its bytes: the header, and lists, as far as their records say.
use Rattle.std.proofs.Common.{◌≡◌, ℕ, ◌+◌, List, [], ◌∷◌, length, map, get_or, refl, ap, ap₂, arith}
use Rattle.mime_base.specs.Cache.Bytes.{Stands}
use Rattle.mime_base.specs.Format.Header.{HeaderAt, Offsets, header_numbers}
use Rattle.mime_base.specs.Format.Records.{ListAt, RecordsAt, Standing}
use Rattle.mime_load.specs.Parts.{RecordAt}
use Rattle.mime_load.proofs.SameLemmas.{same_numbers}
use Rattle.mime_load.proofs.Spelled.{offsets_of}

-- a header
pub same_offsets : (c : List ℕ) (o p : Offsets) → HeaderAt (Stands c) o → HeaderAt (Stands c) p → o ≡ p
same_offsets c o p one other = ap offsets_of (same_numbers c 0 (header_numbers o) (header_numbers p) refl one other)

module _ {X Y : Type 0} (f : X → Y) (S : Standing) (size : ℕ) (Is : X → List ℕ → Type 0)
    (same : (at : ℕ) (x y : X) → RecordAt S Is at x → RecordAt S Is at y → f x ≡ f y) where
  -- records one after another, as far as one record tells
  same_records : (at : ℕ) (xs ys : List X) → length xs ≡ length ys → RecordsAt S size Is at xs → RecordsAt S size Is at ys
      → map f xs ≡ map f ys
  same_records at [] [] long one other = refl
  same_records at [] (y ∷ ys) long one other = absurd (omega arith)
  same_records at (x ∷ xs) [] long one other = absurd (omega arith)
  same_records at (x ∷ xs) (y ∷ ys) long (ns, cs, is, rest) (ms, ds, js, more) =
      ap₂ (λ (z : Y) (zs : List Y). z ∷ zs)
      (same at x y (record { numbers = ns; cards = cs; is = is }) (record { numbers = ms; cards = ds; is = js }))
      (same_records (at + size) xs ys (omega arith) rest more)

-- a list
pub same_list : {X Y : Type 0} (f : X → Y) (c : List ℕ) (size : ℕ) (Is : X → List ℕ → Type 0)
    → ((at : ℕ) (x y : X) → RecordAt (Stands c) Is at x → RecordAt (Stands c) Is at y → f x ≡ f y) → (at : ℕ) (xs ys : List X)
    → ListAt (Stands c) size Is at xs → ListAt (Stands c) size Is at ys → map f xs ≡ map f ys
same_list f c size Is same at xs ys one other =
    let counts = same_numbers c at (length xs ∷ []) (length ys ∷ []) refl one.count other.count in
    let long : length xs ≡ length ys = ap (λ (ns : List ℕ). get_or ns 0 0) counts in
    same_records f (Stands c) size Is same (at + 4) xs ys long one.records other.records

-- Two times three numbers are the same.
pub record AreSame (a b d x y z : ℕ) : Type 0 where
  pub first : a ≡ x
  pub second : b ≡ y
  pub third : d ≡ z

-- three numbers, as a list
pub three_numbers : (a b d x y z : ℕ) → a ∷ b ∷ d ∷ [] ≡ x ∷ y ∷ z ∷ [] → AreSame a b d x y z
three_numbers a b d x y z same = record {
  first = ap (λ (ns : List ℕ). get_or ns 0 0) same;
  second = ap (λ (ns : List ℕ). get_or ns 1 0) same;
  third = ap (λ (ns : List ℕ). get_or ns 2 0) same;
}
