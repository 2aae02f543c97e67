-- Where bytes stand, and values there.
use Rattle.std.proofs.Common.{◌≡◌, ℕ, ◌+◌, ◌≤◌, List, [], ◌++◌, length, take, drop, refl, sym, ap, ◌∙◌, arith}
use Rattle.std.proofs.Common.{append_assoc, append-nil, length-append, length-drop}
use Rattle.std.proofs.Math.Seq.{drop-append_seam, take-append_seam}
use Rattle.std.proofs.lemmas.List.{drop-append-le, length-take-le, take-append-drop, take-append-le}
use Rattle.mime_base.specs.Cache.Bytes.{Stands, value_at}

-- what is appended stands at the old end
pub Stands-appended : (c bytes : List ℕ) → Stands (c ++ bytes) (length c) bytes
Stands-appended c bytes = record { front = c; back = []; place = refl; split = rw append-nil refl }

-- what stands stays while more is appended
pub Stands-more : (c more : List ℕ) (at : ℕ) (bytes : List ℕ) → Stands c at bytes → Stands (c ++ more) at bytes
Stands-more c more at bytes s = record {
  front = s.front;
  back = s.back ++ more;
  place = s.place;
  split =
      ap (λ xs. xs ++ more) s.split ∙ append_assoc s.front (bytes ++ s.back) more
      ∙ ap (λ xs. s.front ++ xs) (append_assoc bytes s.back more);
}

-- what stands lies inside
pub Stands-inside : (c : List ℕ) (at : ℕ) (bytes : List ℕ) → Stands c at bytes → at + length bytes ≤ length c
Stands-inside c at bytes s =
    omega (arith, ap length s.split, length-append s.front (bytes ++ s.back), length-append bytes s.back, s.place)

-- the bytes from there on begin with what stands
pub drop-standing : (c : List ℕ) (at : ℕ) (bytes : List ℕ) → (s : Stands c at bytes) → drop at c ≡ bytes ++ s.back
drop-standing c at bytes s =
    ap (drop at) s.split ∙ ap (λ (n : ℕ). drop n (s.front ++ (bytes ++ s.back))) (sym s.place)
    ∙ drop-append_seam s.front (bytes ++ s.back)

-- a value that stands is read
pub value_at-standing : (c : List ℕ) (at : ℕ) (bytes : List ℕ) → Stands c at bytes
    → value_at c at (length bytes) ≡ bytes
value_at-standing c at bytes s =
    ap (take (length bytes)) (drop-standing c at bytes s) ∙ take-append_seam bytes s.back

-- a value reads the same while more is appended
pub value_at-more : (c more : List ℕ) (at size : ℕ) → at + size ≤ length c
    → value_at (c ++ more) at size ≡ value_at c at size
value_at-more c more at size inside =
    ap (take size) (drop-append-le at c more (omega arith))
    ∙ take-append-le size (drop at c) more (omega (arith, length-drop at c))

-- what the bytes from a place on begin with stands there
pub Stands-dropped : (c : List ℕ) (at : ℕ) (bytes back : List ℕ) → at ≤ length c
    → drop at c ≡ bytes ++ back → Stands c at bytes
Stands-dropped c at bytes back inside is = record {
  front = take at c;
  back = back;
  place = length-take-le at c inside;
  split = sym (take-append-drop at c) ∙ ap (λ xs. take at c ++ xs) is;
}
