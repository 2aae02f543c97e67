-- What was written stays where it stands, and how long the bytes become.
use Rattle.std.proofs.Common.{◌≡◌, ℕ, ◌+◌, ◌≤◌, List, [], ◌++◌, length, refl, sym, ap, ◌∙◌, append_assoc, arith, length-append}
use Rattle.std.proofs.lemmas.List.{append-nil}
use Rattle.mime_base.proofs.CacheLemmas.Standing.{Stands-appended, Stands-more}
use Rattle.mime_base.specs.Format.Records.{Standing}
use Rattle.mime_store.specs.Written.{Grew, Written}

-- what stands by S stands by S'
abbrev pub Carries : Standing → Standing → Type 0
Carries S S' = (at : ℕ) (bytes : List ℕ) → S at bytes → S' at bytes

-- what is appended stands where the bytes ended
pub written_end : (old bytes : List ℕ) → 40 ≤ length old → Written (old ++ bytes) (length old) bytes
written_end old bytes after = record { stands = Stands-appended old bytes; after = after }

-- what was written stands as the bytes grow
pub written_more : (c d : List ℕ) (size : ℕ) → Grew c d size → Carries (Written c) (Written d)
written_more c d size g at bytes w =
    rw g.is (record { stands = Stands-more c g.more at bytes w.stands; after = w.after })

-- the first bytes of some that stand, and those after them
pub written_first : (c : List ℕ) (at : ℕ) (xs ys : List ℕ) → Written c at (xs ++ ys) → Written c at xs
written_first c at xs ys w = record {
  stands = record {
    front = w.stands.front;
    back = ys ++ w.stands.back;
    place = w.stands.place;
    split = w.stands.split ∙ simp append_assoc;
  };
  after = w.after;
}

-- the last bytes of some that stand
pub written_second : (c : List ℕ) (at : ℕ) (xs ys : List ℕ) → Written c at (xs ++ ys) → Written c (at + length xs) ys
written_second c at xs ys w =
    let after = w.after in
    record {
      stands = record {
        front = w.stands.front ++ xs;
        back = w.stands.back;
        place = length-append w.stands.front xs ∙ ap (λ (n : ℕ). n + length xs) w.stands.place;
        split = w.stands.split ∙ simp append_assoc;
      };
      after = omega arith;
    }

-- bytes that did not grow
pub grew_none : (c : List ℕ) → Grew c c 0
grew_none c = record { more = []; is = sym (append-nil c); long = refl }

-- bytes that others were appended to
pub grew_by : (c more : List ℕ) (size : ℕ) → length more ≡ size → Grew c (c ++ more) size
grew_by c more size h = record { more = more; is = refl; long = h }

-- one growth after another
pub grew_on : (c d e : List ℕ) (m n : ℕ) → Grew c d m → Grew d e n → Grew c e (m + n)
grew_on c d e m n g h = record {
  more = g.more ++ h.more;
  is = h.is ∙ ap (λ xs. xs ++ h.more) g.is ∙ append_assoc c g.more h.more;
  long = length-append g.more h.more ∙ omega (arith, g.long, h.long);
}

-- how long bytes are that grew
pub grew_length : (c d : List ℕ) (size : ℕ) → Grew c d size → length d ≡ length c + size
grew_length c d size g = ap length g.is ∙ length-append c g.more ∙ ap (λ (n : ℕ). length c + n) g.long

-- another term for how much they grew
pub grew_to : (c d : List ℕ) (m n : ℕ) → m ≡ n → Grew c d m → Grew c d n
grew_to c d m n e g = record { more = g.more; is = g.is; long = g.long ∙ e }
