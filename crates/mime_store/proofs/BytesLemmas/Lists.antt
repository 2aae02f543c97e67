-- A count, and numbers after it.
use Rattle.std.proofs.Common.{◌≡◌, ℕ, ◌+◌, ◌*◌, ◌≤◌, List, [], ◌++◌, length, take, drop, refl, ap, subst, ◌∙◌, arith}
use Rattle.std.proofs.Common.{length-append}
use Rattle.std.proofs.lemmas.List.{append-nil, drop_all, take_all}
use Rattle.mime_base.specs.Cache.Bytes.{AreCards, Stands, card_bytes, cards}
use Rattle.mime_base.specs.Format.Records.{CardsAt}
use Rattle.mime_store.specs.Written.{Grew, Written}
use Rattle.mime_store.proofs.BytesLemmas.Records.{length-card, length-cards}
use Rattle.mime_store.proofs.BytesLemmas.Written.{grew_by, grew_on, written_end}

-- how much a count and numbers take
pub list_grew : (old mid new : List ℕ) (n : ℕ) (numbers : List ℕ) → mid ≡ old ++ card_bytes n → new ≡ mid ++ cards numbers
    → Grew old new (4 + 4 * length numbers)
list_grew old mid new n numbers p q =
    let one : Grew old mid 4 = rw p (grew_by old (card_bytes n) 4 (length-card n)) in
    let two : Grew mid new (4 * length numbers) = rw q (grew_by mid (cards numbers) (4 * length numbers) (length-cards numbers)) in
    grew_on old mid new 4 (4 * length numbers) one two

-- the numbers stand after the count
pub list_numbers : (old mid new : List ℕ) (n at : ℕ) (numbers : List ℕ) → 40 ≤ length old → at ≡ length old → AreCards numbers
    → mid ≡ old ++ card_bytes n → new ≡ mid ++ cards numbers → CardsAt (Written new) (at + 4) numbers
list_numbers old mid new n at numbers begun e are p q =
    let long : length mid ≡ at + 4 = ap length p ∙ length-append old (card_bytes n) ∙ omega (arith, length-card n) in
    record {
      small = are;
      stand = rw q (subst (λ (k : ℕ). Written (mid ++ cards numbers) k (cards numbers)) long
          (written_end mid (cards numbers) (omega arith)));
    }

-- numbers in the first place of the bytes
pub patch_stands : (c rest numbers : List ℕ) → AreCards numbers → c ≡ cards numbers ++ rest → CardsAt (Stands c) 0 numbers
patch_stands c rest numbers are e =
    record { small = are; stand = record { front = []; back = rest; place = refl; split = e } }

-- a slice of all of a Vec, written back
pub written_back : (n : ℕ) (old new : List ℕ) → n ≡ length old → length new ≡ length old
    → take n (new ++ drop (length new) old) ≡ new
written_back n old new e l =
    rw (drop_all (length new) old (omega arith), append-nil new, take_all n new (omega arith)) refl
