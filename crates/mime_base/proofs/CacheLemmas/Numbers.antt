-- Numbers of a record, read one by one and written one after another.
use Rattle.std.proofs.Common.{◌≡◌, ℕ, zero, suc, ◌+◌, ◌-◌, ◌*◌, ◌^◌, ◌<◌, ◌≤◌, List, [], ◌∷◌, ◌++◌, length, get_or}
use Rattle.std.proofs.Common.{take, drop, refl, ap, ◌∙◌, sym, arith, append_assoc, length-drop}
use Rattle.std.proofs.Math.Seq.{drop-append_seam}
use Rattle.std.proofs.lemmas.List.{drop-append-le, drop-drop, drop-take}
use Rattle.std.proofs.lemmas.List.Concat.{flat_map-cons}
use Rattle.byteorder.specs.Endian.{IsRead, big_number}
use Rattle.byteorder.specs.Numbers.{big_from-append, big_from-take, big_number-reads_back, length-bytes_high_first}
use Rattle.mime_base.specs.Cache.Bytes.{AreCards, Stands, card_bytes, cards, field, fields, fields_from, value_at}
use Rattle.mime_base.proofs.CacheLemmas.Standing.{drop-standing}

-- a list is the numbers of a record where it is so place by place
fields_from-is : (c : List ℕ) (at i n : ℕ) (numbers : List ℕ) → length numbers ≡ n
    → ((k : ℕ) → k < n → get_or numbers k 0 ≡ field c at (i + k)) → numbers ≡ fields_from c at i n
fields_from-is c at i zero [] size each = refl
fields_from-is c at i zero (x ∷ numbers) size each = absurd (omega arith)
fields_from-is c at i (suc n) [] size each = absurd (omega arith)
fields_from-is c at i (suc n) (x ∷ numbers) size each =
    let first : x ≡ field c at i = each 0 (omega arith) ∙ ap (field c at) (omega arith) in
    let rest = fields_from-is c at (suc i) n numbers (omega arith)
    (λ k below. each (suc k) (omega arith) ∙ ap (field c at) (omega arith)) in
    rw (first, ← rest) refl

-- a number of the bytes of a record is one of the record
number-of_record : (c : List ℕ) (at k n : ℕ) → k < n
    → big_number 4 (drop (4 * k) (value_at c at (4 * n))) ≡ field c at k
unfolding field
number-of_record c at k n below =
    let size : 4 * n ≡ 4 * k + 4 * (n - k) = omega arith in
    let cut : drop (4 * k) (value_at c at (4 * n)) ≡ take (4 * (n - k)) (drop (at + 4 * k) c) =
    ap (λ (m : ℕ). drop (4 * k) (take m (drop at c))) size ∙ drop-take (4 * k) (4 * (n - k)) (drop at c)
    ∙ ap (take (4 * (n - k))) (drop-drop (4 * k) at c) in
    ap (big_number 4) cut ∙ big_from-take 0 4 (4 * (n - k)) (drop (at + 4 * k) c) (omega arith)

-- what is read of the bytes of a record are its numbers
pub fields-read : (c record_bytes numbers : List ℕ) (at n : ℕ) → record_bytes ≡ value_at c at (4 * n)
    → IsRead big_number 4 record_bytes numbers → length numbers ≡ n → numbers ≡ fields c at n
fields-read c record_bytes numbers at n is read size =
    fields_from-is c at 0 n numbers size (λ k below.
    read k (omega arith) ∙ ap (λ b. big_number 4 (drop (4 * k) b)) is ∙ number-of_record c at k n below
    ∙ ap (field c at) (omega arith))

-- a number takes four bytes
pub length-card_bytes : (n : ℕ) → length (card_bytes n) ≡ 4
unfolding card_bytes
length-card_bytes n = length-bytes_high_first 4 n

-- a number that was written is the field that is read
field-written : (c : List ℕ) (at i n : ℕ) (rest : List ℕ) → n < 2 ^ 32
    → drop (at + 4 * i) c ≡ card_bytes n ++ rest → field c at i ≡ n
unfolding field card_bytes
field-written c at i n rest small is = ap (big_number 4) is ∙ big_number-reads_back 4 n rest small

-- so are numbers one after another
fields_from-written : (c : List ℕ) (at i : ℕ) (numbers back : List ℕ) → AreCards numbers
    → drop (at + 4 * i) c ≡ cards numbers ++ back → fields_from c at i (length numbers) ≡ numbers
fields_from-written c at i [] back small is = refl
fields_from-written c at i (n ∷ numbers) back small is =
    let here : drop (at + 4 * i) c ≡ card_bytes n ++ (cards numbers ++ back) =
    is ∙ ap (λ xs. xs ++ back) (flat_map-cons card_bytes n numbers)
    ∙ append_assoc (card_bytes n) (cards numbers) back in
    let first = field-written c at i n (cards numbers ++ back) (small 0) here in
    let next : drop (at + 4 * suc i) c ≡ cards numbers ++ back =
    ap (λ (k : ℕ). drop k c) (omega arith) ∙ sym (drop-drop 4 (at + 4 * i) c) ∙ ap (drop 4) here
    ∙ ap (λ (k : ℕ). drop k (card_bytes n ++ (cards numbers ++ back))) (sym (length-card_bytes n))
    ∙ drop-append_seam (card_bytes n) (cards numbers ++ back) in
    let rest = fields_from-written c at (suc i) numbers back (λ k. small (suc k)) next in
    rw (first, rest) refl

-- numbers read back where they stand
pub fields-standing : (c : List ℕ) (at : ℕ) (numbers : List ℕ) → AreCards numbers → Stands c at (cards numbers)
    → fields c at (length numbers) ≡ numbers
fields-standing c at numbers small s =
    fields_from-written c at 0 numbers s.back small
    (ap (λ (k : ℕ). drop k c) (omega arith) ∙ drop-standing c at (cards numbers) s)

-- a field reads the same while more is appended
field-more : (c more : List ℕ) (at i : ℕ) → at + 4 * i + 4 ≤ length c → field (c ++ more) at i ≡ field c at i
unfolding field
field-more c more at i inside =
    ap (big_number 4) (drop-append-le (at + 4 * i) c more (omega arith))
    ∙ big_from-append 4 (drop (at + 4 * i) c) more (omega (arith, length-drop (at + 4 * i) c))

-- so do fields one after another
fields_from-more : (c more : List ℕ) (at i n : ℕ) → at + 4 * (i + n) ≤ length c
    → fields_from (c ++ more) at i n ≡ fields_from c at i n
fields_from-more c more at i zero inside = refl
fields_from-more c more at i (suc n) inside =
    rw (field-more c more at i (omega arith), fields_from-more c more at (suc i) n (omega arith)) refl

-- numbers that lie in the bytes stay
pub fields-more : (c more : List ℕ) (at n : ℕ) → at + 4 * n ≤ length c → fields (c ++ more) at n ≡ fields c at n
fields-more c more at n inside = fields_from-more c more at 0 n (omega arith)
