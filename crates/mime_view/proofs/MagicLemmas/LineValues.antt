-- The value of a line as its record states it.
use Rattle.std.proofs.Common.{◌≡◌, ℕ, zero, suc, ◌+◌, Bool, true, false, cond, List, length, get_or, Result, Ok}
use Rattle.std.proofs.Common.{Option, Some, ap, ap₂, refl, subst, ◌∙◌}
use Rattle.mime_base.specs.Cache.Bytes.{both_lie, field, fields, optional_mask, value_at}
use Rattle.mime_base.specs.Magic.{PlainLine, line_from}
use Rattle.mime_base.specs.Magic.Holds.{bytes_of_mask, equals_at, equals_from}
use Rattle.mime_base.specs.Magic.Ranges.{compared_at, compared_from}
use Rattle.mime_base.specs.Meter.{raised}
use Rattle.mime_base.specs.declared.magic.host.Host.{Host}
use Rattle.mime_base.proofs.MagicLemmas.HoldingLines.{equals_from-mask}
use Rattle.mime_view.specs.Compared.{line_compared}
use Rattle.mime_view.specs.Magic.{EqualsAt, ReadsLine}

-- the line that a record states
abbrev pub stated : List ℕ → ℕ → ℕ → ℕ → ℕ → ℕ → ℕ → PlainLine
stated c start range word size at mask = line_from start range word (value_at c at size) (Some (optional_mask c mask size))

-- no mask is a mask without bytes, in what is compared too
compared_from-mask : (start range word : ℕ) (value : List ℕ) (mask : Option (List ℕ)) (host : Host) (content : List ℕ) (at n : ℕ)
    → compared_from (line_from start range word value (Some (bytes_of_mask mask))) host content at n
    ≡ compared_from (line_from start range word value mask) host content at n
unfolding compared_from
compared_from-mask start range word value mask host content at zero = refl
compared_from-mask start range word value mask host content at (suc n) =
    ap (λ (k : ℕ). compared_at (line_from start range word value mask) host content at
    + cond (equals_at (line_from start range word value mask) host content at) 0 k)
    (compared_from-mask start range word value mask host content (suc at) n)

module _ (c : List ℕ) (at : ℕ) (own : PlainLine) (numbers : List ℕ) (host : Host) (content : List ℕ)
    (are : numbers ≡ fields c at 8) (reads : ReadsLine c at own) where
  -- the numbers of a line's record state the line: what is found by them is found of the line
  by_line : {A : Type 0} (find : PlainLine → Host → List ℕ → ℕ → ℕ → A) (found : A)
      → find (line_from own.start own.range own.word own.value (Some (bytes_of_mask own.mask))) host content own.start own.range
      ≡ find own host content own.start own.range
      → (both_lie c (get_or numbers 4 0) (get_or numbers 5 0) (get_or numbers 3 0) ≡ true
      → found ≡ find (stated c (get_or numbers 0 0) (get_or numbers 1 0) (get_or numbers 2 0) (get_or numbers 3 0)
      (get_or numbers 4 0) (get_or numbers 5 0)) host content (get_or numbers 0 0) (get_or numbers 1 0))
      → found ≡ find own host content own.start own.range
  by_line {A} find found unmasked given =
      let number : (i : ℕ) → get_or numbers i 0 ≡ get_or (fields c at 8) i 0 = λ i. ap (λ (ns : List ℕ). get_or ns i 0) are in
      let start : get_or numbers 0 0 ≡ own.start = number 0 ∙ reads.start in
      let range : get_or numbers 1 0 ≡ own.range = number 1 ∙ reads.range in
      let word : get_or numbers 2 0 ≡ own.word = number 2 ∙ reads.word in
      let size : get_or numbers 3 0 ≡ length own.value = number 3 ∙ reads.size in
      let value_place : get_or numbers 4 0 ≡ field c at 4 = number 4 in
      let mask_place : get_or numbers 5 0 ≡ field c at 5 = number 5 in
      by_numbers (get_or numbers 0 0) (get_or numbers 1 0) (get_or numbers 2 0) (get_or numbers 3 0) (get_or numbers 4 0)
      (get_or numbers 5 0) start range word size value_place mask_place given
    where
      by_numbers : (n0 n1 n2 n3 n4 n5 : ℕ) → n0 ≡ own.start → n1 ≡ own.range → n2 ≡ own.word → n3 ≡ length own.value
          → n4 ≡ field c at 4 → n5 ≡ field c at 5
          → (both_lie c n4 n5 n3 ≡ true → found ≡ find (stated c n0 n1 n2 n3 n4 n5) host content n0 n1)
          → found ≡ find own host content own.start own.range
      by_numbers n0 n1 n2 n3 n4 n5 start range word size value_place mask_place given =
          let lie : both_lie c n4 n5 n3 ≡ true =
          ap (both_lie c n4 n5) size ∙ ap₂ (λ (a m : ℕ). both_lie c a m (length own.value)) value_place mask_place ∙ reads.lies in
          let value : value_at c n4 n3 ≡ own.value = ap₂ (value_at c) value_place size ∙ reads.value in
          let mask : optional_mask c n5 n3 ≡ bytes_of_mask own.mask = ap₂ (optional_mask c) mask_place size ∙ reads.mask in
          given lie
          ∙ ap₂ (λ (v m : List ℕ). find (line_from n0 n1 n2 v (Some m)) host content n0 n1) value mask
          ∙ ap (λ (n : ℕ). find (line_from n n1 n2 own.value (Some (bytes_of_mask own.mask))) host content n n1) start
          ∙ ap (λ (n : ℕ). find (line_from own.start n n2 own.value (Some (bytes_of_mask own.mask))) host content own.start n) range
          ∙ ap (λ (n : ℕ). find (line_from own.start own.range n own.value (Some (bytes_of_mask own.mask)))
          host content own.start own.range) word
          ∙ unmasked

  -- whether the line equals its value
  pub line_stated : (equals : Bool)
      → (both_lie c (get_or numbers 4 0) (get_or numbers 5 0) (get_or numbers 3 0) ≡ true
      → equals ≡ equals_from (stated c (get_or numbers 0 0) (get_or numbers 1 0) (get_or numbers 2 0) (get_or numbers 3 0)
      (get_or numbers 4 0) (get_or numbers 5 0)) host content (get_or numbers 0 0) (get_or numbers 1 0))
      → equals ≡ equals_from own host content own.start own.range
  line_stated equals given =
      by_line equals_from equals
      (equals_from-mask own.start own.range own.word own.value own.mask host content own.start own.range) given

  -- and how many bytes are counted for it
  pub line_counted : (old new : ℕ)
      → (both_lie c (get_or numbers 4 0) (get_or numbers 5 0) (get_or numbers 3 0) ≡ true
      → new ≡ raised old (compared_from (stated c (get_or numbers 0 0) (get_or numbers 1 0) (get_or numbers 2 0) (get_or numbers 3 0)
      (get_or numbers 4 0) (get_or numbers 5 0)) host content (get_or numbers 0 0) (get_or numbers 1 0)))
      → new ≡ raised old (line_compared own content host)
  line_counted old new given =
      by_line (λ (of : PlainLine) (h : Host) (text : List ℕ) (place n : ℕ). raised old (compared_from of h text place n)) new
      (ap (raised old) (compared_from-mask own.start own.range own.word own.value own.mask host content own.start own.range)) given

-- a line that equals by the numbers of its record does
pub line_equals : (c : List ℕ) (at : ℕ) (numbers : List ℕ) (host : Host) (content : List ℕ) → numbers ≡ fields c at 8
    → both_lie c (get_or numbers 4 0) (get_or numbers 5 0) (get_or numbers 3 0) ≡ true
    → equals_from (stated c (get_or numbers 0 0) (get_or numbers 1 0) (get_or numbers 2 0) (get_or numbers 3 0)
    (get_or numbers 4 0) (get_or numbers 5 0)) host content (get_or numbers 0 0) (get_or numbers 1 0) ≡ true
    → EqualsAt c at content host
line_equals c at numbers host content are lie equal = record {
  lies = subst (λ (ns : List ℕ). both_lie c (get_or ns 4 0) (get_or ns 5 0) (get_or ns 3 0) ≡ true) are lie;
  equals = subst
      (λ (ns : List ℕ). equals_from (stated c (get_or ns 0 0) (get_or ns 1 0) (get_or ns 2 0) (get_or ns 3 0) (get_or ns 4 0)
      (get_or ns 5 0)) host content (get_or ns 0 0) (get_or ns 1 0) ≡ true) are equal;
}

-- what equals lies in the cache, since only a window that fits does
pub lies_where : {E : Type 0} (fits equals lie : Bool) → (fits ≡ false → ◌≡◌ {A = Result Bool E} (Ok equals) (Ok false))
    → (fits ≡ true → lie ≡ true) → equals ≡ true → lie ≡ true
lies_where {E} true equals lie outside needs same = needs refl
lies_where {E} false equals lie outside needs same =
    let both : ◌≡◌ {A = Result Bool E} (Ok true) (Ok false) = rw same at (outside refl) in
    absurd cc
