-- The worked faults of a text of magic by the table itself: what is whole before each, and what stands next.
use Rattle.std.specs.Prelude.{◌≡◌, ℕ, true, false, ◌==◌, not, nat_lt, List, [], ◌∷◌, ◌++◌, codes, length, slice_index_or, Option, Some}
use Rattle.std.specs.Prelude.{None, refl}
use Rattle.std.specs.List.{list_all}
use Rattle.std.proofs.Common.{sym, ap, subst, ◌∙◌, inl, inr}
use Rattle.std.proofs.lemmas.Bool.{and_parts, ltb-true, leb-true, eqb-false, not-true, lt-ltb, false≢true}
use Rattle.mime_base.specs.Magic.{PlainLine}
use Rattle.mime_base.specs.Names.{is_type_name}
use Rattle.mime_text.specs.declared.magic.fault.MagicFault.TheVariants.{Malformed}
use Rattle.mime_text.specs.declared.magic.fault.MagicFaultKind.TheVariants.{NoHeader, Truncated, BadSection, BadNumber, BadWord, BadIndent}
use Rattle.mime_text.specs.Magic.Reading.{is_digit, after_prefix, marker_at, header}
use Rattle.mime_text.specs.Magic.Text.{value_of, AreDigits, IsNumber, NoNewline, BeginsMarker}
use Rattle.mime_text.specs.Magic.FaultTable.{AreWhole, IsBeforeLine, IsToIndent, IsToStart, IsToMask, IsToEnd, before_start, in_value}
use Rattle.mime_text.specs.Magic.FaultTable.{bad_number, large_sum, too_far, IsIndentTooDeep, IsSectionHead, HasFault}

-- what the rows compute with
unfoldable computing : Unit {0}
unfolding is_type_name after_prefix marker_at
computing = tt

-- ---- facts by their tests

-- there is one
abbrev IsThere : Option (List ℕ) → Type 0
IsThere None = ⊥
IsThere (Some rest) = Unit {0}

-- there are bytes
abbrev AreSome : List ℕ → Type 0
AreSome [] = ⊥
AreSome (b ∷ text) = Unit {0}

-- no marker stands where none is read
unmarked : (text : List ℕ) → marker_at text ≡ None → BeginsMarker text → ⊥
unfolding computing
unmarked text none (front, rest, inl is, parts) = subst IsThere (sym (ap marker_at (parts ∙ ap (λ (t : List ℕ). t ++ rest) is)) ∙ none) tt
unmarked text none (front, rest, inr (inl is), parts) =
    subst IsThere (sym (ap marker_at (parts ∙ ap (λ (t : List ℕ). t ++ rest) is)) ∙ none) tt
unmarked text none (front, rest, inr (inr is), parts) =
    subst IsThere (sym (ap marker_at (parts ∙ ap (λ (t : List ℕ). t ++ rest) is)) ∙ none) tt

-- digits
digits_by : (text : List ℕ) → list_all is_digit text ≡ true → AreDigits text
digits_by [] e = tt
digits_by (b ∷ text) e = let p = and_parts (is_digit b) (list_all is_digit text) e in (p.0, digits_by text p.1)

-- a number
number_by : (text : List ℕ) → list_all is_digit text ≡ true → nat_lt 0 (length text) ≡ true → nat_lt (value_of 0 text) 4294967296 ≡ true
    → IsNumber text (value_of 0 text)
number_by text all some small = record { digits = digits_by text all; some = ltb-true _ _ some; value = refl; small = ltb-true _ _ small }

-- bytes without a newline
row_by : (text : List ℕ) → list_all (λ b. not (b == 10)) text ≡ true → NoNewline text
row_by [] e = tt
row_by (b ∷ text) e =
    let p = and_parts (not (b == 10)) (list_all (λ b. not (b == 10)) text) e in (eqb-false b 10 (not-true (b == 10) p.0), row_by text p.1)

-- a head's row begins with a digit
no_head : (b : ℕ) (row : List ℕ) → is_digit b ≡ false → IsSectionHead (b ∷ row) → ⊥
no_head b row other ([], n, kind, is, number, name) = false≢true (lt-ltb 0 0 number.some)
no_head b row other (d ∷ digits, n, kind, is, number, name) =
    let same : b ≡ d = ap (λ (t : List ℕ). slice_index_or t 0 0) is in
    false≢true (sym other ∙ ap is_digit same ∙ number.digits.0)

-- ---- what is whole

-- the header alone
only_header : AreWhole header
only_header = record { sections = []; parts = []; whole = refl; are = refl }

-- `[50:t/a]` newline
abbrev last : List ℕ
last = codes "[50:t/a]" ++ 10 ∷ []

-- and the header before it
abbrev first_head : List ℕ
first_head = header ++ last

-- there a first line may come, at 21
first_line : IsBeforeLine 0 first_head
unfolding computing
first_line = record {
  before = header;
  last = last;
  section = record { priority = 50; kind = codes "t/a"; entries = [] };
  whole = refl;
  before_are = only_header;
  last_is = record {
    priority = codes "50";
    lines = [];
    whole = refl;
    priority_is = number_by (codes "50") refl refl refl;
    kind_is = refl;
    lines_are = refl;
  };
  limit_is = refl;
}

-- `>`
mark : IsToIndent 0 (codes ">")
mark = record { indent = []; depth = 0; whole = refl; indent_is = refl; allowed = leb-true 0 0 refl; shallow = ltb-true 0 64 refl }

-- `>0=`
start : IsToStart 0 (codes ">0=")
start =
    record { before = codes ">"; start = codes "0"; n = 0; whole = refl; before_is = mark; start_is = number_by (codes "0") refl refl refl }

-- `>0=` 00 03 `abc`
value : IsToMask 0 3 (codes ">0=" ++ 0 ∷ 3 ∷ codes "abc")
value = record {
  before = codes ">0=" ++ 0 ∷ 3 ∷ codes "abc";
  mask = [];
  bytes = None;
  whole = refl;
  before_is = record {
    before = codes ">0=";
    high = 0;
    low = 3;
    value = codes "abc";
    whole = refl;
    before_is = start;
    size_is = refl;
    length_is = refl;
  };
  mask_is = refl;
}

-- `>4294967294=` 00 01 `a`
abbrev large : PlainLine
large = record { start = 4294967294; range = 1; word = 1; value = codes "a"; mask = None }

whole_line : IsToEnd 0 large 10 (codes ">4294967294=" ++ 0 ∷ 1 ∷ codes "a")
whole_line = record {
  before = codes ">";
  body = codes "4294967294=" ++ 0 ∷ 1 ∷ codes "a";
  whole = refl;
  before_is = mark;
  body_is = record {
    start = codes "4294967294";
    high = 0;
    low = 1;
    options = [];
    whole = refl;
    start_is = number_by (codes "4294967294") refl refl refl;
    size = refl;
    options_are = record {
      mask = [];
      word = [];
      range = [];
      whole = refl;
      mask_is = refl;
      word_is = refl;
      word_fits = refl;
      range_is = refl;
      ends = refl;
    };
  };
}

-- ---- the worked faults

-- the four bytes `MIME`
no_header : HasFault (codes "MIME") (Malformed NoHeader 0)
unfolding computing
no_header = (λ e. subst AreSome e tt, λ rest e. subst IsThere (sym (ap (after_prefix header) e)) tt, refl)

-- `>0=` 00 05 `ab` newline
cut_value : HasFault (first_head ++ codes ">0=" ++ 0 ∷ 5 ∷ codes "ab" ++ 10 ∷ []) (Malformed Truncated 29)
unfolding computing
cut_value = inr (record {
  limit = 0;
  before = first_head;
  line = codes ">0=" ++ 0 ∷ 5 ∷ codes "ab" ++ 10 ∷ [];
  within = 8;
  whole = refl;
  before_is = first_line;
  no_marker = unmarked (codes ">0=" ++ 0 ∷ 5 ∷ codes "ab" ++ 10 ∷ []) refl;
  wrong = (in_value (codes ">0=") 0 5 (codes "ab" ++ 10 ∷ []) refl start (ltb-true 3 5 refl), refl);
  place = refl;
})

-- `[x:t/a]` newline
no_priority : HasFault (header ++ codes "[x:t/a]" ++ 10 ∷ []) (Malformed BadSection 12)
no_priority = inl (record {
  before = header;
  row = codes "x:t/a]";
  after = [];
  whole = refl;
  before_are = only_header;
  is_row = row_by (codes "x:t/a]") refl;
  no_head = no_head 120 (codes ":t/a]") refl;
  place = refl;
})

-- a marker before the first section
no_section : HasFault (header ++ codes ">0__NOMAGIC__" ++ 10 ∷ []) (Malformed BadSection 12)
no_section = inr (record {
  before = header;
  first = 62;
  after = codes "0__NOMAGIC__" ++ 10 ∷ [];
  whole = refl;
  before_are = only_header;
  no_head = eqb-false 62 91 refl;
  no_line = inl refl;
  place = refl;
})

-- `>=` 00 01 `a` newline
no_start : HasFault (first_head ++ codes ">=" ++ 0 ∷ 1 ∷ codes "a" ++ 10 ∷ []) (Malformed BadNumber 22)
unfolding computing
no_start = record {
  limit = 0;
  before = first_head;
  line = codes ">=" ++ 0 ∷ 1 ∷ codes "a" ++ 10 ∷ [];
  within = 1;
  whole = refl;
  before_is = first_line;
  no_marker = unmarked (codes ">=" ++ 0 ∷ 1 ∷ codes "a" ++ 10 ∷ []) refl;
  wrong = bad_number (codes ">") (61 ∷ 0 ∷ 1 ∷ codes "a" ++ 10 ∷ []) refl (before_start mark)
      (record {
        digits = [];
        next = 61;
        ended = record { after = 0 ∷ 1 ∷ codes "a" ++ 10 ∷ []; whole = refl; ends = refl };
        digits_are = tt;
        bad = inl refl;
      }) refl;
  place = refl;
}

-- `>4294967294=` 00 01 `a` newline
large_line : HasFault (first_head ++ codes ">4294967294=" ++ 0 ∷ 1 ∷ codes "a" ++ 10 ∷ []) (Malformed BadNumber 21)
unfolding computing
large_line = record {
  limit = 0;
  before = first_head;
  line = codes ">4294967294=" ++ 0 ∷ 1 ∷ codes "a" ++ 10 ∷ [];
  within = 0;
  whole = refl;
  before_is = first_line;
  no_marker = unmarked (codes ">4294967294=" ++ 0 ∷ 1 ∷ codes "a" ++ 10 ∷ []) refl;
  wrong = large_sum (codes ">4294967294=" ++ 0 ∷ 1 ∷ codes "a") [] large refl whole_line (leb-true 4294967296 4294967296 refl) refl;
  place = refl;
}

-- `>0=` 00 03 `abc~2` newline
odd_word : HasFault (first_head ++ codes ">0=" ++ 0 ∷ 3 ∷ codes "abc~2" ++ 10 ∷ []) (Malformed BadWord 30)
unfolding computing
odd_word = record {
  limit = 0;
  before = first_head;
  line = codes ">0=" ++ 0 ∷ 3 ∷ codes "abc~2" ++ 10 ∷ [];
  within = 9;
  whole = refl;
  before_is = first_line;
  no_marker = unmarked (codes ">0=" ++ 0 ∷ 3 ∷ codes "abc~2" ++ 10 ∷ []) refl;
  wrong = record {
    size = 3;
    before = codes ">0=" ++ 0 ∷ 3 ∷ codes "abc";
    rest = codes "2" ++ 10 ∷ [];
    word = codes "2";
    n = 2;
    next = 10;
    whole = refl;
    before_is = value;
    word_is = number_by (codes "2") refl refl refl;
    ended = record { after = []; whole = refl; ends = refl };
    misfit = refl;
    place = refl;
  };
  place = refl;
}

-- `1>0=` 00 01 `a` newline
first_indent : HasFault (first_head ++ codes "1>0=" ++ 0 ∷ 1 ∷ codes "a" ++ 10 ∷ []) (Malformed BadIndent 21)
unfolding computing
first_indent = record {
  limit = 0;
  before = first_head;
  line = codes "1>0=" ++ 0 ∷ 1 ∷ codes "a" ++ 10 ∷ [];
  within = 0;
  whole = refl;
  before_is = first_line;
  no_marker = unmarked (codes "1>0=" ++ 0 ∷ 1 ∷ codes "a" ++ 10 ∷ []) refl;
  wrong = too_far 1 (record {
    indent = codes "1";
    after = codes "0=" ++ 0 ∷ 1 ∷ codes "a" ++ 10 ∷ [];
    whole = refl;
    indent_is = number_by (codes "1") refl refl refl;
  }) (ltb-true 0 1 refl) refl;
  place = refl;
}

-- after a line of the indent 63, `64>`
too_deep : IsIndentTooDeep 64 (codes "64>") 0
too_deep =
    (record { indent = codes "64"; after = []; whole = refl; indent_is = number_by (codes "64") refl refl refl }, leb-true 64 64 refl, refl)
