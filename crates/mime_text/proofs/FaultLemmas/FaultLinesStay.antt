-- What is wrong with a line stays so where bytes are appended.
use Rattle.std.proofs.Common.{◌≡◌, ℕ, ◌<◌, List, [], ◌∷◌, ◌++◌, length, refl, sym, ap, ◌∙◌, append_assoc, arith, inl, inr, ◌⊎◌}
use Rattle.mime_text.specs.Magic.FaultTable.{IsEnded, IsBadNumber, IsIndented, IsMisnumbered, large_indent, bad_number, no_equals}
use Rattle.mime_text.specs.Magic.FaultTable.{large_sum, IsMisworded, IsMisindented, no_mark, too_far}

-- of two fronts of one text, one is the front of the other
pub divided : (a b c d : List ℕ) → a ++ b ≡ c ++ d → ((k : List ℕ) × (a ≡ c ++ k)) ⊎ ((k : List ℕ) × (c ≡ a ++ k) × (0 < length k))
divided a b [] d e = inl (a, refl)
divided [] b (x ∷ c) d e = inr (x ∷ c, refl, omega arith)
divided (y ∷ a) b (x ∷ c) d e =
    let same : y ≡ x = cc in
    let rest : a ++ b ≡ c ++ d = cc in
    elim (divided a b c d rest) [
      | inl h ↦ inl (h.0, ap (λ (k : ℕ). k ∷ a) same ∙ ap (λ (t : List ℕ). x ∷ t) h.1)
      | inr h ↦ inr (h.0, ap (λ (t : List ℕ). x ∷ t) h.1 ∙ ap (λ (k : ℕ). k ∷ (a ++ h.0)) (sym same), h.2)
    ]

-- a text with more after its rest
pub longer : (text front rest more : List ℕ) → text ≡ front ++ rest → text ++ more ≡ front ++ (rest ++ more)
longer text front rest more is = ap (λ (t : List ℕ). t ++ more) is ∙ append_assoc front rest more

-- ---- a line with more bytes

-- digits that end
ended_stays : (digits : List ℕ) (next : ℕ) (text more : List ℕ) → IsEnded digits next text → IsEnded digits next (text ++ more)
ended_stays digits next text more ended =
    record { after = ended.after ++ more; whole = longer text digits (next ∷ ended.after) more ended.whole; ends = ended.ends }

-- a bad number
bad_stays : (text more : List ℕ) → IsBadNumber text → IsBadNumber (text ++ more)
bad_stays text more is =
    record {
      digits = is.digits;
      next = is.next;
      ended = ended_stays is.digits is.next text more is.ended;
      digits_are = is.digits_are;
      bad = is.bad;
    }

-- a number that is wrong
pub misnumbered_stays : (limit : ℕ) (line more : List ℕ) (at : ℕ) → IsMisnumbered limit line at → IsMisnumbered limit (line ++ more) at
misnumbered_stays limit line more at (large_indent indent next ended are large e) =
    large_indent indent next (ended_stays indent next line more ended) are large e
misnumbered_stays limit line more at (bad_number before rest is place bad e) =
    bad_number before (rest ++ more) (longer line before rest more is) place (bad_stays rest more bad) e
misnumbered_stays limit line more at (no_equals before rest start n next is i num ended other e) =
    no_equals before (rest ++ more) start n next (longer line before rest more is) i num (ended_stays start next rest more ended) other e
misnumbered_stays limit line more at (large_sum before after own is end large e) =
    large_sum before (after ++ more) own (longer line before (10 ∷ after) more is) end large e

-- a word that is wrong
pub misworded_stays : (limit : ℕ) (line more : List ℕ) (at : ℕ) → IsMisworded limit line at → IsMisworded limit (line ++ more) at
misworded_stays limit line more at w = record {
  size = w.size;
  before = w.before;
  rest = w.rest ++ more;
  word = w.word;
  n = w.n;
  next = w.next;
  whole = longer line w.before (126 ∷ w.rest) more w.whole;
  before_is = w.before_is;
  word_is = w.word_is;
  ended = ended_stays w.word w.next w.rest more w.ended;
  misfit = w.misfit;
  place = w.place;
}

-- an indent
pub indented_stays : (depth : ℕ) (line more : List ℕ) → IsIndented depth line → IsIndented depth (line ++ more)
indented_stays depth line more i =
    record { indent = i.indent; after = i.after ++ more; whole = longer line i.indent (62 ∷ i.after) more i.whole; indent_is = i.indent_is }

-- an indent that is wrong
pub misindented_stays : (limit : ℕ) (line more : List ℕ) (at : ℕ) → IsMisindented limit line at → IsMisindented limit (line ++ more) at
misindented_stays limit line more at (no_mark indent n next num ended other e) =
    no_mark indent n next num (ended_stays indent next line more ended) other e
misindented_stays limit line more at (too_far depth i far e) = too_far depth (indented_stays depth line more i) far e
