-- Lines that are put after others, step by step.
use Rattle.std.proofs.Common.{◌≡◌, ℕ, zero, suc, ◌+◌, ◌*◌, ◌<◌, true, ◌&&◌, List, [], ◌∷◌, ◌++◌, length, map}
use Rattle.std.proofs.Common.{refl, ap, ap₂, ◌∙◌, sym, subst, arith, append-nil, length-append}
use Rattle.std.proofs.lemmas.Bool.{and_from}
use Rattle.std.proofs.lemmas.List.{append_assoc, length-map, map_push}
use Rattle.mime_base.specs.Cache.Bytes.{Stands}
use Rattle.mime_base.specs.Format.Magic.{LinesAt, line_count, line_numbers, width}
use Rattle.mime_base.specs.Format.Records.{CardsAt}
use Rattle.mime_base.specs.Magic.{PlainLine, are_allowed, bare, is_allowed, line}
use Rattle.mime_load.specs.Adding.{AddsLines, SetsBelow, flat, plain_entry}
use Rattle.mime_load.specs.MagicStanding.{LineStands}
use Rattle.mime_load.specs.declared.line.LentLine.{LentLine}
use Rattle.mime_load.specs.declared.taking.Taking.{Taking}
use Rattle.mime_load.proofs.FlatLines.{length-flat}
use Rattle.mime_load.proofs.JoinedLines.{allowed-joined, flat-joined, joined, line_count-joined, stand-joined, value_length-joined, width-joined}

-- there are as many more lines of the code as lines at all depths
pub length-added : (c : List ℕ) (at levels many : ℕ) (old new : List LentLine) (before after : Taking)
    (added : AddsLines c at levels many old new before after) → length new ≡ length old + line_count added.lines
length-added c at levels many old new before after added =
    let f = added.lines in
    let all = sym (length-map new plain_entry) ∙ ap (λ (es : List (PlainLine × ℕ)). length es) added.are in
    omega (arith, all, length-append (map plain_entry old) (flat f), length-map old plain_entry, length-flat f)

-- the entries with that of one more line
pub pushed_entry : (old new : List LentLine) (m : LentLine) (entry : PlainLine × ℕ) → new ≡ old ++ m ∷ [] → plain_entry m ≡ entry
    → map plain_entry new ≡ map plain_entry old ++ entry ∷ []
pushed_entry old new m entry pushed is =
    ap (map plain_entry) pushed ∙ map_push plain_entry old m ∙ ap (λ (e : PlainLine × ℕ). map plain_entry old ++ e ∷ []) is

-- none are put after others
pub adds_none : (c : List ℕ) (at levels : ℕ) (old : List LentLine) (before : Taking) → AddsLines c at levels 0 old old before before
adds_none c at levels old before = record {
  lines = bare;
  are = sym (append-nil (map plain_entry old));
  count = refl;
  stand = record { stand = tt; allowed = refl };
  taken = record { records = omega arith; value_bytes = omega arith };
}

-- others after them
pub adds_more : (c : List ℕ) (first levels i at : ℕ) (old mid new : List LentLine) (before between after : Taking)
    → AddsLines c first levels i old mid before between → AddsLines c at levels 1 mid new between after → at ≡ first + 32 * i
    → AddsLines c first levels (i + 1) old new before after
adds_more c first levels i at old mid new before between after one more place =
    let f = one.lines in
    let g = more.lines in
    let behind : at ≡ first + 32 * width f = omega (arith, place, one.count) in
    record {
      lines = joined f g;
      are =
          more.are ∙ ap (λ (es : List (PlainLine × ℕ)). es ++ flat g) one.are
          ∙ append_assoc (map plain_entry old) (flat f) (flat g)
          ∙ ap (λ (es : List (PlainLine × ℕ)). map plain_entry old ++ es) (sym (flat-joined f g));
      count = omega (arith, width-joined f g, one.count, more.count);
      stand = record {
        stand = stand-joined (Stands c) first f g one.stand.stand (subst (λ (a : ℕ). LinesAt (Stands c) a g) behind more.stand.stand);
        allowed = allowed-joined levels f g one.stand.allowed more.stand.allowed;
      };
      taken = record {
        records = omega (arith, one.taken.records, more.taken.records, line_count-joined f g);
        value_bytes = omega (arith, one.taken.value_bytes, more.taken.value_bytes, value_length-joined f g);
      };
    }

-- a line, those below it, and the number of these
pub adds_line : (c : List ℕ) (at levels below place : ℕ) (own : PlainLine) (count first : ℕ) (old pushed mid new : List LentLine)
    (before between after : Taking) → levels ≡ suc below → LineStands c at own count first
    → map plain_entry pushed ≡ map plain_entry old ++ (own, 0) ∷ [] → place ≡ length old
    → between.records + 32 ≡ before.records → between.value_bytes + length own.value ≡ before.value_bytes
    → AddsLines c first below count pushed mid between after → SetsBelow place mid new → AddsLines c at levels 1 old new before after
adds_line c at levels below place own count first old pushed mid new before between after deep stands pushed_is place_is records values
    added set_is =
    let f = added.lines in
    let entries = map plain_entry old in
    let so_far : map plain_entry mid ≡ entries ++ (own, 0) ∷ flat f =
    added.are ∙ ap (λ (es : List (PlainLine × ℕ)). es ++ flat f) pushed_is ∙ append_assoc entries ((own, 0) ∷ []) (flat f) in
    let wide : count ≡ width f = sym added.count in
    record {
      lines = line own f bare;
      are =
          set_is.are entries own 0 (flat f) (length-map old plain_entry ∙ sym place_is) so_far
          ∙ ap₂ (λ (n : ℕ) (es : List (PlainLine × ℕ)). entries ++ (own, n) ∷ es) (length-flat f) (sym (append-nil (flat f)));
      count = refl;
      stand = record {
        stand = (
          stands.value,
          stands.mask,
          first,
          subst (λ (n : ℕ). CardsAt (Stands c) at (line_numbers own stands.value stands.mask n first)) wide stands.numbers,
          stands.value_stands,
          stands.mask_stands,
          added.stand.stand,
          tt,
        );
        allowed =
            rw deep (and_from (is_allowed own && are_allowed below f) true
            (and_from (is_allowed own) (are_allowed below f) stands.allowed added.stand.allowed) refl);
      };
      taken = record {
        records = omega (arith, records, added.taken.records);
        value_bytes = omega (arith, values, added.taken.value_bytes);
      };
    }

-- a line without any below it
pub adds_childless : (c : List ℕ) (at levels : ℕ) (own : PlainLine) (count first : ℕ) (old new : List LentLine) (before after : Taking)
    → 0 < levels → LineStands c at own count first → count ≡ 0 → map plain_entry new ≡ map plain_entry old ++ (own, 0) ∷ []
    → after.records + 32 ≡ before.records → after.value_bytes + length own.value ≡ before.value_bytes
    → AddsLines c at levels 1 old new before after
adds_childless c at zero own count first old new before after some stands none new_is records values = absurd (omega (arith, some))
adds_childless c at (suc below) own count first old new before after some stands none new_is records values = record {
  lines = line own bare bare;
  are = new_is;
  count = refl;
  stand = record {
    stand = (
      stands.value,
      stands.mask,
      first,
      subst (λ (n : ℕ). CardsAt (Stands c) at (line_numbers own stands.value stands.mask n first)) none stands.numbers,
      stands.value_stands,
      stands.mask_stands,
      tt,
      tt,
    );
    allowed = and_from (is_allowed own && true) true (and_from (is_allowed own) true stands.allowed refl) refl;
  };
  taken = record { records = omega (arith, records); value_bytes = omega (arith, values) };
}
