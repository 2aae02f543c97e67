-- Which lines were asked, from what a step takes and from what its parts asked.
use Rattle.std.proofs.Common.{◌≡◌, ℕ, suc, ◌+◌, ◌*◌, ◌<◌, ◌≤◌, List, [], ◌∷◌, ◌++◌, arith, get_or, refl, sym}
use Rattle.std.proofs.lemmas.List.{length-append}
use Rattle.std.proofs.lemmas.List.Elements.{All-append, All-cons, All-nil, All-weaker}
use Rattle.std.proofs.lemmas.List.Sums.{sum_by-append}
use Rattle.mime_base.specs.Cache.Bytes.{field, fields}
use Rattle.mime_view.specs.Asked.{AsksLines, IsLineAmong, IsLineBelow, IsSectionLine}
use Rattle.mime_view.specs.Magic.{IsMagicLine}
use Rattle.mime_view.specs.declared.budget.Budget.{Budget}

-- where no value bytes are taken, no line was asked
pub asks_none : (c : List ℕ) (Is : ℕ → Type 0) (old new : Budget) → new.records ≤ old.records → new.value_bytes ≡ old.value_bytes
    → AsksLines c Is old new
asks_none c Is old new fewer same = record {
  lines = [];
  each = All-nil Is;
  few = omega (arith, fewer);
  taken = omega (arith, same);
}

-- where those of one line are, and a record, it was
pub asks_one : (c : List ℕ) (at : ℕ) (old new : Budget) → new.records + 1 ≤ old.records
    → new.value_bytes + field c at 3 ≡ old.value_bytes → AsksLines c (λ r. r ≡ at) old new
asks_one c at old new fewer same = record {
  lines = at ∷ [];
  each = All-cons (λ r. r ≡ at) at [] refl (All-nil (λ r. r ≡ at));
  few = omega (arith, fewer);
  taken = omega (arith, same);
}

-- the lines of one step, and then those of another
pub asks_then : (c : List ℕ) (Is : ℕ → Type 0) (old mid new : Budget) → AsksLines c Is old mid → AsksLines c Is mid new
    → AsksLines c Is old new
asks_then c Is old mid new first second = record {
  lines = first.lines ++ second.lines;
  each = All-append Is first.lines second.lines first.each second.each;
  few = omega (arith, first.few, second.few, length-append first.lines second.lines);
  taken = omega (arith, first.taken, second.taken, sum_by-append (λ r. field c r 3) first.lines second.lines);
}

-- lines of which less is said
pub asks_weaker : (c : List ℕ) (Is Are : ℕ → Type 0) (old new : Budget) → ((r : ℕ) → Is r → Are r) → AsksLines c Is old new
    → AsksLines c Are old new
asks_weaker c Is Are old new weaker asked = record {
  lines = asked.lines;
  each = All-weaker Is Are weaker asked.lines asked.each;
  few = asked.few;
  taken = asked.taken;
}

-- a line itself
pub asks_own : (c : List ℕ) (at level : ℕ) (old new : Budget) → level ≤ 63 → AsksLines c (λ r. r ≡ at) old new
    → AsksLines c (IsLineBelow c at level) old new
asks_own c at level old new within =
    asks_weaker c (λ r. r ≡ at) (IsLineBelow c at level) old new
    (λ r same. record { steps = 0; within = omega (arith, within); leads = same })

-- a line itself, and then those below it
pub asks_parent : (c : List ℕ) (at first count level : ℕ) (old mid new : Budget) → level ≤ 63 → count ≡ field c at 6 → first ≡ field c at 7
    → AsksLines c (λ r. r ≡ at) old mid → AsksLines c (IsLineAmong c first count (level + 1)) mid new
    → AsksLines c (IsLineBelow c at level) old new
asks_parent c at first count level old mid new within number place own below =
    asks_then c (IsLineBelow c at level) old mid new (asks_own c at level old mid within own)
    (asks_weaker c (IsLineAmong c first count (level + 1)) (IsLineBelow c at level) mid new
    (λ r among. record {
      steps = suc among.2.steps;
      within = omega (arith, among.2.within);
      leads = (among.0, rw (sym number) among.1, rw (sym place) among.2.leads);
    }) below)

-- those of the lines of a block before one, and then that one, or those below it
pub asks_next : (c : List ℕ) (first count level start i : ℕ) (old mid new : Budget) → start ≡ first → i < count
    → AsksLines c (IsLineAmong c first count level) old mid → AsksLines c (IsLineBelow c (start + 32 * i) level) mid new
    → AsksLines c (IsLineAmong c first count level) old new
asks_next c first count level start i old mid new same within before asked =
    asks_then c (IsLineAmong c first count level) old mid new before
    (asks_weaker c (IsLineBelow c (start + 32 * i) level) (IsLineAmong c first count level) mid new
    (λ r below. (i, within, rw (sym same) below)) asked)

-- those of a section, whose record was taken and has these numbers
pub asks_of_section : (c : List ℕ) (at : ℕ) (numbers : List ℕ) (old mid new : Budget) → numbers ≡ fields c at 4
    → mid.records + 1 ≡ old.records → mid.value_bytes ≡ old.value_bytes
    → AsksLines c (IsLineAmong c (get_or numbers 3 0) (get_or numbers 2 0) 0) mid new → AsksLines c (IsSectionLine c at) old new
asks_of_section c at numbers old mid new stand taken same asked =
    let lines : AsksLines c (IsSectionLine c at) mid new = rw stand at asked in
    asks_then c (IsSectionLine c at) old mid new (asks_none c (IsSectionLine c at) old mid (omega (arith, taken)) same) lines

-- those of the sections of magic before one, and then of that one
pub asks_section : (c : List ℕ) (at first i : ℕ) (old mid new : Budget) → first ≡ field c at 2 → i < field c at 0
    → AsksLines c (IsMagicLine c at) old mid → AsksLines c (IsSectionLine c (first + 16 * i)) mid new
    → AsksLines c (IsMagicLine c at) old new
asks_section c at first i old mid new same within before asked =
    let section : AsksLines c (IsSectionLine c (field c at 2 + 16 * i)) mid new = rw (sym same) asked in
    asks_then c (IsMagicLine c at) old mid new before
    (asks_weaker c (IsSectionLine c (field c at 2 + 16 * i)) (IsMagicLine c at) mid new
    (λ r among. record {
      section = i;
      within = within;
      top = among.0;
      below = among.1;
      steps = among.2.steps;
      few = omega (arith, among.2.within);
      leads = among.2.leads;
    }) section)
