-- What a section answers with those after it.
use Rattle.std.proofs.Common.{◌≡◌, ℕ, ◌+◌, Bool, true, false, cond, List, [], ◌∷◌}
use Rattle.std.proofs.Common.{Option, None, Some, refl, sym, ap, subst, ◌∙◌, arith}
use Rattle.std.specs.Prelude.{Result, Ok, Err, IfOk}
use Rattle.std.specs.Borrow.{Bor}
use Rattle.std.proofs.lemmas.List.Sums.{sum_by-cons}
use Rattle.mime_base.specs.Format.Magic.{line_count}
use Rattle.mime_base.specs.Format.Packed.{forest_value_length, matchlet_count, value_length}
use Rattle.mime_base.specs.Magic.{PlainSection, are_allowed, are_allowed_sections}
use Rattle.mime_base.specs.Magic.Holds.{first_magic, some_holds}
use Rattle.mime_base.specs.declared.magic.host.Host.{Host}
use Rattle.mime_view.specs.Compared.{counted_on}
use Rattle.mime_view.specs.Magic.{AnswersSections, plain_found}
use Rattle.mime_view.specs.declared.fault.CacheFault.{CacheFault}
use Rattle.mime_view.specs.declared.magic.MagicQuery.{MagicQuery}
use Rattle.mime_view.specs.declared.spending.Spending.{Spending}
use Rattle.mime_view.proofs.HitsLemmas.AllOf.{both_left, both_right}
use Rattle.mime_view.proofs.MagicLemmas.ComparedBytes.{counted_then, sections_compared-found, sections_compared-passed}

-- a type and a priority that are found, or none
abbrev pub Found : Type 0
Found = Option (Bor (List ℕ) × ℕ)

-- no section gives no type
pub first_magic-none : (content : List ℕ) (host : Host) → first_magic [] content host ≡ None
unfolding first_magic
first_magic-none content host = refl

-- a section that gives nothing is skipped
first_magic-passed : (section : PlainSection) (rest : List PlainSection) (content : List ℕ) (host : Host)
    → None ≡ first_magic (section ∷ []) content host → first_magic (section ∷ rest) content host ≡ first_magic rest content host
unfolding first_magic
first_magic-passed section rest content host is = by_lines (some_holds section.lines content host) (section.kind, section.priority) is
  where
    by_lines : (holds : Bool) (own : List ℕ × ℕ) → None ≡ cond holds (Some own) None
        → cond holds (Some own) (first_magic rest content host) ≡ first_magic rest content host
    by_lines true own is = absurd (cc)
    by_lines false own is = refl

-- one that gives something is the first of those from it on
first_magic-found : (section : PlainSection) (rest : List PlainSection) (content : List ℕ) (host : Host) (found : List ℕ × ℕ)
    → Some found ≡ first_magic (section ∷ []) content host → first_magic (section ∷ rest) content host ≡ Some found
unfolding first_magic
first_magic-found section rest content host found is = by_lines (some_holds section.lines content host) (section.kind, section.priority) is
  where
    by_lines : (holds : Bool) (own : List ℕ × ℕ) → Some found ≡ cond holds (Some own) None
        → cond holds (Some own) (first_magic rest content host) ≡ Some found
    by_lines true own is = sym is
    by_lines false own is = absurd (cc)

module _ (query : MagicQuery) (section : PlainSection) (rest : List PlainSection) (old : Spending) where
  -- how many lines a section and those after it have
  lines : matchlet_count (section ∷ rest) ≡ line_count section.lines + matchlet_count rest
  lines = sum_by-cons (λ (s : PlainSection). line_count s.lines) section rest

  -- how long their values are
  values : value_length (section ∷ rest) ≡ forest_value_length section.lines + value_length rest
  values = sum_by-cons (λ (s : PlainSection). forest_value_length s.lines) section rest

  -- where a section gives nothing, those after it answer for all
  pub sections_then : (mid new : Spending) (result : Result Found CacheFault) → AnswersSections query (section ∷ []) old mid (Ok None)
      → AnswersSections query rest mid new result → AnswersSections query (section ∷ rest) old new result
  sections_then mid new result first later =
      let alike = first_magic-passed section rest query.content query.host first.answer in
      record {
        answer = subst (λ (found : Option (List ℕ × ℕ)). IfOk result (λ it. plain_found it ≡ found)) (sym alike) later.answer;
        need = λ allowed records bytes.
            later.need (both_right (are_allowed 64 section.lines) (are_allowed_sections rest) allowed)
            (omega (arith, lines, first.takes.most_records)) (omega (arith, values, first.takes.most_value_bytes));
        takes = record {
          most_records = omega (arith, lines, first.takes.most_records, later.takes.most_records);
          most_value_bytes = omega (arith, values, first.takes.most_value_bytes, later.takes.most_value_bytes);
        };
        counted = counted_then result old.meter.bytes mid.meter.bytes new.meter.bytes _ _ _ first.counted
            (sections_compared-passed section query.content query.host rest first.answer) later.counted;
      }

  -- one that gives something answers for all
  pub sections_found_here : (new : Spending) (pair : Bor (List ℕ) × ℕ) → AnswersSections query (section ∷ []) old new (Ok (Some pair))
      → AnswersSections query (section ∷ rest) old new (Ok (Some pair))
  sections_found_here new pair first = record {
    answer = sym (first_magic-found section rest query.content query.host (pair.0.now, pair.1) first.answer);
    need = λ allowed records bytes. refl;
    takes = record {
      most_records = omega (arith, lines, first.takes.most_records);
      most_value_bytes = omega (arith, values, first.takes.most_value_bytes);
    };
    counted = let same = sections_compared-found section query.content query.host rest (pair.0.now, pair.1) first.answer in
        first.counted ∙ ap (counted_on old.meter.bytes) (sym same);
  }

  -- and so does one that stops
  pub sections_stops_here : (new : Spending) (e : CacheFault) → AnswersSections query (section ∷ []) old new (Err e)
      → AnswersSections query (section ∷ rest) old new (Err e)
  sections_stops_here new e first = record {
    answer = tt;
    need = λ allowed records bytes.
        first.need (rw (both_left (are_allowed 64 section.lines) (are_allowed_sections rest) allowed) refl)
        (omega (arith, lines)) (omega (arith, values));
    takes = record {
      most_records = omega (arith, lines, first.takes.most_records);
      most_value_bytes = omega (arith, values, first.takes.most_value_bytes);
    };
    counted = tt;
  }
