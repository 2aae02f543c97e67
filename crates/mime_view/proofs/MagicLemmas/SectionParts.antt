-- What a section answers, from what its lines do.
use Rattle.std.proofs.Common.{◌≡◌, ℕ, ◌+◌, Bool, true, false, cond, List, [], ◌∷◌, length, None, Some, refl, sym, arith}
use Rattle.std.specs.Prelude.{Ok}
use Rattle.std.specs.Borrow.{Bor}
use Rattle.std.proofs.lemmas.List.Sums.{sum_by-cons}
use Rattle.mime_base.specs.Format.Magic.{line_count}
use Rattle.mime_base.specs.Format.Packed.{forest_value_length, matchlet_count, value_length}
use Rattle.mime_base.specs.Magic.{PlainSection}
use Rattle.mime_base.specs.Magic.Holds.{first_magic, some_holds}
use Rattle.mime_base.specs.declared.magic.host.Host.{Host}
use Rattle.mime_base.specs.declared.meter.Meter.{Meter}
use Rattle.mime_view.specs.Compared.{counted_on}
use Rattle.mime_view.specs.Magic.{AnswersLines, AnswersSections}
use Rattle.mime_view.specs.Spending.{spending_of}
use Rattle.mime_view.specs.declared.magic.MagicQuery.{MagicQuery}
use Rattle.mime_view.specs.declared.spending.Spending.{Spending}
use Rattle.mime_view.proofs.MagicLemmas.ComparedBytes.{sections_compared-one}

-- a section gives its type where one of its lines holds
first_magic-one : (section : PlainSection) (content : List ℕ) (host : Host) (holds : Bool) → holds ≡ some_holds section.lines content host
    → first_magic (section ∷ []) content host ≡ cond holds (Some (section.kind, section.priority)) None
unfolding first_magic
first_magic-one section content host holds is = rw is refl

-- the record of a section was taken, and no byte counted
pub record TakesSection (old mid : Spending) : Type 0 where
  pub record_taken : mid.budget.records + 1 ≡ old.budget.records
  pub value_bytes : mid.budget.value_bytes ≡ old.budget.value_bytes
  pub bytes : mid.meter.bytes ≡ old.meter.bytes

module _ (query : MagicQuery) (section : PlainSection) (old mid new : Spending) (taken : TakesSection old mid) where
  -- how many lines it has
  lines : matchlet_count (section ∷ []) ≡ line_count section.lines + 0
  lines = sum_by-cons (λ (s : PlainSection). line_count s.lines) section []

  -- how long their values are
  values : value_length (section ∷ []) ≡ forest_value_length section.lines + 0
  values = sum_by-cons (λ (s : PlainSection). forest_value_length s.lines) section []

  -- where no line holds it gives nothing
  pub section_passes : AnswersLines query 64 section.lines mid new (Ok false) → AnswersSections query (section ∷ []) old new (Ok None)
  section_passes step = record {
    answer = sym (first_magic-one section query.content query.host false step.answer);
    need = λ allowed records bytes. refl;
    takes = record {
      most_records = omega (arith, lines, step.takes.most_records);
      most_value_bytes = omega (arith, values, step.takes.most_value_bytes);
    };
    counted = let one = sections_compared-one section query.content query.host false step.answer in
        let more = step.counted in omega (arith, one, more, taken.bytes);
  }

  -- where one does, its type, whose name is read
  pub section_holds : (meter : Meter) (pair : Bor (List ℕ) × ℕ) → meter.bytes ≡ counted_on new.meter.bytes (length section.kind + 1)
      → pair.0.now ≡ section.kind → pair.1 ≡ section.priority → AnswersLines query 64 section.lines mid new (Ok true)
      → AnswersSections query (section ∷ []) old (spending_of meter new.budget) (Ok (Some pair))
  section_holds meter pair named kind priority step = record {
    answer = rw (kind, priority) (sym (first_magic-one section query.content query.host true step.answer));
    need = λ allowed records bytes. refl;
    takes = record {
      most_records = omega (arith, lines, step.takes.most_records);
      most_value_bytes = omega (arith, values, step.takes.most_value_bytes);
    };
    counted = let one = sections_compared-one section query.content query.host true step.answer in
        let more = step.counted in omega (arith, one, more, named, taken.bytes);
  }
