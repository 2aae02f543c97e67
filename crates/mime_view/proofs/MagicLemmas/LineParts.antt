-- What a line answers with its children, from what it answers by itself.
use Rattle.std.proofs.Common.{◌≡◌, ℕ, suc, ◌<◌, Bool, true, false, true≢false}
use Rattle.std.proofs.Common.{List, refl, sym, ap, subst, ◌∙◌, arith}
use Rattle.std.specs.Prelude.{Result, Ok, Err, IfOk}
use Rattle.std.proofs.Math.Bool.{or-false}
use Rattle.mime_base.specs.Format.Magic.{width}
use Rattle.mime_base.specs.Magic.{Forest, PlainLine, are_allowed, bare, is_allowed, line}
use Rattle.mime_base.specs.Magic.Holds.{equals_from, some_holds}
use Rattle.mime_base.specs.declared.magic.host.Host.{Host}
use Rattle.mime_view.specs.Compared.{counted_on}
use Rattle.mime_view.specs.Magic.{AnswersLine, AnswersLines}
use Rattle.mime_view.specs.declared.fault.CacheFault.{CacheFault}
use Rattle.mime_view.specs.declared.magic.MagicQuery.{MagicQuery}
use Rattle.mime_view.specs.declared.magic.Seen.{Seen}
use Rattle.mime_view.specs.declared.spending.Spending.{Spending}
use Rattle.mime_view.proofs.HitsLemmas.AllOf.{second}
use Rattle.mime_view.proofs.MagicLemmas.ComparedBytes.{counted_then, lines_compared-differs, lines_compared-equals, lines_compared-none}

-- a line that does not equal its value does not hold
differs : (own : PlainLine) (children : Forest) (content : List ℕ) (host : Host)
    → equals_from own host content own.start own.range ≡ false
    → some_holds (line own children bare) content host ≡ false
unfolding some_holds
differs own children content host e = rw e refl

-- one without children holds where it equals its value
alone : (own : PlainLine) (children : Forest) (content : List ℕ) (host : Host) → equals_from own host content own.start own.range ≡ true
    → width children ≡ 0 → some_holds (line own children bare) content host ≡ true
unfolding some_holds
alone own bare content host e w = rw e refl
alone own (line first below rest) content host e w = absurd (omega arith)

-- any other where besides some child holds
parent : (own : PlainLine) (children : Forest) (content : List ℕ) (host : Host)
    → equals_from own host content own.start own.range ≡ true
    → 0 < width children → some_holds (line own children bare) content host ≡ some_holds children content host
unfolding some_holds
parent own bare content host e w = absurd (omega arith)
parent own (line first below rest) content host e w = rw e (or-false (some_holds (line first below rest) content host))

-- children are allowed a level less
below : (levels : ℕ) (own : PlainLine) (children : Forest) → are_allowed (suc levels) (line own children bare) ≡ true
    → are_allowed levels children ≡ true
below levels own children allowed = second (is_allowed own) (are_allowed levels children) true allowed

-- where no level is left there is no line
no_level : (lines : Forest) → are_allowed 0 lines ≡ true → width lines ≡ 0
no_level bare allowed = refl
no_level (line own children rest) allowed = absurd (true≢false (sym allowed))

-- so a line on the last level has no children
pub last_level : (own : PlainLine) (children : Forest) → are_allowed 1 (line own children bare) ≡ true → width children ≡ 0
last_level own children allowed = no_level children (below 0 own children allowed)

module _ (query : MagicQuery) (levels : ℕ) (own : PlainLine) (children : Forest) where
  -- a line that does not equal its value answers at once
  pub line_differs : (old new : Spending) (seen : Seen) → AnswersLine query own old new (Ok seen) → seen.equals ≡ false
      → AnswersLines query levels (line own children bare) old new (Ok false)
  line_differs old new seen here other = record {
    answer = sym (differs own children query.content query.host (sym here.answer ∙ other));
    need = λ allowed records bytes. refl;
    takes = record {
      most_records = omega (arith, here.takes.most_records);
      most_value_bytes = omega (arith, here.takes.most_value_bytes);
    };
    counted = let same = lines_compared-differs own children query.content query.host (sym here.answer ∙ other) in
        here.counted ∙ ap (counted_on old.meter.bytes) (sym same);
  }

  -- and so does one that equals it and has no children
  pub line_alone : (old new : Spending) (seen : Seen) → AnswersLine query own old new (Ok seen) → seen.equals ≡ true → width children ≡ 0
      → AnswersLines query levels (line own children bare) old new (Ok true)
  line_alone old new seen here equal none = record {
    answer = sym (alone own children query.content query.host (sym here.answer ∙ equal) none);
    need = λ allowed records bytes. refl;
    takes = record {
      most_records = omega (arith, here.takes.most_records);
      most_value_bytes = omega (arith, here.takes.most_value_bytes);
    };
    counted = let sum = lines_compared-equals own children query.content query.host (sym here.answer ∙ equal) in
        let nothing = lines_compared-none children query.content query.host none in
        here.counted ∙ ap (counted_on old.meter.bytes) (omega (arith, sum, nothing));
  }

  -- any other answers what its children do
  pub line_parent : (old mid new : Spending) (seen : Seen) (result : Result Bool CacheFault) → AnswersLine query own old mid (Ok seen)
      → seen.equals ≡ true → 0 < width children → AnswersLines query levels children mid new result
      → AnswersLines query (suc levels) (line own children bare) old new result
  line_parent old mid new seen result here equal some lower = record {
    answer = subst (λ (b : Bool). IfOk result (λ holds. holds ≡ b))
        (sym (parent own children query.content query.host (sym here.answer ∙ equal) some)) lower.answer;
    need = λ allowed records bytes.
        lower.need (below levels own children allowed) (omega (arith, here.takes.most_records))
        (omega (arith, here.takes.most_value_bytes));
    takes = record {
      most_records = omega (arith, here.takes.most_records, lower.takes.most_records);
      most_value_bytes = omega (arith, here.takes.most_value_bytes, lower.takes.most_value_bytes);
    };
    counted = counted_then result old.meter.bytes mid.meter.bytes new.meter.bytes _ _ _ here.counted
        (lines_compared-equals own children query.content query.host (sym here.answer ∙ equal)) lower.counted;
  }

  -- one that is not allowed may stop
  pub line_refused : (old new : Spending) (seen : Seen) (e : CacheFault) → AnswersLine query own old new (Ok seen)
      → (are_allowed levels (line own children bare) ≡ true → ⊥)
      → AnswersLines query levels (line own children bare) old new (Err e)
  line_refused old new seen e here refused = record {
    answer = tt;
    need = λ allowed records bytes. absurd (refused allowed);
    takes = record {
      most_records = omega (arith, here.takes.most_records);
      most_value_bytes = omega (arith, here.takes.most_value_bytes);
    };
    counted = tt;
  }
