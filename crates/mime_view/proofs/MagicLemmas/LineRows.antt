-- What a line answers with those after it.
use Rattle.std.proofs.Common.{◌≡◌, ℕ, zero, suc, ◌&&◌, ◌||◌, Bool, true, false, true≢false}
use Rattle.std.proofs.Common.{List, refl, sym, ap, subst, ◌∙◌, arith}
use Rattle.std.specs.Prelude.{Result, Ok, Err, IfOk}
use Rattle.std.proofs.Math.Bool.{or-false}
use Rattle.std.proofs.lemmas.Bool.{or_left}
use Rattle.mime_base.specs.Magic.{Forest, PlainLine, are_allowed, bare, is_allowed, line}
use Rattle.mime_base.specs.Magic.Holds.{equals_from, is_bare, some_holds}
use Rattle.mime_base.specs.declared.magic.host.Host.{Host}
use Rattle.mime_view.specs.Compared.{counted_on}
use Rattle.mime_view.specs.Magic.{AnswersLines}
use Rattle.mime_view.specs.declared.fault.CacheFault.{CacheFault}
use Rattle.mime_view.specs.declared.magic.MagicQuery.{MagicQuery}
use Rattle.mime_view.specs.declared.spending.Spending.{Spending}
use Rattle.mime_view.proofs.HitsLemmas.AllOf.{first_of, second, third}
use Rattle.mime_view.proofs.MagicLemmas.ComparedBytes.{counted_then, lines_compared-holds, lines_compared-passed}

-- a line with its children alone, and those after it
some_holds-split : (own : PlainLine) (children rest : Forest) (content : List ℕ) (host : Host)
    → some_holds (line own children rest) content host ≡ (some_holds (line own children bare) content host || some_holds rest content host)
unfolding some_holds
some_holds-split own children rest content host =
    ap (λ (b : Bool). b || some_holds rest content host)
    (sym (or-false (equals_from own host content own.start own.range && (is_bare children || some_holds children content host))))

-- no line, none holds
pub some_holds-bare : (content : List ℕ) (host : Host) → some_holds bare content host ≡ false
unfolding some_holds
some_holds-bare content host = refl

-- of lines that are allowed, the first is by itself
allowed_first : (levels : ℕ) (own : PlainLine) (children rest : Forest) → are_allowed levels (line own children rest) ≡ true
    → are_allowed levels (line own children bare) ≡ true
allowed_first zero own children rest allowed = allowed
allowed_first (suc levels) own children rest allowed =
    rw (
      first_of (is_allowed own) (are_allowed levels children) (are_allowed (suc levels) rest) allowed,
      second (is_allowed own) (are_allowed levels children) (are_allowed (suc levels) rest) allowed,
    ) refl

-- and so are those after it
allowed_rest : (levels : ℕ) (own : PlainLine) (children rest : Forest) → are_allowed levels (line own children rest) ≡ true
    → are_allowed levels rest ≡ true
allowed_rest zero own children rest allowed = absurd (true≢false (sym allowed))
allowed_rest (suc levels) own children rest allowed =
    third (is_allowed own) (are_allowed levels children) (are_allowed (suc levels) rest) allowed

-- where a line doesn't hold, those after it answer for all
pub lines_then : (query : MagicQuery) (levels : ℕ) (own : PlainLine) (children rest : Forest) (old mid new : Spending)
    (result : Result Bool CacheFault) → AnswersLines query levels (line own children bare) old mid (Ok false)
    → AnswersLines query levels rest mid new result → AnswersLines query levels (line own children rest) old new result
lines_then query levels own children rest old mid new result first later =
    let alike : some_holds (line own children rest) query.content query.host ≡ some_holds rest query.content query.host =
    some_holds-split own children rest query.content query.host
    ∙ ap (λ (b : Bool). b || some_holds rest query.content query.host) (sym first.answer) in
    record {
      answer = subst (λ (b : Bool). IfOk result (λ holds. holds ≡ b)) (sym alike) later.answer;
      need = λ allowed records bytes.
          later.need (allowed_rest levels own children rest allowed) (omega (arith, first.takes.most_records))
          (omega (arith, first.takes.most_value_bytes));
      takes = record {
        most_records = omega (arith, first.takes.most_records, later.takes.most_records);
        most_value_bytes = omega (arith, first.takes.most_value_bytes, later.takes.most_value_bytes);
      };
      counted = counted_then result old.meter.bytes mid.meter.bytes new.meter.bytes _ _ _ first.counted
          (lines_compared-passed own children query.content query.host rest (sym first.answer)) later.counted;
    }

-- one that holds answers for all
pub lines_holds_here : (query : MagicQuery) (levels : ℕ) (own : PlainLine) (children rest : Forest) (old new : Spending)
    → AnswersLines query levels (line own children bare) old new (Ok true)
    → AnswersLines query levels (line own children rest) old new (Ok true)
lines_holds_here query levels own children rest old new first = record {
  answer = sym (some_holds-split own children rest query.content query.host ∙ or_left _ _ (sym first.answer));
  need = λ allowed records bytes. refl;
  takes = record {
    most_records = omega (arith, first.takes.most_records);
    most_value_bytes = omega (arith, first.takes.most_value_bytes);
  };
  counted = let same = lines_compared-holds own children query.content query.host rest (sym first.answer) in
      first.counted ∙ ap (counted_on old.meter.bytes) (sym same);
}

-- and so does one that stops
pub lines_stops_here : (query : MagicQuery) (levels : ℕ) (own : PlainLine) (children rest : Forest) (old new : Spending) (e : CacheFault)
    → AnswersLines query levels (line own children bare) old new (Err e)
    → AnswersLines query levels (line own children rest) old new (Err e)
lines_stops_here query levels own children rest old new e first = record {
  answer = tt;
  need = λ allowed records bytes.
      first.need (allowed_first levels own children rest allowed) (omega arith) (omega arith);
  takes = record {
    most_records = omega (arith, first.takes.most_records);
    most_value_bytes = omega (arith, first.takes.most_value_bytes);
  };
  counted = tt;
}
