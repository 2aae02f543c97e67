use Rattle.std.proofs.Common.{◌≡◌, ℕ, ◌+◌, ◌-◌, ◌*◌, List, [], ◌∷◌, min, arith, ◌∙◌, sym, ap, true, false}
use Rattle.std.proofs.lemmas.List.{nil_from_length}
use Rattle.mime_text.specs.Magic.Reading.{digits_at, is_digit}
use Rattle.mime_text.proofs.MagicLemmas.Numbers.{digit_on, digit_off, digit_none}
use Rattle.mime_text.proofs.magic.number.digits.Goals as goal
use Rattle.mime_text.proofs.magic.number.digits.Goals.{in-Some+then-not-is_digit, in_default}

pub loop-b-preserved : goal.loop-b-preserved
loop-b-preserved c =
    let i = c.loop-b.invariant in
    let e : c.loop-b.rest.now ≡ c.in-Some.b.now ∷ c.in-Some.after.now = c.in-Some.ensures.cases.0 in
    let d : is_digit c.in-Some.b.now ≡ true = sym c.is_digit.ensures ∙ c.if-not-is_digit.false in
    let step : digits_at (i.0 * 10 + (c.in-Some.b.now - 48)) c.in-Some.after.now ≡ digits_at i.0 c.loop-b.rest.now =
    sym (digit_on i.0 c.in-Some.b.now c.in-Some.after.now d) ∙ ap (digits_at i.0) (sym e) in
    (i.0 * 10 + (c.in-Some.b.now - 48), omega (arith, i.1), step ∙ i.2)

stopped : (c : goal.Joined-split_first) → digits_at 0 c.args.bytes.now ≡ (c.loop-b.invariant.0, c.loop-b.rest.now)
stopped c =
    let i = c.loop-b.invariant in
    let here : digits_at i.0 c.loop-b.rest.now ≡ (i.0, c.loop-b.rest.now) =
    elim c.match-split_first.branch [
      | in-Some+then-not-is_digit w ↦
          let e : c.loop-b.rest.now ≡ w.in-Some.b.now ∷ w.in-Some.after.now = w.in-Some.ensures.cases.0 in
          let d : is_digit w.in-Some.b.now ≡ false = sym w.is_digit.ensures ∙ w.if-not-is_digit.true in
          rw e (digit_off i.0 w.in-Some.b.now w.in-Some.after.now d)
      | in_default w ↦
          let e : c.loop-b.rest.now ≡ [] = nil_from_length c.loop-b.rest.now w.in_default.ensures.cases in
          rw e (digit_none i.0)
    ] in
    sym i.2 ∙ here

pub returns-clause-value : goal.returns-clause-value
returns-clause-value c = c.loop-b.invariant.1 ∙ ap (λ (d : ℕ × List ℕ). min d.0 4294967296) (sym (stopped c))

pub returns-clause-rest : goal.returns-clause-rest
returns-clause-rest c = ap (λ (d : ℕ × List ℕ). d.1) (sym (stopped c))
