use Rattle.std.proofs.Common.{◌≡◌, ℕ, ◌+◌, ◌-◌, ◌<◌, ◌≤◌, inl, inr, length, get_or, arith, ap, ◌∙◌, List}
use Rattle.std.proofs.lemmas.Bool.{cases_lt}
use Rattle.std.proofs.lemmas.List.{length-map}
use Rattle.mime_base.specs.declared.meter.Meter.{Meter}
use Rattle.mime_lookup.proofs.IndexLemmas.LineBytes.{table_bytes-line}
use Rattle.mime_lookup.proofs.IndexLemmas.OwnedSums.{owned_sum-more}
use Rattle.mime_lookup.specs.LineBytes.{asked_bytes, owned_sum}
use Rattle.mime_lookup.specs.Tables.{OwnsOthers}
use Rattle.mime_lookup.specs.TopLines.{PlainTop, plain_top, plain_tops}
use Rattle.mime_lookup.proofs.indexed.first_line.among_others.Goals as goal

-- one of the others more, before those that were asked
other_more : (size : ℕ) (tops : List PlainTop) (others : List ℕ) (owner : ℕ → ℕ) (this at lines end old mid new : ℕ) →
    OwnsOthers others owner this lines → 0 < at → at ≤ length others →
    ((less : ℕ) → (at < length others → get_or others at 0 < less) → mid ≤ old + at + owned_sum (asked_bytes size tops) owner this less) →
    new + 1 ≤ mid + asked_bytes size tops (get_or others (at - 1) 0) → get_or others (at - 1) 0 < end →
    new ≤ old + (at - 1) + owned_sum (asked_bytes size tops) owner this end
other_more size tops others owner this at lines end old mid new owns some within before here low =
    let line : ℕ = get_or others (at - 1) 0 in
    let same : at - 1 + 1 ≡ at = omega arith in
    omega (
      arith,
      before line (λ more. omega (arith, owns.falls (at - 1) (omega arith), ap (λ n. get_or others n 0) same)),
      here,
      table_bytes-line size tops owner this line line (owns.own (at - 1) (omega arith)) (omega arith),
      owned_sum-more (asked_bytes size tops) owner this (line + 1) end (omega (arith, low)),
    )

pub loop-at-init : goal.loop-at-init
loop-at-init g c = record {
  within = omega arith;
  narrows = record { less = omega arith; holds = λ less. absurd (omega (arith, less)) };
  fail = λ i from inside. absurd (omega (arith, from, inside));
  nodes = ap (λ (m : Meter). m.nodes) c.add_bytes.ensures.added;
  bytes = λ owner this end own low. omega (arith, ap (λ (m : Meter). m.bytes) c.add_bytes.ensures.added);
}

pub loop-at-preserved : goal.loop-at-preserved
loop-at-preserved g c =
    let before = c.loop-at.invariant in
    let tops = plain_tops (g.S.MagicLines.plain c.args.asked.now.source.now) c.args.asked.now.tops.now in
    record {
      within = omega (arith, before.within);
      narrows = before.narrows;
      fail = λ i from inside below. elim (cases_lt i c.loop-at.at) [
        | inl last ↦ (
            let at : i ≡ c.loop-at.at - 1 = omega (arith, last, from) in
            rw at (c.other_holds.ensures.fails c.if-other_holds.false (rw at at below)))
        | inr after ↦ before.fail i after inside below
      ];
      nodes = c.other_holds.ensures.nodes ∙ before.nodes;
      bytes = λ owner this end own low.
          other_more (length c.args.asked.now.content.now) tops c.args.others.now owner this c.loop-at.at _ end c.args.meter.now.bytes
          c.loop-at.meter.bytes c.other_holds.new.meter.bytes own c.loop-at-test.true before.within
          (λ less. before.bytes owner this less own) c.other_holds.ensures.bytes
          (low (omega (arith, before.within, c.loop-at-test.true)));
    }

pub loop-at-preserved-then-other_holds : goal.loop-at-preserved-then-other_holds
loop-at-preserved-then-other_holds g c =
    let before = c.loop-at.invariant in
    let tops = plain_tops (g.S.MagicLines.plain c.args.asked.now.source.now) c.args.asked.now.tops.now in
    let less = c.other_holds.ensures.before c.if-other_holds.true in
    record {
      within = omega (arith, before.within);
      narrows = record {
        less = omega (arith, before.narrows.less, less);
        holds = λ _. c.other_holds.ensures.holds c.if-other_holds.true;
      };
      fail = λ i from inside below. elim (cases_lt i c.loop-at.at) [
        | inl last ↦ (
            let at : i ≡ c.loop-at.at - 1 = omega (arith, last, from) in
            absurd (omega (arith, rw at at below)))
        | inr after ↦ before.fail i after inside (omega (arith, below, less))
      ];
      nodes = c.other_holds.ensures.nodes ∙ before.nodes;
      bytes = λ owner this end own low.
          other_more (length c.args.asked.now.content.now) tops c.args.others.now owner this c.loop-at.at _ end c.args.meter.now.bytes
          c.loop-at.meter.bytes c.other_holds.new.meter.bytes own c.loop-at-test.true before.within
          (λ less. before.bytes owner this less own) c.other_holds.ensures.bytes
          (low (omega (arith, before.within, c.loop-at-test.true)));
    }

pub returns-clause-bytes : goal.returns-clause-bytes
returns-clause-bytes g c = λ owner this own.
    let plain = g.S.MagicLines.plain c.args.asked.now.source.now in
    let tops = plain_tops plain c.args.asked.now.tops.now in
    omega (
      arith,
      c.loop-at.invariant.bytes owner this (length tops) own
          (λ some. omega (arith, own.inside c.loop-at.at some, length-map c.args.asked.now.tops.now (plain_top plain))),
    )
