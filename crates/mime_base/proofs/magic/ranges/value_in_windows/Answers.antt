use Rattle.std.proofs.Common.{◌≡◌, ℕ, ◌+◌, ◌-◌, length, min, take, drop, Some, true, false, sym, ap, ◌∙◌, arith, rules}
use Rattle.mime_base.specs.Magic.{line_from}
use Rattle.mime_base.specs.Magic.Masking.{equal_bytes, window_equals}
use Rattle.mime_base.specs.Magic.Ranges.{compared_from}
use Rattle.mime_base.proofs.MagicLemmas.HoldingLines.{equals_from-found, equals_from-none, equals_from-passed}
use Rattle.mime_base.proofs.MagicLemmas.Ranges.{compared_from-found, compared_from-none, compared_from-passed}
use Rattle.mime_base.proofs.magic.ranges.value_in_windows.Goals as goal

pub returns-then-at-end-clause-equal : goal.returns-then-at-end-clause-equal
returns-then-at-end-clause-equal c =
    let own = line_from 0 0 c.args.word c.args.value.now (Some c.args.mask.now) in
    let none : c.args.end - c.next_window-at.result ≡ 0 = omega arith in
    sym (c.loop-start.invariant.equal ∙ c.next_window-at.ensures.equal
    ∙ rw none (equals_from-none own c.args.host c.args.content.now c.next_window-at.result))

pub returns-then-at-end-clause-counts : goal.returns-then-at-end-clause-counts
returns-then-at-end-clause-counts c =
    let own = line_from 0 0 c.args.word c.args.value.now (Some c.args.mask.now) in
    let at : ℕ = c.next_window-at.result in
    let none : c.args.end - at ≡ 0 = omega arith in
    let nothing : compared_from own c.args.host c.args.content.now at (c.args.end - at) ≡ 0 =
    ap (compared_from own c.args.host c.args.content.now at) none ∙ compared_from-none own c.args.host c.args.content.now at in
    record {
      nodes = search rules;
      bytes = omega (arith, nothing, c.next_window-at.ensures.bytes, c.loop-start.invariant.bytes);
      rises = omega (arith, nothing, c.next_window-at.ensures.bytes, c.loop-start.invariant.bytes);
    }

pub returns-then-value_is-clause-equal : goal.returns-then-value_is-clause-equal
returns-then-value_is-clause-equal c =
    let own = line_from 0 0 c.args.word c.args.value.now (Some c.args.mask.now) in
    let at : ℕ = c.next_window-at.result in
    let left : ℕ = c.args.end - at in
    let size : (at + length c.args.value.now) - at ≡ length c.args.value.now = omega arith in
    let equal : window_equals c.args.value.now c.args.mask.now c.args.word c.args.host
    (take (length c.args.value.now) (drop at c.args.content.now)) ≡ true =
    ap (λ (n : ℕ). window_equals c.args.value.now c.args.mask.now c.args.word c.args.host (take n (drop at c.args.content.now)))
    (sym size) ∙ sym c.value_is.ensures.equal ∙ c.if-value_is.true in
    sym (c.loop-start.invariant.equal ∙ c.next_window-at.ensures.equal
    ∙ equals_from-found own c.args.host c.args.content.now at (left - 1) left (omega arith) (omega arith) equal)

pub returns-then-value_is-clause-counts : goal.returns-then-value_is-clause-counts
returns-then-value_is-clause-counts c =
    let own = line_from 0 0 c.args.word c.args.value.now (Some c.args.mask.now) in
    let at : ℕ = c.next_window-at.result in
    let left : ℕ = c.args.end - at in
    let size : (at + length c.args.value.now) - at ≡ length c.args.value.now = omega arith in
    let equal : window_equals c.args.value.now c.args.mask.now c.args.word c.args.host
    (take (length c.args.value.now) (drop at c.args.content.now)) ≡ true =
    ap (λ (n : ℕ). window_equals c.args.value.now c.args.mask.now c.args.word c.args.host (take n (drop at c.args.content.now)))
    (sym size) ∙ sym c.value_is.ensures.equal ∙ c.if-value_is.true in
    let cost = ap (λ (n : ℕ). min (equal_bytes c.args.value.now c.args.mask.now c.args.word c.args.host
    (take n (drop at c.args.content.now)) + 1) (length c.args.value.now)) size in
    let found = compared_from-found own c.args.host c.args.content.now at (left - 1) left (omega arith) (omega arith) equal in
    record {
      nodes = search rules;
      bytes = omega (arith, cost, found, c.value_is.ensures.counts.bytes, c.next_window-at.ensures.bytes, c.loop-start.invariant.bytes);
      rises = omega (arith, cost, found, c.value_is.ensures.counts.bytes, c.next_window-at.ensures.bytes, c.loop-start.invariant.bytes);
    }

pub loop-start-preserved : goal.loop-start-preserved
loop-start-preserved c =
    let own = line_from 0 0 c.args.word c.args.value.now (Some c.args.mask.now) in
    let at : ℕ = c.next_window-at.result in
    let left : ℕ = c.args.end - at in
    let size : (at + length c.args.value.now) - at ≡ length c.args.value.now = omega arith in
    let differs : window_equals c.args.value.now c.args.mask.now c.args.word c.args.host
    (take (length c.args.value.now) (drop at c.args.content.now)) ≡ false =
    ap (λ (n : ℕ). window_equals c.args.value.now c.args.mask.now c.args.word c.args.host (take n (drop at c.args.content.now)))
    (sym size) ∙ sym c.value_is.ensures.equal ∙ c.if-value_is.false in
    let cost = ap (λ (n : ℕ). min (equal_bytes c.args.value.now c.args.mask.now c.args.word c.args.host
    (take n (drop at c.args.content.now)) + 1) (length c.args.value.now)) size in
    let passed = compared_from-passed own c.args.host c.args.content.now at (c.args.end - (at + 1)) left
    (omega arith) (omega arith) differs in
    record {
      low = omega arith;
      high = omega arith;
      equal =
          c.loop-start.invariant.equal
          ∙ c.next_window-at.ensures.equal
          ∙ equals_from-passed own c.args.host c.args.content.now at (c.args.end - (at + 1)) left (omega arith) differs;
      most = omega arith;
      nodes = search rules;
      bytes = omega (
        arith,
        cost,
        passed,
        c.value_is.ensures.counts.bytes,
        c.next_window-at.ensures.bytes,
        c.loop-start.invariant.bytes,
      );
    }

pub returns-clause-equal : goal.returns-clause-equal
returns-clause-equal c =
    let own = line_from 0 0 c.args.word c.args.value.now (Some c.args.mask.now) in
    let none : c.args.end - c.loop-start.start ≡ 0 = omega arith in
    sym (c.loop-start.invariant.equal ∙ rw none (equals_from-none own c.args.host c.args.content.now c.loop-start.start))

pub returns-clause-counts : goal.returns-clause-counts
returns-clause-counts c =
    let own = line_from 0 0 c.args.word c.args.value.now (Some c.args.mask.now) in
    let start : ℕ = c.loop-start.start in
    let none : c.args.end - start ≡ 0 = omega arith in
    let nothing : compared_from own c.args.host c.args.content.now start (c.args.end - start) ≡ 0 =
    ap (compared_from own c.args.host c.args.content.now start) none ∙ compared_from-none own c.args.host c.args.content.now start in
    record {
      nodes = search rules;
      bytes = omega (arith, nothing, c.loop-start.invariant.bytes);
      rises = omega (arith, nothing, c.loop-start.invariant.bytes);
    }
