use Rattle.std.proofs.Common.{◌≡◌, ℕ, ◌+◌, ◌-◌, ◌<◌, length, Some, sym, ap, ◌∙◌, arith, rules}
use Rattle.mime_base.specs.Magic.{line_from}
use Rattle.mime_base.specs.Magic.Holds.{equals_from}
use Rattle.mime_base.specs.Magic.Ranges.{compared_from}
use Rattle.mime_base.specs.Meter.{raised}
use Rattle.mime_base.specs.declared.meter.Meter.{Meter}
use Rattle.mime_base.proofs.MagicLemmas.HoldingLines.{equals_from-outside}
use Rattle.mime_base.proofs.MagicLemmas.Ranges.{compared_from-anywhere, compared_from-outside, compared_from-room}
use Rattle.mime_base.proofs.MagicLemmas.Ranges.{equals_from-anywhere, equals_from-room}
use Rattle.mime_base.proofs.magic.ranges.value_in_range.Goals as goal

pub returns-then-content-value-clause-equal : goal.returns-then-content-value-clause-equal
returns-then-content-value-clause-equal c =
    let own = line_from c.args.start c.args.range c.args.word c.args.value.now (Some c.args.mask.now) in
    let beyond : length c.args.content.now < c.args.start + length c.args.value.now = omega arith in
    sym (equals_from-outside own c.args.host c.args.content.now c.args.start c.args.range beyond)

pub returns-then-content-value-clause-counts : goal.returns-then-content-value-clause-counts
returns-then-content-value-clause-counts c =
    let own = line_from c.args.start c.args.range c.args.word c.args.value.now (Some c.args.mask.now) in
    let beyond : length c.args.content.now < c.args.start + length c.args.value.now = omega arith in
    record {
      nodes = search rules;
      bytes = omega (arith, compared_from-outside own c.args.host c.args.content.now c.args.start c.args.range beyond);
      rises = omega arith;
    }

pub returns-clause-equal : goal.returns-clause-equal
returns-clause-equal c =
    let own = line_from c.args.start c.args.range c.args.word c.args.value.now (Some c.args.mask.now) in
    let n : ℕ = c.min-end.result - c.args.start in
    c.value_in_windows.ensures.equal
    ∙ sym (equals_from-room own c.args.host c.args.content.now c.args.start n (c.args.range - n) c.args.range (omega arith)
    (λ some. omega arith)
    ∙ equals_from-anywhere c.args.start c.args.range c.args.word c.args.value.now (Some c.args.mask.now) c.args.host
    c.args.content.now c.args.start n)

pub returns-clause-counts : goal.returns-clause-counts
returns-clause-counts c =
    let own = line_from c.args.start c.args.range c.args.word c.args.value.now (Some c.args.mask.now) in
    let n : ℕ = c.min-end.result - c.args.start in
    let fewer = compared_from-room own c.args.host c.args.content.now c.args.start n (c.args.range - n) c.args.range (omega arith)
    (λ some. omega arith)
    ∙ compared_from-anywhere c.args.start c.args.range c.args.word c.args.value.now (Some c.args.mask.now) c.args.host
    c.args.content.now c.args.start n in
    record {
      nodes = search rules;
      bytes = omega (arith, fewer, c.value_in_windows.ensures.counts.bytes);
      rises = c.value_in_windows.ensures.counts.rises;
    }

pub returns-then-first_byte_differs-clause-equal : goal.returns-then-first_byte_differs-clause-equal
returns-then-first_byte_differs-clause-equal c =
    let own = line_from c.args.start c.args.range c.args.word c.args.value.now (Some c.args.mask.now) in
    let one : c.args.range ≡ 1 = omega arith in
    sym (ap (equals_from own c.args.host c.args.content.now c.args.start) one
    ∙ equals_from-anywhere c.args.start c.args.range c.args.word c.args.value.now (Some c.args.mask.now) c.args.host
    c.args.content.now c.args.start 1
    ∙ c.first_byte_differs.ensures.equal c.if-first_byte_differs.true c.args.host)

pub returns-then-first_byte_differs-clause-counts : goal.returns-then-first_byte_differs-clause-counts
returns-then-first_byte_differs-clause-counts c =
    let own = line_from c.args.start c.args.range c.args.word c.args.value.now (Some c.args.mask.now) in
    let one : c.args.range ≡ 1 = omega arith in
    let single = ap (compared_from own c.args.host c.args.content.now c.args.start) one
    ∙ compared_from-anywhere c.args.start c.args.range c.args.word c.args.value.now (Some c.args.mask.now) c.args.host
    c.args.content.now c.args.start 1
    ∙ c.first_byte_differs.ensures.counted c.if-first_byte_differs.true c.args.host in
    let added : c.add_bytes.new.self.bytes ≡ raised c.args.meter.now.bytes 1 =
    ap (λ (m : Meter). m.bytes) c.add_bytes.ensures.added in
    record {
      nodes = search rules;
      bytes = added ∙ ap (raised c.args.meter.now.bytes) (sym single);
      rises = search rules;
    }
