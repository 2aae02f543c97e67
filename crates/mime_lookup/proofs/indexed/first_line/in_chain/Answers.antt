use Rattle.std.proofs.Common.{◌≡◌, ◌+◌, ◌-◌, inl, inr, arith, ap, length, sym, ◌∙◌}
use Rattle.std.proofs.lemmas.List.{length-map}
use Rattle.mime_base.specs.declared.meter.Meter.{Meter}
use Rattle.mime_lookup.proofs.IndexLemmas.Chains.{leads-next, leads-onward, none-leads}
use Rattle.mime_lookup.proofs.IndexLemmas.LineBytes.{table_bytes-line}
use Rattle.mime_lookup.proofs.IndexLemmas.OwnedSums.{owned_sum-more}
use Rattle.mime_lookup.specs.LineBytes.{asked_bytes, owned_sum}
use Rattle.mime_lookup.specs.TopLines.{plain_top, plain_tops}
use Rattle.mime_lookup.proofs.indexed.first_line.in_chain.Goals as goal

pub returns-then-line_holds-clause-fail : goal.returns-then-line_holds-clause-fail
returns-then-line_holds-clause-fail g c = λ line steps leads below.
    elim (c.loop-low.invariant.left line steps leads (omega (arith, below, c.if-link-until.true))) [
      | inl fails ↦ fails
      | inr rest ↦ absurd (omega (arith, below, c.loop-low-test.true, leads-onward rest.0 c.args.nexts.now c.loop-low.low c.loop-low.link line rest.1))
    ]

pub loop-low-preserved : goal.loop-low-preserved
loop-low-preserved g c = record {
  low = omega (arith, c.if-link-until.true);
  left = λ line steps leads below. elim (c.loop-low.invariant.left line steps leads below) [
    | inl fails ↦ inl fails
    | inr rest ↦ elim (leads-next rest.0 c.args.nexts.now c.loop-low.low c.loop-low.link line rest.1) [
      | inl is ↦ (
          let at : c.loop-low.link - 1 ≡ line = omega (arith, is) in
          inl (rw at at (c.line_holds.ensures.fails c.if-line_holds.false)))
      | inr more ↦ inr (more.0, rw c.from-link-in-loop-low.ensures more.1)
    ]
  ];
  nodes = c.line_holds.ensures.nodes ∙ ap (λ (m : Meter). m.nodes) c.add_bytes.ensures.added ∙ c.loop-low.invariant.nodes;
  bytes = λ owner this leads.
      let tops = plain_tops (g.S.MagicLines.plain c.args.asked.now.source.now) c.args.asked.now.tops.now in
      let before = c.loop-low.invariant.bytes owner this leads in
      let here : owner (c.loop-low.link - 1) ≡ this = before.0 (c.loop-low.link - 1) (omega (arith, c.loop-low-test.true)) in
      let next : c.loop-low.link - 1 + 1 ≡ c.loop-low.link = omega (arith, c.loop-low-test.true) in (
        λ line is. leads.next (c.loop-low.link - 1) line here (sym c.from-link-in-loop-low.ensures ∙ is),
        omega (
          arith,
          before.1,
          c.line_holds.ensures.bytes,
          ap (λ (m : Meter). m.bytes) c.add_bytes.ensures.added,
          table_bytes-line (length c.args.asked.now.content.now) tops owner this c.loop-low.low (c.loop-low.link - 1) here
              (omega (arith, c.loop-low-test.true)),
          ap (owned_sum (asked_bytes (length c.args.asked.now.content.now) tops) owner this) next,
        ),
      );
}

pub returns-else-link-until-clause-fail : goal.returns-else-link-until-clause-fail
returns-else-link-until-clause-fail g c = λ line steps leads below.
    elim (c.loop-low.invariant.left line steps leads below) [
      | inl fails ↦ fails
      | inr rest ↦ absurd (omega (arith, below, c.if-link-until.false, leads-onward rest.0 c.args.nexts.now c.loop-low.low c.loop-low.link line rest.1))
    ]

pub returns-after-loop-low-clause-fail : goal.returns-after-loop-low-clause-fail
returns-after-loop-low-clause-fail g c = λ line steps leads below.
    elim (c.loop-low.invariant.left line steps leads below) [
      | inl fails ↦ fails
      | inr rest ↦ absurd (none-leads rest.0 c.args.nexts.now c.loop-low.low c.loop-low.link line c.loop-low-test.false rest.1)
    ]

pub returns-then-line_holds-clause-bytes : goal.returns-then-line_holds-clause-bytes
returns-then-line_holds-clause-bytes g c = λ owner this leads.
    let plain = g.S.MagicLines.plain c.args.asked.now.source.now in
    let tops = plain_tops plain c.args.asked.now.tops.now in
    let size = length c.args.asked.now.content.now in
    let before = c.loop-low.invariant.bytes owner this leads in
    let here : owner (c.loop-low.link - 1) ≡ this = before.0 (c.loop-low.link - 1) (omega (arith, c.loop-low-test.true)) in
    omega (
      arith,
      before.1,
      c.line_holds.ensures.bytes,
      ap (λ (m : Meter). m.bytes) c.add_bytes.ensures.added,
      table_bytes-line size tops owner this c.loop-low.low (c.loop-low.link - 1) here (omega (arith, c.loop-low-test.true)),
      owned_sum-more (asked_bytes size tops) owner this (c.loop-low.link - 1 + 1) (length tops)
          (omega (arith, c.if-link-until.true, c.loop-low-test.true, length-map c.args.asked.now.tops.now (plain_top plain))),
    )

pub returns-else-link-until-clause-bytes : goal.returns-else-link-until-clause-bytes
returns-else-link-until-clause-bytes g c = λ owner this leads.
    let plain = g.S.MagicLines.plain c.args.asked.now.source.now in
    let tops = plain_tops plain c.args.asked.now.tops.now in
    let size = length c.args.asked.now.content.now in
    omega (
      arith,
      (c.loop-low.invariant.bytes owner this leads).1,
      owned_sum-more (asked_bytes size tops) owner this c.loop-low.low (length tops)
          (omega (arith, c.loop-low.invariant.low, length-map c.args.asked.now.tops.now (plain_top plain))),
    )

pub returns-after-loop-low-clause-bytes : goal.returns-after-loop-low-clause-bytes
returns-after-loop-low-clause-bytes g c = λ owner this leads.
    let plain = g.S.MagicLines.plain c.args.asked.now.source.now in
    let tops = plain_tops plain c.args.asked.now.tops.now in
    let size = length c.args.asked.now.content.now in
    omega (
      arith,
      (c.loop-low.invariant.bytes owner this leads).1,
      owned_sum-more (asked_bytes size tops) owner this c.loop-low.low (length tops)
          (omega (arith, c.loop-low.invariant.low, length-map c.args.asked.now.tops.now (plain_top plain))),
    )
