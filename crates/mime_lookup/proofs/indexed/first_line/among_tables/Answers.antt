use Rattle.std.proofs.Common.{◌≡◌, length, arith, ap, rules}
use Rattle.std.proofs.lemmas.Grind.{common_steps}
use Rattle.mime_base.specs.declared.meter.Meter.{Meter}
use Rattle.mime_lookup.proofs.IndexLemmas.OwnedSums.{sum_before-next}
use Rattle.mime_lookup.specs.LineBytes.{asked_bytes, tables_bytes}
use Rattle.mime_lookup.specs.TopLines.{plain_tops}
use Rattle.mime_lookup.proofs.indexed.first_line.among_tables.Goals as goal

pub loop-table-init : goal.loop-table-init
loop-table-init g c = record {
  narrows = record { less = omega arith; holds = λ less. absurd (omega (arith, less)) };
  fail = λ table before. absurd (omega (arith, before));
  nodes = ap (λ (m : Meter). m.nodes) c.add_bytes.ensures.added;
  bytes = λ owner owns.
      omega (arith, ap (λ (m : Meter). m.bytes) c.add_bytes.ensures.added, c.len.ensures, c.args.tables.now.places.ok.0);
}

pub loop-table-preserved : goal.loop-table-preserved
loop-table-preserved g c =
    let tops = plain_tops (g.S.MagicLines.plain c.args.asked.now.source.now) c.args.asked.now.tops.now in
    let before = c.loop-table.invariant in
    record {
      narrows = first_of (search rules, grind (arith, common_steps));
      fail = first_of (search rules, grind (arith, common_steps));
      nodes = first_of (search rules, grind (arith, common_steps));
      bytes = λ owner owns.
          omega (
            arith,
            before.bytes owner owns,
            c.in_table-first.ensures.bytes owner owns,
            sum_before-next (asked_bytes (length c.args.asked.now.content.now) tops) owner c.loop-table.table (length tops),
          );
    }

pub returns-clause-bytes : goal.returns-clause-bytes
returns-clause-bytes g c = λ owner owns.
    let tops = plain_tops (g.S.MagicLines.plain c.args.asked.now.source.now) c.args.asked.now.tops.now in
    let all : c.loop-table.table ≡ length c.args.tables.now.places.items =
    omega (arith, c.loop-table-test.false, c.loop-table.auto.table-end, c.len-table-end.ensures, c.args.tables.now.places.ok.0) in
    omega (
      arith,
      c.loop-table.invariant.bytes owner owns,
      ap (tables_bytes (length c.args.asked.now.content.now) tops owner) all,
    )
