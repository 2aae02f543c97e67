use Rattle.std.proofs.Common.{length, ap, sym, ◌∙◌, arith}
use Rattle.mime_base.specs.Magic.Holds.{some_holds}
use Rattle.mime_base.specs.Magic.{forest_of, plain_matchlets}
use Rattle.mime_lookup.proofs.IndexLemmas.TriedLines.{sections_bytes-all, sections_bytes-first}
use Rattle.mime_lookup.proofs.SniffLemmas.FirstSections.{first_magic-here, first_magic-none, first_magic-past}
use Rattle.mime_lookup.proofs.lists.first_section.Goals as goal

pub returns-then-some_line_matches-clause-first : goal.returns-then-some_line_matches-clause-first
returns-then-some_line_matches-clause-first c =
    let held = ap (λ ms. some_holds (forest_of (plain_matchlets ms)) c.args.content.now c.args.host) (sym c.deref.ensures.value)
    ∙ sym c.some_line_matches.ensures.holds ∙ c.if-some_line_matches.true in
    rw c.bytes.ensures.text (sym (c.loop-section.invariant.left
    ∙ first_magic-here c.args.content.now c.args.host c.args.sections.now c.loop-section.section-index c.section-item.result
    c.loop-section-test.true c.section-item.is held))

pub loop-section-preserved : goal.loop-section-preserved
loop-section-preserved c =
    let failed = ap (λ ms. some_holds (forest_of (plain_matchlets ms)) c.args.content.now c.args.host) (sym c.deref.ensures.value)
    ∙ sym c.some_line_matches.ensures.holds ∙ c.if-some_line_matches.false in
    record {
      left =
          c.loop-section.invariant.left
          ∙ first_magic-past c.args.content.now c.args.host c.args.sections.now c.loop-section.section-index c.section-item.result
          c.loop-section-test.true c.section-item.is failed;
      nodes = c.some_line_matches.ensures.nodes ∙ c.loop-section.invariant.nodes;
      bytes =
          let tried = rw c.deref.ensures.value at c.some_line_matches.ensures.bytes in
          let first =
          sections_bytes-first (length c.args.content.now) c.args.sections.now c.loop-section.section-index c.section-item.result
          c.loop-section-test.true c.section-item.is in
          omega (arith, tried, first, c.loop-section.invariant.bytes);
    }

-- the lines that were tried are among all
pub returns-then-some_line_matches-clause-bytes : goal.returns-then-some_line_matches-clause-bytes
returns-then-some_line_matches-clause-bytes c =
    let tried = rw c.deref.ensures.value at c.some_line_matches.ensures.bytes in
    let first =
    sections_bytes-first (length c.args.content.now) c.args.sections.now c.loop-section.section-index c.section-item.result
    c.loop-section-test.true c.section-item.is in
    let all = sections_bytes-all (length c.args.content.now) c.args.sections.now in
    omega (arith, tried, first, all, c.loop-section.invariant.bytes)

-- all lines were tried
pub returns-clause-bytes : goal.returns-clause-bytes
returns-clause-bytes c =
    let all = sections_bytes-all (length c.args.content.now) c.args.sections.now in
    omega (arith, all, c.loop-section.invariant.bytes)

pub returns-clause-first : goal.returns-clause-first
returns-clause-first c =
    sym (c.loop-section.invariant.left
    ∙ first_magic-none c.args.content.now c.args.host c.args.sections.now c.loop-section.section-index c.loop-section-test.false)
