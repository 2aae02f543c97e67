use Rattle.std.proofs.Common.{◌≡◌, ◌+◌, ◌||◌, length, sym, ap, ◌∙◌, arith, drop, vec_len}
use Rattle.std.proofs.lemmas.Bool.{eqb-false, eqb-true, or_left}
use Rattle.std.proofs.lemmas.List.{drop_all}
use Rattle.mime_base.specs.Magic.Holds.{some_holds}
use Rattle.mime_base.specs.Magic.WindowBytes.{forest_bytes}
use Rattle.mime_base.specs.Magic.{forest_of, plain_matchlet, plain_matchlets}
use Rattle.mime_base.specs.declared.magic.matchlet.Matchlet.TheViews.{out-Matchlet}
use Rattle.mime_base.proofs.MagicLemmas.HoldingLines.{line_holds-differs, some_holds-none}
use Rattle.mime_base.proofs.MagicLemmas.HoldingMatchlets.{children_of, line_holds-alone, line_holds-parent, some_holds-from}
use Rattle.mime_base.proofs.MagicLemmas.WindowBytes.{forest_bytes-from}
use Rattle.mime_base.proofs.magic.holding.+holding.Goals as goal

pub line_matches-returns-then-not-equals_in_range-clause-holds :
    goal.line_matches-returns-then-not-equals_in_range-clause-holds
line_matches-returns-then-not-equals_in_range-clause-holds t c =
    sym (line_holds-differs c.args.content.now c.args.host (plain_matchlet c.args.line.now)
    (sym c.equals_in_range.ensures.equal ∙ c.if-not-equals_in_range.true))

pub line_matches-returns-then-is_empty-clause-holds :
    goal.line_matches-returns-then-is_empty-clause-holds
line_matches-returns-then-is_empty-clause-holds t c =
    let children = (out-Matchlet c.args.line.now).children in
    let none : vec_len children ≡ 0 =
    eqb-true (vec_len children) 0 (sym c.is_empty.ensures ∙ c.if-is_empty.true) in
    c.if-is_empty.true
    ∙ sym (line_holds-alone c.args.content.now c.args.host c.args.line.now
    (sym c.equals_in_range.ensures.equal ∙ c.if-not-equals_in_range.false) (omega (arith, none, children.ok.0)))

pub line_matches-returns-else-is_empty-clause-holds :
    goal.line_matches-returns-else-is_empty-clause-holds
line_matches-returns-else-is_empty-clause-holds t c =
    let children = (out-Matchlet c.args.line.now).children in
    let some : vec_len children ≡ 0 → ⊥ =
    eqb-false (vec_len children) 0 (sym c.is_empty.ensures ∙ c.if-is_empty.false) in
    c.some_line_matches.ensures.holds
    ∙ ap (λ ms. some_holds (forest_of (plain_matchlets ms)) c.args.content.now c.args.host) c.deref.ensures.value
    ∙ sym (line_holds-parent c.args.content.now c.args.host c.args.line.now
    (sym c.equals_in_range.ensures.equal ∙ c.if-not-equals_in_range.false) (omega (arith, some, children.ok.0)))

pub line_matches-returns-else-is_empty-clause-bytes :
    goal.line_matches-returns-else-is_empty-clause-bytes
line_matches-returns-else-is_empty-clause-bytes t c =
    let size = length c.args.content.now in
    omega (
      arith,
      c.equals_in_range.ensures.bytes,
      c.some_line_matches.ensures.bytes,
      ap (λ ms. forest_bytes size (forest_of (plain_matchlets ms))) c.deref.ensures.value,
      ap (forest_bytes size) (children_of c.args.content.now c.args.host c.args.line.now),
    )

pub some_line_matches-returns-then-line_matches-clause-bytes :
    goal.some_line_matches-returns-then-line_matches-clause-bytes
some_line_matches-returns-then-line_matches-clause-bytes t c =
    omega (
      arith,
      c.loop-line.invariant.bytes,
      forest_bytes-from (length c.args.content.now) c.args.lines.now c.loop-line.line-index c.line-item.result c.loop-line-test.true
          c.line-item.is,
    )

pub some_line_matches-returns-then-line_matches-clause-holds :
    goal.some_line_matches-returns-then-line_matches-clause-holds
some_line_matches-returns-then-line_matches-clause-holds t c =
    sym (c.loop-line.invariant.left
    ∙ some_holds-from c.args.content.now c.args.host c.args.lines.now c.loop-line.line-index
    c.line-item.result c.loop-line-test.true c.line-item.is
    ∙ or_left _ _ (sym c.line_matches.ensures.holds ∙ c.if-line_matches.true))

pub some_line_matches-loop-line-preserved : goal.some_line_matches-loop-line-preserved
some_line_matches-loop-line-preserved t c =
    let behind = drop (c.loop-line.line-index + 1) c.args.lines.now in
    let rest = some_holds (forest_of (plain_matchlets behind)) c.args.content.now c.args.host in
    record {
      left =
          c.loop-line.invariant.left
          ∙ some_holds-from c.args.content.now c.args.host c.args.lines.now c.loop-line.line-index
          c.line-item.result c.loop-line-test.true c.line-item.is
          ∙ ap (λ b. b || rest) (sym c.line_matches.ensures.holds ∙ c.if-line_matches.false);
      nodes = c.line_matches.ensures.nodes ∙ c.loop-line.invariant.nodes;
      rises = omega arith;
      bytes = omega (
        arith,
        c.loop-line.invariant.bytes,
        forest_bytes-from (length c.args.content.now) c.args.lines.now c.loop-line.line-index c.line-item.result c.loop-line-test.true
            c.line-item.is,
      );
    }

pub some_line_matches-returns-clause-holds : goal.some_line_matches-returns-clause-holds
some_line_matches-returns-clause-holds t c =
    let none = drop_all c.loop-line.line-index c.args.lines.now c.loop-line-test.false in
    sym (c.loop-line.invariant.left
    ∙ ap (λ ms. some_holds (forest_of (plain_matchlets ms)) c.args.content.now c.args.host) none
    ∙ some_holds-none c.args.content.now c.args.host)
