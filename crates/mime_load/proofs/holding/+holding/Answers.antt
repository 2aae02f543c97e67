use Rattle.std.proofs.Common.{◌≡◌, ◌||◌, ◌∷◌, length, take, ap, sym, ◌∙◌, arith}
use Rattle.std.proofs.lemmas.Bool.{eqb-false, eqb-true, or_left}
use Rattle.std.proofs.lemmas.List.{take_min}
use Rattle.mime_base.specs.Magic.Holds.{some_holds}
use Rattle.mime_base.specs.Magic.WindowBytes.{forest_bytes, line_bytes}
use Rattle.mime_base.proofs.MagicLemmas.HoldingLines.{line_holds-differs}
use Rattle.mime_load.specs.Lent.{behind_first, first_of, lent_forest}
use Rattle.mime_load.proofs.HoldingLines.{first_holds-alone, first_holds-parent, first_of-empty, forest_bytes-first, length-behind_first, some_holds-first, some_holds-nothing}
use Rattle.mime_load.proofs.holding.+holding.Goals as goal

pub some_line_matches-returns-then-first_line_matches-clause-holds :
    goal.some_line_matches-returns-then-first_line_matches-clause-holds
some_line_matches-returns-then-first_line_matches-clause-holds t c =
    sym (c.loop-rest.invariant.left
    ∙ some_holds-first c.args.content.now c.args.host c.loop-rest.rest.now
    ∙ or_left _ _ (sym c.first_line_matches.ensures.holds ∙ c.if-first_line_matches.true))

pub some_line_matches-loop-rest-preserved : goal.some_line_matches-loop-rest-preserved
some_line_matches-loop-rest-preserved t c =
    let rest = c.loop-rest.rest.now in
    let some : length rest ≡ 0 → ⊥ = eqb-false (length rest) 0 (sym c.is_empty.ensures ∙ c.loop-rest-test.true) in
    record {
      left =
          c.loop-rest.invariant.left
          ∙ some_holds-first c.args.content.now c.args.host rest
          ∙ ap (λ b. b || some_holds (lent_forest (behind_first rest)) c.args.content.now c.args.host)
          (sym c.first_line_matches.ensures.holds ∙ c.if-first_line_matches.false)
          ∙ ap (λ ms. some_holds (lent_forest ms) c.args.content.now c.args.host) (sym c.behind_first-rest.ensures);
      short =
          omega (arith, c.loop-rest.invariant.short, length-behind_first rest (omega (arith, some)), ap length c.behind_first-rest.ensures);
      nodes = c.first_line_matches.ensures.nodes ∙ c.loop-rest.invariant.nodes;
      bytes =
          omega (
            arith,
            c.first_line_matches.ensures.bytes,
            c.loop-rest.invariant.bytes,
            forest_bytes-first (length c.args.content.now) rest (omega (arith, some)),
            ap (λ ms. forest_bytes (length c.args.content.now) (lent_forest ms)) c.behind_first-rest.ensures,
          );
    }

pub some_line_matches-returns-then-first_line_matches-clause-bytes :
    goal.some_line_matches-returns-then-first_line_matches-clause-bytes
some_line_matches-returns-then-first_line_matches-clause-bytes t c =
    let rest = c.loop-rest.rest.now in
    let some : length rest ≡ 0 → ⊥ = eqb-false (length rest) 0 (sym c.is_empty.ensures ∙ c.loop-rest-test.true) in
    omega (
      arith,
      c.first_line_matches.ensures.bytes,
      c.loop-rest.invariant.bytes,
      forest_bytes-first (length c.args.content.now) rest (omega (arith, some)),
    )

pub first_line_matches-returns-then-not-equals_in_range-clause-bytes : goal.first_line_matches-returns-then-not-equals_in_range-clause-bytes
first_line_matches-returns-then-not-equals_in_range-clause-bytes t c =
    let first = ap (λ ms. line_bytes (length c.args.content.now) (first_of ms)) c.in-Some.ensures.cases.0 in
    omega (arith, c.equals_in_range.ensures.bytes, first)

pub first_line_matches-returns-then-is_empty-clause-bytes : goal.first_line_matches-returns-then-is_empty-clause-bytes
first_line_matches-returns-then-is_empty-clause-bytes t c =
    let first = ap (λ ms. line_bytes (length c.args.content.now) (first_of ms)) c.in-Some.ensures.cases.0 in
    omega (arith, c.equals_in_range.ensures.bytes, first)

pub first_line_matches-returns-else-is_empty-clause-bytes : goal.first_line_matches-returns-else-is_empty-clause-bytes
first_line_matches-returns-else-is_empty-clause-bytes t c =
    let after = c.in-Some.after.now in
    let size = length c.args.content.now in
    let below : take c.min.result after ≡ take c.in-Some.line.now.below after =
    ap (λ n. take n after) c.min.ensures ∙ take_min c.in-Some.line.now.below after in
    let first = ap (λ ms. line_bytes size (first_of ms)) c.in-Some.ensures.cases.0 in
    omega (
      arith,
      c.equals_in_range.ensures.bytes,
      c.some_line_matches.ensures.bytes,
      ap (λ ms. forest_bytes size (lent_forest ms)) below,
      first,
    )

pub first_line_matches-returns-in_default-clause-holds : goal.first_line_matches-returns-in_default-clause-holds
first_line_matches-returns-in_default-clause-holds t c =
    sym (first_of-empty c.args.content.now c.args.host c.args.lines.now c.in_default.ensures.cases)

pub first_line_matches-returns-then-not-equals_in_range-clause-holds : goal.first_line_matches-returns-then-not-equals_in_range-clause-holds
first_line_matches-returns-then-not-equals_in_range-clause-holds t c =
    rw c.in-Some.ensures.cases.0
    (sym (line_holds-differs c.args.content.now c.args.host (first_of (c.in-Some.line.now ∷ c.in-Some.after.now))
    (sym c.equals_in_range.ensures.equal ∙ c.if-not-equals_in_range.true)))

pub first_line_matches-returns-then-is_empty-clause-holds : goal.first_line_matches-returns-then-is_empty-clause-holds
first_line_matches-returns-then-is_empty-clause-holds t c =
    let m = c.in-Some.line.now in
    let after = c.in-Some.after.now in
    let below : take c.min.result after ≡ take m.below after = ap (λ n. take n after) c.min.ensures ∙ take_min m.below after in
    let none : length (take c.min.result after) ≡ 0 = eqb-true _ 0 (sym c.is_empty.ensures ∙ c.if-is_empty.true) in
    rw c.in-Some.ensures.cases.0
    (c.if-is_empty.true
    ∙ sym (first_holds-alone c.args.content.now c.args.host m after (sym c.equals_in_range.ensures.equal ∙ c.if-not-equals_in_range.false)
    (ap length (sym below) ∙ none)))

pub first_line_matches-returns-else-is_empty-clause-holds : goal.first_line_matches-returns-else-is_empty-clause-holds
first_line_matches-returns-else-is_empty-clause-holds t c =
    let m = c.in-Some.line.now in
    let after = c.in-Some.after.now in
    let below : take c.min.result after ≡ take m.below after = ap (λ n. take n after) c.min.ensures ∙ take_min m.below after in
    let some : length (take c.min.result after) ≡ 0 → ⊥ = eqb-false _ 0 (sym c.is_empty.ensures ∙ c.if-is_empty.false) in
    rw c.in-Some.ensures.cases.0
    (c.some_line_matches.ensures.holds
    ∙ ap (λ ms. some_holds (lent_forest ms) c.args.content.now c.args.host) below
    ∙ sym (first_holds-parent c.args.content.now c.args.host m after (sym c.equals_in_range.ensures.equal ∙ c.if-not-equals_in_range.false)
    (omega (arith, some, ap length below))))

pub some_line_matches-returns-clause-holds : goal.some_line_matches-returns-clause-holds
some_line_matches-returns-clause-holds t c =
    sym (c.loop-rest.invariant.left
    ∙ some_holds-nothing c.args.content.now c.args.host c.loop-rest.rest.now
    (eqb-true _ 0 (sym c.is_empty.ensures ∙ c.loop-rest-test.false)))
