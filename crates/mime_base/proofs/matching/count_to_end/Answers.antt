use Rattle.std.proofs.Common.{length, drop, ap, sym, refl, ◌∙◌, arith}
use Rattle.std.proofs.lemmas.List.{length-drop}
use Rattle.std.proofs.lemmas.Slice.{between_to_end}
use Rattle.mime_base.specs.Matching.Count.{has_star}
use Rattle.mime_base.specs.Matching.Folding.{compared}
use Rattle.mime_base.proofs.MatchingLemmas.Ends.{no_end-drop, no_end-left}
use Rattle.mime_base.proofs.MatchingLemmas.Literals.{literal-elements}
use Rattle.mime_base.proofs.MatchingLemmas.Places.{none-left, star-next, taker-left}
use Rattle.mime_base.proofs.MatchingLemmas.Sets.{width_after-compared}
use Rattle.mime_base.proofs.matching.count_to_end.Goals as goal

pub loop-first-init : goal.loop-first-init
loop-first-init c =
    let text = c.args.text.now in
    let size = c.count_itself-size.result in
    let counted = literal-elements c.args.cased size text c.count_itself-size.ensures.within c.count_itself-size.ensures.itself in
    rw (between_to_end text size (length text) (omega (arith, c.count_itself-size.ensures.within))) record {
      endless = no_end-drop c.args.endless size text c.requires;
      star = counted.0;
      count = counted.1;
      room = omega (arith, length-drop size text, c.count_itself-size.ensures.within);
    }

pub returns-then-first-eq42-clause-star : goal.returns-then-first-eq42-clause-star
returns-then-first-eq42-clause-star c =
    λ _. c.loop-first.invariant.star ∙ ap has_star (star-next c.args.cased _ _ _ c.in-Some.ensures.cases.0 c.if-first-eq42.true)

pub loop-first-preserved : goal.loop-first-preserved
loop-first-preserved c =
    let wide = width_after-compared c.args.cased c.in-Some.first.now (compared c.args.cased c.in-Some.after.now) in
    let after = c.after_element-rest.ensures.after c.args.cased ∙ ap (λ n. drop n c.in-Some.after.now) (sym wide) in
    let left = taker-left c.args.cased _ _ _ c.in-Some.ensures.cases.0 c.if-first-eq42.false _ refl _ after in
    record {
      endless = no_end-left c.args.endless _ _ _ _ _ c.in-Some.ensures.cases.0 after c.loop-first.invariant.endless;
      star = c.loop-first.invariant.star ∙ left.0;
      count = omega (arith, c.loop-first.invariant.count, left.1);
      room = omega (arith, c.loop-first.invariant.room, left.2);
    }

pub returns-clause-none : goal.returns-clause-none
returns-clause-none c =
    c.loop-first.invariant.star ∙ ap has_star (none-left c.args.cased c.loop-first.rest.now c.in_default.ensures.cases)

pub returns-clause-size : goal.returns-clause-size
returns-clause-size c =
    let none = ap length (none-left c.args.cased c.loop-first.rest.now c.in_default.ensures.cases) in
    omega (arith, c.loop-first.invariant.count, none)
