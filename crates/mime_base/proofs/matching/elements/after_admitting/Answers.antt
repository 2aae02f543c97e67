use Rattle.std.proofs.Common.{◌≡◌, ◌∙◌, ap, not, is_some, refl}
use mathlib.Core.Bool.{beq}
use Rattle.mime_base.proofs.MatchingLemmas.Sets.{admits-set, width_after-set, admits-no_set, width_after-no_set}
use Rattle.mime_base.proofs.MatchingLemmas.Sets.{is_some-then_some, IfSome-then_some}
use Rattle.mime_base.proofs.matching.elements.after_admitting.Goals as goal

pub returns-in-Some-clause-admits : goal.returns-in-Some-clause-admits
returns-in-Some-clause-admits c =
    let test : is_some c.then_some-in-Some.result ≡ not (beq c.is_member.result c.in-Some.set.is_negated) =
    ap is_some c.then_some-in-Some.ensures ∙ is_some-then_some _ c.in-Some.set.rest in
    let set = admits-set c.args.cased c.args.after.now _ _ _ c.args.byte c.in-Some.ensures.set in
    cc

pub returns-in-Some-clause-after : goal.returns-in-Some-clause-after
returns-in-Some-clause-after c =
    IfSome-then_some _ _ _ _ c.then_some-in-Some.ensures
    (width_after-set c.args.first c.args.cased c.args.after.now _ _ _ c.in-91.is c.in-Some.ensures.set)

pub returns-in-None-clause-admits : goal.returns-in-None-clause-admits
returns-in-None-clause-admits c =
    let test = ap is_some c.then_some-in-None.ensures ∙ is_some-then_some _ c.args.after in
    let byte = admits-no_set c.args.cased c.args.after.now c.args.byte (c.in-None.ensures.none refl) in
    cc

pub returns-in-None-clause-after : goal.returns-in-None-clause-after
returns-in-None-clause-after c =
    IfSome-then_some _ _ _ _ c.then_some-in-None.ensures
    (width_after-no_set c.args.first c.args.cased c.args.after.now c.in-91.is (c.in-None.ensures.none refl))
