use Rattle.std.proofs.Common.{List, ℕ, subst}
use Rattle.mime_lookup.specs.PairsReadBack.{AreStepsOf}
use Rattle.mime_lookup.proofs.SpellingLemmas.Steps.{steps_spelled}
use Rattle.mime_lookup.proofs.read_back.pairs.IndexedPairsHierarchy.above.Goals as goal

pub returns : goal.returns
returns c pairs is_of =
    let steps = c.self.inside.steps in
    let of_cache : AreStepsOf c.args.self.now steps =
    subst (λ (bytes : List ℕ). AreStepsOf bytes steps) c.self.view_is c.self.invariant.1 in
    rw (c.step_of.ensures, is_of.2) (steps_spelled c.args.self.now steps of_cache is_of.0 is_of.1 c.args.kind.now)
