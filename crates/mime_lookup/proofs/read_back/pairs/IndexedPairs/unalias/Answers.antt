use Rattle.std.proofs.Common.{List, ℕ, sym, subst, ◌∙◌}
use Rattle.mime_base.specs.Cache.Bytes.{field}
use Rattle.mime_lookup.specs.ReadBack.{AreTargetsOf}
use Rattle.mime_lookup.proofs.SpellingLemmas.TargetSteps.{target-resolved, target_given}
use Rattle.mime_view.specs.Pairs.{IsUnaliased}
use Rattle.mime_lookup.proofs.read_back.pairs.IndexedPairs.unalias.Goals as goal

pub returns-clause-answer : goal.returns-clause-answer
returns-clause-answer c offsets pairs header stand =
    let cache = c.args.self.now in
    let targets = c.self.inside.targets in
    let of_cache : AreTargetsOf cache targets = subst (λ (bytes : List ℕ). AreTargetsOf bytes targets) c.self.view_is c.self.invariant.0 in
    c.target_of.ensures ∙ target-resolved cache targets of_cache offsets pairs header stand c.args.kind.now

pub returns-clause-given : goal.returns-clause-given
returns-clause-given c =
    let cache = c.args.self.now in
    let targets = c.self.inside.targets in
    let of_cache : AreTargetsOf cache targets = subst (λ (bytes : List ℕ). AreTargetsOf bytes targets) c.self.view_is c.self.invariant.0 in
    subst (IsUnaliased cache (field cache 0 1) c.args.kind.now) (sym c.target_of.ensures) (target_given cache targets of_cache c.args.kind.now)
