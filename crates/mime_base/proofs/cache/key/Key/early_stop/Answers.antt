use Rattle.std.proofs.Common.{◌≡◌, ℕ, List, ◌<◌, get_or, ap, sym, inr, ◌∙◌, arith}
use Rattle.std.proofs.lemmas.List.{length-take}
use Rattle.mime_base.specs.Cache.Texts.{padded}
use Rattle.mime_base.proofs.CacheLemmas.Padding.{get_or-padded, shared-none, shared-padded}
use Rattle.mime_base.proofs.cache.key.Key.early_stop.Goals as goal

pub returns-clause-place : goal.returns-clause-place
returns-clause-place c =
    let below : c.shared_of_sixteen-place.result < 16 = omega arith in
    let front = c.self.invariant ∙ ap (padded 16) c.self.view_is in
    let all = shared-padded 16 256 c.args.rest.now c.args.self.now c.self.inside.front (omega arith) front in (
      omega (arith, c.shared_of_sixteen-place.ensures.shared, all, below),
      omega (arith, length-take 256 c.args.rest.now),
      below,
    )

pub returns-then-place-eq-FRONT-clause-none : goal.returns-then-place-eq-FRONT-clause-none
returns-then-place-eq-FRONT-clause-none c =
    let front = c.self.invariant ∙ ap (padded 16) c.self.view_is in
    let all = shared-padded 16 256 c.args.rest.now c.args.self.now c.self.inside.front (omega arith) front in
    inr (omega (arith, c.shared_of_sixteen-place.ensures.shared, all, c.if-place-eq-FRONT.true))

pub returns-then-rest-self-clause-place : goal.returns-then-rest-self-clause-place
returns-then-rest-self-clause-place c =
    let other : get_or c.self.inside.front 0 0 ≡ get_or c.args.self.now 0 0 =
    ap (λ (bytes : List ℕ). get_or bytes 0 0) (c.self.invariant ∙ ap (padded 16) c.self.view_is) ∙ get_or-padded 16 0 c.args.self.now (omega arith) in (
      sym (shared-none 255 c.args.rest.now c.args.self.now (omega arith) (λ e. c.if-rest-self.true (e ∙ sym other))),
      omega (arith, length-take 256 c.args.rest.now),
      omega arith,
    )
