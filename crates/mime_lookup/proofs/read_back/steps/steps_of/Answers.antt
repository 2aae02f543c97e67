use Rattle.std.proofs.Common.{ℕ, ◌+◌, ◌-◌, ◌<◌, ◌≡◌, List, length, drop, map, Option, ap, refl, sym, subst, ◌∙◌, arith}
use Rattle.std.proofs.lemmas.List.{drop_all}
use Rattle.mime_base.specs.Database.Subclass.{parents}
use Rattle.mime_load.specs.Lent.{plain_pairs}
use Rattle.mime_load.specs.declared.pair.LentPair.{LentPair}
use Rattle.mime_lookup.specs.Places.{IsAbove}
use Rattle.mime_lookup.specs.NameMap.{value_in}
use Rattle.mime_lookup.specs.PairsReadBack.{step_in}
use Rattle.mime_lookup.specs.ReadBack.{target_in}
use Rattle.mime_lookup.specs.declared.places.Above.{Above}
use Rattle.mime_lookup.proofs.AncestryLemmas.PairSteps.{parents-nil}
use Rattle.mime_lookup.proofs.SpellingLemmas.Steps.{found_step, steps-more}
use Rattle.mime_lookup.proofs.read_back.steps.steps_of.Goals as goal

pub loop-place-init : goal.loop-place-init
loop-place-init c = record {
  within = omega arith;
  valid = c.in_ok-steps.ensures.valid;
  so_far = λ kind.
      let step = target_in c.args.targets.now in
      let none = ap (λ (pairs : List LentPair). map step (parents (plain_pairs pairs) kind))
      (drop_all (length c.args.parents.now) c.args.parents.now (omega arith)) ∙ ap (map step) (parents-nil kind) in
      let nothing = ap found_step (c.in_ok-steps.ensures.empty kind) in
      rw (none, nothing) refl;
}

pub loop-place-preserved : goal.loop-place-preserved
loop-place-preserved c =
    let step = target_in c.args.targets.now in
    let pairs = c.args.parents.now in
    let low = c.loop-place.place - 1 in
    let pair = c.pair_at-pair.result.now in
    let within : low < length pairs = omega (arith, c.loop-place.invariant.within, c.loop-place-test.true) in
    let here : c.loop-place.place ≡ low + 1 = omega (arith, c.loop-place-test.true) in
    let before : List ℕ → Option Above = value_in c.loop-place.steps in
    record {
      within = omega (arith, within);
      valid = c.in_ok-put_value.ensures.valid;
      so_far = λ kind.
          subst (λ (found : Option Above). IsAbove (map step (parents (plain_pairs (drop low pairs)) kind)) (found_step found))
          (sym (c.in_ok-put_value.ensures.updates kind))
          (steps-more step pairs low pair kind before c.with_parent-above.result within c.pair_at-pair.ensures
          (λ kinds is. rw c.target_of.ensures at (c.with_parent-above.ensures kinds is))
          (subst (λ (n : ℕ). (name : List ℕ) → IsAbove (map step (parents (plain_pairs (drop n pairs)) name)) (step_in c.loop-place.steps name))
          here c.loop-place.invariant.so_far));
    }
