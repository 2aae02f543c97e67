use Rattle.std.proofs.Common.{◌≡◌, ℕ, ◌+◌, ◌-◌, ◌<◌, List, length, drop, Option, ap, sym, subst, ◌∙◌, arith}
use Rattle.std.proofs.lemmas.List.{drop_all}
use denote.Bor.{Bor}
use Rattle.mime_load.specs.Lent.{plain_pairs}
use Rattle.mime_load.specs.declared.pair.LentPair.{LentPair}
use Rattle.mime_lookup.specs.NameMap.{value_in}
use Rattle.mime_lookup.specs.Named.{named_in}
use Rattle.mime_lookup.proofs.SpellingLemmas.NamedPairs.{found_name, looked_up-more}
use Rattle.mime_view.specs.Pairs.{looked_up}
use Rattle.mime_lookup.proofs.read_back.targets.targets_by_name.Goals as goal

pub loop-place-init : goal.loop-place-init
loop-place-init c = record {
  within = omega arith;
  valid = c.in_ok-targets.ensures.valid;
  so_far = λ name.
      ap (λ (pairs : List LentPair). looked_up (plain_pairs pairs) name)
      (drop_all (length c.args.pairs.now) c.args.pairs.now (omega arith))
      ∙ sym (ap found_name (c.in_ok-targets.ensures.empty name));
}

pub loop-place-preserved : goal.loop-place-preserved
loop-place-preserved c =
    let pairs = c.args.pairs.now in
    let low = c.loop-place.place - 1 in
    let pair = c.pair_at-pair.result.now in
    let within : low < length pairs = omega (arith, c.loop-place.invariant.within, c.loop-place-test.true) in
    let here : c.loop-place.place ≡ low + 1 = omega (arith, c.loop-place-test.true) in
    record {
      within = omega (arith, within);
      valid = c.in_ok-put_value.ensures.valid;
      so_far = λ name.
          looked_up-more pairs low pair name (value_in c.loop-place.targets) within
          c.pair_at-pair.ensures
          (subst (λ (n : ℕ). looked_up (plain_pairs (drop n pairs)) name ≡ named_in c.loop-place.targets name) here
          (c.loop-place.invariant.so_far name))
          ∙ ap (λ (found : Option (Bor (List ℕ))). found_name found)
          (sym (c.in_ok-put_value.ensures.updates name));
    }
