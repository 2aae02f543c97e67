use Rattle.std.proofs.Common.{◌≡◌, ◌+◌, ◌-◌, ◌<◌, length, get_or, slice_set, sym, subst, ◌∙◌, arith}
use Rattle.std.proofs.lemmas.List.{get_or_default, length-set}
use Rattle.mime_names.specs.Chains.{AreChained}
use Rattle.mime_names.proofs.ChainLemmas.{chained-before}
use Rattle.mime_names.proofs.chains.chains_of.Goals as goal

pub loop-place-preserved : goal.loop-place-preserved
loop-place-preserved c =
    let place = c.loop-place.place - 1 in
    let keys = c.args.keys.now in
    let firsts = c.loop-place.firsts.items in
    let before = c.loop-place.invariant in
    let after : c.loop-place.place ≡ place + 1 = omega (arith, c.loop-place-test.true) in
    let within : place < length keys = omega (arith, after, before.within) in
    let room : get_or keys place 0 < length firsts = omega (arith, c.requires place within, before.size) in
    let next : c.index.result.now ≡ get_or firsts (get_or keys place 0) 0 =
    c.index.ensures ∙ get_or_default firsts (get_or keys place 0) c.index.result.now 0 room in
    record {
      size = length-set firsts (get_or keys place 0) (place + 1) ∙ before.size;
      within = omega (arith, within);
      chained =
          subst (λ n. AreChained (slice_set firsts (get_or keys place 0) (place + 1)) (slice_set c.loop-place.nexts.items place n) keys place) (sym next)
          (chained-before firsts c.loop-place.nexts.items keys place
          (subst (λ n. AreChained firsts c.loop-place.nexts.items keys n) after before.chained) within room);
    }

pub returns-clause-chained : goal.returns-clause-chained
returns-clause-chained c =
    let none : c.loop-place.place ≡ 0 = omega (arith, c.loop-place-test.false) in
    subst (λ n. AreChained c.loop-place.firsts.items c.loop-place.nexts.items c.args.keys.now n) none c.loop-place.invariant.chained
