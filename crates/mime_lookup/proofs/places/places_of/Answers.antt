use Rattle.std.proofs.Common.{◌≡◌, ◌+◌, ◌-◌, ◌<◌, ◌∙◌, length, Some, refl, ap, subst, arith, bytes_eq}
use Rattle.std.specs.Map.{update}
use Rattle.mime_lookup.specs.NameMap.{value_in}
use Rattle.mime_lookup.specs.Places.{IsIndexed}
use Rattle.mime_lookup.proofs.AncestryLemmas.Places.{indexed-more, indexed-none}
use Rattle.mime_lookup.proofs.places.places_of.Goals as goal

pub loop-place-init : goal.loop-place-init
loop-place-init c = record {
  within = omega arith;
  valid = c.in_ok-first.ensures.valid;
  so_far =
      rw c.in_ok-next.ensures.items
      (indexed-none c.args.pairs.now (length c.args.pairs.now) (value_in c.in_ok-first.first) refl c.in_ok-first.ensures.empty);
  room = omega (arith, c.in_ok-next.ensures.len, c.in_ok-next.ensures.capacity);
}

pub push_reserved-requires : goal.push_reserved-requires
push_reserved-requires c = omega (arith, c.loop-place.invariant.room, c.loop-place-test.true)

pub loop-place-preserved : goal.loop-place-preserved
loop-place-preserved c =
    let pairs = c.args.pairs.now in
    let low = c.loop-place.place - 1 in
    let pair = c.index-pairs-place.result in
    let before = value_in c.loop-place.first in
    let within : low < length pairs = omega (arith, c.loop-place.invariant.within, c.loop-place-test.true) in
    let here : c.loop-place.place ≡ low + 1 = omega (arith, c.loop-place-test.true) in
    record {
      within = omega (arith, within);
      valid = c.in_ok-later.ensures.valid;
      so_far =
          rw c.push_reserved.ensures.items
          (indexed-more pairs low pair within c.index-pairs-place.is before (value_in c.put_value.new.map) c.loop-place.next.items
          c.in_ok-later.later (subst (λ n. IsIndexed pairs n before c.loop-place.next.items) here c.loop-place.invariant.so_far)
          (λ name.
          c.in_ok-later.ensures.updates name ∙ ap (λ bytes. update bytes_eq before bytes (Some low) name) c.bytes.ensures.text)
          (c.in_ok-later.ensures.old ∙ ap before c.bytes.ensures.text));
      room = omega (arith, c.push_reserved.ensures.len, c.push_reserved.ensures.capacity, c.loop-place.invariant.room, c.loop-place-test.true);
    }

pub returns-clause-indexed : goal.returns-clause-indexed
returns-clause-indexed c =
    let none : c.loop-place.place ≡ 0 = omega (arith, c.loop-place-test.false) in
    record {
      valid = c.loop-place.invariant.valid;
      indexed =
          subst (λ n. IsIndexed c.args.pairs.now n (value_in c.loop-place.first) c.loop-place.next.items) none
          c.loop-place.invariant.so_far;
    }
