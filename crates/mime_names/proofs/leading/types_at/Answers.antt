use Rattle.std.proofs.Common.{◌∷◌, [], ◌++◌, length, get_or, take, sym, ap, ◌∙◌, arith}
use Rattle.std.proofs.lemmas.List.{length-append, take_more}
use Rattle.mime_names.specs.Leading.{kinds_at}
use Rattle.mime_names.proofs.LeadingLemmas.{kinds-more}
use Rattle.mime_names.proofs.leading.types_at.Goals as goal

pub loop-place-preserved : goal.loop-place-preserved
loop-place-preserved c =
    let rules = c.args.rules.now in
    let places = c.args.places.now in
    let i = c.loop-place.place-index in
    let rule = c.rule_at-in-loop-place.result.now in
    let before = c.loop-place.invariant in
    record {
      long = omega (arith, before.long, ap length c.push_reserved.ensures.items, length-append c.loop-place.kinds.items (rule.kind ∷ []));
      room = omega (arith, before.room, c.push_reserved.ensures.capacity);
      are =
          c.push_reserved.ensures.items
          ∙ ap (λ kinds. kinds ++ rule.kind ∷ []) before.are
          ∙ sym (ap (kinds_at rules) (take_more places i 0 c.loop-place-test.true)
          ∙ kinds-more rules (get_or places i 0) rule (c.requires i c.loop-place-test.true) c.rule_at-in-loop-place.ensures (take i places));
    }
