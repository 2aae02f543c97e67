use Rattle.std.proofs.Common.{◌≡◌, ◌∙◌, ◌<◌, get_or, length, ltb, sym, ap, arith, rules}
use Rattle.mime_c.specs.Hits.{GivenHit, given, given_hits, one_if, plain_given}
use Rattle.mime_c.proofs.HitSteps.{given-at, length-given_hits}
use Rattle.mime_c.proofs.Writing.{one_more, rest_stays}
use Rattle.mime_c.proofs.hits.put_hits.Goals as goal

pub loop-i-preserved : goal.loop-i-preserved
loop-i-preserved c =
    let found = c.args.found.now in
    let is = c.loop-i.invariant in
    let room : c.loop-i.i < length c.loop-i.array = omega (arith, is.size, c.min-room.ensures, c.loop-i-test.true) in
    let here : c.loop-i.i < length found.rules.items = omega (arith, c.min-room.ensures, c.loop-i-test.true) in
    let more : c.loop-i.i < length (given_hits found) = omega (arith, here, length-given_hits found) in
    let default : GivenHit = plain_given c.given_hit.result in
    let written : plain_given c.given_hit.result ≡ get_or (given_hits found) c.loop-i.i default =
    c.given_hit.ensures ∙ ap (given (one_if (ltb c.loop-i.i found.kept))) c.index.ensures
    ∙ sym (given-at found c.loop-i.i default c.index.result.now here) in
    record {
      size = search rules;
      written = one_more plain_given c.loop-i.array c.loop-i.i _ (given_hits found) default room more written is.written;
      rest = rest_stays plain_given c.loop-i.array c.loop-i.i _ c.args.array.now is.rest;
    }
