use Rattle.std.proofs.Common.{ℕ, ◌<◌, List, [], Bor, length, map, sym, arith, rules}
use Rattle.std.proofs.lemmas.List.{get_or-map, length-map}
use Rattle.mime_c.specs.Parents.{bytes_of_text}
use Rattle.mime_c.proofs.Writing.{one_more, rest_stays}
use Rattle.mime_c.proofs.parents.put_texts.Goals as goal

pub loop-i-preserved : goal.loop-i-preserved
loop-i-preserved c =
    let texts : List (List ℕ) = map (λ (text : Bor (List ℕ)). text.now) c.args.texts.now in
    let is = c.loop-i.invariant in
    let room : c.loop-i.i < length c.loop-i.array = omega (arith, is.size, c.min-room.ensures, c.loop-i-test.true) in
    let here : c.loop-i.i < length c.args.texts.now = omega (arith, c.min-room.ensures, c.loop-i-test.true) in
    let more : c.loop-i.i < length texts = omega (arith, here, length-map c.args.texts.now (λ (text : Bor (List ℕ)). text.now)) in
    record {
      size = search rules;
      written = one_more bytes_of_text c.loop-i.array c.loop-i.i _ texts [] room more (sym (get_or-map _ c.args.texts.now c.loop-i.i _ [] here)) is.written;
      rest = rest_stays bytes_of_text c.loop-i.array c.loop-i.i _ c.args.array.now is.rest;
    }
