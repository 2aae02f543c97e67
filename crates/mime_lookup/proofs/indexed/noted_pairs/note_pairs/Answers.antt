use Rattle.std.proofs.Common.{◌≡◌, ℕ, ◌+◌, ◌-◌, ◌∙◌, arith}
use Rattle.std.proofs.lemmas.List.{length-set}
use Rattle.mime_lookup.specs.Pairs.{NotesPairs}
use Rattle.mime_lookup.proofs.IndexLemmas.NotedPairs.{pairs_more}
use Rattle.mime_lookup.proofs.indexed.noted_pairs.note_pairs.Goals as goal

pub loop-place-preserved : goal.loop-place-preserved
loop-place-preserved c =
    let place : ℕ = c.loop-place.place - 1 in
    let next : place + 1 ≡ c.loop-place.place = omega (arith, c.loop-place-test.true) in
    let later : NotesPairs (place + 1) c.loop-place.places c.args.bytes.now = rw next c.loop-place.invariant.notes in
    let number : ℕ = c.pair_number.result in
    record {
      size = length-set c.loop-place.places number place ∙ c.loop-place.invariant.size;
      notes =
          pairs_more place number place c.loop-place.places c.args.bytes.now (omega arith)
          (omega (arith, next, c.loop-place.invariant.front)) c.pair_number.ensures.number (omega (arith, c.loop-place.invariant.size, c.pair_number.ensures.inside)) later;
      front = omega (arith, c.loop-place.invariant.front);
      inside = λ _. omega (arith, c.loop-place.invariant.inside, c.loop-place-test.true);
    }
