use Rattle.std.proofs.Common.{◌≡◌, ℕ, ◌<◌, ◌+◌, ◌-◌, length, sym, ◌∙◌, arith}
use Rattle.std.proofs.lemmas.List.{length-replicate, length-set}
use Rattle.mime_base.specs.Magic.Places.{NotesFrom}
use Rattle.mime_base.proofs.MagicLemmas.NotedPlaces.{notes_more}
use Rattle.mime_base.proofs.magic.content.NotedContent.new.Goals as goal

pub loop-place-init : goal.loop-place-init
loop-place-init c = record {
  size = length-replicate {A = ℕ} 256 288;
  notes = record { no_later = λ place from front inside. absurd (omega (arith, c.min-place.ensures)) };
  front = omega (arith, c.min-place.ensures);
  inside = omega (arith, c.min-place.ensures);
}

pub loop-place-preserved : goal.loop-place-preserved
loop-place-preserved c =
    let place : ℕ = c.loop-place.place - 1 in
    let next : place + 1 ≡ c.loop-place.place = omega arith in
    let later : NotesFrom (place + 1) c.loop-place.noted c.args.bytes.now = rw next c.loop-place.invariant.notes in
    let known : c.from.result < length c.loop-place.noted =
    omega (arith, c.loop-place.invariant.size, c.from.ensures, c.type_inv.bytes place) in
    record {
      size = length-set c.loop-place.noted c.from.result place ∙ c.loop-place.invariant.size;
      notes = rw c.from.ensures (notes_more place c.loop-place.noted c.args.bytes.now (rw (sym c.from.ensures) known) later);
      front = omega arith;
      inside = omega arith;
    }
