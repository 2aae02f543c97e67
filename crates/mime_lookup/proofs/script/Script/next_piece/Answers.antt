use Rattle.std.proofs.Common.{◌≡◌, ◌+◌, ◌-◌, ◌≤◌, ◌++◌, ℕ, length, take, drop, sym, ap, ◌∙◌, arith}
use Rattle.std.proofs.lemmas.Bool.{eqb-false, eqb-true}
use Rattle.std.proofs.lemmas.List.{length-append, length-drop, length-take-le}
use Rattle.mime_lookup.specs.Content.{Tally}
use Rattle.mime_lookup.specs.Script.{bytes_in, faults_in, interruptions_in, tally_in}
use Rattle.mime_lookup.proofs.ContentLemmas.Scripts.{after_piece, at_end, bytes_more, copied, faults_more, interruptions_more, pieces_more, tally_same}
use Rattle.mime_lookup.proofs.ContentLemmas.Healths.{tells_nothing, tells_on}
use Rattle.mime_lookup.proofs.script.Script.next_piece.Goals as goal
use Rattle.mime_lookup.proofs.script.Script.next_piece.Goals.{then-loop-buffer-test+then-self+else-not-is_empty}
use Rattle.mime_lookup.proofs.script.Script.next_piece.Goals.{then-loop-buffer-test+else-self, else-loop-buffer-test}

pub loop-buffer-preserved : goal.loop-buffer-preserved
loop-buffer-preserved c =
    let piece = c.loop-buffer.self.piece.now in
    let steps = c.loop-buffer.self.steps.now in
    let met = c.loop-buffer.self.met in
    let none : length piece ≡ 0 = eqb-true (length piece) 0 (sym c.is_empty.ensures ∙ c.loop-buffer-test.true) in
    let faults : faults_in (take (met + 1) steps) ≡ faults_in (take met steps) + 0 =
    faults_more steps met _ _ c.if-self.true c.in-Piece.is in
    let interruptions : interruptions_in (take (met + 1) steps) ≡ interruptions_in (take met steps) + 0 =
    interruptions_more steps met _ _ c.if-self.true c.in-Piece.is in
    record {
      bytes =
          sym (bytes_more steps met _ _ c.if-self.true c.in-Piece.is)
          ∙ after_piece piece (bytes_in (drop met steps)) _ none c.loop-buffer.invariant.bytes;
      pieces = sym (pieces_more steps met _ _ c.if-self.true c.in-Piece.is) ∙ c.loop-buffer.invariant.pieces;
      tally =
          tally_same (tally_in (take (met + 1) steps)) (tally_in (take c.args.self.now.met c.args.self.now.steps.now))
          (omega (arith, faults, ap (λ (t : Tally). t.failed) c.loop-buffer.invariant.tally))
          (omega (arith, interruptions, ap (λ (t : Tally). t.interrupted) c.loop-buffer.invariant.tally));
    }

pub returns-in-Interruption-clause-told : goal.returns-in-Interruption-clause-told
returns-in-Interruption-clause-told c =
    let steps = c.loop-buffer.self.steps.now in
    let met = c.loop-buffer.self.met in
    let faults : faults_in (take (met + 1) steps) ≡ faults_in (take met steps) + 0 =
    faults_more steps met _ _ c.if-self.true c.in-Interruption.is in
    let interruptions : interruptions_in (take (met + 1) steps) ≡ interruptions_in (take met steps) + 1 =
    interruptions_more steps met _ _ c.if-self.true c.in-Interruption.is in
    tally_same (tally_in (take (met + 1) steps)) _
    (omega (arith, faults, ap (λ (t : Tally). t.failed) c.loop-buffer.invariant.tally))
    (omega (arith, interruptions, ap (λ (t : Tally). t.interrupted) c.loop-buffer.invariant.tally))

pub returns-in-Fault-clause-told : goal.returns-in-Fault-clause-told
returns-in-Fault-clause-told c =
    let steps = c.loop-buffer.self.steps.now in
    let met = c.loop-buffer.self.met in
    let faults : faults_in (take (met + 1) steps) ≡ faults_in (take met steps) + 1 =
    faults_more steps met _ _ c.if-self.true c.in-Fault.is in
    let interruptions : interruptions_in (take (met + 1) steps) ≡ interruptions_in (take met steps) + 0 =
    interruptions_more steps met _ _ c.if-self.true c.in-Fault.is in
    tally_same (tally_in (take (met + 1) steps)) _
    (omega (arith, faults, ap (λ (t : Tally). t.failed) c.loop-buffer.invariant.tally))
    (omega (arith, interruptions, ap (λ (t : Tally). t.interrupted) c.loop-buffer.invariant.tally))

pub returns-in-Interruption-clause-healthy : goal.returns-in-Interruption-clause-healthy
returns-in-Interruption-clause-healthy c =
    tells_nothing _ _ _
    (sym c.loop-buffer.invariant.pieces
    ∙ pieces_more c.loop-buffer.self.steps.now c.loop-buffer.self.met _ _ c.if-self.true c.in-Interruption.is)

pub returns-in-Fault-clause-healthy : goal.returns-in-Fault-clause-healthy
returns-in-Fault-clause-healthy c =
    tells_nothing _ _ _
    (sym c.loop-buffer.invariant.pieces ∙ pieces_more c.loop-buffer.self.steps.now c.loop-buffer.self.met _ _ c.if-self.true c.in-Fault.is)

pub returns-clause-healthy : goal.returns-clause-healthy
returns-clause-healthy c = tells_on _ _ c.min-count.result (sym c.loop-buffer.invariant.pieces)

pub returns-clause-bytes : goal.returns-clause-bytes
returns-clause-bytes c =
    let piece = c.loop-buffer.self.piece.now in
    let count : ℕ = c.min-count.result in
    let buffer = c.args.buffer.now in
    let copy = c.copy_from_slice.new.self in
    let fits : count ≤ length piece = omega (arith, c.min-count.ensures) in
    let sizes : length (copy ++ drop count buffer) ≡ length buffer =
    omega (
      arith,
      length-append copy (drop count buffer),
      length-drop count buffer,
      ap length c.copy_from_slice.ensures.after,
      length-take-le count piece fits,
      c.min-count.ensures,
    ) in (
      sym c.loop-buffer.invariant.bytes
          ∙ copied piece _ copy _ count (length piece - count) c.copy_from_slice.ensures.after fits (omega arith),
      λ none some. elim c.loop-buffer-test.branch [
        | then-loop-buffer-test+then-self+else-not-is_empty w ↦
            (let empty : length buffer ≡ 0 = eqb-true (length buffer) 0 (sym w.is_empty-then-self.ensures ∙ w.if-not-is_empty.false) in
            absurd (omega (arith, some, sizes, empty)))
        | then-loop-buffer-test+else-self w ↦
            at_end piece c.loop-buffer.self.steps.now c.loop-buffer.self.met count (length piece - count)
            (eqb-true (length piece) 0 (sym c.is_empty.ensures ∙ w.loop-buffer-test.true)) w.if-self.false
        | else-loop-buffer-test w ↦
            (let left : length piece ≡ 0 → ⊥ = eqb-false (length piece) 0 (sym c.is_empty.ensures ∙ w.loop-buffer-test.false) in
            absurd (omega (arith, some, sizes, none, left, c.min-count.ensures)))
      ],
    )
