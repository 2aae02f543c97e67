use Rattle.std.proofs.Common.{◌≡◌, ◌∙◌, ◌+◌, ◌++◌, ◌∷◌, [], List, ap, sym, take}
use Rattle.std.proofs.lemmas.List.{take_more}
use Rattle.mime_text.specs.declared.magic.entry.FlatSection.{FlatSection}
use Rattle.mime_text.proofs.MagicLemmas.KeptSections.{any_marker, deletes, spares}
use Rattle.mime_text.proofs.magic.read.deleted.Goals as goal
use Rattle.mime_text.proofs.magic.read.deleted.Goals.{then-holds_marker+in_ok-copied+in_ok-push, else-holds_marker}

pub loop-flat-preserved : goal.loop-flat-preserved
loop-flat-preserved c =
    let i = c.loop-flat.flat-index in
    let flat_sections = c.args.flat_sections.now in
    let flat : FlatSection = c.flat-item.result in
    let one : take (i + 1) flat_sections ≡ take i flat_sections ++ flat ∷ [] =
    take_more flat_sections i flat c.loop-flat-test.true ∙ ap (λ (s : FlatSection). take i flat_sections ++ s ∷ []) (sym c.flat-item.is) in
    let marked : any_marker flat.entries.items ≡ c.holds_marker.result = ap any_marker (sym c.deref.ensures.value)
    ∙ sym c.holds_marker.ensures in
    rw one (elim c.if-holds_marker.branch [
      | then-holds_marker+in_ok-copied+in_ok-push w ↦
          deletes c.loop-flat.kinds.items c.if-holds_marker.kinds.items (take i flat_sections) flat c.loop-flat.invariant
          (marked ∙ w.if-holds_marker.true)
          (rw w.kinds-is (w.in_ok-push.ensures.items ∙ ap (λ (k : List _). c.loop-flat.kinds.items ++ k ∷ []) w.in_ok-copied.ensures))
      | else-holds_marker w ↦
          rw w.kinds-is
          (spares c.loop-flat.kinds.items (take i flat_sections) flat c.loop-flat.invariant (marked ∙ w.if-holds_marker.false))
    ])
