use Rattle.std.proofs.Common.{◌≡◌, ◌+◌, ◌-◌, ◌/◌, refl, length, take, drop, sym, ◌∙◌, arith, length-drop, le-ltb, take_all, take-take}
use Rattle.mime_lookup.specs.Marks.{mark}
use Rattle.mime_lookup.proofs.name_map.marks.mark_of.Goals as goal

pub returns-clause-mark : goal.returns-clause-mark
unfolding mark
returns-clause-mark c =
    let name = c.args.name.now in
    let start = length name / 2 - 4 in
    let long = c.in-Some.ensures.cases.0 in
    let last : c.in-Some.last.now ≡ take 8 (drop (length name - 8) name) =
    c.in-Some.ensures.cases.1.same
    ∙ sym (take_all 8 (drop (length name - 8) name) (omega (arith, long, length-drop (length name - 8) name))) in
    let middle : c.in-Some-first_chunk.middle.now ≡ take 8 (drop start name) =
    c.in-Some-first_chunk.ensures.cases.same
    ∙ take-take 8 (start + 8 - start) (drop start name) (omega arith) in
    rw (le-ltb (length name) 8 long, sym middle, sym last, c.from_le_bytes.ensures, c.from_le_bytes-2.ensures) refl
