use Rattle.std.proofs.Common.{arith, map, length, drop, List, [], ◌∷◌, ◌<◌, ◌≡◌, sym, ap, ◌∙◌, subst}
use Rattle.std.specs.List.{between}
use Rattle.std.proofs.lemmas.List.{length-map, drop-drop, drop_all, take_rest, length-drop}
use Rattle.std.proofs.lemmas.Slice.{first_rest}
use Rattle.mime_store.specs.SuffixTree.{PathRule, WritesSibling, entries_room, ending_entry, ending_path}
use Rattle.mime_store.specs.declared.ending.Ending.{Ending}
use Rattle.mime_store.proofs.SuffixTreeLemmas.Groups.{a_group, first_fits, first_group, first_leaf, group_room, rest_is, starts}
use Rattle.mime_store.proofs.SuffixTreeLemmas.SoFar.{sofar_all, sofar_grew, sofar_more, sofar_none}
use Rattle.mime_store.proofs.BytesLemmas.Written.{grew_length}
use Rattle.mime_store.proofs.suffix_tree.+tree.Goals as goal

pub write_sibling-append_text-requires-clause-room : goal.write_sibling-append_text-requires-clause-room
write_sibling-append_text-requires-clause-room t c =
    let e = c.index-endings-0.result in
    let rest = between 1 (length c.args.endings.now) c.args.endings.now in
    let is = first_rest c.args.endings.now e c.requires.some ∙ ap (λ (x : Ending). x ∷ rest) (sym c.index-endings-0.is) in
    rw c.bytes.ensures.text (omega (arith, c.requires.room, first_fits c.args.depth c.args.endings.now e rest is))

pub write_sibling-returns-then-length-depth : goal.write_sibling-returns-then-length-depth
write_sibling-returns-then-length-depth t c =
    let e = c.index-endings-0.result in
    let rest = between 1 (length c.args.endings.now) c.args.endings.now in
    rw c.weight_and_flags.ensures (first_leaf c.args.depth _ c.args.out.now.items _ c.args.endings.now e rest
    (first_rest c.args.endings.now e c.requires.some
    ∙ ap (λ (x : Ending). x ∷ rest) (sym c.index-endings-0.is)) (omega (arith, c.length.ensures.length))
    (rw c.bytes.ensures.text at c.in_ok-kind.ensures.grew) (rw c.bytes.ensures.text at c.in_ok-kind.ensures.stands))

pub write_sibling-write_siblings-requires : goal.write_sibling-write_siblings-requires
write_sibling-write_siblings-requires t c =
    let e = c.index-endings-0.result in
    let rest = between 1 (length c.args.endings.now) c.args.endings.now in
    let is = first_rest c.args.endings.now e c.requires.some ∙ ap (λ (x : Ending). x ∷ rest) (sym c.index-endings-0.is) in
    let lt : c.args.depth < length (ending_path e) = omega (arith, c.length.ensures.length) in
    let byte = c.byte-byte.result in
    let here = starts c.args.depth e byte lt (sym c.byte-byte.ensures) in
    let g = a_group c.args.depth byte c.run_length-taken.result c.args.endings.now e rest is
    c.run_length-taken.ensures.within here c.run_length-taken.ensures.all c.run_length-taken.ensures.clear in
    let less = group_room _ _ _ _ g in
    (omega (arith, c.length.ensures.length, c.length.ensures.few), (omega (arith, c.requires.room), (c.requires.begun, omega arith)))

pub write_sibling-returns : goal.write_sibling-returns
write_sibling-returns t c =
    let e = c.index-endings-0.result in
    let rest = between 1 (length c.args.endings.now) c.args.endings.now in
    let is = first_rest c.args.endings.now e c.requires.some ∙ ap (λ (x : Ending). x ∷ rest) (sym c.index-endings-0.is) in
    let lt : c.args.depth < length (ending_path e) = omega (arith, c.length.ensures.length) in
    let byte = c.byte-byte.result in
    let here = starts c.args.depth e byte lt (sym c.byte-byte.ensures) in
    let g = a_group c.args.depth byte c.run_length-taken.result c.args.endings.now e rest is
    c.run_length-taken.ensures.within here c.run_length-taken.ensures.all c.run_length-taken.ensures.clear in
    rw c.from.ensures (first_group _ _ _ _ _ _ _ c.args.endings.now g c.in_ok-below.ensures.grew c.in_ok-below.ensures.stands)

pub write_siblings-loop-at-init : goal.write_siblings-loop-at-init
write_siblings-loop-at-init t c =
    record {
      within = omega arith;
      sofar = rw c.new-records.ensures.items
          (sofar_none c.args.out.now.items (map (ending_entry c.args.depth) c.args.endings.now));
    }

pub write_siblings-write_sibling-requires : goal.write_siblings-write_sibling-requires
write_siblings-write_sibling-requires t c =
    let s = c.loop-at.invariant.sofar in
    let xs = c.args.endings.now in
    let at = c.loop-at.at in
    let long = grew_length _ _ _ s.grew in
    let rest = ap entries_room (rest_is c.args.depth at xs) in
    let room = s.room in (
      omega arith,
      (
        rw (take_rest xs at) (omega (arith, length-drop at xs)),
        (omega (arith, c.requires.room), (omega (arith, c.requires.begun), c.requires.deep)),
      ),
    )

pub write_siblings-loop-at-preserved : goal.write_siblings-loop-at-preserved
write_siblings-loop-at-preserved t c =
    let xs = c.args.endings.now in
    let es = map (ending_entry c.args.depth) xs in
    let at = c.loop-at.at in
    let n = c.in_ok-sibling.sibling.taken in
    let w : WritesSibling c.loop-at.out.items c.write_sibling.new.out.items c.in_ok-sibling.sibling.row n (drop at es) =
    subst (λ (l : List PathRule). WritesSibling c.loop-at.out.items c.write_sibling.new.out.items c.in_ok-sibling.sibling.row n l)
    (rest_is c.args.depth at xs) c.in_ok-sibling.ensures in
    let within = w.within in
    record {
      within = omega (arith, length-drop at es, length-map xs (ending_entry c.args.depth));
      sofar = rw (← drop-drop n at es, c.in_ok-extend_from_slice.ensures.ok)
          (sofar_more _ _ _ _ _ _ _ es (drop at es) c.loop-at.invariant.sofar w);
    }

pub write_siblings-returns-clause-grew : goal.write_siblings-returns-clause-grew
write_siblings-returns-clause-grew t c =
    let es = map (ending_entry c.args.depth) c.args.endings.now in
    let done : drop c.loop-at.at es ≡ [] = drop_all c.loop-at.at es
    (omega (arith, length-map c.args.endings.now (ending_entry c.args.depth))) in
    sofar_grew _ _ _ c.loop-at.records.items _ es (rw done at c.loop-at.invariant.sofar)
    (rw c.as_slice.ensures at c.in_ok-first.ensures.grew)

pub write_siblings-returns-clause-stands : goal.write_siblings-returns-clause-stands
write_siblings-returns-clause-stands t c =
    let es = map (ending_entry c.args.depth) c.args.endings.now in
    let done : drop c.loop-at.at es ≡ [] = drop_all c.loop-at.at es
    (omega (arith, length-map c.args.endings.now (ending_entry c.args.depth))) in
    sofar_all _ _ _ c.loop-at.records.items _ _ _ es (rw done at c.loop-at.invariant.sofar) c.in_ok-first.ensures.grew
    (rw c.as_slice.ensures at c.in_ok-first.ensures.stand)
