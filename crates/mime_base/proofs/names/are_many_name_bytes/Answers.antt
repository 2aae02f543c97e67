-- Sixteen bytes more, and the last sixteen.
use Rattle.std.proofs.Common.{◌≡◌, ◌-◌, true, ◌&&◌, drop, take, length, ap, ◌∙◌, sym, arith, drop-drop, take_all, length-drop}
use Rattle.std.specs.List.{list_all}
use Rattle.std.proofs.lemmas.List.{take_rest}
use Rattle.mime_base.specs.Names.{is_name_byte}
use Rattle.mime_base.proofs.NameLemmas.{names-overlap, names-passed}
use Rattle.mime_base.proofs.names.are_many_name_bytes.Goals as goal

pub loop-at-preserved : goal.loop-at-preserved
loop-at-preserved c =
    let xs = c.args.bytes.now in
    let at = c.loop-at.at in
    let front : list_all is_name_byte (take 16 (drop at xs)) ≡ true =
    ap (λ l. list_all is_name_byte (take 16 l)) (sym (take_rest xs at)) ∙ sym c.are_sixteen_name_bytes.ensures
    ∙ c.if-not-are_sixteen_name_bytes.false in
    let passed : list_all is_name_byte (drop at xs) ≡ list_all is_name_byte (drop 16 (drop at xs)) =
    names-passed 16 (drop at xs) ∙ ap (λ b. b && list_all is_name_byte (drop 16 (drop at xs))) front in
    sym (passed ∙ ap (list_all is_name_byte) (drop-drop 16 at xs)) ∙ c.loop-at.invariant

pub returns : goal.returns
returns c =
    let xs = c.args.bytes.now in
    let last = length xs - 16 in
    c.are_sixteen_name_bytes-2.ensures
    ∙ ap (λ l. list_all is_name_byte (take 16 l)) (take_rest xs last)
    ∙ ap (list_all is_name_byte) (take_all 16 (drop last xs) (omega (arith, length-drop last xs)))
    ∙ names-overlap last c.loop-at.at xs (omega arith) c.loop-at.invariant
