-- The first eight bytes, and the last eight.
use Rattle.std.proofs.Common.{◌≡◌, ◌-◌, true, ◌&&◌, drop, take, length, ap, ◌∙◌, sym, arith, take_all, length-drop}
use Rattle.std.specs.List.{list_all}
use Rattle.std.proofs.lemmas.List.{take_rest}
use Rattle.mime_base.specs.Names.{is_name_byte}
use Rattle.mime_base.proofs.NameLemmas.{names-overlap, names-passed}
use Rattle.mime_base.proofs.names.are_name_bytes.Goals as goal

pub returns-then-are_eight_name_bytes : goal.returns-then-are_eight_name_bytes
returns-then-are_eight_name_bytes c =
    let xs = c.args.bytes.now in
    let last = length xs - 8 in
    let front : list_all is_name_byte (take 8 xs) ≡ true = sym c.are_eight_name_bytes.ensures ∙ c.if-are_eight_name_bytes.true in
    let passed : list_all is_name_byte (drop 8 xs) ≡ list_all is_name_byte xs =
    sym (names-passed 8 xs ∙ ap (λ b. b && list_all is_name_byte (drop 8 xs)) front) in
    c.are_eight_name_bytes-then-are_eight_name_bytes.ensures
    ∙ ap (λ l. list_all is_name_byte (take 8 l)) (take_rest xs last)
    ∙ ap (list_all is_name_byte) (take_all 8 (drop last xs) (omega (arith, length-drop last xs)))
    ∙ names-overlap last 8 xs (omega arith) passed
