use Rattle.std.proofs.Common.{sym, ◌∙◌, ◌||◌, length, take, drop, ◌-◌, arith, ap}
use Rattle.std.proofs.lemmas.List.{length-drop, take_all}
use Rattle.std.proofs.lemmas.Slice.{between_to_end}
use Rattle.mime_view.specs.NameHits.{has_capitals}
use Rattle.mime_view.proofs.CapitalLemmas.{capitals-front, capitals-window}
use Rattle.mime_view.proofs.capitals.has_capitals.Goals as goal

pub returns-then-capital_in_eight : goal.returns-then-capital_in_eight
returns-then-capital_in_eight c =
    c.if-capital_in_eight.true ∙ sym (capitals-front 8 c.args.name.now (sym c.capital_in_eight.ensures ∙ c.if-capital_in_eight.true))

pub returns-else-capital_in_eight : goal.returns-else-capital_in_eight
returns-else-capital_in_eight c =
    let name = c.args.name.now in
    let last = drop (length name - 8) name in
    let end = between_to_end name (length name - 8) (length name) (omega (arith, c.in-8-to-15)) in
    c.capital_in_eight-else-capital_in_eight.ensures
    ∙ ap (λ bytes. has_capitals (take 8 bytes)) end
    ∙ ap has_capitals (take_all 8 last (omega (arith, length-drop (length name - 8) name)))
    ∙ capitals-window 8 (length name - 8) name (omega (arith, c.in-8-to-15)) (sym c.capital_in_eight.ensures ∙ c.if-capital_in_eight.false)

pub returns-else-capital_in_windows : goal.returns-else-capital_in_windows
returns-else-capital_in_windows c =
    let name = c.args.name.now in
    let last = drop (length name - 16) name in
    let end = between_to_end name (length name - 16) (length name) (omega (arith, c.in_default)) in
    c.capital_in_sixteen.ensures
    ∙ ap (λ bytes. has_capitals (take 16 bytes)) end
    ∙ ap has_capitals (take_all 16 last (omega (arith, length-drop (length name - 16) name)))
    ∙ sym (c.capital_in_windows.ensures ∙ ap (λ found. found || has_capitals last) c.if-capital_in_windows.false)
