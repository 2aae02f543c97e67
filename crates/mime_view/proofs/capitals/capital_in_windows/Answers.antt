use Rattle.std.proofs.Common.{sym, ◌∙◌, length, drop, ◌-◌, arith, ap}
use Rattle.std.proofs.lemmas.List.{drop-drop}
use Rattle.std.proofs.lemmas.Slice.{between_to_end}
use Rattle.mime_view.specs.NameHits.{has_capitals}
use Rattle.mime_view.proofs.CapitalLemmas.{capitals-from, capitals-front, capitals-passed}
use Rattle.mime_view.proofs.capitals.capital_in_windows.Goals as goal

pub returns-then-capital_in_sixteen : goal.returns-then-capital_in_sixteen
returns-then-capital_in_sixteen c =
    let name = c.args.name.now in
    let rest = between_to_end name c.loop-start.start (length name) (omega arith) in
    let found = rw rest at (sym c.capital_in_sixteen.ensures ∙ c.if-capital_in_sixteen.true) in
    sym c.loop-start.invariant ∙ capitals-front 16 (drop c.loop-start.start name) found

pub loop-start-preserved : goal.loop-start-preserved
loop-start-preserved c =
    let name = c.args.name.now in
    let rest = between_to_end name c.loop-start.start (length name) (omega arith) in
    let none = rw rest at (sym c.capital_in_sixteen.ensures ∙ c.if-capital_in_sixteen.false) in
    ap has_capitals (sym (drop-drop 16 c.loop-start.start name)) ∙ capitals-passed 16 (drop c.loop-start.start name) none
    ∙ c.loop-start.invariant

pub returns : goal.returns
returns c = sym (capitals-from (length c.args.name.now - 16) c.loop-start.start c.args.name.now (omega arith) c.loop-start.invariant)
