use Rattle.std.proofs.Common.{◌≡◌, ◌∙◌, ◌++◌, ◌+◌, ◌<◌, ◌≤◌, List, ℕ, [], false, ap, append-nil, append_assoc, arith, drop, get_or, length, map, sym}
use Rattle.std.proofs.lemmas.List.{drop_all, get_or-map, length-map}
use Rattle.std.specs.List.{flat_map}
use Rattle.mime_base.specs.Database.Lent.{plain_rule}
use Rattle.mime_base.specs.declared.database.lent.LentRule.{LentRule}
use Rattle.mime_base.specs.declared.database.rule.GlobRule.{GlobRule}
use Rattle.mime_load.specs.Lent.{plain_pairs}
use Rattle.mime_lookup.proofs.AncestryLemmas.PairSteps.{items_from}
use Rattle.mime_tool.specs.Explain.{glob_line}
use Rattle.mime_tool.proofs.explain.lines.push_rules.Goals as goal

-- some rule
abbrev some : LentRule
some = record { weight = 0; kind = record { ref_ptr = (0, 0); now = [] }; pattern = record { ref_ptr = (0, 0); now = [] }; cased = false }

pub loop-place-preserved : goal.loop-place-preserved
loop-place-preserved c =
    let rules = c.args.rules.now in
    let i = c.loop-place.place in
    let plain = map plain_rule rules in
    let rule = plain_rule (get_or rules i some) in
    let within : i < length plain = omega (arith, c.loop-place-test.true, length-map rules plain_rule) in
    let here : rule ≡ get_or plain i rule = sym (get_or-map plain_rule rules i some rule c.loop-place-test.true) in
    let line = glob_line c.args.output (plain_pairs c.args.aliases.now) c.args.kept in
    let before = c.loop-place.lines.items in
    c.loop-place.invariant
    ∙ ap (λ (rest : List GlobRule). before ++ flat_map line rest) (items_from plain i rule within here)
    ∙ sym (append_assoc before (line rule) (flat_map line (drop (i + 1) plain)))
    ∙ ap (λ (front : List ℕ). front ++ flat_map line (drop (i + 1) plain)) (sym c.in_ok-push_rule.ensures)

pub returns : goal.returns
returns c =
    let rules = c.args.rules.now in
    let plain = map plain_rule rules in
    let line = glob_line c.args.output (plain_pairs c.args.aliases.now) c.args.kept in
    let past : length plain ≤ c.loop-place.place = omega (arith, c.loop-place-test.false, length-map rules plain_rule) in
    sym (c.loop-place.invariant
    ∙ ap (λ (rest : List GlobRule). c.loop-place.lines.items ++ flat_map line rest) (drop_all c.loop-place.place plain past)
    ∙ append-nil c.loop-place.lines.items)
