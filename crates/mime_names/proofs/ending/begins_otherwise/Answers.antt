use Rattle.std.proofs.Common.{◌+◌, get_or, ap, ◌∙◌, arith}
use Rattle.std.proofs.lemmas.Bool.{not-true}
use Rattle.mime_base.specs.Matching.Folding.{compared_byte}
use Rattle.mime_names.proofs.CompareLemmas.{byte-other}
use Rattle.mime_names.proofs.ending.begins_otherwise.Goals as goal

pub returns-then-text-gt0-clause-otherwise : goal.returns-then-text-gt0-clause-otherwise
returns-then-text-gt0-clause-otherwise c = λ is.
    let start = c.args.start in
    let name = c.args.name.now in
    byte-other c.args.cased c.args.text.now name start 0 c.requires (omega (arith, c.if-text-gt0.true))
    (λ same. c.are_alike.ensures.otherwise (not-true _ is)
    (same ∙ ap (λ n. compared_byte c.args.cased (get_or name n 0)) {x = start + 0} {y = start} (omega arith)))
