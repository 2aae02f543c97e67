-- What is copied of the pattern, backwards.
use Rattle.std.proofs.Common.{reverse, ap, sym, ◌∙◌, arith}
use Rattle.mime_store.proofs.RulesLemmas.Texts.{path_after, path_long}
use Rattle.mime_store.proofs.paths.rest_of.Goals as goal

pub returns : goal.returns
returns c =
    let rule = c.args.rule.now in
    c.reverse.ensures.items ∙ ap reverse (rw c.bytes-pattern.ensures.text at c.in_ok-rest.ensures)
    ∙ sym (path_after rule 8 (omega (arith, path_long rule, c.path_length.ensures.length)))
