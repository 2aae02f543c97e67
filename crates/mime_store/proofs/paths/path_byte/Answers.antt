use Rattle.std.proofs.Common.{◌-◌, length, get_or, ap, sym, ◌∙◌}
use Rattle.mime_base.specs.Matching.Folding.{compared_byte}
use Rattle.mime_store.proofs.RulesLemmas.Texts.{path_at}
use Rattle.mime_store.proofs.paths.path_byte.Goals as goal

pub returns : goal.returns
returns c =
    let rule = c.args.rule.now in
    let depth = c.args.depth in
    c.as_compared.ensures
    ∙ ap (λ pattern. compared_byte rule.cased (get_or pattern (length pattern - 1 - depth) 0)) c.bytes-pattern.ensures.text
    ∙ sym (path_at rule depth c.requires)
