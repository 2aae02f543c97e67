use Rattle.std.proofs.Common.{sym, ap, ◌∙◌}
use Rattle.mime_lookup.proofs.SpellingLemmas.Targets.{found_target}
use Rattle.mime_lookup.proofs.read_back.targets.target_of.Goals as goal

pub returns-in-Some : goal.returns-in-Some
returns-in-Some c =
    sym (ap (λ found. found_target found c.args.kind.now) (sym (c.value_of.ensures) ∙ c.in-Some.is))

pub returns-in-None : goal.returns-in-None
returns-in-None c =
    sym (ap (λ found. found_target found c.args.kind.now) (sym (c.value_of.ensures) ∙ c.in-None.is))
