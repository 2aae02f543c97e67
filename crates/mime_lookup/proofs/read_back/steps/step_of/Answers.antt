use Rattle.std.proofs.Common.{sym, ap, ◌∙◌}
use Rattle.mime_lookup.proofs.SpellingLemmas.Steps.{found_step}
use Rattle.mime_lookup.proofs.read_back.steps.step_of.Goals as goal

pub returns-in-Some : goal.returns-in-Some
returns-in-Some c = sym (ap found_step (sym (c.value_of.ensures) ∙ c.in-Some.is))

pub returns-in-None : goal.returns-in-None
returns-in-None c = sym (ap found_step (sym (c.value_of.ensures) ∙ c.in-None.is))
