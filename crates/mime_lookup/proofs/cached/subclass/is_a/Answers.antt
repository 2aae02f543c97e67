use Rattle.std.proofs.Common.{sym, ◌∙◌}
use Rattle.mime_view.specs.declared.fault.CacheFault.TheVariants.{Spent}
use Rattle.mime_lookup.proofs.LookUpLemmas.Askings.{reported}
use Rattle.mime_lookup.proofs.StopLemmas.Cause.{says_fault}
use Rattle.mime_lookup.proofs.CostLemmas.ShortTexts.{is_type_name-short}
use Rattle.mime_lookup.proofs.cached.subclass.is_a.Goals as goal

pub open_and_search-requires-clause-base : goal.open_and_search-requires-clause-base
open_and_search-requires-clause-base c = rw c.bytes-2.ensures.text (is_type_name-short c.args.base.now c.bytes-2.ensures.limits)

pub returns-in-Ok-clause-answer : goal.returns-in-Ok-clause-answer
returns-in-Ok-clause-answer c = λ b spells. rw (c.bytes.ensures.text, c.bytes-2.ensures.text) at (c.in-Ok.ensures.answer b spells)

pub returns-in-Err-clause-stops : goal.returns-in-Err-clause-stops
returns-in-Err-clause-stops c = reported c.args.cache _ _ c.in-Err.fault _ c.from.ensures c.in-Err.ensures.stops

pub returns-in-Err-clause-spent : goal.returns-in-Err-clause-spent
returns-in-Err-clause-spent c = λ spent.
    c.in-Err.ensures.spent (says_fault c.in-Err.fault Spent (sym c.from.ensures ∙ spent))
