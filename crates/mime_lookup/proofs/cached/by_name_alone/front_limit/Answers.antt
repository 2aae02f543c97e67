use Rattle.std.proofs.Common.{◌∙◌, ℕ, max, ap}
use Rattle.mime_lookup.specs.CheckingOrder.{read_limit}
use Rattle.mime_lookup.proofs.cached.by_name_alone.front_limit.Goals as goal

pub returns-in_err-extent-clause-need : goal.returns-in_err-extent-clause-need
returns-in_err-extent-clause-need c = λ b magic.
    absurd (c.in_err-extent.ensures.answer magic.offsets b.sections magic.header magic.magic)

pub returns-clause-spelled : goal.returns-clause-spelled
unfolding read_limit
returns-clause-spelled c = λ b magic.
    c.from.ensures ∙ c.max.ensures
    ∙ ap (λ (size : ℕ). max 128 size) (c.in_ok-extent.ensures.answer magic.offsets b.sections magic.header magic.magic)
