use Rattle.std.proofs.Common.{refl, sym, ◌∙◌, ⊎_elim, arith}
use Rattle.mime_load.proofs.LineLemmas.{own_stands}
use Rattle.mime_load.proofs.LinesRead.{line_inside, line_read}
use Rattle.mime_load.proofs.own.own_at.Goals as goal

pub returns-clause-stands : goal.returns-clause-stands
returns-clause-stands c =
    own_stands c.args.source.now.counted.now c.args.at c.in_ok-start.field-0 _ _ _ c.in_ok-start.ensures.numbers c.in_ok-start.ensures.stand
    refl refl refl c.in_ok-value.ensures.size refl refl c.in_ok-value.ensures.stands c.in_ok-mask.ensures.stands
    c.in_ok-mask.ensures.size (sym c.is_spellable.ensures ∙ c.if-not-is_spellable.false)

pub returns-in_err-start-clause-need : goal.returns-in_err-start-clause-need
returns-in_err-start-clause-need c = λ own count first stands records bytes.
    let inside = line_inside c.args.source.now.counted.now c.args.at own count first stands in
    absurd (⊎_elim (λ few. absurd (omega arith)) (λ out. absurd (omega arith)) c.in_err-start.ensures.fault)

pub returns-then-not-is_spellable-clause-need : goal.returns-then-not-is_spellable-clause-need
returns-then-not-is_spellable-clause-need c = λ own count first stands records bytes.
    let read = line_read c.args.source.now.counted.now c.args.at c.in_ok-start.field-0 own count first c.in_ok-start.ensures.numbers stands in
    let no = c.if-not-is_spellable.true in
    absurd (cc (read.spellable, c.is_spellable.ensures, no))

pub returns-in_err-take_value_bytes-clause-need : goal.returns-in_err-take_value_bytes-clause-need
returns-in_err-take_value_bytes-clause-need c = λ own count first stands records bytes.
    let read = line_read c.args.source.now.counted.now c.args.at c.in_ok-start.field-0 own count first c.in_ok-start.ensures.numbers stands in
    absurd (omega (arith, c.in_err-take_value_bytes.ensures.fault, read.size, c.in_ok-start.ensures.visits.value_bytes))

pub returns-in_err-value-clause-need : goal.returns-in_err-value-clause-need
returns-in_err-value-clause-need c = λ own count first stands records bytes.
    let read = line_read c.args.source.now.counted.now c.args.at c.in_ok-start.field-0 own count first c.in_ok-start.ensures.numbers stands in
    absurd (omega (arith, read.value_inside, c.in_err-value.ensures.fault))

pub returns-in_err-mask-clause-need : goal.returns-in_err-mask-clause-need
returns-in_err-mask-clause-need c = λ own count first stands records bytes.
    let read = line_read c.args.source.now.counted.now c.args.at c.in_ok-start.field-0 own count first c.in_ok-start.ensures.numbers stands in
    absurd (omega (arith, read.mask_inside c.in_err-mask.ensures.fault.0, c.in_err-mask.ensures.fault.1))
