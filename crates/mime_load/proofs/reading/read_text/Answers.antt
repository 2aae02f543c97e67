use Rattle.mime_base.proofs.CacheLemmas.TextsStand.{text_at-read, text_at-standing}
use Rattle.mime_load.proofs.reading.read_text.Goals as goal

pub returns-clause-stands : goal.returns-clause-stands
returns-clause-stands c =
    let r = text_at-read c.args.source.now.counted.now c.args.at c.in_ok-text.text.now (rw c.from.ensures at c.in_ok-text.ensures.text) in
    record { is_text = r.0; stand = r.1 }

pub returns-in_err-text-clause-need : goal.returns-in_err-text-clause-need
returns-in_err-text-clause-need c = λ text stands.
    let read = text_at-standing c.args.source.now.counted.now c.args.at text stands.is_text stands.stand in
    let fault = rw c.from.ensures at c.in_err-text.ensures.text in
    absurd (cc (read, fault))
