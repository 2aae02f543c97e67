use Rattle.std.proofs.Common.{◌∙◌, sym}
use Rattle.std.proofs.lemmas.Result.{on_ok_weaker}
use Rattle.mime_view.proofs.HitsLemmas.NameOffers.{gathered_once, gathered_twice, no_capitals}
use Rattle.mime_view.proofs.name.gather_hits.Goals as goal

pub offer_once-requires : goal.offer_once-requires
offer_once-requires c = record { alone = no_capitals c.args.query.now.key.now (sym c.has_capitals.ensures ∙ c.if-not-has_capitals.true) }

pub returns-then-not-has_capitals-clause-answer : goal.returns-then-not-has_capitals-clause-answer
returns-then-not-has_capitals-clause-answer c = λ rules fits at.
    on_ok_weaker c.offer_once.result (gathered_once c.args.query.now.counted.now rules c.args.query.now.key.now fits
    (no_capitals c.args.query.now.key.now (sym c.has_capitals.ensures ∙ c.if-not-has_capitals.true)) c.args.progress.now.hits
    c.offer_once.new.progress.hits c.requires.none) ((c.offer_once.ensures.finds rules at).answer fits)

pub returns-clause-answer : goal.returns-clause-answer
returns-clause-answer c = λ rules fits at.
    on_ok_weaker c.offer_twice.result (gathered_twice c.args.query.now.counted.now rules c.args.query.now.key.now fits
    c.args.progress.now.hits c.offer_twice.new.progress.hits c.requires.none) ((c.offer_twice.ensures.finds rules at).answer fits)
