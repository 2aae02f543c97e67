use Rattle.std.proofs.Common.{arith}
use Rattle.mime_names.proofs.LeadingLemmas.{leader-less, leader-more, leader-same}
use Rattle.mime_names.proofs.leading.offer.Goals as goal

pub returns-then-rank-leader-clause-leads : goal.returns-then-rank-leader-clause-leads
returns-then-rank-leader-clause-leads c = λ rules rule offers within here is.
    leader-less rules c.args.places.now c.args.leader offers is c.args.rank rule.kind c.if-rank-leader.true

pub returns-then-rank-leader-2-clause-leads : goal.returns-then-rank-leader-2-clause-leads
returns-then-rank-leader-2-clause-leads c = λ rules rule offers within here is.
    leader-more rules c.args.places.now c.args.leader offers is c.args.rank c.args.place rule within here c.requires c.if-rank-leader-2.true

pub returns-clause-leads : goal.returns-clause-leads
returns-clause-leads c = λ rules rule offers within here is.
    leader-same rules c.args.places.now c.args.leader offers is c.args.rank c.args.place rule within here c.requires
    (omega (arith, c.if-rank-leader.false, c.if-rank-leader-2.false))
