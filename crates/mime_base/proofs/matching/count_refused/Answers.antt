use Rattle.std.proofs.Common.{arith, length}
use Rattle.mime_base.specs.Matching.Elements.{elements}
use Rattle.mime_base.specs.Matching.Folding.{compared}
use Rattle.mime_base.proofs.MatchingLemmas.Refused.{passed-over, refusing-takes}
use Rattle.mime_base.proofs.matching.count_refused.Goals as goal

pub returns-in-Some-memchr-clause-same : goal.returns-in-Some-memchr-clause-same
returns-in-Some-memchr-clause-same c =
    (passed-over c.args.cased (elements (compared c.args.cased c.args.pattern.now)) c.args.name.now c.in-Some.first
    (c.in-Some.ensures.refused c.args.cased) c.in-Some-memchr.place (omega (arith, c.in-Some-memchr.ensures.0.high))
    (λ k l. c.in-Some-memchr.ensures.0.before k (omega arith) l)).0

pub returns-in-Some-memchr-clause-tests : goal.returns-in-Some-memchr-clause-tests
returns-in-Some-memchr-clause-tests c =
    (passed-over c.args.cased (elements (compared c.args.cased c.args.pattern.now)) c.args.name.now c.in-Some.first
    (c.in-Some.ensures.refused c.args.cased) c.in-Some-memchr.place (omega (arith, c.in-Some-memchr.ensures.0.high))
    (λ k l. c.in-Some-memchr.ensures.0.before k (omega arith) l)).1

pub returns-in-None-clause-same : goal.returns-in-None-clause-same
returns-in-None-clause-same c =
    (passed-over c.args.cased (elements (compared c.args.cased c.args.pattern.now)) c.args.name.now c.in-Some.first
    (c.in-Some.ensures.refused c.args.cased) (length c.args.name.now) (omega arith) (λ k l. c.in-None.ensures k (omega arith) l)).0

pub returns-in-None-clause-tests : goal.returns-in-None-clause-tests
returns-in-None-clause-tests c =
    (passed-over c.args.cased (elements (compared c.args.cased c.args.pattern.now)) c.args.name.now c.in-Some.first
    (c.in-Some.ensures.refused c.args.cased) (length c.args.name.now) (omega arith) (λ k l. c.in-None.ensures k (omega arith) l)).1

pub returns-in-Some-memchr-clause-taker : goal.returns-in-Some-memchr-clause-taker
returns-in-Some-memchr-clause-taker c = λ some. (
  refusing-takes c.args.cased (elements (compared c.args.cased c.args.pattern.now)) c.in-Some.first (c.in-Some.ensures.refused c.args.cased),
  c.in-Some.ensures.some,
)

pub returns-in-None-clause-taker : goal.returns-in-None-clause-taker
returns-in-None-clause-taker c = λ some. (
  refusing-takes c.args.cased (elements (compared c.args.cased c.args.pattern.now)) c.in-Some.first (c.in-Some.ensures.refused c.args.cased),
  c.in-Some.ensures.some,
)
