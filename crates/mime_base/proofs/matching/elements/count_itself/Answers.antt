use Rattle.std.proofs.Common.{sym, refl, length, le-ltb, arith}
use Rattle.std.proofs.lemmas.List.{length-take-le}
use Rattle.mime_base.proofs.MatchingLemmas.Literals.{itself-all, itself-found}
use Rattle.mime_base.proofs.matching.elements.count_itself.Goals as goal

pub returns-then-places-eq0-clause-itself : goal.returns-then-places-eq0-clause-itself
returns-then-places-eq0-clause-itself c =
    let long = length-take-le 8 c.args.text.now (omega arith) in
    (itself-all c.args.text.now _ long refl c.if-places-eq0.true).0

pub returns-then-places-eq0-clause-exact : goal.returns-then-places-eq0-clause-exact
returns-then-places-eq0-clause-exact c =
    let long = length-take-le 8 c.args.text.now (omega arith) in
    let all = (itself-all c.args.text.now _ long refl c.if-places-eq0.true).1 in
    rw (le-ltb (length c.args.text.now) 8 (omega arith)) (sym all)

pub returns-else-places-eq0 : goal.returns-else-places-eq0
returns-else-places-eq0 c =
    let long = length-take-le 8 c.args.text.now (omega arith) in
    let found = itself-found c.args.text.now _ long refl (omega (arith, c.if-places-eq0.false)) in
    record {
      itself = found.0;
      within = omega (arith, found.1);
      next = λ whole less. found.2 less;
      exact = rw (le-ltb (length c.args.text.now) 8 (omega arith)) found.3;
    }
