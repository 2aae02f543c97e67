use Rattle.std.proofs.Common.{◌∙◌, get_or, ap, arith}
use Rattle.std.proofs.lemmas.List.{get_or_default}
use Rattle.mime_names.proofs.places.push_key.Goals as goal

pub returns-then-index-eq0-clause-walks : goal.returns-then-index-eq0-clause-walks
returns-then-index-eq0-clause-walks c = record {
  kept = λ p has. has;
  all = λ p below is.
      (let firsts = c.args.table.now.chains.firsts.items in
      let none = c.index.ensures ∙ get_or_default firsts c.args.key c.index.result.now 0 (omega (arith, c.requires.key, c.requires.table.room)) in
      absurd (omega (arith, (c.requires.table.chained.starts p (omega arith) below).0, ap (λ key. get_or firsts key 0) is, none, c.if-index-eq0.true)));
}
