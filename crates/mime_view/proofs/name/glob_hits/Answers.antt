use Rattle.std.proofs.Common.{◌≡◌, ℕ, ◌+◌, ◌≤◌, map, length, Ok, arith}
use Rattle.std.specs.List.{All}
use Rattle.std.proofs.lemmas.Result.{IfOk-weaker}
use Rattle.mime_base.specs.Cache.Texts.{text_at}
use Rattle.mime_view.specs.Gathered.{AreGiven, asked_rules}
use Rattle.mime_view.specs.NameHits.{AreHits}
use Rattle.mime_view.proofs.HitsLemmas.GivenTypes.{given-all, kept-within, length-given, types_given, types_stand}
use Rattle.mime_view.proofs.HitsLemmas.KindFaults.{read_stops}
use Rattle.mime_view.proofs.name.glob_hits.Goals as goal

pub returns-clause-found : goal.returns-clause-found
returns-clause-found c = λ rules at.
    let cache = c.args.query.now.counted.now in
    let name = c.args.query.now.key.now in
    let hits = c.in_ok-hits.hits in
    let found = c.in_ok-hits.ensures.found rules at in
    record {
      answer = λ fits.
          IfOk-weaker c.read.result (AreGiven cache hits) (AreHits c.args.which name rules)
          (types_given cache hits c.args.which name rules (found.answer fits)) c.read.ensures.answer;
      need = λ fits enough.
          c.read.ensures.need (map (λ rule. rule.kind) (asked_rules c.args.which rules name))
          (types_stand cache hits c.args.which name rules (found.answer fits));
      most = found.most;
    }

pub returns-clause-gives : goal.returns-clause-gives
returns-clause-gives c =
    let cache = c.args.query.now.counted.now in
    let hits = c.in_ok-hits.hits in
    let paid = c.in_ok-hits.ensures.paid in
    record {
      text = IfOk-weaker c.read.result (AreGiven cache hits) (λ given. All (λ kind. (at : ℕ) × (text_at cache at ≡ Ok kind)) given.kinds) (given-all cache hits) c.read.ensures.answer;
      count = IfOk-weaker c.read.result (AreGiven cache hits)
          (λ given. length given.kinds + c.hits_of.new.spending.budget.records ≤ c.args.spending.now.budget.records)
          (λ given are. omega (arith, length-given cache hits given are, paid)) c.read.ensures.answer;
      front = IfOk-weaker c.read.result (AreGiven cache hits) (λ given. given.kept ≤ length given.kinds) (kept-within cache hits) c.read.ensures.answer;
    }

pub returns-clause-fault : goal.returns-clause-fault
returns-clause-fault c =
    let hits = c.in_ok-hits.hits in
    read_stops c.args.query.now.counted.now c.args.lists c.args.query.now.key.now c.hits_of.new.spending.budget hits.which hits.offers
    c.read.result c.in_ok-hits.ensures.named c.read.ensures.fault
