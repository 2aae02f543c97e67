use Rattle.std.proofs.Common.{◌≡◌, ℕ, ◌+◌, ◌≤◌, map, length, Ok, arith}
use Rattle.std.specs.List.{All}
use Rattle.std.proofs.lemmas.Result.{IfOk-weaker}
use Rattle.mime_base.specs.Cache.Texts.{text_at}
use Rattle.mime_base.specs.Kept.{candidate_rules}
use Rattle.mime_view.specs.Gathered.{AreGiven}
use Rattle.mime_view.specs.declared.name_hits.Which.TheVariants.{Candidates}
use Rattle.mime_view.proofs.HitsLemmas.GivenRules.{given_of_types, given_with_rules}
use Rattle.mime_view.proofs.HitsLemmas.GivenTypes.{given-all, kept-within, length-given, types_stand}
use Rattle.mime_view.proofs.HitsLemmas.KindFaults.{read_stops}
use Rattle.mime_view.proofs.name.rule_hits.Goals as goal

pub returns-clause-found : goal.returns-clause-found
returns-clause-found c = λ rules at.
    let cache = c.args.query.now.counted.now in
    let name = c.args.query.now.key.now in
    let found = c.in_ok-hits.ensures.found rules at in
    record {
      answer = λ fits. given_with_rules cache c.in_ok-hits.hits name rules fits (found.answer fits) c.read_rules.result
          c.read_rules.ensures.answer c.read_rules.ensures.rules;
      need = λ fits enough.
          c.read_rules.ensures.need (map (λ rule. rule.kind) (candidate_rules rules name))
          (types_stand cache c.in_ok-hits.hits Candidates name rules (found.answer fits));
      most = found.most;
    }

pub returns-clause-gives : goal.returns-clause-gives
returns-clause-gives c =
    let cache = c.args.query.now.counted.now in
    let hits = c.in_ok-hits.hits in
    let paid = c.in_ok-hits.ensures.paid in
    let types = given_of_types c.read_rules.result (AreGiven cache hits) c.read_rules.ensures.answer in
    record {
      text = IfOk-weaker _ (AreGiven cache hits) (λ given. All (λ kind. (at : ℕ) × (text_at cache at ≡ Ok kind)) given.kinds) (given-all cache hits) types;
      count = IfOk-weaker _ (AreGiven cache hits)
          (λ given. length given.kinds + c.hits_of.new.spending.budget.records ≤ c.args.spending.now.budget.records)
          (λ given are. omega (arith, length-given cache hits given are, paid)) types;
      front = IfOk-weaker _ (AreGiven cache hits) (λ given. given.kept ≤ length given.kinds) (kept-within cache hits) types;
    }

pub returns-clause-fault : goal.returns-clause-fault
returns-clause-fault c =
    let hits = c.in_ok-hits.hits in
    read_stops c.args.query.now.counted.now c.args.lists c.args.query.now.key.now c.hits_of.new.spending.budget hits.which hits.offers
    c.read_rules.result c.in_ok-hits.ensures.named c.read_rules.ensures.fault
