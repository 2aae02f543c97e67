use Rattle.std.proofs.Common.{ℕ, List, subst}
use Rattle.std.proofs.lemmas.Result.{IfOk-weaker}
use Rattle.mime_base.specs.declared.database.rule.GlobRule.{GlobRule}
use Rattle.mime_lookup.specs.ReadBack.{AreRulesReadBack}
use Rattle.mime_lookup.proofs.SpellingLemmas.RuleHits.{hits_front, hits_once, hits_texts}
use Rattle.mime_view.specs.RuleHits.{AreRuleHits}
use Rattle.mime_lookup.proofs.read_back.names.IndexedNames.rule_hits.Goals as goal

pub returns-clause-gives : goal.returns-clause-gives
returns-clause-gives c rules spells fits =
    let of_cache : AreRulesReadBack c.args.self.now c.self.inside.index =
    subst (λ (bytes : List ℕ). AreRulesReadBack bytes c.self.inside.index) c.self.view_is c.self.invariant.0 in
    IfOk-weaker c.hits_of.result _ _
    (λ hits are. hits_once c.args.self.now c.args.name.now of_cache.database of_cache.spelled hits
    (subst (λ (own : List GlobRule). AreRuleHits c.args.name.now own hits) of_cache.own are) rules spells fits)
    c.hits_of.ensures.hits

pub returns-clause-text : goal.returns-clause-text
returns-clause-text c =
    let of_cache : AreRulesReadBack c.args.self.now c.self.inside.index =
    subst (λ (bytes : List ℕ). AreRulesReadBack bytes c.self.inside.index) c.self.view_is c.self.invariant.0 in
    IfOk-weaker c.hits_of.result _ _
    (λ hits are. hits_texts c.args.self.now c.args.name.now of_cache.database of_cache.spelled hits
    (subst (λ (own : List GlobRule). AreRuleHits c.args.name.now own hits) of_cache.own are))
    c.hits_of.ensures.hits

pub returns-clause-front : goal.returns-clause-front
returns-clause-front c =
    let of_cache : AreRulesReadBack c.args.self.now c.self.inside.index =
    subst (λ (bytes : List ℕ). AreRulesReadBack bytes c.self.inside.index) c.self.view_is c.self.invariant.0 in
    IfOk-weaker c.hits_of.result _ _
    (λ hits are. hits_front c.args.self.now c.args.name.now of_cache.database of_cache.spelled hits
    (subst (λ (own : List GlobRule). AreRuleHits c.args.name.now own hits) of_cache.own are))
    c.hits_of.ensures.hits
