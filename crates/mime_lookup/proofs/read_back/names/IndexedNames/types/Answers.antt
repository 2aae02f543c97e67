use Rattle.std.proofs.Common.{◌≡◌, ℕ, List, length, map, ap, refl, sym, subst, ◌∙◌, arith}
use Rattle.std.specs.List.{All}
use Rattle.std.proofs.lemmas.List.{length-map}
use Rattle.mime_base.specs.Kept.{kept_rules}
use Rattle.mime_base.specs.declared.database.rule.GlobRule.{GlobRule}
use Rattle.mime_lookup.specs.Cached.{IsCacheText}
use Rattle.mime_lookup.specs.NameTypes.{types_for}
use Rattle.mime_lookup.specs.ReadBack.{AreRulesReadBack}
use Rattle.mime_lookup.proofs.SpellingLemmas.IndexTypes.{index-candidates, index-kept, kept-within, types_given, types_texts}
use Rattle.mime_view.specs.declared.name_hits.Which.TheVariants.{Candidates, Kept}
use Rattle.mime_lookup.proofs.read_back.names.IndexedNames.types.Goals as goal

pub returns-in_ok-types-in-Kept-clause-gives : goal.returns-in_ok-types-in-Kept-clause-gives
returns-in_ok-types-in-Kept-clause-gives c b spelled =
    let cache = c.args.self.now in
    let name = c.args.name.now in
    let rules = c.self.inside.index in
    let of_cache : AreRulesReadBack cache rules = subst (λ (bytes : List ℕ). AreRulesReadBack bytes rules) c.self.view_is c.self.invariant.0 in
    let are = c.kept_hits.ensures.kinds ∙ c.in_ok-types-in-Kept.ensures.kept in
    rw c.in-Kept.is
    (types_given cache name rules of_cache Kept c.kept_hits.result.kinds c.kept_hits.result.kinds c.kept_hits.result.kept
    (are ∙ index-kept cache name rules of_cache) are c.kept_hits.ensures.kept b spelled)

pub returns-in_ok-types-in-Kept-clause-text : goal.returns-in_ok-types-in-Kept-clause-text
returns-in_ok-types-in-Kept-clause-text c =
    let cache = c.args.self.now in
    let name = c.args.name.now in
    let rules = c.self.inside.index in
    let of_cache : AreRulesReadBack cache rules = subst (λ (bytes : List ℕ). AreRulesReadBack bytes rules) c.self.view_is c.self.invariant.0 in
    let are : c.kept_hits.result.kinds ≡ types_for Kept of_cache.database name =
    c.kept_hits.ensures.kinds ∙ c.in_ok-types-in-Kept.ensures.kept ∙ index-kept cache name rules of_cache in
    subst (All (IsCacheText cache)) (sym are) (types_texts cache name of_cache.database of_cache.spelled Kept)

pub returns-in_ok-all-in-Candidates-clause-gives : goal.returns-in_ok-all-in-Candidates-clause-gives
returns-in_ok-all-in-Candidates-clause-gives c b spelled =
    let cache = c.args.self.now in
    let name = c.args.name.now in
    let index = c.self.inside.index in
    let of_cache : AreRulesReadBack cache index = subst (λ (bytes : List ℕ). AreRulesReadBack bytes index) c.self.view_is c.self.invariant.0 in
    rw c.in-Candidates.is
    (types_given cache name index of_cache Candidates c.of.result (map (λ (rule : GlobRule). rule.kind) (kept_rules index.given name))
    c.in_ok-all-in-Candidates.all.kept
    (c.of.ensures ∙ c.in_ok-all-in-Candidates.ensures.candidates ∙ index-candidates cache name index of_cache)
    refl (c.in_ok-all-in-Candidates.ensures.kept ∙ sym (length-map (kept_rules index.given name) (λ (rule : GlobRule). rule.kind))) b spelled)

pub returns-in_ok-all-in-Candidates-clause-text : goal.returns-in_ok-all-in-Candidates-clause-text
returns-in_ok-all-in-Candidates-clause-text c =
    let cache = c.args.self.now in
    let name = c.args.name.now in
    let index = c.self.inside.index in
    let of_cache : AreRulesReadBack cache index = subst (λ (bytes : List ℕ). AreRulesReadBack bytes index) c.self.view_is c.self.invariant.0 in
    let are : c.of.result ≡ types_for Candidates of_cache.database name =
    c.of.ensures ∙ c.in_ok-all-in-Candidates.ensures.candidates ∙ index-candidates cache name index of_cache in
    subst (All (IsCacheText cache)) (sym are) (types_texts cache name of_cache.database of_cache.spelled Candidates)

pub returns-in_ok-all-in-Candidates-clause-front : goal.returns-in_ok-all-in-Candidates-clause-front
returns-in_ok-all-in-Candidates-clause-front c =
    let cache = c.args.self.now in
    let name = c.args.name.now in
    let index = c.self.inside.index in
    let of_cache : AreRulesReadBack cache index = subst (λ (bytes : List ℕ). AreRulesReadBack bytes index) c.self.view_is c.self.invariant.0 in
    let are = c.of.ensures ∙ c.in_ok-all-in-Candidates.ensures.candidates ∙ index-candidates cache name index of_cache in
    omega (
      arith,
      c.in_ok-all-in-Candidates.ensures.kept,
      length-map (kept_rules index.given name) (λ (rule : GlobRule). rule.kind),
      ap (λ (kinds : List (List ℕ)). length kinds) (index-kept cache name index of_cache),
      ap (λ (kinds : List (List ℕ)). length kinds) are,
      kept-within cache name index of_cache,
    )
