-- The rules that match a name by the rules of a cache: whatever rules it spells, they are given alike, and their types are its texts.
use Rattle.std.proofs.Common.{◌≡◌, ℕ, ◌≤◌, List, length, map, sym, ap, subst, ◌∙◌, arith}
use Rattle.std.specs.List.{All}
use Rattle.std.proofs.lemmas.List.{length-map, length-take}
use Rattle.std.proofs.lemmas.List.Elements.{All-map}
use Rattle.std.proofs.lemmas.Simd.{map-map}
use Rattle.mime_base.specs.Database.{PlainDatabase}
use Rattle.mime_base.specs.Format.Header.{Offsets}
use Rattle.mime_base.specs.Kept.{FitsRank, candidate_rules, kept_rules}
use Rattle.mime_base.specs.declared.database.rule.GlobRule.{GlobRule}
use Rattle.mime_base.proofs.KeptLemmas.Candidates.{take-candidate_rules}
use Rattle.mime_lookup.specs.Cached.{IsCacheText}
use Rattle.mime_lookup.specs.Spelling.{SpellsGlobs}
use Rattle.mime_lookup.proofs.SpellingLemmas.IndexTypes.{candidates_texts}
use Rattle.mime_lookup.proofs.SpellingLemmas.Offered.{GlobRulesAt}
use Rattle.mime_lookup.proofs.SpellingLemmas.Records.{same_offsets}
use Rattle.mime_lookup.proofs.SpellingLemmas.StoredRules.{as_stored}
use Rattle.mime_lookup.proofs.SpellingLemmas.Types.{candidates_stored, kept_stored}
use Rattle.mime_view.specs.NameHits.{SpellsRules}
use Rattle.mime_view.specs.RuleHits.{AreRuleHits, PlainHit, hit_of_rule, plain_hit, types_alone}
use Rattle.mime_view.specs.declared.rule_hits.RuleHits.{RuleHits}

module _ (c name : List ℕ) (d : PlainDatabase) (spelled : SpellsGlobs c d) (hits : RuleHits) (are : AreRuleHits name d.rules hits) where
  -- rules at the places of a header
  abbrev RulesAt : Offsets → List GlobRule → Type 0
  RulesAt o rules = GlobRulesAt c o.literals o.tree o.globs rules

  -- the rules themselves
  own_rules : RulesAt spelled.offsets d.rules
  own_rules = record { fit = spelled.ranks; literals_stand = spelled.literals; tree_stands = spelled.tree; globs_stand = spelled.globs }

  -- other rules that the cache spells stand where these do
  others_there : (rules : List GlobRule) → SpellsRules c rules → All FitsRank rules → RulesAt spelled.offsets rules
  others_there rules spells fits =
      let places : spells.offsets ≡ spelled.offsets = same_offsets c spells.offsets spelled.offsets spells.header spelled.header in
      let there : RulesAt spells.offsets rules =
      record { fit = fits; literals_stand = spells.literals; tree_stands = spells.tree; globs_stand = spells.globs } in
      subst (λ (o : Offsets). RulesAt o rules) places there

  -- so they are given alike
  pub hits_once : (rules : List GlobRule) → SpellsRules c rules → All FitsRank rules → AreRuleHits name rules hits
  hits_once rules spells fits =
      let there = others_there rules spells fits in
      record {
        each =
            are.each ∙ sym (map-map hit_of_rule as_stored (candidate_rules d.rules name))
            ∙ ap (map hit_of_rule) (candidates_stored c name spelled.offsets d.rules rules own_rules there)
            ∙ map-map hit_of_rule as_stored (candidate_rules rules name);
        count =
            are.count ∙ sym (length-map (kept_rules d.rules name) as_stored)
            ∙ ap length (kept_stored c name spelled.offsets d.rules rules own_rules there)
            ∙ length-map (kept_rules rules name) as_stored;
      }

  -- their types
  kinds_are : (types_alone hits).kinds ≡ map (λ (rule : GlobRule). rule.kind) (candidate_rules d.rules name)
  kinds_are =
      sym (map-map (λ (hit : PlainHit). hit.kind) plain_hit hits.rules.items) ∙ ap (map (λ (hit : PlainHit). hit.kind)) are.each
      ∙ map-map (λ (hit : PlainHit). hit.kind) hit_of_rule (candidate_rules d.rules name)

  -- they are texts of the cache
  pub hits_texts : All (IsCacheText c) (types_alone hits).kinds
  hits_texts =
      subst (All (IsCacheText c)) (sym kinds_are)
      (All-map (IsCacheText c) (λ (rule : GlobRule). rule.kind) (candidate_rules d.rules name) (candidates_texts c name d spelled))

  -- no more are kept than there are
  pub hits_front : hits.kept ≤ length hits.rules.items
  hits_front =
      omega (
        arith,
        are.count,
        length-map hits.rules.items plain_hit,
        ap length are.each,
        length-map (candidate_rules d.rules name) hit_of_rule,
        length-take (length (kept_rules d.rules name)) (candidate_rules d.rules name),
        ap length (take-candidate_rules d.rules spelled.ranks name),
      )
