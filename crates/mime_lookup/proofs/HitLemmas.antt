-- The rules that match a name: as an index gives them, and as a cache does.
use Rattle.std.proofs.Common.{◌≡◌, ℕ, List, map, Result, Ok, Err, sym, ap, ◌∙◌}
use Rattle.std.specs.Prelude.{IfOk}
use Rattle.std.specs.List.{All}
use Rattle.std.proofs.lemmas.Simd.{map-map}
use denote.Bor.{Bor}
use Rattle.mime_base.specs.declared.database.rule.GlobRule.{GlobRule}
use Rattle.mime_lookup.specs.Cached.{IsCacheText}
use Rattle.mime_names.specs.Rules.{Parts, own_parts, parts_of}
use Rattle.mime_names.specs.declared.indexed_rule.IndexedRule.{IndexedRule}
use Rattle.mime_view.specs.NameHits.{GivesTexts}
use Rattle.mime_view.specs.RuleHits.{PlainHit, gives_types, hit_of_rule, plain_hit, types_alone}
use Rattle.mime_view.specs.declared.fault.CacheFault.{CacheFault}
use Rattle.mime_view.specs.declared.rule_hits.RuleHit.{RuleHit}
use Rattle.mime_view.specs.declared.rule_hits.RuleHits.{RuleHits}
use Rattle.mime_view.specs.declared.spending.Spending.{Spending}

-- the parts of a hit
abbrev pub hit_parts : RuleHit → Parts
hit_parts hit = (hit.kind.now, (hit.weight, hit.cased))

-- what is given of parts
abbrev hit_of : Parts → PlainHit
hit_of parts = record { kind = parts.0; weight = parts.1.0; cased = parts.1.1 }

-- hits with the parts of rules are hits of these
pub parts-given : (hits : List RuleHit) (lent : List (Bor IndexedRule)) (rules : List GlobRule) → map hit_parts hits ≡ map own_parts lent →
    map own_parts lent ≡ map parts_of rules → map plain_hit hits ≡ map hit_of_rule rules
parts-given hits lent rules are given =
    sym (map-map hit_of hit_parts hits) ∙ ap (map hit_of) (are ∙ given) ∙ map-map hit_of parts_of rules

-- the types that a walk gives are texts of the cache
pub walk-texts : (c : List ℕ) (old new : Spending) (result : Result RuleHits CacheFault) → GivesTexts c old new (gives_types result) →
    IfOk result (λ hits. All (IsCacheText c) (types_alone hits).kinds)
walk-texts c old new (Ok hits) gives = gives.text
walk-texts c old new (Err e) gives = tt
