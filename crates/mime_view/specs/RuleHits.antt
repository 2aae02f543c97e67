-- The rules that match a name as they are given: each with its type, its weight and its flag.
use Rattle.std.specs.Prelude.{◌≡◌, ℕ, ◌/◌, ◌%◌, ◌==◌, Bool, List, length, map, Result, Ok, Err}
use Rattle.mime_base.specs.Cache.Texts.{text_at}
use Rattle.mime_base.specs.Kept.{candidate_rules, kept_rules}
use Rattle.mime_base.specs.declared.cache.byte_fault.ByteFault.{ByteFault}
use Rattle.mime_base.specs.declared.database.rule.GlobRule.{GlobRule}
use Rattle.mime_view.specs.declared.fault.CacheFault.{CacheFault}
use Rattle.mime_view.specs.declared.name_hits.NameHits.{NameHits}
use Rattle.mime_view.specs.declared.rule_hits.RuleHit.{RuleHit}
use Rattle.mime_view.specs.declared.rule_hits.RuleHits.{RuleHits}

-- a rule as it is given for a name
pub record PlainHit : Type 0 where
  pub kind : List ℕ
  pub weight : ℕ
  pub cased : Bool

-- the plain value of a hit
abbrev pub plain_hit : RuleHit → PlainHit
plain_hit hit = record { kind = hit.kind.now; weight = hit.weight; cased = hit.cased }

-- what is given of a rule
abbrev pub hit_of_rule : GlobRule → PlainHit
hit_of_rule rule = record { kind = rule.kind; weight = rule.weight; cased = rule.cased }

-- All rules that match a name, the best first, and how many of these are kept.
pub record AreRuleHits (name : List ℕ) (rules : List GlobRule) (hits : RuleHits) : Type 0 where
  -- The type, the weight and the flag of each, by falling rank.
  pub each : map plain_hit hits.rules.items ≡ map hit_of_rule (candidate_rules rules name)
  -- Those that are kept come first.
  pub count : hits.kept ≡ length (kept_rules rules name)

-- the weight and the flag that a rank has
abbrev pub parts_of_rank : ℕ → ℕ × Bool
parts_of_rank rank = (rank / 131072 % 256, rank % 2 == 1)

-- what is read of a hit: the text at an offset, a weight and a flag
abbrev pub Reading : Type 0
Reading = Result (List ℕ) ByteFault × (ℕ × Bool)

-- of hits, each a rank and an offset, these are the rules: the type that stands there, and what the rank has
abbrev pub AreRulesAt : List ℕ → List (ℕ × ℕ) → List RuleHit → Type 0
AreRulesAt c offers rules =
    map {B = Reading} (λ offer. (text_at c offer.1, parts_of_rank offer.0)) offers
    ≡ map {B = Reading} (λ rule. (Ok rule.kind.now, (rule.weight, rule.cased))) rules

-- the types alone
abbrev pub types_alone : RuleHits → NameHits
types_alone hits = record { kinds = map (λ hit. hit.kind.now) hits.rules.items; kept = hits.kept }

-- what a call gives, with the types alone
abbrev pub gives_types : Result RuleHits CacheFault → Result NameHits CacheFault
gives_types (Ok hits) = Ok (types_alone hits)
gives_types (Err e) = Err e
