-- The types that a name has by the glob rules of a cache: whatever databases it spells, they are the same.
use Rattle.std.proofs.Common.{◌≡◌, ℕ, List, map, sym, ap, subst, ◌∙◌}
use Rattle.std.specs.List.{All}
use Rattle.std.proofs.Math.Path.{fun_ext}
use Rattle.std.proofs.lemmas.Simd.{map-map}
use Rattle.mime_base.specs.Database.{PlainDatabase, pairs_of}
use Rattle.mime_base.specs.Database.Subclass.{resolved}
use Rattle.mime_base.specs.Falling.{falling}
use Rattle.mime_base.specs.Format.Header.{Offsets}
use Rattle.mime_base.specs.Format.Pairs.{PairsAt}
use Rattle.mime_base.specs.Cache.Bytes.{Stands}
use Rattle.mime_base.specs.Kept.{FitsRank, candidate_rules, hits, kept_rules, of_greatest, rank_of_rule}
use Rattle.mime_base.specs.declared.database.rule.GlobRule.{GlobRule}
use Rattle.mime_base.proofs.FallingLemmas.Order.{falling-map, falls_falling, filter_falling, same_order}
use Rattle.mime_base.proofs.KeptLemmas.{of_greatest-rank_of_rule}
use Rattle.mime_base.proofs.KeptLemmas.Greatest.{of_greatest-map}
use Rattle.mime_view.specs.Hits.{offered_twice}
use Rattle.mime_view.proofs.HitsLemmas.SameRanks.{of_greatest-each}
use Rattle.mime_view.proofs.HitsLemmas.WalkOrder.{hits-fit, walk_twice}
use Rattle.mime_lookup.specs.Choice.{candidates, kept}
use Rattle.mime_lookup.specs.SpelledOnce.{CandidatesOnce, KeptOnce}
use Rattle.mime_lookup.specs.Spelling.{SpellsGlobs}
use Rattle.mime_lookup.proofs.SpellingLemmas.Aliases.{resolved_once}
use Rattle.mime_lookup.proofs.SpellingLemmas.Offered.{GlobRulesAt, offered_twice-once}
use Rattle.mime_lookup.proofs.SpellingLemmas.Records.{same_offsets}
use Rattle.mime_lookup.proofs.SpellingLemmas.StoredRules.{as_stored, rank-as_stored}

-- a rule ranks as it is stored
ranks_stored : (λ (rule : GlobRule). rank_of_rule (as_stored rule)) ≡ rank_of_rule
ranks_stored = fun_ext rank-as_stored

-- of rules, those of the greatest rank as they are stored
greatest_stored : (rules : List GlobRule) → map as_stored (of_greatest rank_of_rule rules) ≡ of_greatest rank_of_rule (map as_stored rules)
greatest_stored rules =
    ap (λ (number : GlobRule → ℕ). map as_stored (of_greatest number rules)) (sym ranks_stored)
    ∙ sym (of_greatest-map rank_of_rule as_stored rules)

-- rules by falling rank as they are stored
falling_stored : (rules : List GlobRule) → map as_stored (falling rank_of_rule rules) ≡ falling rank_of_rule (map as_stored rules)
falling_stored rules =
    ap (λ (number : GlobRule → ℕ). map as_stored (falling number rules)) (sym ranks_stored)
    ∙ falling-map as_stored rank_of_rule rules

module _ (rules : List GlobRule) (name : List ℕ) (fits : All FitsRank rules) where
  -- the kept rules are those of the greatest rank of what is offered
  kept-offered : kept_rules rules name ≡ of_greatest rank_of_rule (offered_twice name rules)
  unfolding kept_rules
  kept-offered =
      sym (of_greatest-each rank_of_rule (offered_twice name rules) (hits rules name) (walk_twice rules name fits)
      ∙ of_greatest-rank_of_rule (hits rules name) (hits-fit rules name fits))

  -- the candidates are what is offered, by falling rank
  candidates-offered : candidate_rules rules name ≡ falling rank_of_rule (offered_twice name rules)
  unfolding candidate_rules
  candidates-offered =
      same_order rank_of_rule (falling rank_of_rule (hits rules name)) (falling rank_of_rule (offered_twice name rules))
      (falls_falling rank_of_rule (hits rules name)) (falls_falling rank_of_rule (offered_twice name rules))
      (λ rule.
      filter_falling rank_of_rule (rank_of_rule rule) (hits rules name) ∙ sym (walk_twice rules name fits (rank_of_rule rule))
      ∙ sym (filter_falling rank_of_rule (rank_of_rule rule) (offered_twice name rules)))

-- rules that a cache spells twice
module _ (c name : List ℕ) (o : Offsets) (some others : List GlobRule) (first : GlobRulesAt c o.literals o.tree o.globs some)
    (second : GlobRulesAt c o.literals o.tree o.globs others) where
  -- what both offer is stored as one
  offered : map as_stored (offered_twice name some) ≡ map as_stored (offered_twice name others)
  offered = offered_twice-once c o.literals o.tree o.globs some others first second name

  -- so are those that are kept
  pub kept_stored : map as_stored (kept_rules some name) ≡ map as_stored (kept_rules others name)
  kept_stored =
      ap (map as_stored) (kept-offered some name first.fit) ∙ greatest_stored (offered_twice name some)
      ∙ ap (of_greatest rank_of_rule) offered ∙ sym (greatest_stored (offered_twice name others))
      ∙ sym (ap (map as_stored) (kept-offered others name second.fit))

  -- and all that match
  pub candidates_stored : map as_stored (candidate_rules some name) ≡ map as_stored (candidate_rules others name)
  candidates_stored =
      ap (map as_stored) (candidates-offered some name first.fit) ∙ falling_stored (offered_twice name some)
      ∙ ap (falling rank_of_rule) offered ∙ sym (falling_stored (offered_twice name others))
      ∙ sym (ap (map as_stored) (candidates-offered others name second.fit))

-- rules that are stored as one have the same types after one alias step
types_alike : (some others : List (List ℕ × List ℕ)) → ((kind : List ℕ) → resolved some kind ≡ resolved others kind)
    → (rules more : List GlobRule)
    → map as_stored rules ≡ map as_stored more
    → map (λ (rule : GlobRule). resolved some rule.kind) rules ≡ map (λ (rule : GlobRule). resolved others rule.kind) more
types_alike some others same rules more alike =
    let by = λ (pairs : List (List ℕ × List ℕ)) (rule : GlobRule). resolved pairs rule.kind in
    sym (map-map (by some) as_stored rules) ∙ ap (map (by some)) alike ∙ map-map (by some) as_stored more
    ∙ ap (λ (type : GlobRule → List ℕ). map type more) (fun_ext (λ rule. same rule.kind))

-- two databases that a cache spells
module _ (c name : List ℕ) (b d : PlainDatabase) (one : SpellsGlobs c b) (other : SpellsGlobs c d) where
  -- their parts stand at the same places
  places : one.offsets ≡ other.offsets
  places = same_offsets c one.offsets other.offsets one.header other.header

  -- their rules
  abbrev RulesAt : Offsets → List GlobRule → Type 0
  RulesAt o rules = GlobRulesAt c o.literals o.tree o.globs rules

  -- the rules of the first
  first_rules : RulesAt one.offsets b.rules
  first_rules = record { fit = one.ranks; literals_stand = one.literals; tree_stands = one.tree; globs_stand = one.globs }

  -- the rules of the second
  second_rules : RulesAt other.offsets d.rules
  second_rules = record { fit = other.ranks; literals_stand = other.literals; tree_stands = other.tree; globs_stand = other.globs }

  -- and at those of the first
  second_there : RulesAt one.offsets d.rules
  second_there = subst (λ (o : Offsets). RulesAt o d.rules) (sym places) second_rules

  -- both resolve a type alike
  resolves : (kind : List ℕ) → resolved b.aliases kind ≡ resolved d.aliases kind
  resolves =
      resolved_once c one.offsets.aliases b.aliases d.aliases one.aliases
      (subst (λ (o : Offsets). PairsAt (Stands c) o.aliases d.aliases) (sym places) other.aliases)

  -- the types that are kept
  kept_alike : kept (pairs_of b) b.rules name ≡ kept (pairs_of d) d.rules name
  unfolding kept
  kept_alike =
      types_alike b.aliases d.aliases resolves (kept_rules b.rules name) (kept_rules d.rules name)
      (kept_stored c name one.offsets b.rules d.rules first_rules second_there)

  -- the types of all rules that match
  candidates_alike : candidates (pairs_of b) b.rules name ≡ candidates (pairs_of d) d.rules name
  unfolding candidates
  candidates_alike =
      types_alike b.aliases d.aliases resolves (candidate_rules b.rules name) (candidate_rules d.rules name)
      (candidates_stored c name one.offsets b.rules d.rules first_rules second_there)

-- the types that are kept of a name
pub kept_once : KeptOnce
kept_once = kept_alike

-- the types of all rules that match a name
pub candidates_once : CandidatesOnce
candidates_once = candidates_alike
