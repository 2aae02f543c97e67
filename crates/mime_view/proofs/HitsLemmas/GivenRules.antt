-- The rules that are given for a name, of the hits that are held.
use Rattle.std.proofs.Common.{◌≡◌, ℕ, ◌+◌, ◌*◌, ◌/◌, ◌%◌, ◌<◌, ◌==◌, Bool, true, false, cond, ltb, List, [], ◌∷◌, length, map, get_or, Result, Ok, Err}
use Rattle.std.proofs.Common.{refl, sym, ap, ap₂, subst, ◌∙◌, arith}
use Rattle.std.specs.List.{All, AllByRecursion}
use Rattle.std.specs.Prelude.{IfOk}
use Rattle.std.proofs.lemmas.List.{get_or-map, length-map}
use Rattle.std.proofs.lemmas.List.Elements.{All-filter, recursion_from_All}
use Rattle.mime_base.specs.Cache.Texts.{text_at}
use Rattle.mime_base.specs.Falling.{falling, insert_falling}
use Rattle.mime_base.specs.Kept.{FitsRank, best, candidate_rules, earliness, hits, kept_rules, rank, rank_of_rule}
use Rattle.mime_base.specs.Kept.Classes.{class_of}
use Rattle.mime_base.specs.Matching.Matches.{rule_matches}
use Rattle.mime_base.specs.declared.database.rule.GlobRule.{GlobRule}
use Rattle.mime_base.specs.declared.kept.class.Class.{Class}
use Rattle.mime_view.specs.Gathered.{AreGiven, AreOffers, HoldsRules, PlainHits, in_order}
use Rattle.mime_view.specs.RuleHits.{AreRuleHits, AreRulesAt, PlainHit, Reading, hit_of_rule, parts_of_rank, gives_types, plain_hit, types_alone}
use Rattle.mime_view.specs.Texts.{AreTexts}
use Rattle.mime_view.specs.declared.fault.CacheFault.{CacheFault}
use Rattle.mime_view.specs.declared.name_hits.NameHits.{NameHits}
use Rattle.mime_view.specs.declared.name_hits.Which.TheVariants.{Candidates}
use Rattle.mime_view.specs.declared.rule_hits.RuleHit.{RuleHit}
use Rattle.mime_view.specs.declared.rule_hits.RuleHits.{RuleHits}
use Rattle.mime_view.proofs.HitsLemmas.KindTexts.{AreTexts-at}
use Rattle.mime_view.proofs.HitsLemmas.Offers.{length-offers}

-- a rank has the weight and the flag that it was made of
parts-rank : (class : Class) (weight length : ℕ) (cased : Bool) → weight < 256 → length < 65536 →
    parts_of_rank (rank class weight length cased) ≡ (weight, cased)
unfolding rank
parts-rank class weight length cased light short = by_flag cased
  where
    top : ℕ
    top = earliness class

    heavy : (low : ℕ) → low < 2 → (((top * 256 + weight) * 65536 + length) * 2 + low) / 131072 % 256 ≡ weight
    heavy low few = omega (arith, light, short, few)

    odd : (low : ℕ) → low < 2 → (((top * 256 + weight) * 65536 + length) * 2 + low) % 2 ≡ low
    odd low few = omega (arith, few)

    by_flag : (flag : Bool) → parts_of_rank (((top * 256 + weight) * 65536 + length) * 2 + cond flag 1 0) ≡ (weight, flag)
    by_flag true = ap₂ (λ (w : ℕ) (low : ℕ). (w, low == 1)) (heavy 1 (omega arith)) (odd 1 (omega arith))
    by_flag false = ap₂ (λ (w : ℕ) (low : ℕ). (w, low == 1)) (heavy 0 (omega arith)) (odd 0 (omega arith))

-- at the offset of each hit stands a text
pub text-at_hit : (c : List ℕ) (hits : List (ℕ × ℕ)) (texts : List (List ℕ)) (i : ℕ) (d : ℕ × ℕ) → AreTexts c (map (λ hit. hit.1) hits) texts →
    i < length hits → (text : List ℕ) × (text_at c (get_or hits i d).1 ≡ Ok text)
text-at_hit c hits texts i d are l =
    let places : List ℕ = map (λ (hit : ℕ × ℕ). hit.1) hits in
    let more : i < length places = omega (arith, l, length-map hits (λ (hit : ℕ × ℕ). hit.1)) in
    let stands = AreTexts-at c places texts i are more in
    (stands.0, subst (λ (at : ℕ). text_at c at ≡ Ok stands.0) (get_or-map (λ (hit : ℕ × ℕ). hit.1) hits i d 0 l) stands.1)

-- what is read of a hit
abbrev reading_of : List ℕ → (ℕ × ℕ) → Reading
reading_of c hit = (text_at c hit.1, parts_of_rank hit.0)

-- what a rule that was read has
abbrev reading : RuleHit → Reading
reading rule = (Ok rule.kind.now, (rule.weight, rule.cased))

-- what is read of hits are the texts at their offsets
pub types-read : (c : List ℕ) (hits : List (ℕ × ℕ)) (read : List RuleHit) → AreRulesAt c hits read →
    AreTexts c (map (λ hit. hit.1) hits) (map (λ (rule : RuleHit). rule.kind.now) read)
types-read c [] [] are = tt
types-read c [] (rule ∷ read) are = absurd cc
types-read c (hit ∷ hits) [] are = absurd cc
types-read c (hit ∷ hits) (rule ∷ read) are =
    let here : reading_of c hit ≡ reading rule = cc in
    (ap (λ (it : Reading). it.0) here, types-read c hits read cc)

-- where a hit is of a rule, it is what is given of this
one-read : (c : List ℕ) (hit : ℕ × ℕ) (rule : GlobRule) (read : RuleHit) → FitsRank rule → hit.0 ≡ rank_of_rule rule → text_at c hit.1 ≡ Ok rule.kind →
    reading_of c hit ≡ reading read → plain_hit read ≡ hit_of_rule rule
one-read c hit rule read fits ranked text same =
    let kind : read.kind.now ≡ rule.kind = let here = ap (λ (it : Reading). it.0) same in cc in
    let parts : (read.weight, read.cased) ≡ (rule.weight, rule.cased) =
    sym (ap (λ (it : Reading). it.1) same) ∙ ap parts_of_rank ranked
    ∙ parts-rank (class_of rule.pattern) rule.weight (length rule.pattern) rule.cased fits.0 fits.1 in
    ap₂ hit_with kind parts
  where
    hit_with : List ℕ → (ℕ × Bool) → PlainHit
    hit_with kind parts = record { kind = kind; weight = parts.0; cased = parts.1 }

-- so are all
rules-read : (c : List ℕ) (hits : List (ℕ × ℕ)) (rules : List GlobRule) (read : List RuleHit) → AllByRecursion FitsRank rules →
    AreOffers c hits rules → AreRulesAt c hits read → map plain_hit read ≡ map hit_of_rule rules
rules-read c [] [] [] fit are these = refl
rules-read c [] [] (one ∷ read) fit are these = absurd cc
rules-read c [] (rule ∷ rules) read fit are these = absurd are
rules-read c (hit ∷ hits) [] read fit are these = absurd are
rules-read c (hit ∷ hits) (rule ∷ rules) [] fit are these = absurd cc
rules-read c (hit ∷ hits) (rule ∷ rules) (one ∷ read) fit are these =
    let here : reading_of c hit ≡ reading one = cc in
    let rest : AreRulesAt c hits read = cc in
    ap₂ (λ (x : PlainHit) (xs : List PlainHit). x ∷ xs) (one-read c hit rule one fit.0 are.0 are.1 here)
    (rules-read c hits rules read fit.1 are.2 rest)

-- what holds of all rules holds of them by falling rank
module _ (P : GlobRule → Type 0) where
  -- one more at its place
  all-insert : (rule : GlobRule) (rules : List GlobRule) → P rule → AllByRecursion P rules → AllByRecursion P (insert_falling rank_of_rule rule rules)
  all-insert rule [] here all = (here, tt)
  all-insert rule (first ∷ rest) here all =
      elim (ltb (rank_of_rule rule) (rank_of_rule first)) as (λ t.
      AllByRecursion P (cond t (first ∷ insert_falling rank_of_rule rule rest) (rule ∷ first ∷ rest)))
      [ true ↦ (all.0, all-insert rule rest here all.1) | false ↦ (here, all) ]

  -- all by falling rank
  pub all-falling : (rules : List GlobRule) → AllByRecursion P rules → AllByRecursion P (falling rank_of_rule rules)
  all-falling [] all = tt
  all-falling (rule ∷ rules) all = all-insert rule (falling rank_of_rule rules) all.0 (all-falling rules all.1)

-- the candidates fit their ranks
candidates-fit : (name : List ℕ) (rules : List GlobRule) → All FitsRank rules → AllByRecursion FitsRank (candidate_rules rules name)
unfolding candidate_rules
candidates-fit name rules fits =
    let all = All-filter (λ rule. rule_matches rule.pattern rule.cased name) FitsRank rules fits in
    all-falling FitsRank (hits rules name) (recursion_from_All FitsRank (hits rules name) all)

-- what is given of the rules that match a name
rules_given : (c : List ℕ) (held : PlainHits) (name : List ℕ) (rules : List GlobRule) → All FitsRank rules →
    HoldsRules c Candidates name rules held → (given : RuleHits) → AreGiven c held (types_alone given) →
    AreRulesAt c (in_order held.which held.offers) given.rules.items → AreRuleHits name rules given
rules_given c held name rules fits holds given are read = record {
  each = rules-read c (in_order Candidates held.offers) (candidate_rules rules name) given.rules.items (candidates-fit name rules fits)
      holds.ordered (rw holds.asked at read);
  count = are.count ∙ length-offers c (best held.offers) (kept_rules rules name) holds.first;
}

-- so is it of a call's result
pub given_with_rules : (c : List ℕ) (held : PlainHits) (name : List ℕ) (rules : List GlobRule) → All FitsRank rules →
    HoldsRules c Candidates name rules held → (result : Result RuleHits CacheFault) →
    IfOk result (λ given. AreGiven c held (types_alone given)) →
    IfOk result (λ given. AreRulesAt c (in_order held.which held.offers) given.rules.items) → IfOk result (AreRuleHits name rules)
given_with_rules c held name rules fits holds (Ok given) are read = rules_given c held name rules fits holds given are read
given_with_rules c held name rules fits holds (Err e) are read = tt

-- what holds of the types holds of a result with the types alone
pub given_of_types : (result : Result RuleHits CacheFault) (P : NameHits → Type 0) → IfOk result (λ given. P (types_alone given)) →
    IfOk (gives_types result) P
given_of_types (Ok given) P is = is
given_of_types (Err e) P is = tt
