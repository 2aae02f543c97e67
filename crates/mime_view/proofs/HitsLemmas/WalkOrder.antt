-- The walk over the lists offers the rules of each rank in merged order: those of one rank all stand in one place.
use Rattle.std.proofs.Common.{◌≡◌, ℕ, true, false, ◌==◌, List, [], ◌∷◌, ◌++◌}
use Rattle.std.proofs.Common.{refl, sym, ap, ap₂, ◌∙◌, true≢false}
use Rattle.std.specs.List.{All}
use Rattle.std.proofs.lemmas.List.Elements.{All-filter, filter-append}
use Rattle.mime_base.specs.Kept.{FitsRank, hits, rank_of_rule}
use Rattle.mime_base.specs.Matching.Folding.{compared}
use Rattle.mime_base.specs.Matching.Matches.{rule_matches}
use Rattle.mime_base.specs.declared.database.rule.GlobRule.{GlobRule}
use Rattle.mime_view.specs.Hits.{offered_once, offered_twice}
use Rattle.mime_view.specs.declared.hits.Case.TheVariants.{Both, Exact, Folded}
use Rattle.mime_view.proofs.HitsLemmas.OnePlace.{places-once, places-twice}
use Rattle.mime_view.proofs.HitsLemmas.RankParts.{Serves, glob_part, literal_part, of_rank, of_rank-ranked, tree_part}

-- with case a text is compared as it is
compared-cased : (name : List ℕ) → compared true name ≡ name
compared-cased [] = refl
compared-cased (b ∷ name) = ap (λ rest. b ∷ rest) (compared-cased name)

-- which key serves which search

-- the name itself serves the case-sensitive rules
serves-exact : (name : List ℕ) → Serves Exact name name
serves-exact name true takes = compared-cased name
serves-exact name false takes = absurd (true≢false (sym takes))

-- the folded name serves the others
serves-folded : (name : List ℕ) → Serves Folded name (compared false name)
serves-folded name true takes = absurd (true≢false (sym takes))
serves-folded name false takes = refl

-- a name that folding leaves alone serves both
serves-both : (name : List ℕ) → compared false name ≡ name → Serves Both name name
serves-both name alone true takes = compared-cased name
serves-both name alone false takes = alone

-- what two parts offer of a rank
of_rank-append : (n : ℕ) (xs ys : List GlobRule) {some others : List GlobRule} → of_rank n xs ≡ some → of_rank n ys ≡ others
    → of_rank n (xs ++ ys) ≡ some ++ others
of_rank-append n xs ys first second = filter-append (λ rule. rank_of_rule rule == n) xs ys ∙ ap₂ ◌++◌ first second

module _ (rules : List GlobRule) (name : List ℕ) (fits : All FitsRank rules) where
  -- the rules that match fit a rank
  pub hits-fit : All FitsRank (hits rules name)
  hits-fit = All-filter (λ rule. rule_matches rule.pattern rule.cased name) FitsRank rules fits

  -- one search of the literals and one walk, where folding leaves the name alone
  pub walk_once : compared false name ≡ name → (n : ℕ) → of_rank n (offered_once name rules) ≡ of_rank n (hits rules name)
  walk_once alone n =
      let serves = serves-both name alone in
      of_rank-append n _ _ (literal_part n rules name Both name serves)
      (of_rank-append n _ _ (tree_part n rules name Both name serves fits) (glob_part n rules name))
      ∙ places-once n (of_rank n (hits rules name)) (of_rank-ranked n (hits rules name) hits-fit)

  -- a search and a walk for the name, and a search and a walk for the folded name
  pub walk_twice : (n : ℕ) → of_rank n (offered_twice name rules) ≡ of_rank n (hits rules name)
  walk_twice n =
      let small = compared false name in
      let exact = serves-exact name in
      let folded = serves-folded name in
      of_rank-append n _ _ (literal_part n rules name Exact name exact)
      (of_rank-append n _ _ (literal_part n rules name Folded small folded)
      (of_rank-append n _ _ (tree_part n rules name Exact name exact fits)
      (of_rank-append n _ _ (tree_part n rules name Folded small folded fits) (glob_part n rules name))))
      ∙ places-twice n (of_rank n (hits rules name)) (of_rank-ranked n (hits rules name) hits-fit)
