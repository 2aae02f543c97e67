-- A walk along a name that has no last byte but zero meets no rule.
use Rattle.std.proofs.Common.{◌≡◌, ℕ, ◌-◌, List, [], ◌∷◌, ◌++◌, length, reverse, get_or, sym, ap, refl, subst, ◌∙◌, arith}
use Rattle.mime_base.specs.Cache.Bytes.{Stands}
use Rattle.mime_base.specs.Format.SuffixTree.{SuffixTreeAt}
use Rattle.mime_base.specs.Format.Tree.{InOrder, Tree, leaves_at}
use Rattle.mime_base.specs.declared.database.rule.GlobRule.{GlobRule}
use Rattle.mime_view.specs.Gathered.{Offers, PlainHits}
use Rattle.mime_view.specs.Hits.{tree_hits}
use Rattle.mime_view.specs.SuffixTree.{admitted, below_character}
use Rattle.mime_view.specs.declared.hits.Case.{Case}
use Rattle.mime_view.proofs.HitsLemmas.Gathering.{offers_none}
use Rattle.mime_view.proofs.SuffixTreeLemmas.TreeBlocks.{below_character-past}
use Rattle.mime_view.proofs.SuffixTreeLemmas.TreePaths.{path_left, path_next}
use Rattle.mime_view.proofs.SuffixTreeLemmas.TreeStands.{along_name}
use Rattle.mime_view.proofs.SuffixTreeLemmas.TreeWalks.{leaves_along, leaves_along-bare, leaves_along-below}

-- no leaf lies on a path that is empty or begins with a zero
along_none : (name : List ℕ) (tree : Tree) → get_or name (length name - 1) 0 ≡ 0 → InOrder 0 tree → leaves_along (reverse name) tree ≡ []
along_none [] tree none ordered = refl
along_none (b ∷ bytes) tree none ordered =
    let rest : List ℕ = path_left (b ∷ bytes) 1 in
    let same : length (b ∷ bytes) - 1 - 0 ≡ length (b ∷ bytes) - 1 = omega arith in
    let path : reverse (b ∷ bytes) ≡ 0 ∷ rest =
    path_next (b ∷ bytes) 0 (omega arith)
    ∙ ap (λ (n : ℕ). n ∷ rest) (ap (λ (i : ℕ). get_or (b ∷ bytes) i 0) same ∙ none) in
    let below : below_character 0 tree ≡ _ = below_character-past 0 0 tree (omega arith) ordered in
    ap (λ (p : List ℕ). leaves_along p tree) path ∙ leaves_along-below 0 rest tree ordered
    ∙ ap (λ (t : Tree). leaves_at [] t ++ leaves_along rest t) below ∙ leaves_along-bare rest

-- so nothing is offered, and what was kept stays
pub nothing_sought : (c : List ℕ) (at : ℕ) (case : Case) (rules : List GlobRule) (name : List ℕ) (h : PlainHits)
    → get_or name (length name - 1) 0 ≡ 0 → SuffixTreeAt (Stands c) at rules → Offers c (tree_hits case name rules) h h
nothing_sought c at case rules name h none stand =
    subst (λ (met : List GlobRule). Offers c (admitted case met) h h)
    (sym (along_none name stand.tree none stand.ordered) ∙ along_name c at rules name stand) (offers_none c h)
