-- A walk along a name: what it offered so far, and the siblings where it stands.
use Rattle.std.proofs.Common.{◌≡◌, ℕ, suc, ◌+◌, ◌-◌, ◌*◌, ◌<◌, ◌≤◌, All, List, [], ◌∷◌, ◌++◌, length, reverse, drop, get_or}
use Rattle.std.proofs.Common.{sym, ap, ap₂, subst, ◌∙◌, arith}
use Rattle.std.specs.Prelude.{Option, None, Some, Result, Ok, Err, IsErrAnd}
use Rattle.std.proofs.Math.Nat.{mul-le-mul_left}
use Rattle.std.proofs.Math.Seq.{drop-cons}
use Rattle.std.proofs.Math.ListN.{drop_of_length-le}
use Rattle.std.proofs.lemmas.List.{get_or-reverse, length-reverse}
use Rattle.std.proofs.lemmas.List.Elements.{filter-append}
use Rattle.mime_base.specs.Cache.Bytes.{Stands, field}
use Rattle.mime_base.specs.Format.SuffixTree.{SuffixTreeAt}
use Rattle.mime_base.specs.Format.Tree.{Tree, bare, leaves_at}
use Rattle.mime_base.specs.Kept.{FitsRank}
use Rattle.mime_base.specs.declared.database.rule.GlobRule.{GlobRule}
use Rattle.mime_view.specs.Hits.{takes_rule, tree_hits, tree_visits, visits}
use Rattle.mime_view.specs.Steps.{FindsRules}
use Rattle.mime_view.specs.SuffixTree.{IsSuffixRule, ReadsBlock, admitted, below_character, scan_visits}
use Rattle.mime_view.specs.declared.fault.CacheFault.{CacheFault}
use Rattle.mime_view.specs.declared.hits.Case.{Case}
use Rattle.mime_view.specs.declared.query.Progress.{Progress}
use Rattle.mime_view.specs.declared.suffixes.Siblings.{Siblings}
use Rattle.mime_view.proofs.HitsLemmas.Steps.{finds_err, finds_none, finds_then, finds_within}
use Rattle.mime_view.proofs.SuffixTreeLemmas.TreeRules.{suffix_rules}
use Rattle.mime_view.proofs.SuffixTreeLemmas.TreeStands.{along_name, roots_read, whole_walk}
use Rattle.mime_view.proofs.SuffixTreeLemmas.TreeWalks.{leaves_along, leaves_along-bare, leaves_along-below, leaves_at-below, walk_visits}

-- what is left of the name
abbrev pub path_left : List ℕ → ℕ → List ℕ
path_left name depth = drop depth (reverse name)

-- what a walk along a path down a tree finds
abbrev pub Walks : List ℕ → Case → List GlobRule → List ℕ → Tree → Progress → Progress → Result (Unit {0}) CacheFault → Type 0
Walks c case rules path tree now new result =
    FindsRules c (All FitsRank rules) (admitted case (leaves_along path tree)) (visits case * walk_visits path tree) now new result

-- what a search of the whole tree finds
abbrev pub WholeWalk : List ℕ → Case → List GlobRule → List ℕ → Progress → Progress → Result (Unit {0}) CacheFault → Type 0
WholeWalk c case rules name old new result =
    FindsRules c (All FitsRank rules) (tree_hits case name rules) (visits case * tree_visits name rules) old new result

-- what the leaves below a character give
abbrev pub Descends : List ℕ → Case → ℕ → Tree → Progress → Progress → Result (Option Siblings) CacheFault → Type 0
Descends c case long below now new result =
    FindsRules c (All (IsSuffixRule long) (leaves_at [] below)) (admitted case (leaves_at [] below)) (visits case * scan_visits below)
    now new result

-- what is left of a walk after that many characters: whatever is found of that, the whole search finds
pub record WalkLeft (c : List ℕ) (case : Case) (rules : List GlobRule) (name : List ℕ) (old : Progress) (block : Siblings) (depth : ℕ)
    (now : Progress) : Type 0 where
  pub tree : Tree
  pub reads : ReadsBlock c block tree
  pub suffixes : All FitsRank rules → (path : List ℕ) → All (IsSuffixRule (depth + length path + 1)) (leaves_at path tree)
  pub whole : (new : Progress) (result : Result (Unit {0}) CacheFault) → Walks c case rules (path_left name depth) tree now new result
      → WholeWalk c case rules name old new result

-- at first all is left
pub all_left : (c : List ℕ) (at : ℕ) (case : Case) (rules : List GlobRule) (name : List ℕ) (block : Siblings) (now : Progress)
    → block.first ≡ field c at 1 → block.count ≡ field c at 0 → SuffixTreeAt (Stands c) at rules
    → WalkLeft c case rules name now block 0 now
all_left c at case rules name block now first count stand = record {
  tree = stand.tree;
  reads = roots_read c at rules block first count stand;
  suffixes = λ fits path.
      let e : length path + 1 ≡ 0 + length path + 1 = omega arith in
      subst (λ (n : ℕ). All (IsSuffixRule n) (leaves_at path stand.tree)) e
      (subst (λ (leaves : List GlobRule). All (IsSuffixRule (length path + 1)) leaves) (sym (stand.leaves path))
      (suffix_rules rules path fits));
  whole = λ new result walk.
      let m = mul-le-mul_left (visits case) (whole_walk c at rules name stand) in
      subst (λ (met : List GlobRule). FindsRules c (All FitsRank rules) (admitted case met) (visits case * tree_visits name rules)
      now new result) (along_name c at rules name stand) (finds_within (λ fits. fits) walk m);
}

-- the character at a depth
pub path_next : (name : List ℕ) (depth : ℕ) → depth < length name
    → path_left name depth ≡ get_or name (length name - 1 - depth) 0 ∷ path_left name (depth + 1)
path_next name depth l =
    let long = length-reverse name in
    let e : suc depth ≡ depth + 1 = omega arith in
    drop-cons (reverse name) depth 0 (omega arith)
    ∙ ap₂ (λ (b : ℕ) (path : List ℕ). b ∷ path) (get_or-reverse name depth 0 l) (ap (λ (n : ℕ). drop n (reverse name)) e)

-- the next character, and what is left after it
pub record WalkNext (c : List ℕ) (case : Case) (rules : List GlobRule) (name : List ℕ) (old : Progress) (block : Siblings) (depth : ℕ)
    (now : Progress) (b : ℕ) : Type 0 where
  pub tree : Tree
  pub reads : ReadsBlock c block tree
  pub later : (lower : Siblings) (new : Progress) → ReadsBlock c lower (below_character b tree)
      → Descends c case (depth + 2) (below_character b tree) now new (Ok (Some lower))
      → WalkLeft c case rules name old lower (depth + 1) new
  pub done : (new : Progress) → below_character b tree ≡ bare
      → Descends c case (depth + 2) (below_character b tree) now new (Ok None) → WholeWalk c case rules name old new (Ok tt)
  pub stopped : (new : Progress) (e : CacheFault) (result : Result (Unit {0}) CacheFault) → IsErrAnd result (λ y. y ≡ e)
      → Descends c case (depth + 2) (below_character b tree) now new (Err e) → WholeWalk c case rules name old new result

-- the next character of what is left
pub next : {c : List ℕ} {case : Case} {rules : List GlobRule} {name : List ℕ} {old : Progress} {block : Siblings} {depth : ℕ} {now : Progress}
    (b : ℕ) → depth < length name → b ≡ get_or name (length name - 1 - depth) 0 → WalkLeft c case rules name old block depth now
    → WalkNext c case rules name old block depth now b
next {c} {case} {rules} {name} {old} {block} {depth} {now} b l is left =
    let tree : Tree = left.tree in
    let below : Tree = below_character b tree in
    let rest : List ℕ = path_left name (depth + 1) in
    let path : path_left name depth ≡ b ∷ rest = path_next name depth l ∙ ap (λ (n : ℕ). n ∷ rest) (sym is) in
    let parts = filter-append (λ (rule : GlobRule). takes_rule case rule.cased) (leaves_at [] below) (leaves_along rest below) in
    let visited : ℕ = visits case * (scan_visits below + walk_visits rest below) in
    let whole : (new : Progress) (result : Result (Unit {0}) CacheFault)
    → FindsRules c (All FitsRank rules) (admitted case (leaves_at [] below) ++ admitted case (leaves_along rest below)) visited now new result
    → WholeWalk c case rules name old new result =
    λ new result both. left.whole new result
    (subst (λ (p : List ℕ). Walks c case rules p tree now new result) (sym path)
    (subst (λ (met : List GlobRule). FindsRules c (All FitsRank rules) met visited now new result)
    (sym (ap (admitted case) (leaves_along-below b rest tree left.reads.ordered) ∙ parts)) both)) in
    let suffixes : All FitsRank rules → (p : List ℕ) → All (IsSuffixRule (depth + 1 + length p + 1)) (leaves_at p below) =
    λ fits p.
    let e : depth + length (b ∷ p) + 1 ≡ depth + 1 + length p + 1 = omega arith in
    subst (λ (n : ℕ). All (IsSuffixRule n) (leaves_at p below)) e
    (subst (λ (leaves : List GlobRule). All (IsSuffixRule (depth + length (b ∷ p) + 1)) leaves)
    (leaves_at-below b 0 p tree left.reads.ordered) (left.suffixes fits (b ∷ p))) in
    let here : All FitsRank rules → All (IsSuffixRule (depth + 2)) (leaves_at [] below) =
    λ fits.
    let e : depth + 1 + 0 + 1 ≡ depth + 2 = omega arith in
    subst (λ (n : ℕ). All (IsSuffixRule n) (leaves_at [] below)) e (suffixes fits []) in
    let one : ℕ = visits case * scan_visits below in
    record {
      tree = tree;
      reads = left.reads;
      later = λ lower new reads step. record {
        tree = below;
        reads = reads;
        suffixes = suffixes;
        whole = λ last result walk. whole last result
            (finds_then {m = one} (finds_within here step (omega arith)) walk (omega arith));
      };
      done = λ new none step.
          let empty : leaves_along rest below ≡ [] = ap (leaves_along rest) none ∙ leaves_along-bare rest in
          let last : FindsRules {X = Unit {0}} c (All FitsRank rules) (admitted case (leaves_along rest below)) 0 new new (Ok tt) =
          rw empty (finds_none new) in
          whole new (Ok tt) (finds_then {m = one} (finds_within here step (omega arith)) last (omega arith));
      stopped = λ new e result err step. whole new result (finds_err result err step (omega arith));
    }

-- the name is at its end
pub none_left : {c : List ℕ} {case : Case} {rules : List GlobRule} {name : List ℕ} {old : Progress} {block : Siblings} {depth : ℕ}
    {now : Progress} → length name ≤ depth → WalkLeft c case rules name old block depth now
    → WholeWalk c case rules name old now (Ok tt)
none_left {c} {case} {rules} {name} {now = now} l left =
    let long = length-reverse name in
    let end : path_left name _ ≡ [] = drop_of_length-le (reverse name) (omega arith) in
    left.whole now (Ok tt) (subst (λ (p : List ℕ). Walks c case rules p left.tree now now (Ok tt)) (sym end) (finds_none now))
