-- A scan of the leaves that stand first in a block of the suffix tree.
use Rattle.std.proofs.Common.{◌≡◌, ℕ, ◌+◌, ◌*◌, ◌<◌, ◌≤◌, ◌==◌, Bool, true, false, true≢false, All}
use Rattle.std.proofs.Common.{List, [], ◌∷◌, refl, sym, subst, ◌∙◌, arith, eq-eqb}
use Rattle.std.specs.Prelude.{Result, Ok, Err, IsErrAnd}
use Rattle.std.proofs.lemmas.Bool.{eqb-true, false_from_ne_true}
use Rattle.std.proofs.lemmas.List.Elements.{All-head, All-tail, filter-append}
use Rattle.mime_base.specs.Cache.Bytes.{field}
use Rattle.mime_base.specs.Format.Tree.{InOrder, Tree, bare, leaf, leaves_at, node, sibling_count}
use Rattle.mime_base.specs.declared.database.rule.GlobRule.{GlobRule}
use Rattle.mime_view.specs.Gathered.{Offers}
use Rattle.mime_view.specs.Hits.{takes_rule, visits}
use Rattle.mime_view.specs.Steps.{FindsRules}
use Rattle.mime_view.specs.SuffixTree.{IsSuffixRule, ReadsLeaf, ReadsTree, admitted, scan_visits}
use Rattle.mime_view.specs.declared.fault.CacheFault.{CacheFault}
use Rattle.mime_view.specs.declared.hits.Case.{Case}
use Rattle.mime_view.specs.declared.query.Progress.{Progress}
use Rattle.mime_view.specs.declared.suffixes.Siblings.{Siblings}
use Rattle.mime_view.proofs.HitsLemmas.Steps.{finds_err, finds_none, finds_then, finds_within}

-- siblings after a node have no leaf
pub leaves_at-past : (before : ℕ) (tree : Tree) → 0 < before → InOrder before tree → leaves_at [] tree ≡ []
leaves_at-past before bare some order = refl
leaves_at-past before (leaf rule rest) some order = absurd (omega (arith, order.0))
leaves_at-past before (node character below rest) some order = leaves_at-past character rest (omega (arith, order.0)) order.3

-- what a visit of a leaf at `at` finds
abbrev pub VisitsLeaf : (X : Type 0) → List ℕ → Case → ℕ → ℕ → Progress → Progress → Result X CacheFault → Type 0
VisitsLeaf X c case long at now new result =
    (rule : GlobRule) → ReadsLeaf c at rule → FindsRules c (IsSuffixRule long rule) (admitted case (rule ∷ [])) (visits case) now new result

-- and of a node
abbrev pub VisitsNode : (X : Type 0) → List ℕ → Case → ℕ → Progress → Progress → Result X CacheFault → Type 0
VisitsNode X c case at now new result = (field c at 0 == 0) ≡ false → FindsRules c (Unit {0}) [] (visits case) now new result

-- what a scan of these siblings finds, where the leaves of the whole block are of the class and the length
abbrev pub Scans : List ℕ → Case → ℕ → Tree → Tree → Progress → Progress → Result (Unit {0}) CacheFault → Type 0
Scans c case long whole tree old new result =
    FindsRules c (All (IsSuffixRule long) (leaves_at [] whole)) (admitted case (leaves_at [] tree)) (visits case * scan_visits tree)
    old new result

-- what is left of the siblings from the i-th on: whatever a scan of those finds, the scan of the whole block does
pub record ScanLeft (c : List ℕ) (block : Siblings) (case : Case) (long : ℕ) (tree : Tree) (old : Progress) (i : ℕ) (now : Progress) : Type 0
  where
    pub rest : Tree
    pub size : sibling_count rest + i ≡ block.count
    pub siblings : ReadsTree c (block.first + 12 * i) rest
    pub ordered : InOrder 0 rest
    pub suffixes : All (IsSuffixRule long) (leaves_at [] tree) → All (IsSuffixRule long) (leaves_at [] rest)
    pub whole : (new : Progress) (result : Result (Unit {0}) CacheFault) → Scans c case long tree rest now new result
        → Scans c case long tree tree old new result

module _ {c : List ℕ} {block : Siblings} {case : Case} {long : ℕ} {tree : Tree} {old : Progress} {i : ℕ} {now : Progress}
    (left : ScanLeft c block case long tree old i now) where
  -- what the rest finds is found
  abbrev Whole : Tree → Type 0
  Whole rest = (new : Progress) (result : Result (Unit {0}) CacheFault) → Scans c case long tree rest now new result
      → Scans c case long tree tree old new result

  -- after a leaf the others are left
  pub next_leaf : (new : Progress) → i < block.count → (field c (block.first + 12 * i) 0 == 0) ≡ true
      → VisitsLeaf Bool c case long (block.first + 12 * i) now new (Ok true) → ScanLeft c block case long tree old (i + 1) new
  next_leaf new l zero visit = by_rest left.rest left.size left.siblings left.ordered left.suffixes left.whole
    where
      by_rest : (rest : Tree) → sibling_count rest + i ≡ block.count → ReadsTree c (block.first + 12 * i) rest → InOrder 0 rest
          → (All (IsSuffixRule long) (leaves_at [] tree) → All (IsSuffixRule long) (leaves_at [] rest)) → Whole rest
          → ScanLeft c block case long tree old (i + 1) new
      by_rest bare size siblings ordered suffixes whole = absurd (omega arith)
      by_rest (leaf rule rest) size siblings ordered suffixes whole = record {
        rest = rest;
        size = omega arith;
        siblings = let e : block.first + 12 * (i + 1) ≡ block.first + 12 * i + 12 = omega arith in rw e siblings.1;
        ordered = ordered.1;
        suffixes = λ all. All-tail (IsSuffixRule long) rule (leaves_at [] rest) (suffixes all);
        whole = λ last result scan. whole last result
            (subst (λ (rules : List GlobRule). FindsRules c (All (IsSuffixRule long) (leaves_at [] tree)) rules
            (visits case * (1 + scan_visits rest)) now last result)
            (sym (filter-append (λ (r : GlobRule). takes_rule case r.cased) (rule ∷ []) (leaves_at [] rest)))
            (finds_then {m = visits case} (finds_within (λ all. All-head (IsSuffixRule long) rule (leaves_at [] rest) (suffixes all))
            (visit rule siblings.0) (omega arith)) scan (omega arith)));
      }
      by_rest (node character below rest) size siblings ordered suffixes whole =
          let is : field c (block.first + 12 * i) 0 ≡ 0 = eqb-true _ _ zero in
          absurd (omega (arith, siblings.0, ordered.0))

  -- a node ends the scan
  pub node_left : (new : Progress) → i < block.count → (field c (block.first + 12 * i) 0 == 0) ≡ false
      → VisitsNode Bool c case (block.first + 12 * i) now new (Ok false) → Scans c case long tree tree old new (Ok tt)
  node_left new l some visit = by_rest left.rest left.size left.siblings left.ordered left.whole
    where
      by_rest : (rest : Tree) → sibling_count rest + i ≡ block.count → ReadsTree c (block.first + 12 * i) rest → InOrder 0 rest
          → Whole rest → Scans c case long tree tree old new (Ok tt)
      by_rest bare size siblings ordered whole = absurd (omega arith)
      by_rest (leaf rule rest) size siblings ordered whole =
          absurd (true≢false (sym (eq-eqb _ _ siblings.0.no_character) ∙ some))
      by_rest (node character below rest) size siblings ordered whole =
          let none = leaves_at-past character rest ordered.0 ordered.3 in
          let step = visit some in
          whole new (Ok tt) record {
            answer = λ ok. subst (λ (rules : List GlobRule). Offers c (admitted case rules) now.hits new.hits) (sym none) (step.answer tt);
            need = λ enough. tt;
            most = omega (arith, step.most);
          }

  -- so does a stop
  pub stopped : (new : Progress) {e : CacheFault} (result : Result (Unit {0}) CacheFault) → IsErrAnd result (λ y. y ≡ e) → i < block.count
      → VisitsLeaf Bool c case long (block.first + 12 * i) now new (Err e) → VisitsNode Bool c case (block.first + 12 * i) now new (Err e)
      → Scans c case long tree tree old new result
  stopped new {e} result is l leaf_visit node_visit = by_rest left.rest left.size left.siblings left.ordered left.whole
    where
      by_rest : (rest : Tree) → sibling_count rest + i ≡ block.count → ReadsTree c (block.first + 12 * i) rest → InOrder 0 rest
          → Whole rest → Scans c case long tree tree old new result
      by_rest bare size siblings ordered whole = absurd (omega arith)
      by_rest (leaf rule rest) size siblings ordered whole =
          whole new result (finds_err result is (leaf_visit rule siblings.0) (omega arith))
      by_rest (node character below rest) size siblings ordered whole =
          whole new result (finds_err result is (node_visit (character_some character siblings.0 ordered.0)) (omega arith))
        where
          character_some : (n : ℕ) → field c (block.first + 12 * i) 0 ≡ n → 0 < n → (field c (block.first + 12 * i) 0 == 0) ≡ false
          character_some n is some = false_from_ne_true _ (λ zero. absurd (omega (arith, is, some, eqb-true _ _ zero)))

  -- so does the last sibling
  pub none_left : block.count ≤ i → Scans c case long tree tree old now (Ok tt)
  none_left l = by_rest left.rest left.size left.whole
    where
      by_rest : (rest : Tree) → sibling_count rest + i ≡ block.count → Whole rest → Scans c case long tree tree old now (Ok tt)
      by_rest bare size whole = whole now (Ok tt) (finds_none now)
      by_rest (leaf rule rest) size whole = absurd (omega arith)
      by_rest (node character below rest) size whole = absurd (omega arith)
