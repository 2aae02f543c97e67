-- What a step on siblings of the suffix tree gives by the step on one of them, or by the step below it.
use Rattle.std.proofs.Common.{◌≡◌, ℕ, ◌+◌, ◌≤◌, List, ◌++◌, ap, sym, ◌∙◌, arith}
use Rattle.std.specs.Prelude.{Err, IsErrAnd, Ok, Result, map}
use Rattle.std.proofs.lemmas.Result.{IfOk-weaker, err_from_is_err_and}
use Rattle.mime_base.specs.Format.Tree.{Tree, node_count, rules_in, sibling_count}
use Rattle.mime_base.specs.declared.database.rule.GlobRule.{GlobRule}
use Rattle.mime_view.specs.Listing.{AddsRules, PlainListed, listed_rule}
use Rattle.mime_view.specs.Spending.{Gives}
use Rattle.mime_view.specs.declared.fault.CacheFault.{CacheFault}
use Rattle.mime_view.specs.declared.fault.CacheFault.TheVariants.{OutOfMemory}
use Rattle.mime_view.specs.declared.spending.Spending.{Spending}
use Rattle.mime_view.proofs.SuffixTreeLemmas.SiblingNodes.{IsBelow, some_node}
use Rattle.mime_view.proofs.SuffixTreeLemmas.SiblingRows.{Left, Next, none_left}

-- a step on a sibling that takes one record at most, and stops
pub stops_there : {X : Type 0} {Answer : X → Type 0} {e : CacheFault} (one : Tree) (old new : Spending) (r : Result X CacheFault)
    → IsErrAnd r (λ y. y ≡ e) → sibling_count one ≡ 1 → old.budget.records ≤ new.budget.records + 1
    → (node_count one ≤ old.budget.records → e ≡ OutOfMemory) → Gives Answer (node_count one) old new r
stops_there one old new r is alone taken memory =
    let p = err_from_is_err_and r is in
    rw (p.1, p.2) record { answer = tt; need = memory; most = omega (arith, some_node one alone, taken) }

-- a step on a node adds what the step below it adds, and takes its record besides
pub node_gives : {X : Type 0} {c : List ℕ} {first count : ℕ} {grown : List ℕ} {one : Tree} (before after : List PlainListed)
    {old mid new : Spending} {r : Result X CacheFault} → (n : IsBelow c first count grown one)
    → mid.budget.records + 1 ≡ old.budget.records → AddsRules (rules_in n.below) (node_count n.below) before after mid new r
    → AddsRules (rules_in one) (node_count one) before after old new r
node_gives before after {r = r} n taken gives =
    let rules = ap (λ (xs : List GlobRule). before ++ map listed_rule xs) (sym n.alone) in
    record {
      answer = IfOk-weaker r _ _ (λ x is. is ∙ rules) gives.answer;
      need = λ enough. gives.need (omega (arith, n.size, enough));
      most = omega (arith, n.size, gives.most);
    }

-- and stops where that one does
pub node_stops : {X Y : Type 0} {Answer : X → Type 0} {Below : Y → Type 0} {c : List ℕ} {first count : ℕ} {grown : List ℕ} {one : Tree}
    {e : CacheFault} {old mid new : Spending} (r : Result X CacheFault) → IsErrAnd r (λ y. y ≡ e)
    → (n : IsBelow c first count grown one) → mid.budget.records + 1 ≡ old.budget.records
    → Gives {X = Y} Below (node_count n.below) mid new (Err e) → Gives Answer (node_count one) old new r
node_stops r is n taken gives =
    let p = err_from_is_err_and r is in
    rw (p.1, p.2) record {
      answer = tt;
      need = λ enough. gives.need (omega (arith, n.size, enough));
      most = omega (arith, n.size, gives.most);
    }

-- a step on siblings stops where that on the next one does
pub next_stops : {X Y : Type 0} {Answer : X → Type 0} {One : Y → Type 0} {c : List ℕ} {first count : ℕ} {ending : List ℕ} {tree : Tree}
    {before now : List PlainListed} {i : ℕ} {e : CacheFault} {old mid new : Spending} (r : Result X CacheFault) → IsErrAnd r (λ y. y ≡ e)
    → (n : Next c first count ending tree before old.budget.records i now mid.budget.records)
    → Gives {X = Y} One (node_count n.one) mid new (Err e) → Gives Answer (node_count tree) old new r
next_stops r is n given =
    let p = err_from_is_err_and r is in
    rw (p.1, p.2) record {
      answer = tt;
      need = λ enough. given.need (omega (arith, n.records, enough));
      most = omega (arith, n.records, given.most);
    }

-- after the last one the rules of all are added
pub all_given : {X : Type 0} {c : List ℕ} {first count : ℕ} {ending : List ℕ} {tree : Tree} {before now : List PlainListed} {i : ℕ}
    {old new : Spending} {x : X} → count ≤ i → Left c first count ending tree before old.budget.records i now new.budget.records
    → AddsRules (rules_in tree) (node_count tree) before now old new (Ok x)
all_given l left = record {
  answer = none_left _ _ _ _ _ _ _ _ _ _ l left;
  need = λ enough. tt;
  most = omega (arith, left.records);
}
