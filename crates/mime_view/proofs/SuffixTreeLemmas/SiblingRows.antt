-- Siblings of the suffix tree that stand one after another in a cache.
use Rattle.std.proofs.Common.{◌≡◌, ℕ, ◌+◌, ◌*◌, ◌<◌, ◌≤◌, List, [], ◌∷◌, ◌++◌, append_assoc, refl, sym, ap, ◌∙◌, arith}
use Rattle.std.specs.Prelude.{map}
use Rattle.std.proofs.lemmas.List.{append-nil, map-append}
use Rattle.mime_base.specs.Format.Tree.{Tree, bare, leaf, node, node_count, rules_in, sibling_count}
use Rattle.mime_view.specs.Listing.{PlainListed, listed_rule}
use Rattle.mime_view.specs.Listing.Reads.{ReadsListedTree}

-- what is left of the siblings from the i-th on; `old` and r0 are the list and the records before all, `now` and r those now
pub record Left (c : List ℕ) (first count : ℕ) (ending : List ℕ) (tree : Tree) (old : List PlainListed) (r0 i : ℕ)
    (now : List PlainListed) (r : ℕ) : Type 0 where
  pub rest : Tree
  pub size : sibling_count rest + i ≡ count
  pub reads : ReadsListedTree c (first + 12 * i) ending rest
  pub listed : now ++ map listed_rule (rules_in rest) ≡ old ++ map listed_rule (rules_in tree)
  pub records : r0 + node_count rest ≤ r + node_count tree

-- the next sibling, and what is left after it
pub record Next (c : List ℕ) (first count : ℕ) (ending : List ℕ) (tree : Tree) (old : List PlainListed) (r0 i : ℕ)
    (now : List PlainListed) (r : ℕ) : Type 0 where
  pub one : Tree
  pub alone : sibling_count one ≡ 1
  pub reads : ReadsListedTree c (first + 12 * i) ending one
  pub records : r0 + node_count one ≤ r + node_count tree
  pub later : (new : List PlainListed) (r' : ℕ) → new ≡ now ++ map listed_rule (rules_in one) → r ≤ r' + node_count one
      → Left c first count ending tree old r0 (i + 1) new r'

-- of some siblings that are left, the first is the next one
next_of : (c : List ℕ) (first count : ℕ) (ending : List ℕ) (tree : Tree) (old : List PlainListed) (r0 i : ℕ) (now : List PlainListed)
    (r : ℕ) (rest : Tree) → i < count → sibling_count rest + i ≡ count → ReadsListedTree c (first + 12 * i) ending rest
    → now ++ map listed_rule (rules_in rest) ≡ old ++ map listed_rule (rules_in tree) → r0 + node_count rest ≤ r + node_count tree
    → Next c first count ending tree old r0 i now r
next_of c first count ending tree old r0 i now r bare l size reads listed records = absurd (omega arith)
next_of c first count ending tree old r0 i now r (leaf rule rest) l size reads listed records = record {
  one = leaf rule bare;
  alone = refl;
  reads = (reads.0, reads.1, tt);
  records = omega arith;
  later = λ new r' is takes. record {
    rest = rest;
    size = omega arith;
    reads = let e : first + 12 * (i + 1) ≡ first + 12 * i + 12 = omega arith in rw e reads.2;
    listed = rw is (append_assoc now (listed_rule rule ∷ []) (map listed_rule (rules_in rest)) ∙ listed);
    records = omega arith;
  };
}
next_of c first count ending tree old r0 i now r (node character below rest) l size reads listed records = record {
  one = node character below bare;
  alone = refl;
  reads = (reads.0, reads.1, reads.2, reads.3, reads.4, reads.5, reads.6, tt);
  records = omega arith;
  later = λ new r' is takes. record {
    rest = rest;
    size = omega arith;
    reads = let e : first + 12 * (i + 1) ≡ first + 12 * i + 12 = omega arith in rw e reads.7;
    listed =
        let here : map listed_rule (rules_in below ++ []) ≡ map listed_rule (rules_in below) =
        ap (map listed_rule) (append-nil (rules_in below)) in
        let both = map-append listed_rule (rules_in below) (rules_in rest) in
        ap (λ (xs : List PlainListed). xs ++ map listed_rule (rules_in rest)) (is ∙ ap (λ (xs : List PlainListed). now ++ xs) here)
        ∙ append_assoc now (map listed_rule (rules_in below)) (map listed_rule (rules_in rest))
        ∙ ap (λ (xs : List PlainListed). now ++ xs) (sym both) ∙ listed;
    records = omega arith;
  };
}

-- while some are left there is a next one
pub next : (c : List ℕ) (first count : ℕ) (ending : List ℕ) (tree : Tree) (old : List PlainListed) (r0 i : ℕ) (now : List PlainListed)
    (r : ℕ) → i < count → Left c first count ending tree old r0 i now r → Next c first count ending tree old r0 i now r
next c first count ending tree old r0 i now r l left =
    next_of c first count ending tree old r0 i now r left.rest l left.size left.reads left.listed left.records

-- where no sibling is left, no rule is added
nothing : (rest : Tree) (now : List PlainListed) → sibling_count rest ≡ 0 → now ++ map listed_rule (rules_in rest) ≡ now
nothing bare now none = append-nil now
nothing (leaf rule rest) now none = absurd (omega arith)
nothing (node character below rest) now none = absurd (omega arith)

-- after the last sibling all their rules are listed
pub none_left : (c : List ℕ) (first count : ℕ) (ending : List ℕ) (tree : Tree) (old : List PlainListed) (r0 i : ℕ)
    (now : List PlainListed) (r : ℕ) → count ≤ i → Left c first count ending tree old r0 i now r
    → now ≡ old ++ map listed_rule (rules_in tree)
none_left c first count ending tree old r0 i now r l left =
    let size = left.size in
    sym (nothing left.rest now (omega arith)) ∙ left.listed

-- at first all are left
pub all_left : (c : List ℕ) (first count : ℕ) (ending : List ℕ) (tree : Tree) (now : List PlainListed) (r : ℕ) → sibling_count tree ≡ count
    → ReadsListedTree c first ending tree → Left c first count ending tree now r 0 now r
all_left c first count ending tree now r size reads = record {
  rest = tree;
  size = omega arith;
  reads = let e : first + 12 * 0 ≡ first = omega arith in rw e reads;
  listed = refl;
  records = omega arith;
}
