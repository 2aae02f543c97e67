-- What siblings of the tree add to a listing, and which of their records lie in the cache, one after another.
use Rattle.std.proofs.Common.{◌≡◌, ◌⊎◌, ℕ, suc, ◌+◌, ◌*◌, ◌<◌, ◌≤◌, List, [], ◌∷◌, length, arith, inl, inr, subst, sym, ap, ◌∙◌}
use Rattle.std.proofs.lemmas.Bool.{cases_lt}
use Rattle.mime_base.specs.Cache.Bytes.{field}
use Rattle.mime_view.specs.Listing.{IsRow, PlainListed}
use Rattle.mime_view.specs.Listing.Faults.{IsNode}
use Rattle.mime_view.specs.Listing.Sources.{AddsSome, IsLeafRule, IsSiblingsRule, LeadsBy}
use Rattle.mime_view.specs.Listing.Walks.{LieBelow, LiesNode, ListsSiblings}
use Rattle.mime_view.specs.Magic.{LiesBlock}
use Rattle.mime_view.specs.declared.rules.row.Row.{Row}
use Rattle.mime_view.specs.declared.spending.Spending.{Spending}
use Rattle.mime_view.proofs.ListingLemmas.RuleSources.{adds_also, adds_both, adds_nothing, rule_among, rule_below, rule_here}

-- a record that is no node has nothing below it
lie_none : {c : List ℕ} {at above : ℕ} → (IsNode c at → ⊥) → LieBelow c at 1 above
lie_none {c = c} {at = at} {above = above} unlike = record { nodes = by_path }
  where
    by_path : (i : ℕ) (path : List ℕ) (r : ℕ) → i < 1 → LeadsBy c path (at + 12 * i) r → IsNode c r → LiesNode c r (above + length path)
    by_path i [] r within leads node =
        let same : r ≡ at = omega (arith, within, leads) in
        absurd (unlike (subst (IsNode c) same node))
    by_path i (character ∷ path) r within leads node =
        let same : at + 12 * i ≡ at = omega (arith, within) in
        absurd (unlike (subst (IsNode c) same leads.1))

-- what is below a node is below its children
lie_node : {c : List ℕ} {at first count above deeper : ℕ} → LiesBlock c (field c at 2) 12 (field c at 1) → above < 254
    → first ≡ field c at 2 → count ≡ field c at 1 → deeper ≡ suc above → LieBelow c first count deeper → LieBelow c at 1 above
lie_node {c = c} {at = at} {above = above} children short place number more below = record { nodes = by_path }
  where
    by_path : (i : ℕ) (path : List ℕ) (r : ℕ) → i < 1 → LeadsBy c path (at + 12 * i) r → IsNode c r → LiesNode c r (above + length path)
    by_path i [] r within leads node =
        let same : at ≡ r = omega (arith, within, leads) in
        record {
          children = subst (λ (n : ℕ). LiesBlock c (field c n 2) 12 (field c n 1)) same children;
          short = omega (arith, short);
        }
    by_path i (character ∷ path) r within leads node =
        let same : at + 12 * i ≡ at = omega (arith, within) in
        let inner = subst (λ (n : ℕ). (j : ℕ) × (j < field c n 1) × LeadsBy c path (field c n 2 + 12 * j) r) same leads.2 in
        let deep = below.nodes inner.0 path r (omega (arith, inner.1, number))
        (subst (λ (n : ℕ). LeadsBy c path (n + 12 * inner.0) r) (sym place) inner.2) node in
        record { children = deep.children; short = omega (arith, deep.short, more) }

-- one sibling more
lie_more : {c : List ℕ} {first i above : ℕ} → LieBelow c first i above → LieBelow c (first + 12 * i) 1 above → LieBelow c first (i + 1) above
lie_more {c = c} {first = first} {i = i} {above = above} before here = record {
  nodes = λ k path r within leads node. by_place k path r within leads node (cases_lt k i);
}
  where
    by_place : (k : ℕ) (path : List ℕ) (r : ℕ) → k < i + 1 → LeadsBy c path (first + 12 * k) r → IsNode c r → (k < i) ⊎ (i ≤ k)
        → LiesNode c r (above + length path)
    by_place k path r within leads node (inl less) = before.nodes k path r less leads node
    by_place k path r within leads node (inr more) =
        let same : first + 12 * k ≡ first + 12 * i + 12 * 0 = omega (arith, within, more) in
        here.nodes 0 path r (omega arith) (subst (λ (n : ℕ). LeadsBy c path n r) same leads) node

-- a rule of some siblings is one of more
wider : {c : List ℕ} {first few many : ℕ} {ending : List ℕ} {rule : PlainListed} → few ≤ many → IsSiblingsRule c first few ending rule
    → IsSiblingsRule c first many ending rule
wider less is = record {
  i = is.i;
  within = omega (arith, is.within);
  path = is.path;
  r = is.r;
  leads = is.leads;
  leaf = is.leaf;
}

module _ {c : List ℕ} {at : ℕ} {old new : Spending} {row : Row} {ending : List ℕ} {before : List PlainListed}
    (taken : IsRow c at old new row) where
  -- a leaf adds its rule
  pub lists_leaf : {after : List PlainListed} → row.first ≡ 0
      → (field c at 0 ≡ 0 → row.second ≡ field c at 1 → row.third ≡ field c at 2 → AddsSome (IsLeafRule c at ending) before after)
      → ListsSiblings c at 1 ending before after
  lists_leaf none adds = record {
    rules = adds_also (λ rule. rule_here) (adds (sym taken.first ∙ none) taken.second taken.third);
    lie = lie_none (λ node. absurd (omega (arith, node.some, none, taken.first)));
  }

  -- a character above 255 adds nothing
  pub lists_wide : 255 < row.first → ListsSiblings c at 1 ending before before
  lists_wide wide = record {
    rules = adds_nothing before;
    lie = lie_none (λ node. absurd (omega (arith, node.byte, wide, taken.first)));
  }

  -- a node adds what its children do
  pub lists_node : {first count : ℕ} {longer : List ℕ} {after : List PlainListed} → 0 < row.first → row.first < 256
      → LiesBlock c first 12 count → length ending < 254 → first ≡ row.third → count ≡ row.second → longer ≡ row.first ∷ ending
      → ListsSiblings c first count longer before after → ListsSiblings c at 1 ending before after
  lists_node {longer = longer} some byte children short place number more deep =
      let node : IsNode c at = record { some = omega (arith, some, taken.first); byte = omega (arith, byte, taken.first) } in
      let size : length longer ≡ suc (length ending) = ap (λ (e : List ℕ). length e) more in
      let at_first = place ∙ taken.third in
      let how_many = number ∙ taken.second in
      record {
        rules = adds_also (λ rule. rule_below at_first how_many (more ∙ ap (λ (n : ℕ). n ∷ ending) taken.first) node) deep.rules;
        lie = lie_node (rw (at_first, how_many) at children) short at_first how_many size deep.lie;
      }

-- one sibling more adds its own
pub lists_more : {c : List ℕ} {first : ℕ} {ending now : List ℕ} {before mid after : List PlainListed} (i : ℕ) → now ≡ ending
    → ListsSiblings c first i ending before mid → ListsSiblings c (first + 12 * i) 1 now mid after
    → ListsSiblings c first (i + 1) ending before after
lists_more {c = c} {first = first} {now = now} i alike some one =
    let size : length now ≡ length _ = ap (λ (e : List ℕ). length e) alike in
    record {
      rules = adds_both (adds_also (λ rule. wider (omega arith)) some.rules)
          (adds_also (λ rule. rule_among i (omega arith) alike) one.rules);
      lie = lie_more some.lie (subst (λ (n : ℕ). LieBelow c (first + 12 * i) 1 n) size one.lie);
    }

-- all of them were listed
pub lists_all : {c : List ℕ} {first i count : ℕ} {ending : List ℕ} {before after : List PlainListed} → i ≡ count
    → ListsSiblings c first i ending before after → ListsSiblings c first count ending before after
lists_all same lists = rw same at lists
