-- A suffix tree that stands in a cache is read as its siblings, and what is below each.
use Rattle.std.proofs.Common.{◌≡◌, ℕ, ◌+◌, ◌*◌, ◌<◌, ◌≤◌, List, [], ◌∷◌, length, reverse, get_or, sym, ap, ◌∙◌, arith, inl, inr}
use Rattle.std.proofs.lemmas.Bool.{cases_lt}
use Rattle.std.proofs.lemmas.List.{length-reverse}
use Rattle.mime_base.specs.Cache.Bytes.{Stands, field, fields}
use Rattle.mime_base.specs.Format.Sorted.{with_key}
use Rattle.mime_base.specs.Format.Stored.{reversed_ending, tree_rules, weight_and_flags}
use Rattle.mime_base.specs.Format.SuffixTree.{SuffixTreeAt, fronts}
use Rattle.mime_base.specs.Format.Tree.{Tree, TreeAt, bare, leaf, leaves_at, node, sibling_count}
use Rattle.mime_base.specs.declared.database.rule.GlobRule.{GlobRule}
use Rattle.mime_view.specs.Hits.{ending_rules, tree_visits}
use Rattle.mime_view.specs.Magic.{LiesBlock}
use Rattle.mime_view.specs.SuffixTree.{ReadsBlock, ReadsTree}
use Rattle.mime_view.specs.declared.suffixes.Siblings.{Siblings}
use Rattle.mime_view.proofs.ListLemmas.Records.{first_read, numbers_read, record_inside, second_read, text_read}
use Rattle.mime_view.proofs.SuffixTreeLemmas.TreeWalks.{flat_map-same, leaves_along, walk_few, walk_visits, walk_within}

-- siblings lie in the cache
pub siblings_inside : (c : List ℕ) (at : ℕ) (tree : Tree) → TreeAt (Stands c) at tree → 0 < sibling_count tree → at + 12 * sibling_count tree ≤ length c
siblings_inside c at bare stand some = absurd (omega arith)
siblings_inside c at (leaf rule rest) (kind, here, text, later) some =
    let inside : at + 4 * 3 ≤ length c = record_inside c at (0 ∷ kind ∷ weight_and_flags rule ∷ []) here in
    elim (cases_lt 0 (sibling_count rest)) [
      | inl more ↦ let rest_inside = siblings_inside c (at + 12) rest later more in (omega arith)
      | inr none ↦ (omega arith)
    ]
siblings_inside c at (node character below rest) (first, here, under, later) some =
    let inside : at + 4 * 3 ≤ length c = record_inside c at (character ∷ sibling_count below ∷ first ∷ []) here in
    elim (cases_lt 0 (sibling_count rest)) [
      | inl more ↦ let rest_inside = siblings_inside c (at + 12) rest later more in (omega arith)
      | inr none ↦ (omega arith)
    ]

-- what stands is read
pub tree_read : (c : List ℕ) (at : ℕ) (tree : Tree) → TreeAt (Stands c) at tree → ReadsTree c at tree
tree_read c at bare stand = stand
tree_read c at (leaf rule rest) (kind, here, text, later) =
    let numbers = numbers_read c at (0 ∷ kind ∷ weight_and_flags rule ∷ []) here in
    let number : (i : ℕ) → get_or (fields c at 3) i 0 ≡ get_or (0 ∷ kind ∷ weight_and_flags rule ∷ []) i 0 =
    λ i. ap (λ (ns : List ℕ). get_or ns i 0) numbers in
    let at_kind : field c at 1 ≡ kind = number 1 in (
      record { no_character = number 0; kind = rw at_kind (text_read c kind rule.kind text); flags = number 2 },
      tree_read c (at + 12) rest later,
    )
tree_read c at (node character below rest) (first, here, under, later) =
    let numbers = numbers_read c at (character ∷ sibling_count below ∷ first ∷ []) here in
    let number : (i : ℕ) → get_or (fields c at 3) i 0 ≡ get_or (character ∷ sibling_count below ∷ first ∷ []) i 0 =
    λ i. ap (λ (ns : List ℕ). get_or ns i 0) numbers in
    let at_first : field c at 2 ≡ first = number 2 in (
      number 0,
      number 1,
      rw at_first (record { inside = λ some. siblings_inside c first below under some }),
      rw at_first (tree_read c first below under),
      tree_read c (at + 12) rest later,
    )

-- the head of a tree lies in the cache
pub head_inside : (c : List ℕ) (at : ℕ) (rules : List GlobRule) → SuffixTreeAt (Stands c) at rules → at + 8 ≤ length c
head_inside c at rules stand =
    let inside : at + 4 * 2 ≤ length c = record_inside c at (sibling_count stand.tree ∷ stand.first ∷ []) stand.head in
    omega arith

-- so do its roots
pub roots_inside : (c : List ℕ) (at : ℕ) (rules : List GlobRule) → SuffixTreeAt (Stands c) at rules
    → LiesBlock c (field c at 1) 12 (field c at 0)
roots_inside c at rules stand =
    let count = first_read c at (sibling_count stand.tree) (stand.first ∷ []) stand.head in
    let first = second_read c at (sibling_count stand.tree) stand.first [] stand.head in
    record {
      inside = λ some.
          let inside = siblings_inside c stand.first stand.tree stand.stand (omega (arith, count)) in
          omega (arith, inside, count, first);
    }

-- the roots are read
pub roots_read : (c : List ℕ) (at : ℕ) (rules : List GlobRule) (block : Siblings) → block.first ≡ field c at 1 → block.count ≡ field c at 0
    → (stand : SuffixTreeAt (Stands c) at rules) → ReadsBlock c block stand.tree
roots_read c at rules block first count stand =
    let at_first : block.first ≡ stand.first = first ∙ second_read c at (sibling_count stand.tree) stand.first [] stand.head in
    record {
      size = sym (count ∙ first_read c at (sibling_count stand.tree) (stand.first ∷ []) stand.head);
      siblings = rw at_first (tree_read c stand.first stand.tree stand.stand);
      ordered = stand.ordered;
    }

-- the leaves along the name are the rules with an ending of it
pub along_name : (c : List ℕ) (at : ℕ) (rules : List GlobRule) (name : List ℕ) → (stand : SuffixTreeAt (Stands c) at rules)
    → leaves_along (reverse name) stand.tree ≡ ending_rules name rules
along_name c at rules name stand =
    flat_map-same (λ path. leaves_at path stand.tree) (λ path. with_key reversed_ending path (tree_rules rules)) stand.leaves
    (fronts (reverse name))

-- a whole walk visits no more than is allowed
pub whole_walk : (c : List ℕ) (at : ℕ) (rules : List GlobRule) (name : List ℕ) → (stand : SuffixTreeAt (Stands c) at rules)
    → walk_visits (reverse name) stand.tree ≤ tree_visits name rules
whole_walk c at rules name stand =
    let met = ap (λ (met : List GlobRule). length met) (along_name c at rules name stand) in
    let few = walk_few (reverse name) stand.tree stand.ordered in
    let within = walk_within (reverse name) stand.tree in
    omega (arith, few, within, met, stand.size, length-reverse name)
