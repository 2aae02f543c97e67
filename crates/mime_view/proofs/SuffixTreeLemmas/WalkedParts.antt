-- What a walk of the suffix tree reads, block by block, is of the tree along the name.
use Rattle.std.proofs.Common.{◌≡◌, ℕ, suc, ◌+◌, ◌-◌, ◌*◌, ◌<◌, List, get_or, length, reverse, inr, refl, ap₂, subst, arith}
use Rattle.std.proofs.lemmas.List.{get_or-reverse}
use Rattle.mime_base.specs.Cache.Bytes.{field}
use Rattle.mime_view.specs.Magic.{LiesBlock}
use Rattle.mime_view.specs.SuffixTree.{IsNamedBlock, IsSibling, LeadsAlong, below_part, leaf_part, leaves_part, tree_part}
use Rattle.mime_view.specs.declared.suffixes.Siblings.{Siblings}
use Rattle.mime_view.proofs.HitsLemmas.Parts.{IsWithin}

module _ (c : List ℕ) where
  -- one leaf is among those of its block
  pub leaf_within : (block : Siblings) → LiesBlock c block.first 12 block.count → (i : ℕ) → i < block.count
      → IsWithin (leaf_part c (block.first + 12 * i)) (leaves_part c block)
  leaf_within block lies i l = record {
    fault = λ e is. absurd is;
    kind = λ place is. (block.first + 12 * i, record { lies = lies; i = i; within = l; is = refl }, is);
  }

  -- the leaves of a block are below the node that names it
  pub leaves_within : (Among : ℕ → Type 0) (character : ℕ) (block : Siblings) → IsNamedBlock c Among character block
      → IsWithin (leaves_part c block) (below_part c Among character)
  leaves_within Among character block named = record { fault = λ e is. absurd is; kind = λ place is. (block, named, is) }

  -- the node may be among more records
  named_among : (Among Other : ℕ → Type 0) (character : ℕ) (block : Siblings) → ((r : ℕ) → Among r → Other r)
      → IsNamedBlock c Among character block → IsNamedBlock c Other character block
  named_among Among Other character block wider named = record {
    node = named.node;
    among = wider named.node named.among;
    of = named.of;
    first = named.first;
    count = named.count;
  }

  module _ (at : ℕ) (name : List ℕ) where
    -- no byte leads to the roots
    pub leads_roots : (block : Siblings) → block.first ≡ field c at 1 → block.count ≡ field c at 0 → (r : ℕ) → IsSibling c block r
        → LeadsAlong c at name 0 r
    leads_roots block first count r is =
        let named : Siblings = record { first = field c at 1; count = field c at 0 } in
        let roots : block ≡ named = ap₂ (λ (f : ℕ) (n : ℕ). let found : Siblings = record { first = f; count = n } in found) first count in
        subst (λ (found : Siblings). IsSibling c found r) roots is

    module _ (depth : ℕ) (block : Siblings) (leads : (r : ℕ) → IsSibling c block r → LeadsAlong c at name depth r) where
      -- the next byte leads to the siblings below its node
      pub leads_on : (lower : Siblings) → depth < length name
          → IsNamedBlock c (IsSibling c block) (get_or name (length name - 1 - depth) 0) lower → (r : ℕ) → IsSibling c lower r
          → LeadsAlong c at name (depth + 1) r
      leads_on lower l named r is =
          let byte = get_or-reverse name depth 0 l in
          let more : suc depth ≡ depth + 1 = omega arith in
          subst (λ (n : ℕ). LeadsAlong c at name n r) more (
            lower,
            named_among (IsSibling c block) (LeadsAlong c at name depth)
                (get_or (reverse name) depth 0) lower leads (rw byte named),
            is,
          )

      -- and what is below that node is of the tree
      pub step_within : depth < length name
          → IsWithin (below_part c (IsSibling c block) (get_or name (length name - 1 - depth) 0)) (tree_part c at name)
      step_within l =
          let byte = get_or-reverse name depth 0 l in
          let among : (lower : Siblings) → IsNamedBlock c (IsSibling c block) (get_or name (length name - 1 - depth) 0) lower
          → IsNamedBlock c (LeadsAlong c at name depth) (get_or (reverse name) depth 0) lower =
          λ lower named. rw byte (named_among (IsSibling c block) (LeadsAlong c at name depth) (get_or name (length name - 1 - depth) 0) lower leads named) in
          record {
            fault = λ e is. inr (inr (depth, (is.0, among is.0 is.1, is.2)));
            kind = λ place is. (depth, (is.0, among is.0 is.1, is.2));
          }
