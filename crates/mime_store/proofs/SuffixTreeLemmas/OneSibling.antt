-- What makes one sibling: an ending that ends, or endings that go on with one byte.
use Rattle.std.proofs.Common.{◌≡◌, ℕ, ◌+◌, ◌<◌, ◌≤◌, cond, eqb, List, [], ◌∷◌, ◌++◌, length, take, drop, map, refl, sym}
use Rattle.std.proofs.Common.{ap, subst, ◌∙◌, arith, length-append, bytes_eq}
use Rattle.std.proofs.lemmas.List.{take-append-drop, length-take-le, length-map}
use Rattle.std.proofs.lemmas.List.Sums.{sum_by-append, sum_by-cons}
use Rattle.mime_base.specs.Format.Records.{CardsAt, TextAt}
use Rattle.mime_base.specs.Format.Room.{text_room}
use Rattle.mime_base.specs.Format.Stored.{weight_and_flags}
use Rattle.mime_base.specs.declared.database.rule.GlobRule.{GlobRule}
use Rattle.mime_store.specs.SuffixTree.{ClearOf, PathRule, Fresh, IsBlock, PathLe, Rises, StartAll, TreeOf, WritesSibling}
use Rattle.mime_store.specs.SuffixTree.{a_leaf, a_node, common, entries_room, first_byte, kinds_room, leaves_of}
use Rattle.mime_store.specs.SuffixTree.{nodes, pick}
use Rattle.mime_store.specs.Texts.{NoZero}
use Rattle.mime_store.specs.Written.{Grew, Written}
use Rattle.mime_store.proofs.SuffixTreeLemmas.Paths.{clear_fresh, fresh_byte, last_group, nodes_split, pick-append, pick_group, pick_group_none}
use Rattle.mime_store.proofs.SuffixTreeLemmas.Paths.{rises_below, rises_first, rises_second, tail_of}
use Rattle.mime_store.proofs.BytesLemmas.Written.{written_more}
use Rattle.mime_store.proofs.SuffixTreeLemmas.Siblings.{tree_carry}
use Rattle.mime_store.proofs.SuffixTreeLemmas.SoFar.{none_fresh}

-- only the empty path is not after the empty one
below_none : (before : List ℕ) → PathLe before [] → first_byte before ≡ 0
below_none [] h = refl
below_none (x ∷ xs) h = absurd h

-- what a group begins with
group_first : (before : List ℕ) (b : ℕ) (gs fs : List PathRule) → 0 < length gs → StartAll b gs → Rises before (gs ++ fs)
    → Fresh before (gs ++ fs) → first_byte before < b
group_first before b [] fs lt s h f = absurd (omega arith)
group_first before b (e ∷ es) fs lt s h f =
    let nz : NoZero (b ∷ s.0) = subst NoZero s.1 h.1 in
    fresh_byte before b s.0 (subst (PathLe before) s.1 h.0) nz.0 (ap (common before) (sym s.1) ∙ f)

-- an ending that is at its end makes a leaf, once its type is written
pub leaf_sibling : (old new k : List ℕ) (kind : ℕ) (rule : GlobRule) (es : List PathRule) → k ≡ []
    → Grew old new (text_room rule.kind) → TextAt (Written new) kind rule.kind
    → WritesSibling old new (0 ∷ kind ∷ weight_and_flags rule ∷ []) 1 ((k, rule) ∷ es)
leaf_sibling old new k kind rule es e g w =
    rw e (record {
      sibling = a_leaf rule;
      by = text_room rule.kind;
      grew = g;
      is = (kind, refl, w);
      size = omega arith;
      room = omega (arith, sum_by-cons (λ (x : PathRule). text_room x.1.kind) ([], rule) es);
      leaves = λ path. elim path as
          (λ q. leaves_of q (a_leaf rule) ++ pick q es ≡ cond (bytes_eq [] q) (rule ∷ []) [] ++ pick q es) [ [] ↦ refl | c ∷ cs ↦ refl ];
      counts = omega arith;
      goes = λ before h f. record {
        after = [];
        here = (below_none before h.0, tt);
        now = below_none before h.0;
        rises = h.2;
        fresh = none_fresh es;
      };
      some = omega arith;
      within = omega arith;
    })

-- what entries take apart from their nodes is what their tails take
pub kinds-tails : (es : List PathRule) → kinds_room (map tail_of es) ≡ kinds_room es
kinds-tails [] = refl
kinds-tails (e ∷ es) =
    omega (
      arith,
      sum_by-cons (λ (x : PathRule). text_room x.1.kind) (tail_of e) (map tail_of es),
      sum_by-cons (λ (x : PathRule). text_room x.1.kind) e es,
      kinds-tails es,
    )

-- endings that go on with one byte make a node
pub group_sibling : (old new : List ℕ) (b count first n : ℕ) (es : List PathRule) → 0 < n → n ≤ length es → StartAll b (take n es)
    → ClearOf b (drop n es) → Grew old new (entries_room (map tail_of (take n es)))
    → IsBlock (Written new) count first (map tail_of (take n es)) → WritesSibling old new (b ∷ count ∷ first ∷ []) n es
group_sibling old new b count first n es pos le all clear g t =
    let gs = take n es in
    let fs = drop n es in
    let whole : gs ++ fs ≡ es = take-append-drop n es in
    let some : 0 < length gs = rw (length-take-le n es le) pos in
    let long = nodes_split b gs fs some all clear in
    let total : nodes [] (map tail_of gs) + 1 + nodes [] fs ≡ nodes [] es = sym long ∙ ap (nodes []) whole in
    let kinds : kinds_room es ≡ kinds_room gs + kinds_room fs =
    ap kinds_room (sym whole) ∙ sum_by-append (λ (x : PathRule). text_room x.1.kind) gs fs in
    record {
      sibling = a_node b t.tree;
      by = entries_room (map tail_of gs);
      grew = g;
      is = (first, rw (t.counted) refl, t.stand);
      size = omega (arith, t.size, total);
      room = omega (arith, total, kinds, kinds-tails gs);
      leaves = λ path.
          let same_leaves : leaves_of path (a_node b t.tree) ≡ pick path gs =
          elim path as (λ q. leaves_of q (a_node b t.tree) ≡ pick q gs) [
            | [] ↦ sym (pick_group_none b gs all)
            | c ∷ cs ↦ ap (λ l. cond (eqb b c) l []) (t.leaves cs) ∙ sym (pick_group b c cs gs all)
          ] in
          ap (λ l. l ++ pick path fs) same_leaves ∙ sym (pick-append path gs fs) ∙ ap (pick path) whole;
      counts = omega (arith, t.counts, length-map gs tail_of, ap length whole, length-append gs fs);
      goes = λ before h f.
          let h' : Rises before (gs ++ fs) = rw whole h in
          let f' : Fresh before (gs ++ fs) = rw whole f in
          let last = last_group b before gs some all in
          record {
            after = b ∷ last.0;
            here = (
              group_first before b gs fs some all h' f',
              rw (t.counts, length-map gs tail_of) some,
              t.ordered (rises_below b before gs all (rises_first before gs fs h')),
              tt,
            );
            now = refl;
            rises = subst (λ (p : List ℕ). Rises p fs) last.1 (rises_second before gs fs h');
            fresh = clear_fresh b last.0 fs clear;
          };
      some = pos;
      within = le;
    }

-- the head of a tree, written after it
pub tree_head : (mid new : List ℕ) (count first at size : ℕ) (es : List PathRule) → IsBlock (Written mid) count first es
    → Rises [] es → Grew mid new size → CardsAt (Written new) at (count ∷ first ∷ []) → TreeOf (Written new) at es
tree_head mid new count first at size es block rises g head = record {
  tree = block.tree;
  first = first;
  head = rw block.counted head;
  stand = tree_carry (Written mid) (Written new) (written_more mid new size g) first block.tree block.stand;
  ordered = block.ordered rises;
  leaves = block.leaves;
  size = block.size;
}
