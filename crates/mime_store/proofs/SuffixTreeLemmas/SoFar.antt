-- The siblings that were gathered so far, and the entries that are left.
use Rattle.std.proofs.Common.{◌≡◌, ℕ, ◌+◌, ◌*◌, List, [], ◌∷◌, ◌++◌, length, drop, refl, sym}
use Rattle.std.proofs.Common.{ap, ◌∙◌, append_assoc, arith, length-append}
use Rattle.std.proofs.lemmas.List.{append-nil}
use Rattle.mime_base.specs.Format.Records.{CardsAt}
use Rattle.mime_base.specs.Format.Tree.{InOrder, leaf_count, leaves_at, node_count}
use Rattle.mime_store.specs.SuffixTree.{PathRule, Fresh, IsBlock, IsSiblingRecord, Rises, Sibling, WritesSibling}
use Rattle.mime_store.specs.SuffixTree.{as_tree, entries_room, first_byte, leaves_of, next_byte}
use Rattle.mime_store.specs.SuffixTree.{nodes, pick}
use Rattle.mime_store.specs.Lists.{RecordsIn}
use Rattle.mime_store.specs.Written.{Grew, Written}
use Rattle.mime_store.proofs.BytesLemmas.Records.{records_are, records_push, records_stand}
use Rattle.mime_store.proofs.BytesLemmas.Written.{grew_none, grew_on, grew_to, written_more}
use Rattle.mime_store.proofs.SuffixTreeLemmas.Siblings.{sibling_keeps, sibling_sized, tree_from_records, sibling_count-as_tree, nodes-push}
use Rattle.mime_store.proofs.SuffixTreeLemmas.Siblings.{leaf_count-push, leaves-push, last_byte, last_byte-push, order-push}

-- the siblings so far are in order, and some path stands before the rest
pub record Ordered (xs : List Sibling) (rest : List PathRule) : Type 0 where
  pub before : List ℕ
  pub order : InOrder 0 (as_tree xs)
  pub last : last_byte 0 xs ≡ first_byte before
  pub rises : Rises before rest
  pub fresh : Fresh before rest

-- the siblings so far, and the entries that are left
pub record Sofar (old now rows : List ℕ) (count : ℕ) (es rest : List PathRule) : Type 0 where
  pub siblings : List Sibling
  pub by : ℕ
  pub grew : Grew old now by
  pub gathered : RecordsIn (IsSiblingRecord (Written now)) rows siblings
  pub counted : length siblings ≡ count
  pub wide : length rows ≡ 3 * count
  pub size : node_count (as_tree siblings) + nodes [] rest ≡ nodes [] es
  pub room : by + 12 * count + entries_room rest ≡ entries_room es
  pub leaves : (path : List ℕ) → leaves_at path (as_tree siblings) ++ pick path rest ≡ pick path es
  pub counts : leaf_count (as_tree siblings) + length rest ≡ length es
  pub ordered : Rises [] es → Ordered siblings rest

-- after no path each is new
pub none_fresh : (es : List PathRule) → Fresh [] es
none_fresh [] = tt
none_fresh (e ∷ es) = refl

-- at first no sibling is written
pub sofar_none : (old : List ℕ) (es : List PathRule) → Sofar old old [] 0 es es
sofar_none old es = record {
  siblings = [];
  by = 0;
  grew = grew_none old;
  gathered = refl;
  counted = refl;
  wide = refl;
  size = omega arith;
  room = omega arith;
  leaves = λ path. refl;
  counts = omega arith;
  ordered = λ h. record { before = []; order = tt; last = refl; rises = h; fresh = none_fresh es };
}

-- one sibling more was written
pub sofar_more : (old now next rows row : List ℕ) (count n : ℕ) (es rest : List PathRule) → Sofar old now rows count es rest
    → WritesSibling now next row n rest → Sofar old next (rows ++ row) (count + 1) es (drop n rest)
sofar_more old now next rows row count n es rest s w =
    let r = s.room in
    let r' = w.room in
    let z = s.size in
    let z' = w.size in
    record {
      siblings = s.siblings ++ w.sibling ∷ [];
      by = s.by + w.by;
      grew = grew_on old now next s.by w.by s.grew w.grew;
      gathered = records_push (IsSiblingRecord (Written next)) rows s.siblings w.sibling row
          (records_are (IsSiblingRecord (Written now)) (IsSiblingRecord (Written next))
          (sibling_keeps (Written now) (Written next) (written_more now next w.by w.grew)) rows s.siblings s.gathered)
          w.is;
      counted = length-append s.siblings (w.sibling ∷ []) ∙ ap (λ (m : ℕ). m + 1) s.counted;
      wide = length-append rows row ∙ omega (arith, s.wide, sibling_sized next w.sibling row w.is);
      size = omega (arith, nodes-push s.siblings w.sibling, z, z');
      room = omega (arith, r, r');
      leaves = λ path. ap (λ l. l ++ pick path (drop n rest)) (leaves-push path s.siblings w.sibling)
          ∙ append_assoc (leaves_at path (as_tree s.siblings)) (leaves_of path w.sibling) (pick path (drop n rest))
          ∙ ap (λ l. leaves_at path (as_tree s.siblings) ++ l) (w.leaves path) ∙ s.leaves path;
      counts = omega (arith, leaf_count-push s.siblings w.sibling, w.counts, s.counts);
      ordered = λ h. let o = s.ordered h in let g = w.goes o.before o.rises o.fresh in
          record {
            before = g.after;
            order = order-push 0 s.siblings w.sibling o.order (rw o.last g.here);
            last = last_byte-push 0 s.siblings w.sibling ∙ ap (λ (m : ℕ). next_byte m w.sibling) o.last ∙ g.now;
            rises = g.rises;
            fresh = g.fresh;
          };
    }

-- all siblings were written, and then their records
pub sofar_all : (old now new rows : List ℕ) (size count first : ℕ) (es : List PathRule) → Sofar old now rows count es [] → Grew now new size
    → CardsAt (Written new) first rows → IsBlock (Written new) count first es
sofar_all old now new rows size count first es s g c =
    let z = s.size in
    let stand = records_stand (IsSiblingRecord (Written new)) (IsSiblingRecord (Written new)) 3 new
    (λ sibling row is. (sibling_sized new sibling row is, is)) rows s.siblings first
    (records_are (IsSiblingRecord (Written now)) (IsSiblingRecord (Written new))
    (sibling_keeps (Written now) (Written new) (written_more now new size g)) rows s.siblings s.gathered) c.small c.stand in
    record {
      tree = as_tree s.siblings;
      counted = sibling_count-as_tree s.siblings ∙ s.counted;
      stand = tree_from_records (Written new) first s.siblings stand;
      leaves = λ path. sym (append-nil (leaves_at path (as_tree s.siblings))) ∙ s.leaves path;
      size = omega (arith, z);
      counts = omega (arith, s.counts);
      ordered = λ h. (s.ordered h).order;
    }

-- how much all of them took
pub sofar_grew : (old now new rows : List ℕ) (count : ℕ) (es : List PathRule) → Sofar old now rows count es []
    → Grew now new (4 * length rows) → Grew old new (entries_room es)
sofar_grew old now new rows count es s g =
    let r = s.room in
    grew_to old new (s.by + 4 * length rows) (entries_room es) (omega (arith, s.wide, r))
    (grew_on old now new s.by (4 * length rows) s.grew g)
