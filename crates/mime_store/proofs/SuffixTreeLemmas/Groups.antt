-- Endings that go on with one byte.
use Rattle.std.proofs.Common.{◌≡◌, ℕ, ◌+◌, ◌-◌, ◌<◌, ◌≤◌, List, [], ◌∷◌, ◌++◌, length, take, drop, get_or, map, refl, sym, ap}
use Rattle.std.proofs.Common.{subst, ◌∙◌, arith, add-one}
use Rattle.std.proofs.lemmas.List.{drop_more, drop_all, drop-drop, take-map, drop-map, length-map, length-take-le, take-append-drop}
use Rattle.std.proofs.lemmas.List.{take_rest}
use Rattle.mime_store.specs.Written.{Grew, Written}
use Rattle.mime_store.specs.SuffixTree.{PathRule, ClearOf, IsBlock, StartAll, WritesSibling, entries_room, ending_entry, kinds_room, nodes, ending_path}
use Rattle.mime_base.specs.Format.Room.{text_room}
use Rattle.mime_base.specs.Format.Stored.{weight_and_flags}
use Rattle.mime_base.specs.Format.Records.{TextAt}
use Rattle.std.proofs.lemmas.List.Sums.{sum_by-append, sum_by-cons}
use Rattle.mime_store.specs.declared.ending.Ending.{Ending}
use Rattle.mime_store.proofs.SuffixTreeLemmas.Paths.{tail_of, nodes_split}
use Rattle.mime_store.proofs.SuffixTreeLemmas.OneSibling.{group_sibling, kinds-tails, leaf_sibling}

-- one entry more that begins with the byte
pub start_push : (b : ℕ) (es : List PathRule) (e : PathRule) → StartAll b es → (k : List ℕ) × (e.0 ≡ b ∷ k) → StartAll b (es ++ e ∷ [])
start_push b [] e h s = (s.0, s.1, tt)
start_push b (x ∷ xs) e h s = (h.0, h.1, start_push b xs e h.2 s)

-- an ending with this byte at the depth
pub starts : (depth : ℕ) (e : Ending) (b : ℕ) → depth < length (ending_path e) → get_or (ending_path e) depth 0 ≡ b
    → (k : List ℕ) × ((ending_entry depth e).0 ≡ b ∷ k)
starts depth e b lt at =
    (drop (depth + 1) (ending_path e), drop_more (ending_path e) depth 0 lt ∙ ap (λ (x : ℕ). x ∷ drop (depth + 1) (ending_path e)) at)

-- an ending that is at its end
pub ends : (depth : ℕ) (e : Ending) → length (ending_path e) ≤ depth → (ending_entry depth e).0 ≡ []
ends depth e le = drop_all depth (ending_path e) le

-- one byte deeper
pub deeper : (depth : ℕ) (es : List Ending) → map (ending_entry (depth + 1)) es ≡ map tail_of (map (ending_entry depth) es)
deeper depth [] = refl
deeper depth (e ∷ es) =
    ap (λ (k : List ℕ). (k, e.rule.now) ∷ map (ending_entry (depth + 1)) es) (sym (drop-drop 1 depth (ending_path e)))
    ∙ ap (λ (l : List PathRule). tail_of (ending_entry depth e) ∷ l) (deeper depth es)

-- the first of a list, and as many more
take_first : {X : Type 0} (x : X) (xs : List X) (r : ℕ) → take (r + 1) (x ∷ xs) ≡ x ∷ take r xs
take_first x xs r = rw add-one refl

-- what is left after the first, and as many more
drop_first : {X : Type 0} (x : X) (xs : List X) (r : ℕ) → drop (r + 1) (x ∷ xs) ≡ drop r xs
drop_first x xs r = rw add-one refl

-- the first ending, and those after it that go on with its byte
pub record Group (depth b r : ℕ) (endings : List Ending) : Type 0 where
  pub all : StartAll b (take (r + 1) (map (ending_entry depth) endings))
  pub clear : ClearOf b (drop (r + 1) (map (ending_entry depth) endings))
  pub within : r + 1 ≤ length (map (ending_entry depth) endings)

-- endings that go on with one byte are a group
pub a_group : (depth b r : ℕ) (endings : List Ending) (e : Ending) (rest : List Ending) → endings ≡ e ∷ rest → r ≤ length rest
    → (k : List ℕ) × ((ending_entry depth e).0 ≡ b ∷ k)
    → StartAll b (map (ending_entry depth) (take r rest)) → ClearOf b (map (ending_entry depth) (drop r rest)) → Group depth b r endings
a_group depth b r endings e rest is le s all clear =
    rw is (record {
      all = rw (take_first, take-map (ending_entry depth) r rest) (s.0, s.1, all);
      clear = rw (drop_first, drop-map (ending_entry depth) r rest) clear;
      within = omega (arith, length-map rest (ending_entry depth));
    })

-- what the group has below it takes less than all
pub group_room : (depth b r : ℕ) (endings : List Ending) → Group depth b r endings
    → entries_room (map (ending_entry (depth + 1)) (take (r + 1) endings)) + 12 ≤ entries_room (map (ending_entry depth) endings)
group_room depth b r endings g =
    let es = map (ending_entry depth) endings in
    let w = g.within in
    let gs = take (r + 1) es in
    let fs = drop (r + 1) es in
    let some : 0 < length gs = rw (length-take-le (r + 1) es w) (omega arith) in
    let long = nodes_split b gs fs some g.all g.clear in
    let below : map (ending_entry (depth + 1)) (take (r + 1) endings) ≡ map tail_of gs =
    deeper depth (take (r + 1) endings) ∙ ap (map tail_of) (sym (take-map (ending_entry depth) (r + 1) endings)) in
    let whole = take-append-drop (r + 1) es in
    let kinds : kinds_room es ≡ kinds_room gs + kinds_room fs =
    ap kinds_room (sym whole) ∙ sum_by-append (λ (x : PathRule). text_room x.1.kind) gs fs in
    omega (arith, long, ap entries_room below, ap (nodes []) whole, kinds, kinds-tails gs)

-- an ending that ends here was written as a leaf
pub first_leaf : (depth kind : ℕ) (old new : List ℕ) (endings : List Ending) (e : Ending) (rest : List Ending)
    → endings ≡ e ∷ rest → length (ending_path e) ≤ depth → Grew old new (text_room e.rule.now.kind)
    → TextAt (Written new) kind e.rule.now.kind
    → WritesSibling old new (0 ∷ kind ∷ weight_and_flags e.rule.now ∷ []) 1 (map (ending_entry depth) endings)
first_leaf depth kind old new endings e rest is le g w =
    rw is (leaf_sibling old new (drop depth (ending_path e)) kind e.rule.now (map (ending_entry depth) rest) (ends depth e le) g w)

-- a group was written as a node, after its block
pub first_group : (depth b r count first : ℕ) (old new : List ℕ) (endings : List Ending) → Group depth b r endings
    → Grew old new (entries_room (map (ending_entry (depth + 1)) (take (r + 1) endings)))
    → IsBlock (Written new) count first (map (ending_entry (depth + 1)) (take (r + 1) endings))
    → WritesSibling old new (b ∷ count ∷ first ∷ []) (r + 1) (map (ending_entry depth) endings)
first_group depth b r count first old new endings g grew t =
    let es = map (ending_entry depth) endings in
    let below : map (ending_entry (depth + 1)) (take (r + 1) endings) ≡ map tail_of (take (r + 1) es) =
    deeper depth (take (r + 1) endings) ∙ ap (map tail_of) (sym (take-map (ending_entry depth) (r + 1) endings)) in
    group_sibling old new b count first (r + 1) es (omega arith) g.within g.all g.clear
    (subst (λ (l : List PathRule). Grew old new (entries_room l)) below grew)
    (subst (λ (l : List PathRule). IsBlock (Written new) count first l) below t)

-- the type of the first ending fits where all fit
pub first_fits : (depth : ℕ) (endings : List Ending) (e : Ending) (rest : List Ending) → endings ≡ e ∷ rest
    → text_room e.rule.now.kind ≤ entries_room (map (ending_entry depth) endings)
first_fits depth endings e rest is =
    rw is (omega (arith, sum_by-cons (λ (x : PathRule). text_room x.1.kind) (ending_entry depth e) (map (ending_entry depth) rest)))

-- the part from a place on
pub rest_is : (depth at : ℕ) (endings : List Ending)
    → map (ending_entry depth) (take (length endings - at) (drop at endings)) ≡ drop at (map (ending_entry depth) endings)
rest_is depth at endings = ap (map (ending_entry depth)) (take_rest endings at) ∙ sym (drop-map (ending_entry depth) at endings)
