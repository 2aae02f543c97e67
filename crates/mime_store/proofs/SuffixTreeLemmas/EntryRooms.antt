-- What entries take one after another, as nodes past what each shares with the one before it.
use Rattle.std.proofs.Common.{◌≡◌, ℕ, ◌+◌, ◌<◌, ◌≤◌, cond, eqb, nat_eq, true, false, List, [], ◌∷◌, ◌++◌, length}
use Rattle.std.proofs.Common.{get_or, map, take, drop, refl, sym, ap, ◌∙◌, arith}
use Rattle.std.specs.List.{common_prefix_len}
use Rattle.std.proofs.lemmas.List.{map-append, take-append-drop}
use Rattle.std.proofs.lemmas.List.Sums.{sum_by-append, sum_by-cons}
use Rattle.mime_base.specs.Format.Room.{text_room}
use Rattle.mime_store.specs.SuffixTree.{PathRule, common, ending_room, entries_room, ending_entry, ending_path}
use Rattle.mime_store.specs.declared.ending.Ending.{Ending}
use Rattle.mime_store.proofs.ListLemmas.Loops.{views_more}
use Rattle.mime_store.proofs.SuffixTreeLemmas.Paths.{last_path, nodes-append}

-- the common front, as the code counts it
pub common-is : (xs ys : List ℕ) → common xs ys ≡ common_prefix_len nat_eq xs ys
common-is [] ys = refl
common-is (x ∷ xs) [] = refl
common-is (x ∷ xs) (y ∷ ys) =
    let ih = common-is xs ys in
    elim (eqb x y) as (λ t. ◌≡◌ {A = ℕ} (cond t (common xs ys + 1) 0) (cond t (1 + common_prefix_len nat_eq xs ys) 0)) [
      | true ↦ omega
          (arith, ih)
      | false ↦ refl
    ]

-- what one entry more takes
entries_room-push : (es : List PathRule) (e : PathRule) → entries_room (es ++ e ∷ []) ≡ entries_room es + ending_room (last_path [] es) e
entries_room-push es e =
    omega (
      arith,
      nodes-append [] es (e ∷ []),
      sum_by-append (λ (x : PathRule). text_room x.1.kind) es (e ∷ []),
      sum_by-cons (λ (x : PathRule). text_room x.1.kind) e [],
    )

-- the last of some entries and one more
last_path-push : (before : List ℕ) (es : List PathRule) (e : PathRule) → last_path before (es ++ e ∷ []) ≡ e.0
last_path-push before [] e = refl
last_path-push before (x ∷ es) e = last_path-push x.0 es e

-- what one ending more takes
pub entries_more : (endings : List Ending) (i : ℕ) (x : Ending) → i < length endings → x ≡ get_or endings i x
    → entries_room (map (ending_entry 0) (take (i + 1) endings))
    ≡ entries_room (map (ending_entry 0) (take i endings))
    + ending_room (last_path [] (map (ending_entry 0) (take i endings))) (ending_entry 0 x)
entries_more endings i x lt e =
    ap entries_room (views_more (ending_entry 0) endings i x lt e)
    ∙ entries_room-push (map (ending_entry 0) (take i endings)) (ending_entry 0 x)

-- the last path after one ending more
pub last_more : (endings : List Ending) (i : ℕ) (x : Ending) → i < length endings → x ≡ get_or endings i x
    → last_path [] (map (ending_entry 0) (take (i + 1) endings)) ≡ (ending_path x)
last_more endings i x lt e =
    ap (last_path []) (views_more (ending_entry 0) endings i x lt e)
    ∙ last_path-push [] (map (ending_entry 0) (take i endings)) (ending_entry 0 x)

-- the first of them take at most what all take
pub entries_within : (endings : List Ending) (n : ℕ)
    → entries_room (map (ending_entry 0) (take n endings)) ≤ entries_room (map (ending_entry 0) endings)
entries_within endings n =
    let es = map (ending_entry 0) (take n endings) in
    let fs = map (ending_entry 0) (drop n endings) in
    let whole : map (ending_entry 0) endings ≡ es ++ fs =
    ap (map (ending_entry 0)) (sym (take-append-drop n endings)) ∙ map-append (ending_entry 0) (take n endings) (drop n endings) in
    omega (arith, ap entries_room whole, nodes-append [] es fs, sum_by-append (λ (x : PathRule). text_room x.1.kind) es fs)
