-- What stands at an offset is determined by the bytes, so what stands next is known from what was read.
use Rattle.std.proofs.Common.{◌≡◌, ℕ, suc, ◌+◌, ◌-◌, ◌*◌, ◌<◌, ◌≤◌, false, List, [], ◌∷◌, ◌++◌, length, get_or, Ok}
use Rattle.std.proofs.Common.{refl, ap, ◌∙◌, sym, subst, arith, length-append, true, true≢false}
use Rattle.std.specs.List.Sorted.{IsSortedBy}
use Rattle.std.proofs.Math.Seq.{get_or-append_seam}
use Rattle.std.proofs.lemmas.List.{get_or-map, get_or_append_left, length-map}
use Rattle.mime_base.specs.Cache.Bytes.{Stands}
use Rattle.mime_base.specs.Cache.Texts.{text_at}
use Rattle.mime_base.specs.Format.Pairs.{IsPair}
use Rattle.mime_base.specs.Format.Records.{CardsAt, ListAt, RecordsAt, Standing, TextAt}
use Rattle.mime_base.specs.Format.Sorted.{text_lt}
use Rattle.mime_base.proofs.CacheLemmas.TextsStand.{text_at-standing}
use Rattle.mime_load.specs.Lent.{plain_pair, plain_pairs}
use Rattle.mime_load.specs.Parts.{RecordAt}
use Rattle.mime_load.specs.declared.pair.LentPair.{LentPair}
use Rattle.mime_load.proofs.PairLemmas.{named_before}
use Rattle.mime_load.proofs.SameLemmas.{numbers_inside, same_numbers}

-- The next member of those whose records stand.
pub record NextRecord {X : Type 0} (S : Standing) (Is : X → List ℕ → Type 0) (there : ℕ) (before all : List X) : Type 0 where
  pub member : X
  pub more : List X
  pub whole : all ≡ before ++ member ∷ more
  pub stands : RecordAt S Is there member

-- there is a next one
pub next_record : {X : Type 0} (S : Standing) (size : ℕ) (Is : X → List ℕ → Type 0)
    → ((at : ℕ) (x y : X) → RecordAt S Is at x → RecordAt S Is at y → x ≡ y) → (at there : ℕ) (xs ys : List X)
    → length xs < length ys → at + size * length xs ≡ there → RecordsAt S size Is at xs → RecordsAt S size Is at ys
    → NextRecord S Is there xs ys
next_record S size Is same at there [] [] short place one other = absurd (omega arith)
next_record S size Is same at there [] (y ∷ ys) short place one (numbers, cards, is, rest) =
    let here : at ≡ there = (omega arith) ∙ place in
    record {
      member = y;
      more = ys;
      whole = refl;
      stands = record { numbers = numbers; cards = subst (λ (k : ℕ). CardsAt S k numbers) here cards; is = is };
    }
next_record S size Is same at there (x ∷ xs) [] short place one other = absurd (omega arith)
next_record S size Is same at there (x ∷ xs) (y ∷ ys) short place (ns, cs, is, rest) (ms, ds, js, others) =
    let first : x ≡ y =
    same at x y (record { numbers = ns; cards = cs; is = is }) (record { numbers = ms; cards = ds; is = js }) in
    let next = next_record S size Is same (at + size) there xs ys (omega arith) (move size (length xs) at there place) rest others in
    record {
      member = next.member;
      more = next.more;
      whole = ap (λ (z : _). z ∷ ys) (sym first) ∙ ap (λ (zs : List _). x ∷ zs) next.whole;
      stands = next.stands;
    }
  where
    move : (s n at next : ℕ) → at + s * suc n ≡ next → at + s + s * n ≡ next
    move s n at next is = omega (arith, is)

-- the records of a list lie in the cache
pub records_inside : {X : Type 0} (c : List ℕ) (size : ℕ) (Is : X → List ℕ → Type 0)
    → ((x : X) (numbers : List ℕ) → Is x numbers → 4 * length numbers ≡ size) → (at : ℕ) (xs : List X) → at ≤ length c
    → RecordsAt (Stands c) size Is at xs → at + size * length xs ≤ length c
records_inside c size Is long at [] inside stand = omega (arith, inside)
records_inside c size Is long at (x ∷ xs) inside (numbers, cards, is, rest) =
    let here : at + size ≤ length c = omega (arith, numbers_inside c at numbers cards, long x numbers is) in
    move size (length xs) at (length c) (records_inside c size Is long (at + size) xs here rest)
  where
    move : (s n at end : ℕ) → at + s + s * n ≤ end → at + s * suc n ≤ end
    move s n at end is = omega (arith, is)

-- so does the list
pub list_inside : {X : Type 0} (c : List ℕ) (size : ℕ) (Is : X → List ℕ → Type 0)
    → ((x : X) (numbers : List ℕ) → Is x numbers → 4 * length numbers ≡ size) → (at : ℕ) (xs : List X)
    → ListAt (Stands c) size Is at xs → at + 4 + size * length xs ≤ length c
list_inside c size Is long at xs list =
    records_inside c size Is long (at + 4) xs (omega (arith, numbers_inside c at (length xs ∷ []) list.count)) list.records

-- texts
pub same_text : (c : List ℕ) (at other : ℕ) (x y : List ℕ) → at ≡ other → TextAt (Stands c) at x → TextAt (Stands c) other y → x ≡ y
same_text c at other x y place one two =
    let first : text_at c at ≡ Ok x = text_at-standing c at x one.is_text one.stand in
    let second : text_at c other ≡ Ok y = text_at-standing c other y two.is_text two.stand in
    let same : text_at c at ≡ text_at c other = ap (text_at c) place in
    cc (first, second, same)

-- a pair has two numbers
pub pair_long : (c : List ℕ) (pair : List ℕ × List ℕ) (numbers : List ℕ) → IsPair (Stands c) pair numbers → 4 * length numbers ≡ 8
pair_long c pair numbers is = omega (arith, ap (λ (ns : List ℕ). length ns) is.2)

-- pairs
pub same_pair : (c : List ℕ) (at : ℕ) (x y : List ℕ × List ℕ) → RecordAt (Stands c) (IsPair (Stands c)) at x
    → RecordAt (Stands c) (IsPair (Stands c)) at y → x ≡ y
same_pair c at x y one two =
    let size : length one.numbers ≡ length two.numbers =
    ap (λ (ns : List ℕ). length ns) one.is.2 ∙ sym (ap (λ (ns : List ℕ). length ns) two.is.2) in
    let e : one.is.0 ∷ one.is.1 ∷ [] ≡ two.is.0 ∷ two.is.1 ∷ [] =
    sym one.is.2 ∙ same_numbers c at one.numbers two.numbers size one.cards two.cards ∙ two.is.2 in
    let names : x.0 ≡ y.0 = same_text c one.is.0 two.is.0 x.0 y.0 (ap (λ (ns : List ℕ). get_or ns 0 0) e) one.is.3 two.is.3 in
    let targets : x.1 ≡ y.1 = same_text c one.is.1 two.is.1 x.1 y.1 (ap (λ (ns : List ℕ). get_or ns 1 0) e) one.is.4 two.is.4 in
    let from : List ℕ → List ℕ → List ℕ × List ℕ = λ (a : List ℕ) (b : List ℕ). (a, b) in
    let h : from x.0 x.1 ≡ from y.0 y.1 = rw (names, targets) refl in h

-- the next of sorted pairs is not before the last of those before it
pub next_sorted : (xs more ys : List (List ℕ × List ℕ)) (y d : List ℕ × List ℕ) → ys ≡ xs ++ y ∷ more → IsSortedBy named_before ys
    → 0 < length xs → named_before y (get_or xs (length xs - 1) d) ≡ false
next_sorted xs more ys y d whole sorted some =
    let n : ℕ = length xs - 1 in
    let here = (subst (IsSortedBy named_before) whole sorted) (length xs - 1) d (omega arith)
    (omega (arith, some, length-append xs (y ∷ more))) in
    let seam : get_or (xs ++ y ∷ more) (length xs - 1 + 1) d ≡ y =
    ap (λ (k : ℕ). get_or (xs ++ y ∷ more) k d) (omega (arith, some)) ∙ get_or-append_seam xs y more d in
    let before : get_or (xs ++ y ∷ more) (length xs - 1) d ≡ get_or xs (length xs - 1) d =
    get_or_append_left xs (y ∷ more) d (length xs - 1) (omega (arith, some)) in
    rw (seam, before) at here

-- a pair before the last of those before it is not the next of sorted ones
pub pairs_fall : (before : List LentPair) (pair : LentPair) (more ys : List (List ℕ × List ℕ)) (y : List ℕ × List ℕ)
    → ys ≡ plain_pairs before ++ y ∷ more → IsSortedBy named_before ys → plain_pair pair ≡ y → 0 < length before
    → text_lt pair.name.now (get_or before (length before - 1) pair).name.now ≡ true → ⊥
pairs_fall before pair more ys y whole sorted same some falls =
    let size = length-map before plain_pair in
    let place : length (plain_pairs before) - 1 ≡ length before - 1 = omega (arith, size) in
    let here : get_or (plain_pairs before) (length (plain_pairs before) - 1) y ≡ plain_pair (get_or before (length before - 1) pair) =
    ap (λ (k : ℕ). get_or (plain_pairs before) k y) place
    ∙ get_or-map plain_pair before (length before - 1) pair y (omega (arith, some)) in
    let not_less : named_before y (get_or (plain_pairs before) (length (plain_pairs before) - 1) y) ≡ false =
    next_sorted (plain_pairs before) more ys y y whole sorted (omega (arith, size, some)) in
    let less : named_before y (get_or (plain_pairs before) (length (plain_pairs before) - 1) y) ≡ true =
    ap (λ (p : List ℕ × List ℕ). named_before p (get_or (plain_pairs before) (length (plain_pairs before) - 1) y)) (sym same)
    ∙ ap (named_before (plain_pair pair)) here ∙ falls in
    true≢false (sym less ∙ not_less)
