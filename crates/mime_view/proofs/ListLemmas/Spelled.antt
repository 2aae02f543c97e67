-- Pairs that stand in a cache are read as their list says, whatever the order in which they stand.
use Rattle.std.proofs.Common.{◌≡◌, ℕ, ◌+◌, ◌*◌, ◌<◌, Bool, true, false, List, [], ◌∷◌, length, get_or, refl, sym, ap, ap₂, ◌∙◌, arith}
use Rattle.std.specs.Prelude.{Option, bytes_eq}
use Rattle.std.specs.Option.{option_map_or}
use Rattle.std.specs.List.Sorted.{IsSortedBy}
use Rattle.std.proofs.lemmas.List.{get_or-map, length-map}
use Rattle.mime_base.specs.Cache.Bytes.{Stands}
use Rattle.mime_base.specs.Cache.Texts.{text_at}
use Rattle.mime_base.specs.Database.Subclass.{resolved}
use Rattle.mime_base.specs.Format.Pairs.{IsPair, PairsAt}
use Rattle.mime_base.specs.Format.Records.{RecordsAt}
use Rattle.mime_base.specs.Format.Sorted.{IsSortedByText, text_lt, with_key}
use Rattle.mime_view.specs.Pairs.{ReadsPairEntries, ReadsPairs, looked_up}
use Rattle.mime_view.specs.Lists.{AreSorted}
use Rattle.mime_view.proofs.ListLemmas.PairTexts.{Pair, names, none}
use Rattle.mime_view.proofs.ListLemmas.Records.{count_read, first_read, list_inside, second_read, text_read}

-- pairs in records are read by the offsets that their numbers name
pairs_read : (c : List ℕ) (at : ℕ) (pairs : List Pair) → RecordsAt (Stands c) 8 (IsPair (Stands c)) at pairs → ReadsPairEntries c at pairs
pairs_read c at [] stand = stand
pairs_read c at (pair ∷ pairs) (numbers, here, (first, second, are, name, target), rest) =
    let here = rw are at here in
    let first_at = first_read c at first (second ∷ []) here in
    let second_at = second_read c at first second [] here in
    let first_text = ap (text_at c) first_at ∙ text_read c first pair.0 name in
    let second_text = ap (text_at c) second_at ∙ text_read c second pair.1 target in
    (first_text, second_text, pairs_read c (at + 8) pairs rest)

-- a record of a pair has two numbers
pair_size : (c : List ℕ) (pair : Pair) (numbers : List ℕ) → IsPair (Stands c) pair numbers → 4 * length numbers ≡ 8
pair_size c pair numbers (first, second, are, name, target) = ap (λ (ns : List ℕ). 4 * length ns) are

-- the first pair of a key is the first of the pairs of the key
looked_up-with_key : (pairs : List Pair) (key : List ℕ) → looked_up pairs key ≡ looked_up (with_key (λ pair. pair.0) key pairs) key
looked_up-with_key [] key = refl
looked_up-with_key (pair ∷ pairs) key = by_first (bytes_eq pair.0 key) refl (looked_up-with_key pairs key)
  where
    by_first : (same : Bool) → bytes_eq pair.0 key ≡ same → looked_up pairs key ≡ looked_up (with_key (λ pair. pair.0) key pairs) key
        → looked_up (pair ∷ pairs) key ≡ looked_up (with_key (λ pair. pair.0) key (pair ∷ pairs)) key
    by_first true is more = rw is (rw is refl)
    by_first false is more = rw is more

-- sorted pairs of one name stand in their old order, so the first of a key is the same
pub looked_up-sorted : (pairs entries : List Pair) (key : List ℕ) → IsSortedByText (λ pair. pair.0) pairs entries
    → looked_up entries key ≡ looked_up pairs key
looked_up-sorted pairs entries key sorted =
    looked_up-with_key entries key ∙ ap (λ (ps : List Pair). looked_up ps key) (sorted.ties key) ∙ sym (looked_up-with_key pairs key)

-- pairs that are sorted by their names have sorted names
names_sorted : (entries : List Pair) → IsSortedBy (λ left right. text_lt left.0 right.0) entries → AreSorted (names entries)
names_sorted entries sorted k d low within =
    let size = length-map entries (λ (pair : Pair). pair.0) in
    let name : (i : ℕ) → i < length entries → get_or (names entries) i d ≡ (get_or entries i none).0 =
    λ i l. get_or-map (λ (pair : Pair). pair.0) entries i none d l in
    ap₂ text_lt (name (k + 1) (omega arith)) (name k (omega arith)) ∙ sorted k none low (omega arith)

-- a list of pairs that stands is read as its entries
pub pairs_reads : (c : List ℕ) (at : ℕ) (pairs : List Pair) → (stand : PairsAt (Stands c) at pairs) → ReadsPairs c at stand.entries
pairs_reads c at pairs stand = record {
  count = count_read c 8 (IsPair (Stands c)) at stand.entries stand.stand;
  inside = list_inside c 8 (IsPair (Stands c)) at stand.entries (pair_size c) stand.stand;
  entries = pairs_read c (at + 4) stand.entries stand.stand.records;
  sorted = names_sorted stand.entries stand.sorted.in_order;
}

-- what was found for a type, or the type itself where nothing was
abbrev pub found_or : Option (List ℕ) → List ℕ → List ℕ
found_or found kind = option_map_or (λ name. name) found kind

-- a type is resolved by what its pair gives
pub resolved-looked_up : (pairs : List Pair) (kind : List ℕ) → resolved pairs kind ≡ found_or (looked_up pairs kind) kind
unfolding resolved
resolved-looked_up [] kind = refl
resolved-looked_up (pair ∷ pairs) kind = by_first (bytes_eq pair.0 kind) refl (resolved-looked_up pairs kind)
  where
    by_first : (same : Bool) → bytes_eq pair.0 kind ≡ same → resolved pairs kind ≡ found_or (looked_up pairs kind) kind
        → resolved (pair ∷ pairs) kind ≡ found_or (looked_up (pair ∷ pairs) kind) kind
    by_first true is more = rw is refl
    by_first false is more = rw is more
