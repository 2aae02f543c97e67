-- Pairs of texts that stand in a cache: their first texts are its keys, and what they give is found by the place of a key.
use Rattle.std.proofs.Common.{◌≡◌, ℕ, zero, suc, ◌+◌, ◌*◌, ◌<◌, Bool, true, false, List, [], ◌∷◌, length, map, get_or}
use Rattle.std.proofs.Common.{Option, None, Some, refl, sym, ◌∙◌, arith}
use Rattle.std.specs.Prelude.{bytes_eq, option_map, Ok}
use Rattle.std.proofs.lemmas.List.{length-map}
use Rattle.mime_base.specs.Cache.Bytes.{field}
use Rattle.mime_base.specs.Cache.Texts.{text_at}
use Rattle.mime_view.specs.Lists.{KeysAt, ReadsKeys, place_of}
use Rattle.mime_view.specs.Pairs.{ReadsPairEntries, ReadsPairs, looked_up}

-- a text and what it gives
abbrev pub Pair : Type 0
Pair = List ℕ × List ℕ

-- the pair beyond the last
abbrev pub none : Pair
none = ([], [])

-- the first texts of pairs
abbrev pub names : List Pair → List (List ℕ)
names pairs = map (λ pair. pair.0) pairs

-- the first names of pairs that stand are keys that stand
keys_at : (c : List ℕ) (at : ℕ) (pairs : List Pair) → ReadsPairEntries c at pairs → KeysAt c at 8 (names pairs)
keys_at c at [] stand = stand
keys_at c at (pair ∷ pairs) stand = (stand.0, keys_at c (at + 8) pairs stand.2)

-- a list of pairs is a list of their first names
pub reads_keys : (c : List ℕ) (at : ℕ) (pairs : List Pair) → ReadsPairs c at pairs → ReadsKeys c at (names pairs)
reads_keys c at pairs reads =
    let size = length-map pairs (λ (pair : Pair). pair.0) in
    let inside = reads.inside in
    record {
      count = reads.count ∙ sym size;
      inside = omega arith;
      texts = keys_at c (at + 4) pairs reads.entries;
      sorted = reads.sorted;
    }

-- the second name of the pair i stands at the second number of the record i
pub target_at : (c : List ℕ) (at : ℕ) (pairs : List Pair) (i : ℕ) → ReadsPairEntries c at pairs → i < length pairs
    → text_at c (field c (at + 8 * i) 1) ≡ Ok (get_or pairs i none).1
target_at c at [] i stand l = absurd (omega arith)
target_at c at (p ∷ ps) zero stand l = let e : at + 8 * 0 ≡ at = omega arith in rw e stand.1
target_at c at (p ∷ ps) (suc i) stand l =
    let e : at + 8 * suc i ≡ at + 8 + 8 * i = omega arith in
    rw e (target_at c (at + 8) ps i stand.2 (omega arith))

-- what a key gives, by its place
pub looked_up-place_of : (pairs : List Pair) (key : List ℕ)
    → looked_up pairs key ≡ option_map (λ i. (get_or pairs i none).1) (place_of (names pairs) key)
looked_up-place_of [] key = refl
looked_up-place_of (pair ∷ pairs) key = by_first (bytes_eq pair.0 key) refl (looked_up-place_of pairs key)
  where
    by_place : (o : Option ℕ) → option_map (λ i. (get_or pairs i none).1) o
        ≡ option_map (λ i. (get_or (pair ∷ pairs) i none).1) (option_map suc o)
    by_place None = refl
    by_place (Some i) = refl

    by_first : (same : Bool) → bytes_eq pair.0 key ≡ same
        → looked_up pairs key ≡ option_map (λ i. (get_or pairs i none).1) (place_of (names pairs) key)
        → looked_up (pair ∷ pairs) key ≡ option_map (λ i. (get_or (pair ∷ pairs) i none).1) (place_of (names (pair ∷ pairs)) key)
    by_first true is more = rw is refl
    by_first false is more = rw is (more ∙ by_place (place_of (names pairs) key))

-- what a key gives where the place of its pair is known, or that there is none
pub looked_up-at : (pairs : List Pair) (key : List ℕ) (place : Option ℕ) → place ≡ place_of (names pairs) key
    → looked_up pairs key ≡ option_map (λ i. (get_or pairs i none).1) place
looked_up-at pairs key place is = rw is (looked_up-place_of pairs key)
