-- The pairs that a cache spells give each type the same parents.
use Rattle.std.proofs.Common.{◌≡◌, ℕ, suc, ◌+◌, ◌<◌, Bool, true, false, cond, List, [], ◌∷◌, length, map, get_or, Option, None, Some}
use Rattle.std.proofs.Common.{refl, sym, ap, ap₂, subst, ◌∙◌, arith, bytes_eq}
use Rattle.std.specs.Prelude.{option_map}
use Rattle.std.proofs.lemmas.Slice.Eq.{bytes_eq-Decides}
use Rattle.mime_base.specs.Cache.Bytes.{Stands, field}
use Rattle.mime_base.specs.Database.{PlainDatabase, pairs_of}
use Rattle.mime_base.specs.Database.Subclass.{above, parents, resolved}
use Rattle.mime_base.specs.Format.Header.{Offsets}
use Rattle.mime_base.specs.Format.Pairs.{PairsAt}
use Rattle.mime_lookup.specs.Spelling.{SpellsPairs}
use Rattle.mime_lookup.proofs.SpellingLemmas.Aliases.{resolved_once}
use Rattle.mime_lookup.proofs.SpellingLemmas.Mapped.{maps_agree}
use Rattle.mime_lookup.proofs.SpellingLemmas.Records.{same_offsets}
use Rattle.mime_view.specs.Lists.{KeysAt, place_of}
use Rattle.mime_view.specs.Parents.{ReadsParents, parents_at}
use Rattle.mime_view.proofs.ParentsLemmas.ParentLists.{parents_named}

-- texts that records name are determined by the bytes
keys_once : (c : List ℕ) (at size : ℕ) (keys others : List (List ℕ)) → length keys ≡ length others → KeysAt c at size keys
    → KeysAt c at size others → keys ≡ others
keys_once c at size [] [] long one other = refl
keys_once c at size [] (key ∷ others) long one other = absurd (omega arith)
keys_once c at size (key ∷ keys) [] long one other = absurd (omega arith)
keys_once c at size (key ∷ keys) (another ∷ others) long (here, rest) (there, more) =
    let first : key ≡ another = cc (here, there) in
    ap₂ (λ (x : List ℕ) (xs : List (List ℕ)). x ∷ xs) first (keys_once c (at + size) size keys others (omega arith) rest more)

-- a text stands at its place
placed_key : (keys : List (List ℕ)) (key : List ℕ) (place : ℕ) → place_of keys key ≡ Some place
    → (place < length keys) × (get_or keys place [] ≡ key)
placed_key [] key place is = absurd (cc is)
placed_key (first ∷ keys) key place is = by_first (bytes_eq first key) refl is (placed_key keys key)
  where
    later : (found : Option ℕ) → option_map suc found ≡ Some place
        → ((i : ℕ) → found ≡ Some i → (i < length keys) × (get_or keys i [] ≡ key))
        → (place < length (first ∷ keys)) × (get_or (first ∷ keys) place [] ≡ key)
    later None is more = absurd (cc is)
    later (Some i) is more =
        let next : suc i ≡ place = cc is in
        subst (λ (p : ℕ). (p < length (first ∷ keys)) × (get_or (first ∷ keys) p [] ≡ key)) next
        (omega (arith, (more i refl).0), (more i refl).1)

    by_first : (same : Bool) → bytes_eq first key ≡ same → cond same (Some 0) (option_map suc (place_of keys key)) ≡ Some place
        → ((i : ℕ) → place_of keys key ≡ Some i → (i < length keys) × (get_or keys i [] ≡ key))
        → (place < length (first ∷ keys)) × (get_or (first ∷ keys) place [] ≡ key)
    by_first true same is more =
        let here : 0 ≡ place = cc is in
        subst (λ (p : ℕ). (p < length (first ∷ keys)) × (get_or (first ∷ keys) p [] ≡ key)) here
        (omega arith, (bytes_eq-Decides first key).0 same)
    by_first false same is more = later (place_of keys key) is more

module _ (c : List ℕ) (at : ℕ) (some others : List (List ℕ × List ℕ)) (kinds : List (List ℕ)) (one : ReadsParents c at some kinds) where
  -- pairs that are read with the same types
  same_kinds : ReadsParents c at others kinds → (kind : List ℕ) → parents some kind ≡ parents others kind
  same_kinds other kind = by_place (place_of kinds kind) refl
    where
      by_place : (place : Option ℕ) → place_of kinds kind ≡ place → parents some kind ≡ parents others kind
      by_place None is = one.all kind is ∙ sym (other.all kind is)
      by_place (Some i) is =
          let key = placed_key kinds kind i is in
          let first = one.above i key.0 in
          let second = other.above i key.0 in
          ap (parents some) (sym key.1)
          ∙ keys_once c (parents_at c at i + 4) 4 (parents some (get_or kinds i [])) (parents others (get_or kinds i []))
          (sym first.count ∙ second.count) first.named second.named
          ∙ ap (parents others) key.1

  -- pairs that are read at one place
  parents_once : (types : List (List ℕ)) → ReadsParents c at others types → (kind : List ℕ) → parents some kind ≡ parents others kind
  parents_once types other =
      let same : types ≡ kinds =
      keys_once c (at + 4) 8 types kinds (sym other.types.count ∙ one.types.count) other.types.texts one.types.texts in
      same_kinds (subst (λ (ks : List (List ℕ)). ReadsParents c at others ks) same other)

-- databases that a cache spells have the same types above each type
pub above_once : (c : List ℕ) (b d : PlainDatabase) → SpellsPairs c b → SpellsPairs c d → (kind : List ℕ)
    → above (pairs_of b) kind ≡ above (pairs_of d) kind
unfolding above
above_once c b d one other kind =
    let places = same_offsets c other.offsets one.offsets other.header one.header in
    let here = parents_named c c (field c 0 2) one.offsets b.parents refl refl one.header one.parents in
    let there = parents_named c c (field c 0 2) other.offsets d.parents refl refl other.header other.parents in
    ap (map (resolved b.aliases)) (parents_once c (field c 0 2) b.parents d.parents one.parents.kinds here other.parents.kinds there kind)
    ∙ maps_agree (resolved b.aliases) (resolved d.aliases)
    (resolved_once c one.offsets.aliases b.aliases d.aliases one.aliases
    (subst (λ (o : Offsets). PairsAt (Stands c) o.aliases d.aliases) places other.aliases)) (parents d.parents kind)
