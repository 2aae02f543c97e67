-- What markers leave, a directory more at a time.
use Rattle.std.proofs.Common.{◌≡◌, ℕ, ◌+◌, ◌<◌, Bool, true, false, not, ◌&&◌, ◌||◌, List, [], ◌∷◌, ◌++◌, ap, ap₂, ◌∙◌, refl, sym}
use Rattle.std.proofs.Common.{append_assoc, append-nil, drop, get_or, length}
use Rattle.std.proofs.lemmas.Grind.{flat_map-append}
use Rattle.std.proofs.lemmas.List.Elements.{filter-append, filter_agree}
use Rattle.std.proofs.lemmas.List.Folds.{list_any-append}
use Rattle.std.specs.List.{flat_map}
use Rattle.std.specs.Str.{bytes_eq}
use Rattle.std.proofs.lemmas.List.{drop_more}
use Rattle.mime_text.proofs.Merges.Filters.{filter-all, filter-filter}
use Rattle.mime_text.proofs.Merges.Sets.{or-turn}
use Rattle.mime_text.specs.Merging.{is_among, undeleted, without}
use Rattle.mime_text.specs.Merging.Gathering.{AddsPart, KeepsParts}

-- ---- tests

-- neither of two tests
not-or : (a b : Bool) → (not b && not a) ≡ not (a || b)
not-or true true = refl
not-or true false = refl
not-or false true = refl
not-or false false = refl

-- a type more of those that are left
pub kinds-more : (all : List (List ℕ)) (i : ℕ) (here : List ℕ) → i < length all → here ≡ get_or all i here
    → (old new : List (List ℕ)) (kind : List ℕ) → is_among new kind ≡ is_among (here ∷ old) kind
    → is_among (new ++ drop (i + 1) all) kind ≡ is_among (old ++ drop i all) kind
kinds-more all i here inside is old new kind more =
    let rest = drop (i + 1) all in
    list_any-append (bytes_eq kind) new rest ∙ ap (λ b. b || is_among rest kind) more
    ∙ or-turn (bytes_eq kind here) (is_among old kind) (is_among rest kind)
    ∙ sym (list_any-append (bytes_eq kind) old (here ∷ rest))
    ∙ ap (λ first. is_among (old ++ first ∷ rest) kind) is
    ∙ ap (λ kinds. is_among (old ++ kinds) kind) (sym (drop_more all i here inside))

module _ {A : Type 0} (kind_of : A → List ℕ) where
  -- ---- items

  -- types that test alike leave the same
  pub without-alike : (kinds others : List (List ℕ)) → ((kind : List ℕ) → is_among kinds kind ≡ is_among others kind) → (items : List A)
      → without kind_of kinds items ≡ without kind_of others items
  without-alike kinds others alike items = filter_agree _ _ (λ item. ap not (alike (kind_of item))) items

  -- what one list of types leaves of what another leaves
  pub without-both : (kinds others : List (List ℕ)) (items : List A)
      → without kind_of kinds (without kind_of others items) ≡ without kind_of (kinds ++ others) items
  without-both kinds others items =
      filter-filter _ _ items
      ∙ filter_agree _ _ (λ item. not-or (is_among kinds (kind_of item)) (is_among others (kind_of item))
      ∙ ap not (sym (list_any-append (bytes_eq (kind_of item)) kinds others))) items

  -- what directories delete is left out of a less preferred one
  pub undeleted-more : (parts : List (List A × List (List ℕ))) (part : List A × List (List ℕ))
      → undeleted kind_of (parts ++ part ∷ []) ≡ undeleted kind_of parts ++ without kind_of (flat_map (λ p. p.1) parts) part.0
  undeleted-more [] part = append-nil part.0 ∙ sym (filter-all (λ item. not (is_among [] (kind_of item))) (λ item. refl) part.0)
  undeleted-more (first ∷ parts) part =
      let others = flat_map (λ p. p.1) parts in
      ap (λ items. first.0 ++ without kind_of first.1 items) (undeleted-more parts part)
      ∙ ap (λ items. first.0 ++ items) (filter-append
      (λ item. not (is_among first.1 (kind_of item))) (undeleted kind_of parts) (without kind_of others part.0)
      ∙ ap (λ items. without kind_of first.1 (undeleted kind_of parts) ++ items) (without-both first.1 others part.0))
      ∙ sym (append_assoc first.0 (without kind_of first.1 (undeleted kind_of parts)) (without kind_of (first.1 ++ others) part.0))

  -- ---- what is kept

  -- nothing is kept of no directories
  pub keeps-none : KeepsParts kind_of [] [] []
  keeps-none = record { kept = refl; kinds = λ kind. refl }

  -- a directory more
  pub keeps-more : (items : List A) (deleted : List (List ℕ)) (part : List A × List (List ℕ))
      (new_items : List A) (new_deleted : List (List ℕ)) (parts : List (List A × List (List ℕ)))
      → KeepsParts kind_of items deleted parts → AddsPart kind_of items deleted part new_items new_deleted
      → KeepsParts kind_of new_items new_deleted (parts ++ part ∷ [])
  keeps-more items deleted part new_items new_deleted parts keeps adds = record {
    kept = adds.kept ∙ ap₂ ◌++◌ keeps.kept (without-alike deleted (flat_map (λ p. p.1) parts) keeps.kinds part.0)
        ∙ sym (undeleted-more parts part);
    kinds = λ kind.
        adds.kinds kind ∙ list_any-append (bytes_eq kind) deleted part.1
        ∙ ap (λ b. b || is_among part.1 kind) (keeps.kinds kind)
        ∙ sym (ap (λ kinds. is_among kinds kind) (flat_map-append (λ p. p.1) parts (part ∷ [])
        ∙ ap (λ kinds. flat_map (λ p. p.1) parts ++ kinds) (append-nil part.1))
        ∙ list_any-append (bytes_eq kind) (flat_map (λ p. p.1) parts) part.1);
  }
