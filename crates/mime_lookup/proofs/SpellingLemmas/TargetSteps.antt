-- An alias step by the targets of the aliases that a cache spells.
use Rattle.std.proofs.Common.{◌≡◌, ◌⊎◌, ℕ, Bool, true, false, cond, List, [], ◌∷◌, refl, sym, subst, inl, inr, ◌∙◌, bytes_eq}
use Rattle.std.specs.List.{All}
use Rattle.std.proofs.lemmas.List.Elements.{All-head, All-tail}
use denote.Bor.{Bor}
use Rattle.mime_base.specs.Cache.Bytes.{Stands, field}
use Rattle.mime_base.specs.Database.Subclass.{resolved}
use Rattle.mime_base.specs.Format.Header.{HeaderAt, Offsets}
use Rattle.mime_base.specs.Format.Pairs.{IsPair, PairsAt}
use Rattle.mime_base.specs.Format.Records.{ListAt}
use Rattle.mime_load.proofs.NextRecords.{list_inside, pair_long}
use Rattle.mime_lookup.specs.Cached.{IsCacheText}
use Rattle.mime_lookup.specs.ReadBack.{AreTargetsOf, target_in}
use Rattle.mime_lookup.specs.declared.name_map.NameMap.{NameMap}
use Rattle.mime_lookup.proofs.SpellingLemmas.Aliases.{resolved_once}
use Rattle.mime_lookup.proofs.SpellingLemmas.Records.{same_offsets}
use Rattle.mime_lookup.proofs.SpellingLemmas.RuleKinds.{targets_texts}
use Rattle.mime_view.specs.Lists.{LiesList}
use Rattle.mime_view.specs.Pairs.{IsUnaliased}
use Rattle.mime_view.proofs.ListLemmas.Headers.{aliases_read}
use Rattle.mime_view.proofs.ListLemmas.Records.{count_read}

-- one alias step gives the type itself, or one of the targets
resolved_given : (c : List ℕ) (pairs : List (List ℕ × List ℕ)) (kind : List ℕ) → All (λ pair. IsCacheText c pair.1) pairs
    → (resolved pairs kind ≡ kind) ⊎ IsCacheText c (resolved pairs kind)
unfolding resolved
resolved_given c [] kind targets = inl refl
resolved_given c (pair ∷ pairs) kind targets =
    by_test (bytes_eq pair.0 kind)
    (resolved_given c pairs kind (All-tail (λ (p : List ℕ × List ℕ). IsCacheText c p.1) pair pairs targets))
  where
    by_test : (t : Bool) → (resolved pairs kind ≡ kind) ⊎ IsCacheText c (resolved pairs kind)
        → (cond t pair.1 (resolved pairs kind) ≡ kind) ⊎ IsCacheText c (cond t pair.1 (resolved pairs kind))
    by_test true rest = inr (All-head (λ (p : List ℕ × List ℕ). IsCacheText c p.1) pair pairs targets)
    by_test false rest = rest

-- a list of pairs that stands lies in the cache
pub pairs_inside : (c : List ℕ) (at : ℕ) (entries : List (List ℕ × List ℕ)) → ListAt (Stands c) 8 (IsPair (Stands c)) at entries
    → LiesList c at 8
pairs_inside c at entries stand =
    rw (count_read c 8 (IsPair (Stands c)) at entries stand) (list_inside c 8 (IsPair (Stands c)) (pair_long c) at entries stand)

module _ (c : List ℕ) (targets : NameMap (Bor (List ℕ))) (of_cache : AreTargetsOf c targets) where
  -- it is that of any aliases that the cache spells
  pub target-resolved : (offsets : Offsets) (pairs : List (List ℕ × List ℕ)) → HeaderAt (Stands c) offsets
      → PairsAt (Stands c) offsets.aliases pairs → (kind : List ℕ) → target_in targets kind ≡ resolved pairs kind
  target-resolved offsets pairs header stand kind =
      let places = same_offsets c offsets of_cache.offsets header of_cache.header in
      sym (of_cache.are kind)
      ∙ resolved_once c of_cache.offsets.aliases of_cache.aliases pairs of_cache.stand
      (subst (λ (o : Offsets). PairsAt (Stands c) o.aliases pairs) places stand) kind

  -- what it gives is the type itself or a text of the cache, in which the list of aliases lies
  pub target_given : (kind : List ℕ) → IsUnaliased c (field c 0 1) kind (target_in targets kind)
  target_given kind = record {
    inside = subst (λ (at : ℕ). LiesList c at 8) (sym (aliases_read c of_cache.offsets of_cache.header))
        (pairs_inside c of_cache.offsets.aliases of_cache.stand.entries of_cache.stand.stand);
    text = subst (λ (name : List ℕ). (name ≡ kind) ⊎ IsCacheText c name) (of_cache.are kind)
        (resolved_given c of_cache.aliases kind (targets_texts c of_cache.offsets.aliases of_cache.aliases of_cache.stand));
  }
