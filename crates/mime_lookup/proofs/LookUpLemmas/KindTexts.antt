-- The types that a lookup over a cache answers: texts of the cache, or fixed ones.
use Rattle.std.proofs.Common.{◌≡◌, ◌⊎◌, ℕ, zero, suc, ◌<◌, true, inl, inr, List, [], ◌∷◌, length, get_or, arith}
use Rattle.std.specs.Prelude.{All, Contains}
use Rattle.std.proofs.lemmas.List.Elements.{All-contains}
use Rattle.mime_base.proofs.CacheLemmas.TextsStand.{text_at-read}
use denote.Bor.{Bor}
use Rattle.mime_lookup.specs.Ancestry.{kinds_of}
use Rattle.mime_lookup.specs.Cached.{IsKind, IsCacheText, fixed_kinds}
use Rattle.mime_lookup.specs.CheckingOrder.{are_one_type}

-- a text of a cache has less than 256 bytes
text_short : (c kind : List ℕ) → IsCacheText c kind → length kind < 256
text_short c kind text = (text_at-read c text.0 kind text.1).0.short

-- texts of a cache have
pub texts_short : (c : List ℕ) (kinds : List (List ℕ)) → All (IsCacheText c) kinds → All (λ kind. length kind < 256) kinds
texts_short c kinds all = λ k d here. text_short c (get_or kinds k d) (all k d here)

-- a fixed type has
fixed_short : All (λ kind. length kind < 256) fixed_kinds
fixed_short zero d here = omega arith
fixed_short (suc zero) d here = omega arith
fixed_short (suc (suc zero)) d here = omega arith
fixed_short (suc (suc (suc k))) d here = absurd (omega arith)

-- a type that is answered has
pub kind_short : (c kind : List ℕ) → IsKind c kind → length kind < 256
kind_short c kind (inl text) = text_short c kind text
kind_short c kind (inr fixed) = All-contains (λ kind. length kind < 256) fixed_kinds kind fixed_short fixed

-- the first of texts that are one type
pub first_cache_text : (c : List ℕ) (kept : List (Bor (List ℕ))) (d : Bor (List ℕ)) → are_one_type (kinds_of kept) ≡ true →
    All (IsCacheText c) (kinds_of kept) → IsCacheText c (get_or kept 0 d).now
first_cache_text c [] d one all = absurd cc
first_cache_text c (first ∷ more) d one all = all 0 [] (omega arith)

-- a type that was chosen
pub chosen_kind : (c kind : List ℕ) (kinds : List (List ℕ)) → All (IsCacheText c) kinds →
    IsKind c kind ⊎ Contains kinds kind → IsKind c kind
chosen_kind c kind kinds all (inl is) = is
chosen_kind c kind kinds all (inr one) = inl (All-contains (IsCacheText c) kinds kind all one)
