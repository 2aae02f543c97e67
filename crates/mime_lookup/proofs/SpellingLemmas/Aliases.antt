-- The aliases that a cache spells resolve each type to one type.
use Rattle.std.proofs.Common.{◌≡◌, ℕ, List, sym, ap, ◌∙◌}
use Rattle.std.proofs.lemmas.List.{map-id}
use Rattle.mime_base.specs.Cache.Bytes.{Stands}
use Rattle.mime_base.specs.Database.Subclass.{resolved}
use Rattle.mime_base.specs.Format.Pairs.{IsPair, PairsAt}
use Rattle.mime_load.proofs.NextRecords.{same_pair}
use Rattle.mime_view.specs.Pairs.{looked_up}
use Rattle.mime_view.proofs.ListLemmas.Spelled.{found_or, looked_up-sorted, resolved-looked_up}
use Rattle.mime_lookup.proofs.SpellingLemmas.Records.{same_list}

-- a type by the entries of a list
resolved-entries : (c : List ℕ) (at : ℕ) (pairs : List (List ℕ × List ℕ)) (stand : PairsAt (Stands c) at pairs) (kind : List ℕ)
    → resolved pairs kind ≡ found_or (looked_up stand.entries kind) kind
resolved-entries c at pairs stand kind =
    resolved-looked_up pairs kind ∙ ap (λ found. found_or found kind) (sym (looked_up-sorted pairs stand.entries kind stand.sorted))

-- two lists of pairs that stand at one place resolve a type alike
pub resolved_once : (c : List ℕ) (at : ℕ) (some others : List (List ℕ × List ℕ)) → PairsAt (Stands c) at some
    → PairsAt (Stands c) at others → (kind : List ℕ) → resolved some kind ≡ resolved others kind
resolved_once c at some others one other kind =
    let listed = same_list (λ (pair : List ℕ × List ℕ). pair) c 8 (IsPair (Stands c)) (same_pair c) at one.entries other.entries
    one.stand other.stand in
    let same : one.entries ≡ other.entries = sym (map-id one.entries) ∙ listed ∙ map-id other.entries in
    resolved-entries c at some one kind ∙ ap (λ entries. found_or (looked_up entries kind) kind) same
    ∙ sym (resolved-entries c at others other kind)
