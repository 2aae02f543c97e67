-- What a lookup over a cache visits where the globs alone decide.
use Rattle.std.proofs.Common.{◌≡◌, ◌∙◌, ℕ, ◌≤◌, true, false, true≢false, List, [], length, inl, inr, sym, arith}
use Rattle.std.specs.Prelude.{⊤}
use Rattle.std.proofs.lemmas.List.{length-map}
use Rattle.mime_base.specs.Database.{PlainDatabase, pairs_of}
use Rattle.mime_base.specs.Database.Subclass.{resolved}
use Rattle.mime_base.specs.Kept.{candidate_rules, kept_rules}
use Rattle.mime_base.specs.declared.database.rule.GlobRule.{GlobRule}
use Rattle.mime_lookup.specs.NameTypes.{types_for}
use Rattle.mime_view.specs.Hits.{CandidatesAreNear, KeptAreNear, near}
use Rattle.mime_view.specs.declared.name_hits.Which.{Which}
use Rattle.mime_view.specs.declared.name_hits.Which.TheVariants.{Candidates, Kept}
use Rattle.mime_lookup.specs.CheckingOrder.{GlobsDecide, are_one_type, globs_suffice}
use Rattle.mime_lookup.specs.Cached.{asked_count}
use Rattle.mime_lookup.specs.Choice.{candidates, kept}
use Rattle.mime_lookup.specs.declared.order.Order.TheVariants.{AllGlobs, ContentOnly, GlobsFirst, MagicFirst}

-- no more types are asked for than rules are near the name
pub types_few : KeptAreNear → CandidatesAreNear → (which : Which) (b : PlainDatabase) (name : List ℕ)
    → length (types_for which b name) ≤ near name b.rules
unfolding kept candidates
types_few kept_law law Kept b name =
    omega (arith, length-map (kept_rules b.rules name) (λ (rule : GlobRule). resolved b.aliases rule.kind), kept_law name b.rules)
types_few kept_law law Candidates b name =
    omega (arith, length-map (candidate_rules b.rules name) (λ (rule : GlobRule). resolved b.aliases rule.kind), law name b.rules)

-- where the globs decide and give no one type, none is kept and no content is available
pub none_kept : (b : PlainDatabase) (name : List ℕ) (NoContent : Type 0) (kinds : List (List ℕ))
    → kinds ≡ kept (pairs_of b) b.rules name → are_one_type (kept (pairs_of b) b.rules name) ≡ false → GlobsDecide b name GlobsFirst NoContent
    → (kinds ≡ []) × NoContent
unfolding globs_suffice
none_kept b name NoContent kinds are conflict (inl one) = let both : true ≡ false = sym one ∙ conflict in absurd cc
none_kept b name NoContent kinds are conflict (inr (none, inl one)) = let both : true ≡ false = sym one ∙ conflict in absurd cc
none_kept b name NoContent kinds are conflict (inr (none, inr empty)) = (are ∙ empty, none)

-- where all that match are candidates and they decide, but are not one type, one is asked or none, and no content is available
pub few_asked : (b : PlainDatabase) (name : List ℕ) (NoContent : Type 0) (asked : ℕ)
    → asked ≡ asked_count (kept (pairs_of b) b.rules name) → are_one_type (candidates (pairs_of b) b.rules name) ≡ false
    → GlobsDecide b name AllGlobs NoContent → (asked ≤ 1) × NoContent
unfolding globs_suffice
few_asked b name NoContent asked is conflict (inl one) = let both : true ≡ false = sym one ∙ conflict in absurd cc
few_asked b name NoContent asked is conflict (inr (none, inl one)) = (let only : asked ≡ 1 = rw one at is in omega (arith, only), none)
few_asked b name NoContent asked is conflict (inr (none, inr empty)) = (let no : asked ≡ 0 = rw empty at is in omega (arith, no), none)

-- where magic is asked first the globs decide without a content alone
pub decide_without : (b : PlainDatabase) (name : List ℕ) (NoContent : Type 0) → GlobsDecide b name MagicFirst NoContent
    → NoContent × GlobsDecide b name GlobsFirst ⊤
unfolding globs_suffice
decide_without b name NoContent (inl one) = absurd (true≢false (sym one))
decide_without b name NoContent (inr none) = (none.0, inr (tt, none.1))

-- so they do where the content alone is asked
pub decide_unavailable : (b : PlainDatabase) (name : List ℕ) (NoContent : Type 0) → GlobsDecide b name ContentOnly NoContent
    → NoContent
unfolding globs_suffice
decide_unavailable b name NoContent (inl one) = absurd (true≢false (sym one))
decide_unavailable b name NoContent (inr none) = none.0
