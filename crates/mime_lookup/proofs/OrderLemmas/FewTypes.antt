-- Of the types of a name there are no more than rules that match.
use Rattle.std.proofs.Common.{◌≡◌, ℕ, suc, ◌≤◌, List, [], ◌∷◌, length, Option, refl, ap, ◌∙◌, arith}
use Rattle.std.specs.Prelude.{nat_lt}
use Rattle.std.specs.List.{All}
use Rattle.std.proofs.lemmas.Bool.{cond_both}
use Rattle.std.proofs.lemmas.List.{length-map, length-take}
use denote.Bor.{Bor}
use Rattle.mime_base.specs.Database.{PlainDatabase, pairs_of}
use Rattle.mime_base.specs.Database.Subclass.{resolved}
use Rattle.mime_base.specs.Falling.{falling, insert_falling}
use Rattle.mime_base.specs.Kept.{FitsRank, candidate_rules, hits, rank_of_rule}
use Rattle.mime_base.specs.declared.database.rule.GlobRule.{GlobRule}
use Rattle.mime_base.specs.declared.magic.host.Host.{Host}
use Rattle.mime_lookup.specs.Ancestry.{kinds_of}
use Rattle.mime_lookup.specs.CheckingOrder.{IsSniffed, asked_types, has_magic}
use Rattle.mime_lookup.specs.Choice.{candidates, kept}
use Rattle.mime_lookup.specs.IndexBytes.{choice_bytes, search_bytes}
use Rattle.mime_lookup.specs.ShortTypes.{HasShortTypes}
use Rattle.mime_lookup.specs.declared.order.Order.{Order}
use Rattle.mime_lookup.specs.declared.order.Order.TheVariants.{AllGlobs, ContentOnly, GlobsFirst, MagicFirst}
use Rattle.mime_lookup.specs.declared.sniff.Sniffed.{Sniffed}
use Rattle.mime_lookup.proofs.IndexLemmas.OrderBytes.{choice-le}
use Rattle.mime_lookup.proofs.OrderLemmas.Candidates.{kept_front}
use Rattle.mime_lookup.proofs.SniffLemmas.ShortTypes.{sniffed-short}

-- an item more
length-insert_falling : {A : Type 0} (number : A → ℕ) (item : A) (items : List A) → length (insert_falling number item items) ≡ suc (length items)
length-insert_falling number item [] = refl
length-insert_falling {A} number item (first ∷ rest) =
    cond_both (nat_lt (number item) (number first)) (first ∷ insert_falling number item rest) (item ∷ first ∷ rest)
    (λ (xs : List A). length xs ≡ suc (suc (length rest)))
    (λ _. ap suc (length-insert_falling number item rest)) (λ _. refl)

-- items by falling numbers are as many
length-falling : {A : Type 0} (number : A → ℕ) (items : List A) → length (falling number items) ≡ length items
length-falling number [] = refl
length-falling number (item ∷ items) =
    length-insert_falling number item (falling number items) ∙ ap suc (length-falling number items)

module _ (b : PlainDatabase) (name : List ℕ) where
  -- the types of all that match are as many
  candidates-many : length (candidates (pairs_of b) b.rules name) ≡ length (hits b.rules name)
  unfolding candidates candidate_rules
  candidates-many =
      length-map (candidate_rules b.rules name) (λ (rule : GlobRule). resolved b.aliases rule.kind)
      ∙ length-falling rank_of_rule (hits b.rules name)

  module _ (ranked : All FitsRank b.rules) where
    -- those that are kept are no more
    kept-few : length (kept (pairs_of b) b.rules name) ≤ length (hits b.rules name)
    kept-few =
        let all = candidates (pairs_of b) b.rules name in
        let first = ap length ((kept_front b name ranked).first) in
        omega (arith, first, length-take (length (kept (pairs_of b) b.rules name)) all, candidates-many)

    -- nor are those that are asked
    pub asked-few : (content : Option (List ℕ)) (host : Host) (order : Order) →
        length (asked_types b name content host order) ≤ length (hits b.rules name)
    asked-few content host GlobsFirst = kept-few
    asked-few content host MagicFirst = kept-few
    asked-few content host AllGlobs =
        cond_both (has_magic b content host) (candidates (pairs_of b) b.rules name) (kept (pairs_of b) b.rules name)
        (λ (xs : List (List ℕ)). length xs ≤ length (hits b.rules name)) (λ _. omega (arith, candidates-many)) (λ _. kept-few)
    asked-few content host ContentOnly = kept-few

  -- so a choice among them is one among no more, by a type of at most 255 bytes
  pub choice-asked : All FitsRank b.rules → HasShortTypes b → (found : Sniffed) (content : Option (List ℕ)) (host : Host) (order : Order) →
      IsSniffed b content host found → (asked : List (Bor (List ℕ))) → kinds_of asked ≡ asked_types b name content host order →
      search_bytes (length asked) (length b.parents) (length found.kind.now) ≤ choice_bytes b name
  choice-asked ranked short found content host order is asked are =
      choice-le b name (length asked) (length found.kind.now)
      (omega (arith, length-map asked (λ (text : Bor (List ℕ)). text.now), ap length are, asked-few ranked content host order))
      (omega (arith, ap length is.kind, sniffed-short b content host short))
