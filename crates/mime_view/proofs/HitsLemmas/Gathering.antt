-- What is gathered of rules that are offered one after another, in parts or one by one.
use Rattle.std.proofs.Common.{◌≡◌, ℕ, false, true≢false, List, [], ◌∷◌, ◌++◌, refl, sym, subst, ◌∙◌, append_assoc}
use Rattle.std.specs.Prelude.{Ok}
use Rattle.std.proofs.lemmas.List.{append-nil}
use Rattle.mime_base.specs.Cache.Texts.{text_at}
use Rattle.mime_base.specs.Kept.{best, rank_of_rule}
use Rattle.mime_base.specs.declared.database.rule.GlobRule.{GlobRule}
use Rattle.mime_view.specs.Gathered.{AreOffers, IsGathered, Offers, PlainHits, held_of, wants_rank}
use Rattle.mime_view.specs.declared.name_hits.Which.{Which}
use Rattle.mime_view.specs.declared.name_hits.Which.TheVariants.{Candidates, Kept}
use Rattle.mime_view.proofs.HitsLemmas.BestOffers.{best-kept, kept_offer, kept_unwanted}
use Rattle.mime_view.proofs.HitsLemmas.Offers.{offers-push}

-- no rules
pub offers_none : (c : List ℕ) (hits : PlainHits) → Offers c [] hits hits
offers_none c hits = record {
  asked = refl;
  more = λ before are. subst (IsGathered c hits) (sym (append-nil before)) are;
}

-- some rules, and then others
pub offers_append : (c : List ℕ) (xs ys : List GlobRule) (old mid new : PlainHits) → Offers c xs old mid → Offers c ys mid new
    → Offers c (xs ++ ys) old new
offers_append c xs ys old mid new first second = record {
  asked = second.asked ∙ first.asked;
  more = λ before are. subst (IsGathered c new) (append_assoc before xs ys) (second.more (before ++ xs) (first.more before are));
}

-- a rule whose rank is not wanted changes nothing
pub offers_unwanted : (c : List ℕ) (hits : PlainHits) (rule : GlobRule) (rank : ℕ) → rank ≡ rank_of_rule rule
    → wants_rank hits.which hits.offers rank ≡ false → Offers c (rule ∷ []) hits hits
offers_unwanted c hits rule rank ranked unwanted = record { asked = refl; more = by_which hits.which unwanted }
  where
    by_which : (which : Which) → wants_rank which hits.offers rank ≡ false → (before : List GlobRule)
        → AreOffers c hits.offers (held_of which before) → AreOffers c hits.offers (held_of which (before ++ rule ∷ []))
    by_which Kept unwanted before are = kept_unwanted c hits.offers rule rank ranked unwanted before are
    by_which Candidates unwanted before are = absurd (true≢false unwanted)

module _ (c : List ℕ) (rule : GlobRule) (rank kind : ℕ) (ranked : rank ≡ rank_of_rule rule) (text : text_at c kind ≡ Ok rule.kind) where
  -- a rule that is offered where the best are held
  pub offers_best : (old new : List (ℕ × ℕ)) → ((offers : List (ℕ × ℕ)) → old ≡ best offers → new ≡ best (offers ++ (rank, kind) ∷ []))
      → Offers c (rule ∷ []) (record { which = Kept; offers = old }) (record { which = Kept; offers = new })
  offers_best old new pushed =
      record {
        asked = refl;
        more = λ before are. kept_offer c old new rank kind rule ranked text (pushed old (best-kept c old before are)) before are;
      }

  -- and where all are
  pub offers_every : (old : List (ℕ × ℕ))
      → Offers c (rule ∷ []) (record { which = Candidates; offers = old }) (record { which = Candidates; offers = old ++ (rank, kind) ∷ [] })
  offers_every old = record {
    asked = refl;
    more = λ before are. offers-push c old before (rank, kind) rule are ranked text;
  }
