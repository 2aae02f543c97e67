use Rattle.std.proofs.Common.{◌≡◌, ℕ, ◌%◌, ◌/◌, ◌==◌, true, get_or, refl, sym, ap, ◌∙◌, arith, rules}
use Rattle.mime_base.specs.Cache.Texts.{text_at}
use Rattle.mime_base.specs.Kept.{rank_of_rule}
use Rattle.mime_view.specs.Hits.{takes_rule}
use Rattle.mime_view.proofs.HitsLemmas.StoredRules.{cased-stored, weight-stored}
use Rattle.mime_view.specs.SuffixTree.{leaf_part}
use Rattle.mime_view.proofs.HitsLemmas.AddedHits.{adds_within}
use Rattle.mime_view.proofs.suffixes.offer_leaf.Goals as goal

pub returns-in_ok-offer-clause-finds : goal.returns-in_ok-offer-clause-finds
returns-in_ok-offer-clause-finds c = λ rule reads.
    let cache = c.args.query.now.counted.now in
    let states = c.weight_and_case-weight in
    let kind = ap (λ xs. get_or xs 1 0) c.cards_within.ensures.numbers in
    let flags = ap (λ xs. get_or xs 2 0) c.cards_within.ensures.numbers ∙ reads.flags in
    record {
      answer = λ is.
          let weight : states.result.0 ≡ rule.weight =
          states.ensures.weight ∙ ap (λ n. n % 256) flags ∙ weight-stored rule is.light in
          let cased : states.result.1 ≡ rule.cased =
          states.ensures.cased ∙ ap (λ n. n / 256 % 2 == 1) flags ∙ cased-stored rule is.light in
          let takes : takes_rule c.args.query.now.case rule.cased ≡ true =
          ap (takes_rule c.args.query.now.case) (sym cased) ∙ sym c.takes_rule.ensures ∙ c.if-takes_rule.true in
          let ranked : c.rank_of-rank.result ≡ rank_of_rule rule =
          c.rank_of-rank.ensures ∙ rw (weight, cased, is.pattern_length, is.suffix) refl in
          rw takes (c.in_ok-offer.ensures.offered cache rule ranked (ap (text_at cache) kind ∙ reads.kind));
      need = search rules;
      most = omega (arith, c.in_ok-take_records.ensures.taken.records);
    }

pub returns-in_ok-offer-clause-searches : goal.returns-in_ok-offer-clause-searches
returns-in_ok-offer-clause-searches c =
    let character = ap (λ xs. get_or xs 0 0) c.cards_within.ensures.numbers in
    let kind = ap (λ xs. get_or xs 1 0) c.cards_within.ensures.numbers in
    record {
      fault = tt;
      asked = search rules;
      few = search rules;
      added = adds_within (λ (place : ℕ). place ≡ _) (leaf_part c.args.query.now.counted.now c.args.at).Kind c.args.progress.now.hits.offers
          c.offer.new.self.offers (λ place is. (sym character ∙ c.if-character-ne0.false, is ∙ kind)) c.in_ok-offer.ensures.takes.added;
      cost = search rules;
    }
