use Rattle.std.proofs.Common.{◌≡◌, ℕ, arith, rules, get_or, length, inl, refl, sym, ap, subst, ◌∙◌}
use Rattle.mime_base.specs.Kept.Classes.{class_of}
use Rattle.mime_view.specs.Gathered.{AddsAt}
use Rattle.mime_view.proofs.GlobLemmas.GlobEntries.{entry_spends, entry_states, offers_either, offers_match, offers_other, text_short}
use Rattle.mime_view.proofs.HitsLemmas.Gathering.{offers_unwanted}
use Rattle.mime_view.proofs.globs.take_glob.Goals as goal

pub rank_of_entry-requires : goal.rank_of_entry-requires
rank_of_entry-requires c =
    omega (arith, text_short c.args.query.now.counted.now c.from.result c.in_ok-pattern.pattern.now c.in_ok-pattern.ensures.text)

pub rank_of_entry-requires-then-glob_matches : goal.rank_of_entry-requires-then-glob_matches
rank_of_entry-requires-then-glob_matches c =
    omega (arith, text_short c.args.query.now.counted.now c.from.result c.in_ok-pattern.pattern.now c.in_ok-pattern.ensures.text)

pub returns-then-begins_otherwise-clause-finds : goal.returns-then-begins_otherwise-clause-finds
returns-then-begins_otherwise-clause-finds c = λ rule reads.
    record {
      answer = λ fits.
          let states = entry_states c.args.query.now.counted.now c.args.at c.args.query.now.key.now rule c.in_ok-pattern.pattern.now
          (class_of c.in_ok-pattern.pattern.now) c.cards_within.result c.from.result c.cards_within.ensures.numbers c.from.ensures
          c.in_ok-pattern.ensures.text refl fits reads in
          offers_other c.args.query.now.counted.now c.args.query.now.key.now rule c.args.hits.now
          (sym states.its_matches
          ∙ (rw c.weight_and_case-cased.ensures.cased at (c.begins_otherwise.ensures.other c.if-begins_otherwise.true)));
      need = search rules;
      most = omega (arith, c.in_ok-take_record.ensures.taken);
    }

pub returns-then-not-wants-2-clause-finds : goal.returns-then-not-wants-2-clause-finds
returns-then-not-wants-2-clause-finds c = λ rule reads.
    record {
      answer = λ fits.
          let states = entry_states c.args.query.now.counted.now c.args.at c.args.query.now.key.now rule c.in_ok-pattern.pattern.now
          (class_of c.in_ok-pattern.pattern.now) c.cards_within.result c.from.result c.cards_within.ensures.numbers c.from.ensures
          c.in_ok-pattern.ensures.text refl fits reads in
          offers_either c.args.query.now.counted.now c.args.query.now.key.now rule c.args.hits.now
          (offers_unwanted c.args.query.now.counted.now c.args.hits.now rule c.rank_of_entry.result (c.rank_of_entry.ensures ∙ states.its_rank)
          (sym c.wants-then-not-wants.ensures ∙ c.if-not-wants-2.true));
      need = search rules;
      most = omega (arith, c.in_ok-take_record.ensures.taken);
    }

pub returns-in_ok-offer-clause-finds : goal.returns-in_ok-offer-clause-finds
returns-in_ok-offer-clause-finds c = λ rule reads.
    record {
      answer = λ fits.
          let states = entry_states c.args.query.now.counted.now c.args.at c.args.query.now.key.now rule c.in_ok-pattern.pattern.now
          (class_of c.in_ok-pattern.pattern.now) c.cards_within.result c.from.result c.cards_within.ensures.numbers c.from.ensures
          c.in_ok-pattern.ensures.text refl fits reads in
          offers_match c.args.query.now.counted.now c.args.query.now.key.now rule c.args.hits.now c.offer.new.self
          (sym states.its_matches
          ∙ (rw c.weight_and_case-cased.ensures.cased at (sym c.glob_matches.ensures.answer ∙ c.if-glob_matches.true)))
          (c.in_ok-offer.ensures.offered c.args.query.now.counted.now rule (c.rank_of_entry-then-glob_matches.ensures ∙ states.its_rank) states.its_kind);
      need = search rules;
      most = omega (arith, c.in_ok-take_record.ensures.taken);
    }

pub returns-else-glob_matches-clause-finds : goal.returns-else-glob_matches-clause-finds
returns-else-glob_matches-clause-finds c = λ rule reads.
    record {
      answer = λ fits.
          let states = entry_states c.args.query.now.counted.now c.args.at c.args.query.now.key.now rule c.in_ok-pattern.pattern.now
          (class_of c.in_ok-pattern.pattern.now) c.cards_within.result c.from.result c.cards_within.ensures.numbers c.from.ensures
          c.in_ok-pattern.ensures.text refl fits reads in
          offers_other c.args.query.now.counted.now c.args.query.now.key.now rule c.args.hits.now
          (sym states.its_matches
          ∙ (rw c.weight_and_case-cased.ensures.cased at (sym c.glob_matches.ensures.answer ∙ c.if-glob_matches.false)));
      need = search rules;
      most = omega (arith, c.in_ok-take_record.ensures.taken);
    }

pub returns-in_err-offer-clause-searches : goal.returns-in_err-offer-clause-searches
returns-in_err-offer-clause-searches c =
    let short = text_short c.args.query.now.counted.now c.from.result c.in_ok-pattern.pattern.now c.in_ok-pattern.ensures.text in
    record {
      fault = search rules;
      asked = search rules;
      few = search rules;
      added = search rules;
      cost =
          entry_spends (length c.args.query.now.key.now) (length c.in_ok-pattern.pattern.now) c.text_at.new.meter.bytes c.args.spending.now
          _ c.in_ok-take_record.ensures.taken c.take_record.ensures.value_bytes (omega arith) (omega arith) (omega arith) (omega arith)
          (omega arith) (omega arith) short;
    }

pub returns-else-glob_matches-clause-searches : goal.returns-else-glob_matches-clause-searches
returns-else-glob_matches-clause-searches c =
    let short = text_short c.args.query.now.counted.now c.from.result c.in_ok-pattern.pattern.now c.in_ok-pattern.ensures.text in
    record {
      fault = search rules;
      asked = search rules;
      few = search rules;
      added = λ place held. inl held;
      cost =
          entry_spends (length c.args.query.now.key.now) (length c.in_ok-pattern.pattern.now) c.text_at.new.meter.bytes c.args.spending.now
          _ c.in_ok-take_record.ensures.taken c.take_record.ensures.value_bytes (omega arith) (omega arith) (omega arith) (omega arith)
          (omega arith) (omega arith) short;
    }

pub returns-in_ok-offer-clause-searches : goal.returns-in_ok-offer-clause-searches
returns-in_ok-offer-clause-searches c =
    let short = text_short c.args.query.now.counted.now c.from.result c.in_ok-pattern.pattern.now c.in_ok-pattern.ensures.text in
    record {
      fault = search rules;
      asked = search rules;
      few = search rules;
      added =
          let kind = ap (λ xs. get_or xs 1 0) c.cards_within.ensures.numbers in
          subst (λ (kind : ℕ). AddsAt (λ place. place ≡ kind) c.args.hits.now.offers c.offer.new.self.offers) kind
          c.in_ok-offer.ensures.takes.added;
      cost =
          entry_spends (length c.args.query.now.key.now) (length c.in_ok-pattern.pattern.now) c.text_at.new.meter.bytes c.args.spending.now
          _ c.in_ok-take_record.ensures.taken c.take_record.ensures.value_bytes (omega arith) (omega arith) (omega arith) (omega arith)
          (omega arith) (omega arith) short;
    }
