use Rattle.std.proofs.Common.{◌≡◌, ℕ, true, false, get_or, sym, ap, subst, ◌∙◌, rules, arith}
use Rattle.std.specs.Prelude.{bytes_eq}
use Rattle.mime_base.specs.Cache.Bytes.{field}
use Rattle.mime_base.specs.Cache.Texts.{text_at}
use Rattle.mime_base.specs.Format.Stored.{stored_text}
use Rattle.mime_view.specs.Gathered.{AddsAt}
use Rattle.mime_view.proofs.LiteralLemmas.LiteralEntries.{length-pattern}
use Rattle.mime_view.proofs.SearchLemmas.Lookups.{equal_texts, other_texts}
use Rattle.mime_view.proofs.HitsLemmas.Gathering.{offers_none}
use Rattle.mime_view.proofs.literals.visit_entry.Goals as goal

pub returns-in_ok-offer_entry-in-Equal-clause-same : goal.returns-in_ok-offer_entry-in-Equal-clause-same
returns-in_ok-offer_entry-in-Equal-clause-same c = λ rule reads.
    let at : c.from.result ≡ field c.args.query.now.counted.now c.args.at 0 =
    c.from.ensures ∙ ap (λ xs. get_or xs 0 0) c.cards_within.ensures.numbers in
    let order = c.in_ok-compare_text.ensures.text _ (ap (text_at c.args.query.now.counted.now) at ∙ reads.text) in
    sym (equal_texts (stored_text rule) c.args.query.now.key.now (cc (order, c.in-Equal.is)))

pub returns-in_ok-offer_entry-in-Equal-clause-finds : goal.returns-in_ok-offer_entry-in-Equal-clause-finds
returns-in_ok-offer_entry-in-Equal-clause-finds c = λ rule reads.
    let at : c.from.result ≡ field c.args.query.now.counted.now c.args.at 0 =
    c.from.ensures ∙ ap (λ xs. get_or xs 0 0) c.cards_within.ensures.numbers in
    let kind = ap (λ xs. get_or xs 1 0) c.cards_within.ensures.numbers in
    let flags = ap (λ xs. get_or xs 2 0) c.cards_within.ensures.numbers in
    let order = c.in_ok-compare_text.ensures.text _ (ap (text_at c.args.query.now.counted.now) at ∙ reads.text) in
    let same : bytes_eq (stored_text rule) c.args.query.now.key.now ≡ true =
    equal_texts (stored_text rule) c.args.query.now.key.now (cc (order, c.in-Equal.is)) in
    record {
      answer = λ is. rw same (c.in_ok-offer_entry-in-Equal.ensures.answer c.args.query.now.counted.now rule is
          (length-pattern rule c.args.query.now.key.now same) (flags ∙ reads.flags)
          (ap (text_at c.args.query.now.counted.now) kind ∙ reads.kind));
      need = search rules;
      most = omega (arith, c.in_ok-take_records.ensures.taken.records);
    }

pub returns-in_default-clause-same : goal.returns-in_default-clause-same
returns-in_default-clause-same c = λ rule reads.
    let at : c.from.result ≡ field c.args.query.now.counted.now c.args.at 0 =
    c.from.ensures ∙ ap (λ xs. get_or xs 0 0) c.cards_within.ensures.numbers in
    let order = c.in_ok-compare_text.ensures.text _ (ap (text_at c.args.query.now.counted.now) at ∙ reads.text) in
    sym (other_texts (stored_text rule) c.args.query.now.key.now (λ e. c.in_default.not-Equal (cc (order, e))))

pub returns-in_default-clause-finds : goal.returns-in_default-clause-finds
returns-in_default-clause-finds c = λ rule reads.
    let at : c.from.result ≡ field c.args.query.now.counted.now c.args.at 0 =
    c.from.ensures ∙ ap (λ xs. get_or xs 0 0) c.cards_within.ensures.numbers in
    let order = c.in_ok-compare_text.ensures.text _ (ap (text_at c.args.query.now.counted.now) at ∙ reads.text) in
    let other : bytes_eq (stored_text rule) c.args.query.now.key.now ≡ false =
    other_texts (stored_text rule) c.args.query.now.key.now (λ e. c.in_default.not-Equal (cc (order, e))) in
    record {
      answer = λ is. rw other (offers_none c.args.query.now.counted.now c.args.progress.now.hits);
      need = search rules;
      most = omega (arith, c.in_ok-take_records.ensures.taken.records);
    }

pub returns-in_ok-offer_entry-in-Equal-clause-searches : goal.returns-in_ok-offer_entry-in-Equal-clause-searches
returns-in_ok-offer_entry-in-Equal-clause-searches c =
    let kind = ap (λ xs. get_or xs 1 0) c.cards_within.ensures.numbers in
    record {
      fault = tt;
      asked = search rules;
      few = search rules;
      added =
          subst (λ (kind : ℕ). AddsAt (λ place. place ≡ kind) c.args.progress.now.hits.offers c.offer_entry.new.hits.offers) kind
          c.in_ok-offer_entry-in-Equal.ensures.takes.added;
      cost = search rules;
    }
