use Rattle.std.proofs.Common.{ℕ, ◌<◌, length, Ok, ap, inr, rules, sym, ◌∙◌}
use Rattle.std.proofs.lemmas.Result.{err_from_is_err_and}
use Rattle.mime_base.specs.Cache.Texts.{text_at}
use Rattle.mime_view.specs.Listing.{listed_by}
use Rattle.mime_view.proofs.ListingLemmas.ListedTexts.{listed_more, short_text}
use Rattle.mime_view.proofs.ListingLemmas.RuleSources.{adds_one}
use Rattle.mime_view.proofs.rules.entries.add_entry.Goals as goal

pub returns-in_err-add-clause-adds : goal.returns-in_err-add-clause-adds
returns-in_err-add-clause-adds c =
    let p = err_from_is_err_and c.from_residual-in_err-add.result c.from_residual-in_err-add.ensures.1 in
    rw (p.1, p.2) (record {
      texts = rw c.in_err-add.ensures.stays (λ all. all);
      fault = inr (inr (inr c.in_err-add.ensures.fault));
      cost = search rules;
    })

pub returns-clause-adds : goal.returns-clause-adds
returns-clause-adds c =
    let short : length c.in_ok-pattern.pattern.items < 256 =
    rw c.in_ok-pattern.ensures.items (short_text c.args.source.now.counted.now _ _ c.in_ok-text.ensures.text) in
    record {
      texts = listed_more c.args.source.now.counted.now _ _ c.in_ok-row.row.third _ c.args.listing.now _
          c.in_ok-add.ensures.added c.in_ok-kind.ensures.text short;
      fault = search rules;
      cost = search rules;
    }

pub returns-clause-sources : goal.returns-clause-sources
returns-clause-sources c =
    let row = c.in_ok-row.ensures.row in
    adds_one c.args.listing.now _ _ c.in_ok-add.ensures.added record {
      pattern = ap (text_at c.args.source.now.counted.now) (sym (c.from.ensures ∙ row.first)) ∙ c.in_ok-text.ensures.text
          ∙ ap Ok (sym c.in_ok-pattern.ensures.items);
      kind = ap (text_at c.args.source.now.counted.now) (sym (c.from-2.ensures ∙ row.second)) ∙ c.in_ok-kind.ensures.text;
      is = ap (λ (flags : ℕ). listed_by flags c.in_ok-kind.kind.now c.in_ok-pattern.pattern.items) row.third;
    }
