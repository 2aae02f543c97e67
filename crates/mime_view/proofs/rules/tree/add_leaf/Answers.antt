use Rattle.std.proofs.Common.{◌<◌, length, ap, arith, sym, ◌∙◌}
use Rattle.mime_base.specs.Cache.Texts.{text_at}
use Rattle.mime_view.proofs.ListingLemmas.ListedTexts.{listed_more}
use Rattle.mime_view.proofs.ListingLemmas.RuleSources.{adds_one}
use Rattle.mime_view.proofs.rules.tree.add_leaf.Goals as goal

pub returns-clause-texts : goal.returns-clause-texts
returns-clause-texts c =
    let short : length c.in_ok-pattern.pattern.items < 256 = rw c.in_ok-pattern.ensures.pattern (omega arith) in
    listed_more c.args.source.now.counted.now _ _ c.args.row.third _ c.args.listing.now _
    c.in_ok-add.ensures.added c.in_ok-kind.ensures.text short

pub returns-clause-sources : goal.returns-clause-sources
returns-clause-sources c = λ at leaf second third.
    adds_one c.args.listing.now _ _ c.in_ok-add.ensures.added record {
      leaf = leaf;
      some = omega arith;
      kind = ap (text_at c.args.source.now.counted.now) (sym (c.from.ensures ∙ second)) ∙ c.in_ok-kind.ensures.text;
      is = cc (third, c.in_ok-pattern.ensures.pattern);
    }
