use Rattle.std.proofs.Common.{inr}
use Rattle.std.proofs.lemmas.Result.{err_from_is_err_and}
use Rattle.mime_view.proofs.ListingLemmas.ListedTexts.{all_listed}
use Rattle.mime_view.proofs.ListingLemmas.RuleSources.{all_from}
use Rattle.mime_view.proofs.rules.list_rules.Goals as goal

pub returns-clause-listed : goal.returns-clause-listed
returns-clause-listed c =
    all_listed c.args.source.now.counted.now _ _ _ _ _ c.none-listing.ensures c.add_entries.ensures.adds.texts
    c.add_tree.ensures.adds.texts c.add_entries-2.ensures.adds.texts c.into_vec.ensures

pub returns-clause-lists : goal.returns-clause-lists
returns-clause-lists c =
    let first = c.in_ok-add_entries.ensures.lists in
    let tree = c.in_ok-add_tree.ensures.lists in
    let last = c.in_ok-add_entries-2.ensures.lists in
    record {
      rules = all_from c.args.source.now.counted.now c.args.literals c.args.tree c.args.globs _ _ _ _ _ c.none-listing.ensures
          first.rules tree.rules last.rules c.into_vec.ensures;
      lie = record { literal_list = first.lies; whole_tree = tree.lies; glob_list = last.lies };
    }

pub returns-in_err-add_entries-2-clause-listed : goal.returns-in_err-add_entries-2-clause-listed
returns-in_err-add_entries-2-clause-listed c =
    let p = err_from_is_err_and c.from_residual-in_err-add_entries-2.result c.from_residual-in_err-add_entries-2.ensures.1 in
    rw (p.1, p.2) (inr (inr c.in_err-add_entries-2.ensures.adds.fault))
