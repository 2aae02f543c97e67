use Rattle.std.proofs.Common.{ℕ, false, ◌+◌, List, length, sym, rules, arith}
use Rattle.std.proofs.lemmas.Result.{on_ok_weaker}
use Rattle.mime_base.specs.Format.Stored.{glob_rules}
use Rattle.mime_base.specs.Matching.Folding.{compared}
use Rattle.mime_view.specs.Hits.{tree_visits}
use Rattle.mime_view.specs.NameHits.{lists_part}
use Rattle.mime_view.specs.Steps.{Part}
use Rattle.mime_view.proofs.HitsLemmas.AddedHits.{adds_then}
use Rattle.mime_view.proofs.HitsLemmas.ListParts.{globs_within, literals_within, walks_within}
use Rattle.mime_view.proofs.HitsLemmas.Parts.{searches_within}
use Rattle.mime_view.proofs.HitsLemmas.NameOffers.{offered_parts}
use Rattle.mime_view.proofs.HitsLemmas.Steps.{finds_then}
use Rattle.mime_view.proofs.name.offer_twice.Goals as goal

pub returns-clause-finds : goal.returns-clause-finds
returns-clause-finds c = λ rules at.
    let name = c.args.query.now.key.now in
    let first = c.in_ok-search_twice.ensures.finds rules at.literals in
    let second = c.in_ok-walk_twice.ensures.finds rules at.tree in
    let third = c.glob_list_hits.ensures.finds rules at.globs in
    rw (sym (offered_parts name rules))
    (finds_then {n = tree_visits name rules + tree_visits (compared false name) rules + length (glob_rules rules)} first
    (finds_then second third (omega arith)) (omega arith))

pub returns-clause-searches : goal.returns-clause-searches
returns-clause-searches c =
    let cache = c.args.query.now.counted.now in
    let name = c.args.query.now.key.now in
    let part : Part = lists_part cache c.args.lists name in
    let one = searches_within (literals_within cache c.args.lists name) c.in_ok-search_twice.ensures.searches in
    let two = searches_within (walks_within cache c.args.lists name) c.in_ok-walk_twice.ensures.searches in
    let last = searches_within (globs_within cache c.args.lists name) c.glob_list_hits.ensures.searches in
    let old : List (ℕ × ℕ) = c.args.progress.now.hits.offers in
    let first : List (ℕ × ℕ) = c.search_twice.new.progress.hits.offers in
    let second : List (ℕ × ℕ) = c.walk_twice.new.progress.hits.offers in
    record {
      fault = last.fault;
      asked = search rules;
      few = search rules;
      added = on_ok_weaker c.glob_list_hits.result
          (adds_then part.Kind old second c.glob_list_hits.new.progress.hits.offers (adds_then part.Kind old first second one.added two.added))
          last.added;
      cost = search rules;
    }
