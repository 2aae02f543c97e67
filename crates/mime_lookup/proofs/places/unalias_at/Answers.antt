use Rattle.std.proofs.Common.{◌∙◌, Some, sym, subst}
use Rattle.mime_base.specs.Database.PlainPairs.{plain_pairs}
use Rattle.mime_lookup.specs.Places.{IsNextPlace}
use Rattle.mime_lookup.proofs.AncestryLemmas.Walks.{resolved-none, resolved-to}
use Rattle.mime_lookup.proofs.places.unalias_at.Goals as goal

pub target_at-requires : goal.target_at-requires
target_at-requires c =
    let first : IsNextPlace c.args.aliases.now.pairs.now c.args.kind.now 0 (Some c.in-Some.place) =
    subst (IsNextPlace c.args.aliases.now.pairs.now c.args.kind.now 0) (sym c.value_of.ensures ∙ c.in-Some.is)
    (c.requires.indexed.indexed.firsts c.args.kind.now) in
    record { within = first.1 }

pub returns-in-Some : goal.returns-in-Some
returns-in-Some c =
    let first : IsNextPlace c.args.aliases.now.pairs.now c.args.kind.now 0 (Some c.in-Some.place) =
    subst (IsNextPlace c.args.aliases.now.pairs.now c.args.kind.now 0) (sym c.value_of.ensures ∙ c.in-Some.is)
    (c.requires.indexed.indexed.firsts c.args.kind.now) in
    resolved-to c.args.aliases.now.pairs.now c.args.kind.now c.in-Some.place c.target_at.result.now first c.target_at.ensures

pub returns-in-None : goal.returns-in-None
returns-in-None c =
    sym (resolved-none (plain_pairs c.args.aliases.now.pairs.now) c.args.kind.now
    (subst (IsNextPlace c.args.aliases.now.pairs.now c.args.kind.now 0) (sym c.value_of.ensures ∙ c.in-None.is)
    (c.requires.indexed.indexed.firsts c.args.kind.now)))
