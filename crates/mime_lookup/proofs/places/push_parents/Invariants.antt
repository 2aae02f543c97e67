use Rattle.std.proofs.Common.{length}
use Rattle.mime_base.specs.Database.PlainPairs.{plain_pairs}
use Rattle.mime_base.specs.Database.Subclass.{resolved}
use Rattle.mime_lookup.proofs.AncestryLemmas.Walks.{Walked, places_left}
use Rattle.mime_lookup.proofs.places.push_parents.Given as goal

abbrev pub invariant-loop-place : goal.invariant-loop-place
invariant-loop-place l =
    Walked l.pairs (resolved (plain_pairs l.both.aliases.pairs.now)) l.kind l.place l.queue l.initial.queue

abbrev pub decreases-loop-place : goal.decreases-loop-place
decreases-loop-place l = places_left (length l.pairs) l.place
