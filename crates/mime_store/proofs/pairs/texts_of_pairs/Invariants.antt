use Rattle.std.proofs.Common.{◌≡◌, map, take}
use Rattle.mime_base.specs.Database.PlainPairs.{plain_pairs}
use Rattle.mime_store.specs.Views.{pair_texts}
use Rattle.mime_store.proofs.pairs.texts_of_pairs.Given as goal

abbrev pub invariant-loop-pair : goal.invariant-loop-pair
invariant-loop-pair l = map pair_texts l.found.items ≡ plain_pairs (take l.pair-index l.pairs)
