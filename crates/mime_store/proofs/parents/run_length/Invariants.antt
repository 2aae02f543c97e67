use Rattle.std.proofs.Common.{◌≡◌, map, take}
use Rattle.mime_base.specs.Format.Runs.{OfKind}
use Rattle.mime_store.specs.Views.{pair_texts}
use Rattle.mime_store.proofs.parents.run_length.Given as goal

abbrev pub invariant-loop-pair : goal.invariant-loop-pair
invariant-loop-pair l = record {
  place : l.count ≡ l.pair-index;
  all : OfKind l.kind (map pair_texts (take l.pair-index l.pairs));
}
