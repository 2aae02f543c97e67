use Rattle.std.proofs.Common.{◌≡◌, drop, bytes_eq}
use Rattle.std.specs.List.{list_all}
use Rattle.mime_lookup.specs.Ancestry.{kinds_of}
use Rattle.mime_lookup.proofs.checking.are_one_type.Given as goal

abbrev pub invariant-loop-kind : goal.invariant-loop-kind
invariant-loop-kind l =
    list_all (bytes_eq l.first.now) (kinds_of l.more) ≡ list_all (bytes_eq l.first.now) (kinds_of (drop l.kind-index l.more))
