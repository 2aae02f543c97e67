use Rattle.std.proofs.Common.{◌≡◌, ◌++◌, [], drop, map, take}
use Rattle.mime_text.specs.Merging.{marks}
use Rattle.mime_text.proofs.Merges.Buckets.{Finds}
use Rattle.mime_text.proofs.merging.first.first_marks.Given as goal

-- the marks so far and those of the entries that are left, and what the tree finds of the entries so far
abbrev pub invariant-loop-entry : goal.invariant-loop-entry
invariant-loop-entry g l =
    let key_of = g.K.Key.key_of in
    record {
      marks : l.firsts.items ++ marks (map key_of (take l.entry-index l.entries)) (map key_of (drop l.entry-index l.entries))
          ≡ marks [] (map key_of l.entries);
      finds : Finds l.counts.items l.keys (map key_of (take l.entry-index l.entries));
    }
