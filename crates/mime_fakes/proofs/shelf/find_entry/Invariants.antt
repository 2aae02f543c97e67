use Rattle.std.proofs.Common.{◌≡◌, drop}
use Rattle.mime_fakes.specs.Shelf.{entry_in}
use Rattle.mime_fakes.proofs.shelf.find_entry.Given as goal

abbrev pub invariant-loop-named : goal.invariant-loop-named
invariant-loop-named l = entry_in l.entries l.path ≡ entry_in (drop l.named-index l.entries) l.path
