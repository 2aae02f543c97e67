use Rattle.std.proofs.Common.{◌≡◌, take}
use Rattle.mime_base.specs.Magic.Extent.{forest_extent}
use Rattle.mime_base.specs.Magic.{forest_of, plain_matchlets}
use Rattle.mime_store.proofs.magic.+extents.Given as goal

abbrev pub invariant-extent_of_lines-loop-line : goal.invariant-extent_of_lines-loop-line
invariant-extent_of_lines-loop-line l = l.greatest ≡ forest_extent (forest_of (plain_matchlets (take l.line-index l.lines)))
