use Rattle.std.proofs.Common.{◌≡◌, map, take}
use Rattle.mime_base.specs.Database.PlainPairs.{plain_icons}
use Rattle.mime_store.specs.Views.{pair_texts}
use Rattle.mime_store.proofs.pairs.texts_of_icons.Given as goal

abbrev pub invariant-loop-icon : goal.invariant-loop-icon
invariant-loop-icon l = map pair_texts l.found.items ≡ plain_icons (take l.icon-index l.icons)
