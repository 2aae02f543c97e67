use Rattle.std.proofs.Common.{◌≡◌, drop}
use Rattle.mime_base.specs.Database.PlainPairs.{plain_icons}
use Rattle.mime_view.specs.Pairs.{looked_up}
use Rattle.mime_lookup.proofs.lists.icons.name_among.Given as goal

abbrev pub invariant-loop-icon : goal.invariant-loop-icon
invariant-loop-icon l = looked_up (plain_icons l.icons) l.kind ≡ looked_up (plain_icons (drop l.icon-index l.icons)) l.kind
