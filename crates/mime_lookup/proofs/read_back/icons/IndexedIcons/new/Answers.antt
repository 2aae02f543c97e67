use Rattle.mime_lookup.proofs.SpellingLemmas.ReadIcons.{icons_of_lists}
use Rattle.mime_lookup.proofs.read_back.icons.IndexedIcons.new.Goals as goal

pub invariant_of-result : goal.invariant_of-result
invariant_of-result c =
    icons_of_lists c.args.counted c.args.lists.now c.in_ok-index.index c.requires c.in_ok-index.ensures.found c.in_ok-index.ensures.are
