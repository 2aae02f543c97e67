use Rattle.std.proofs.Common.{arith}
use Rattle.mime_store.proofs.SuffixTreeLemmas.OneSibling.{tree_head}
use Rattle.mime_store.proofs.BytesLemmas.Written.{grew_length, grew_on, grew_to}
use Rattle.mime_store.proofs.suffix_tree.write_tree.Goals as goal

pub append_numbers-requires-clause-room : goal.append_numbers-requires-clause-room
append_numbers-requires-clause-room c = omega (arith, c.requires.room, grew_length _ _ _ c.in_ok-roots.ensures.grew)

pub append_numbers-requires-clause-begun : goal.append_numbers-requires-clause-begun
append_numbers-requires-clause-begun c = omega (arith, c.requires.begun, grew_length _ _ _ c.in_ok-roots.ensures.grew)

pub returns-clause-grew : goal.returns-clause-grew
returns-clause-grew c = grew_to _ _ _ _ (omega arith) (grew_on _ _ _ _ _ c.in_ok-roots.ensures.grew c.in_ok-at.ensures.grew)

pub returns-clause-stands : goal.returns-clause-stands
returns-clause-stands c =
    tree_head _ _ _ _ _ _ _ c.in_ok-roots.ensures.stands c.requires.rises c.in_ok-at.ensures.grew c.in_ok-at.ensures.stand
