use Rattle.std.proofs.Common.{◌≡◌, ◌++◌, ◌∷◌, [], ap}
use Rattle.std.proofs.lemmas.List.{map_push}
use Rattle.mime_text.specs.Magic.Entries.{plain_entry, plain_entries}
use Rattle.mime_text.specs.Magic.Forest.{stack}
use Rattle.mime_text.proofs.MagicLemmas.Stack.{grows_from, grows_on, made_of}
use Rattle.mime_text.proofs.magic.forest.grow.Goals as goal

pub loop-entry-init : goal.loop-entry-init
loop-entry-init c = grows_from _ _ (ap stack c.requires)

pub loop-entry-preserved : goal.loop-entry-preserved
loop-entry-preserved c =
    let e = c.in-Some.entry in
    let last : plain_entries c.loop-entry.entries.items ≡ plain_entries c.pop.new.self.items ++ plain_entry e ∷ [] =
    rw c.in-Some.ensures.items (map_push plain_entry c.pop.new.self.items e) in
    let taken = c.in_ok-children.ensures in
    let made = made_of _ _ _ _ _ _ c.in_ok-push.ensures.items c.root_over.ensures taken.taken taken.left in
    grows_on _ _ _ _ _ _ c.loop-entry.invariant last made
