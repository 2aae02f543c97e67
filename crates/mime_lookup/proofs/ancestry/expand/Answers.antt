use Rattle.std.proofs.Common.{◌≡◌, ◌++◌, false, sym, ◌∙◌, arith}
use Rattle.mime_lookup.specs.Places.{placed}
use Rattle.mime_base.specs.Database.Subclass.{above}
use Rattle.mime_lookup.specs.Ancestry.{is_one_of, kinds_of}
use Rattle.mime_lookup.proofs.AncestryLemmas.Marks.{expanded_marked, expanded_new, unmarked-falls}
use Rattle.mime_lookup.proofs.AncestryLemmas.MarkSets.{mark-more}
use Rattle.mime_lookup.proofs.ancestry.expand.Goals as goal

pub returns-then-is_marked-clause-expanded : goal.returns-then-is_marked-clause-expanded
returns-then-is_marked-clause-expanded c =
    expanded_marked (placed c.args.both.now) c.args.kind.now (kinds_of c.args.marks.now.keys)
    c.args.queue.now
    (sym c.is_marked.ensures ∙ c.if-is_marked.true)

pub returns-clause-expanded : goal.returns-clause-expanded
returns-clause-expanded c =
    let pairs = placed c.args.both.now in
    let marks = kinds_of c.args.marks.now.keys in
    let grown : c.push_parents.new.queue ≡ c.args.queue.now ++ above pairs c.args.kind.now =
    c.in_ok-push_parents.ensures.queue in
    let new : is_one_of marks c.args.kind.now ≡ false = sym c.is_marked.ensures ∙ c.if-is_marked.false in
    rw (c.in_ok-insert.ensures.keys, mark-more c.args.marks.now.keys c.args.kind new)
    (expanded_new pairs c.args.kind.now marks c.args.queue.now c.push_parents.new.queue grown)

pub returns-clause-falls : goal.returns-clause-falls
returns-clause-falls c =
    let marks = kinds_of c.args.marks.now.keys in
    let new : is_one_of marks c.args.kind.now ≡ false = sym c.is_marked.ensures ∙ c.if-is_marked.false in
    let falls = unmarked-falls (placed c.args.both.now).parents c.args.kind.now marks new in
    let longer = c.in_ok-push_parents.ensures.longer in
    rw (c.in_ok-insert.ensures.keys, mark-more c.args.marks.now.keys c.args.kind new) (omega (arith, falls, longer))
