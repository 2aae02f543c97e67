use Rattle.std.proofs.Common.{◌∙◌, sym}
use Rattle.mime_lookup.proofs.AncestryLemmas.MarkSets.{marked-any}
use Rattle.mime_lookup.proofs.ancestry.is_marked.Goals as goal

pub returns : goal.returns
returns c = c.contains.ensures ∙ sym (marked-any c.args.marks.now.keys c.args.kind.now)
