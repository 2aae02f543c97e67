-- What `any` answers over the fields.
use Rattle.std.proofs.Common.{bytes_eq, codes, tests, rules}
use Rattle.std.proofs.lemmas.Iterator.Consumers.{YieldsList-from_first}
use Rattle.std.proofs.lemmas.Iterator.Search.{any_from_yields_List}
use Rattle.mime_text.specs.Lines.Globs2.{has_cs}
use Rattle.mime_text.specs.Lines.{line_fields}
use Rattle.mime_text.proofs.lines.globs2.has_cs.Goals as goal

pub returns : goal.returns
unfolding has_cs
returns c =
    any_from_yields_List (λ flag. bytes_eq flag (codes "cs")) _ _ _ c.any.ensures.ran
    (YieldsList-from_first (λ x. x.now) (λ rest. rest) (line_fields 44 c.args.flags.now) c.new.ensures)
    (λ x b q k. search (rules, tests))
