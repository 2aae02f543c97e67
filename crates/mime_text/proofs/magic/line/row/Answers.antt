use Rattle.std.proofs.Common.{◌+◌, ℕ, Option, Some, None, subst}
use Rattle.std.proofs.lemmas.List.{take_rest}
use Rattle.memchr.specs.Find.{IsFirstByte, is_byte}
use Rattle.mime_text.proofs.MagicLemmas.Prefixes.{row_searched}
use Rattle.mime_text.proofs.magic.line.row.Goals as goal

pub returns : goal.returns
returns c =
    let first = subst (λ (o : Option ℕ). IsFirstByte (is_byte 10) c.args.bytes.now o) c.in-Some.is c.memchr.ensures in
    rw (take_rest c.args.bytes.now (c.in-Some.end + 1)) (row_searched c.args.bytes.now (Some c.in-Some.end) first).1

pub returns-in_default : goal.returns-in_default
returns-in_default c =
    row_searched c.args.bytes.now None
    (subst (λ (o : Option ℕ). IsFirstByte (is_byte 10) c.args.bytes.now o) c.in_default.is c.memchr.ensures)
