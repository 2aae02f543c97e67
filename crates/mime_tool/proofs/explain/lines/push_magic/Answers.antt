use Rattle.std.proofs.Common.{[]}
use Rattle.mime_tool.proofs.explain.lines.push_magic.Goals as goal

pub returns-in-Some-Some : goal.returns-in-Some-Some
returns-in-Some-Some c = rw (c.in-Some-Some.is-0, c.in-Some-Some.is-1) (c.push_section.ensures [])
