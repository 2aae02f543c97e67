use Rattle.mime_text.proofs.MagicLemmas.Laws.{file_found, file_only, error_only, error_exact}
use Rattle.mime_text.proofs.magic.read.read_magic.Goals as goal

pub returns-in-Ok-clause-found : goal.returns-in-Ok-clause-found
returns-in-Ok-clause-found c = file_found c.args.text.now c.in-Ok.file (rw c.in-Ok.is at c.file.ensures)

pub returns-in-Ok-clause-only : goal.returns-in-Ok-clause-only
returns-in-Ok-clause-only c flat_sections = file_only c.args.text.now c.in-Ok.file flat_sections (rw c.in-Ok.is at c.file.ensures)

pub returns-in-Err-clause-only : goal.returns-in-Err-clause-only
returns-in-Err-clause-only c flat_sections spelled =
    rw c.placed.ensures (error_only c.args.text.now c.in-Err.error flat_sections (rw c.in-Err.is at c.file.ensures) spelled)

pub returns-in-Err-clause-exact : goal.returns-in-Err-clause-exact
returns-in-Err-clause-exact c = rw c.placed.ensures (error_exact c.args.text.now c.in-Err.error (rw c.in-Err.is at c.file.ensures))
