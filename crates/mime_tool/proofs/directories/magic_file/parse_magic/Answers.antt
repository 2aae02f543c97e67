use Rattle.mime_tool.proofs.DirectoryLemmas.MagicFiles.{magic_parsed, magic_refused}
use Rattle.mime_tool.proofs.directories.magic_file.parse_magic.Goals as goal

pub returns-in-Ok : goal.returns-in-Ok
returns-in-Ok c = λ sinks.
    let found = c.in-Ok.ensures.found in
    magic_parsed c.args.path.now c.args.text.now sinks c.in-Ok.file found.0 found.1 found.2

pub returns-in-Err : goal.returns-in-Err
returns-in-Err c = λ sinks.
    magic_refused c.args.path.now c.args.text.now c.in-Err.fault sinks c.faulty.result c.in-Err.ensures.exact c.faulty.ensures
