use Rattle.clap.specs.Values.{kind_of}
use Rattle.mime_tool.proofs.RunLemmas.Programs.{shown_text}
use Rattle.mime_tool.proofs.program.show.Goals as goal

pub returns : goal.returns
returns g c =
    let done = c.show_text.ensures in
    record {
      same_files = done.same_files;
      same_setting = done.same_setting;
      sinks = shown_text (kind_of c.args.error) c.is_help.result c.as_str.result.now _ _ _
          (c.is_memory.ensures c.if-is_memory.false)
          c.is_help.ensures done.sinks;
    }
