use Rattle.std.proofs.Common.{◌≡◌, drop}
use Rattle.std.specs.List.{list_any}
use Rattle.std.specs.Str.{bytes_eq}
use Rattle.clap.specs.Walk.{texts}
use Rattle.mime_tool.proofs.words.is_among.Given as goal

abbrev pub invariant-loop-file : goal.invariant-loop-file
invariant-loop-file l = list_any (λ file. bytes_eq file l.text) (texts l.files)
    ≡ list_any (λ file. bytes_eq file l.text) (texts (drop l.file-index l.files))
