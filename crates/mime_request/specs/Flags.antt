-- The flags of `type` and `plain`.
use Rattle.std.specs.Prelude.{◌&&◌, ◌||◌, Bool, false, not, List, Option, Some, None, codes, if◌then◌else◌}
use Rattle.std.specs.Option.{option_map_or}
use Rattle.std.specs.Str.{bytes_eq}
use Rattle.clap.specs.Walk.{Row, Text, first_of}
use Rattle.mime_request.specs.declared.request.Options.{Options}
use Rattle.mime_request.specs.declared.request.Output.{Output}

-- whether the flag is on: its text is `true`
abbrev pub is_on : Option Text → Bool
is_on flag = option_map_or (λ text. bytes_eq text (codes "true")) flag false

-- whether clap found the flag of this name
abbrev pub is_given : Text → List Row → Bool
is_given id rows = is_on (first_of id rows)

-- how an answer is to be printed, by what clap found
abbrev pub given_output : List Row → Output
given_output rows = record {
  null = is_given (codes "null") rows;
  brief = is_given (codes "brief") rows;
  escape = is_given (codes "escape") rows;
}

-- the options that clap found
abbrev pub given_options : List Row → Options
given_options rows = record {
  name_only = is_given (codes "name-only") rows;
  content_only = is_given (codes "content-only") rows;
  magic_first = is_given (codes "magic-first") rows;
  all_globs = is_given (codes "all-globs") rows;
  inode = is_given (codes "inode") rows;
  cost = is_given (codes "cost") rows;
  output = given_output rows;
}

-- whether the options can be given together: --escape is for lines, --cost for lines that name the FILE, --magic-first and
-- --all-globs are two orders of names and contents, and --content-only is none
abbrev pub agree : Options → Bool
agree options = not (options.output.escape && options.output.null)
    && (not (options.cost && (options.output.null || options.output.brief))
    && (not (options.magic_first && options.all_globs)
    && not (options.content_only && (options.name_only || options.magic_first || options.all_globs))))

-- the options, where they can be given together
abbrev pub agreed : Options → Option Options
agreed options = if agree options then Some options else None
