-- The command line of mimelook: its commands and what each takes.
use Rattle.std.specs.Prelude.{ℕ, Some, true, codes}
use Rattle.clap.specs.Lexer.{usize_max}
use Rattle.clap.specs.Walk.{Rule, Text}
use Rattle.clap.specs.Simple.{App, new_app, new_rule, on_top, with_rule, with_subcommand}
use Rattle.clap.specs.declared.builder.action.ArgAction.TheVariants.{SetTrue}

-- `-d DIRS`, or `--data-dirs DIRS`
abbrev pub directories_rule : Rule
directories_rule = record (new_rule (codes "dirs")) {
  long = Some (codes "data-dirs");
  short = Some 100;
  value_names = 1;
}

-- `-c CACHE`, or `--cache CACHE`
abbrev pub cache_rule : Rule
cache_rule = record (new_rule (codes "cache")) {
  long = Some (codes "cache");
  short = Some 99;
  value_names = 1;
}

-- a flag of this long name
abbrev pub flag_rule : Text → Rule
flag_rule name = record (new_rule name) { long = Some name; action = Some SetTrue }

-- a flag of this long name and this short one
abbrev pub short_flag_rule : Text → ℕ → Rule
short_flag_rule name short = record (flag_rule name) { short = Some short }

-- `[FILE...]`
abbrev pub files_rule : Rule
files_rule = record (new_rule (codes "file")) {
  range = Some (record { start_inclusive = 1; end_inclusive = usize_max });
  value_names = 1;
}

-- `FILE...`
abbrev pub explained_rule : Rule
explained_rule = record files_rule { required = true }

-- `--files0-from LIST`
abbrev pub list_rule : Rule
list_rule = record (new_rule (codes "files0-from")) { long = Some (codes "files0-from"); value_names = 1 }

-- `--stdin NAME`
abbrev pub input_rule : Rule
input_rule = record (new_rule (codes "stdin")) { long = Some (codes "stdin"); value_names = 1 }

-- `-o FILE`, or `--output FILE`
abbrev pub output_rule : Rule
output_rule = record (new_rule (codes "output")) {
  long = Some (codes "output");
  short = Some 111;
  value_names = 1;
  required = true;
}

-- `TYPE`
abbrev pub kind_rule : Rule
kind_rule = record (new_rule (codes "type")) { value_names = 1; required = true }

-- `BASE`
abbrev pub base_rule : Rule
base_rule = record (new_rule (codes "base")) { value_names = 1; required = true }

-- `build [-d DIRS] [--drop-twins] -o FILE`
abbrev pub build_app : App
build_app = with_rule (with_rule (with_rule (new_app (codes "build")) directories_rule) (flag_rule (codes "drop-twins")))
    output_rule

-- with `[--name-only] [--content-only] [--magic-first] [--all-globs]`
abbrev pub with_orders : App → App
with_orders app = with_rule (with_rule (with_rule (with_rule app (flag_rule (codes "name-only")))
    (flag_rule (codes "content-only"))) (flag_rule (codes "magic-first"))) (flag_rule (codes "all-globs"))

-- with these and `[--inode]`
abbrev pub with_looks : App → App
with_looks app = with_rule (with_orders app) (flag_rule (codes "inode"))

-- with `[-0] [-b] [--escape]`, of which the first two are `--null` and `--brief` too
abbrev pub with_output : App → App
with_output app = with_rule (with_rule (with_rule app (short_flag_rule (codes "null") 48)) (short_flag_rule (codes "brief") 98))
    (flag_rule (codes "escape"))

-- with `[--files0-from LIST] [--stdin NAME] [FILE...]`
abbrev pub with_subjects : App → App
with_subjects app = with_rule (with_rule (with_rule app list_rule) input_rule) files_rule

-- `plain [-d DIRS] [--name-only] [--content-only] [--magic-first] [--all-globs] [--inode] [-0] [-b] [--escape]
-- [--files0-from LIST] [--stdin NAME] [FILE...]`
abbrev pub plain_app : App
plain_app = with_subjects (with_output (with_looks (with_rule (new_app (codes "plain")) directories_rule)))

-- a command of this name that takes `[-c CACHE | -d DIRS]`
abbrev pub app_of_source : Text → App
app_of_source name = with_rule (with_rule (new_app name) cache_rule) directories_rule

-- `list [-c CACHE | -d DIRS]`
abbrev pub list_app : App
list_app = app_of_source (codes "list")

-- `check [-c CACHE | -d DIRS]`
abbrev pub check_app : App
check_app = app_of_source (codes "check")

-- `explain [-c CACHE | -d DIRS] [--name-only] [--content-only] [--magic-first] [--all-globs] [--escape] FILE...`
abbrev pub explain_app : App
explain_app = with_rule (with_rule (with_orders (app_of_source (codes "explain"))) (flag_rule (codes "escape"))) explained_rule

-- `isa [-c CACHE | -d DIRS] TYPE BASE`
abbrev pub is_a_app : App
is_a_app = with_rule (with_rule (app_of_source (codes "isa")) kind_rule) base_rule

-- `icon [-c CACHE | -d DIRS] TYPE`
abbrev pub icon_app : App
icon_app = with_rule (app_of_source (codes "icon")) kind_rule

-- `type [-c CACHE | -d DIRS] [--name-only] [--content-only] [--magic-first] [--all-globs] [--inode] [--cost] [-0] [-b] [--escape]
-- [--files0-from LIST] [--stdin NAME] [FILE...]`
abbrev pub type_app : App
type_app = with_subjects (with_output (with_rule (with_looks (app_of_source (codes "type"))) (flag_rule (codes "cost"))))

-- `mimelook`, without its own name among the words: it has a version, as each command has, and wants a command
abbrev pub mimelook_alone : App
mimelook_alone = on_top (λ s. record s {
  has_version = true;
  propagate_version = true;
  no_binary_name = true;
  subcommand_required = true;
}) (new_app (codes "mimelook"))

-- `mimelook` with the commands over data directories
abbrev pub mimelook_of_directories : App
mimelook_of_directories = with_subcommand (with_subcommand mimelook_alone build_app.top) plain_app.top

-- `mimelook` with these and the commands over a whole cache
abbrev pub mimelook_of_caches : App
mimelook_of_caches = with_subcommand (with_subcommand (with_subcommand mimelook_of_directories list_app.top) check_app.top)
    explain_app.top

-- `mimelook` with all its commands
abbrev pub mimelook : App
mimelook = with_subcommand (with_subcommand (with_subcommand
    mimelook_of_caches is_a_app.top) icon_app.top) type_app.top
