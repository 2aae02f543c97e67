-- The commands as clap builds them below `mimelook`.
use Rattle.std.proofs.Common.{codes}
use Rattle.clap.specs.Walk.{Text}
use Rattle.clap.specs.Simple.{App, Shape, built_leaf, inherited, marked_built, with_leaf_noted}
use Rattle.mime_request.specs.CommandLine.{build_app, check_app, explain_app, icon_app, is_a_app, list_app, mimelook, plain_app, type_app}

-- the shape of a command below the program
abbrev below : App → Shape
below command = built_leaf (inherited (with_leaf_noted (marked_built mimelook.top)) command.top)

-- what `build` takes
abbrev pub build_shape : Shape
build_shape = below build_app

-- what `plain` takes
abbrev pub plain_shape : Shape
plain_shape = below plain_app

-- what `list` takes
abbrev pub list_shape : Shape
list_shape = below list_app

-- what `check` takes
abbrev pub check_shape : Shape
check_shape = below check_app

-- what `explain` takes
abbrev pub explain_shape : Shape
explain_shape = below explain_app

-- what `isa` takes
abbrev pub is_a_shape : Shape
is_a_shape = below is_a_app

-- what `icon` takes
abbrev pub icon_shape : Shape
icon_shape = below icon_app

-- what `type` takes
abbrev pub type_shape : Shape
type_shape = below type_app

-- a command over a cache, or over directories that one is made of
pub data OverCache : Type 0 where
  list_over : OverCache
  check_over : OverCache
  explain_over : OverCache
  is_a_over : OverCache
  icon_over : OverCache
  type_over : OverCache

-- a command that was met, by name and shape
pub data Met : Type 0 where
  build_met : Met
  plain_met : Met
  cache_met : OverCache → Met

-- the name of a command
abbrev pub name_of : Met → Text
name_of build_met = codes "build"
name_of plain_met = codes "plain"
name_of (cache_met list_over) = codes "list"
name_of (cache_met check_over) = codes "check"
name_of (cache_met explain_over) = codes "explain"
name_of (cache_met is_a_over) = codes "isa"
name_of (cache_met icon_over) = codes "icon"
name_of (cache_met type_over) = codes "type"

-- what a command takes
abbrev pub shape_of : Met → Shape
shape_of build_met = build_shape
shape_of plain_met = plain_shape
shape_of (cache_met list_over) = list_shape
shape_of (cache_met check_over) = check_shape
shape_of (cache_met explain_over) = explain_shape
shape_of (cache_met is_a_over) = is_a_shape
shape_of (cache_met icon_over) = icon_shape
shape_of (cache_met type_over) = type_shape

-- a command that takes FILEs
pub data TakesFiles : Shape → Type 0 where
  plain_takes : TakesFiles plain_shape
  type_takes : TakesFiles type_shape
