-- What a run is given besides its words, files and sinks.
use Rattle.std.specs.Prelude.{ℕ, Bool, List, [], Option, Some}
use Rattle.mime_lookup.specs.Content.{Health, broken, sound}
use Rattle.mime_tool.specs.Environment.{PlainEnvironment, known_environment}
use Rattle.mime_tool.specs.Files.{Stored, bytes, unknown, unreadable}
use Rattle.mime_tool.specs.declared.process.Process.{Process}

-- its environment, if that is text, what standard input gives, and whether standard output is a terminal
pub record PlainProcess : Type 0 where
  pub environment : Option PlainEnvironment
  pub input : Stored
  pub to_terminal : Bool

-- what a reader of these bytes and of this health gives: the bytes, or its reads all fail; or that isn't known
abbrev pub given_by : Option (List ℕ) → Health → Stored
given_by (Some bs) sound = bytes bs
given_by (Some []) broken = unreadable
given_by _ _ = unknown

-- the plain value of a process
abbrev pub known_process : {I : Type 0} → (I → Option (List ℕ)) → (I → Health) → Process I → PlainProcess
known_process remaining health process = record {
  environment = known_environment process.environment;
  input = given_by (remaining process.input) (health process.input);
  to_terminal = process.to_terminal;
}
