-- Steps of loading data: each gives something or stops, and its messages go to standard error.
use Rattle.std.specs.Prelude.{◌≡◌, ℕ, List, [], ◌++◌, Option, Some, None, Result, Ok, Err, string_bytes}
use Rattle.mime_tool.specs.Finish.{Sinks, Writes, WritesFront}
use Rattle.mime_tool.specs.Run.{said}
use Rattle.mime_tool.specs.declared.stop.Stop.{Stop}
use Rattle.mime_tool.specs.declared.stop.Stop.TheVariants as stop

-- this is given, without a message
abbrev pub Gives : {X : Type 0} → X → Option X → List ℕ → Type 0
Gives x found messages = (found ≡ Some x) × (messages ≡ [])

infixl 10 ◌>>=◌
module _ {X Y : Type 0} where
  -- what comes after a step that had these messages, and gave something or stopped
  abbrev pub GoesOn : Option X → List ℕ → (X → Option Y → List ℕ → Type 0) → Option Y → List ℕ → Type 0
  GoesOn None first Next found messages = (found ≡ None) × (messages ≡ first)
  GoesOn (Some x) first Next found messages =
      (rest : List ℕ) × Next x found rest × (messages ≡ first ++ rest)

  -- a step, and then one that takes what it gave; where it stops, that is the end
  abbrev pub ◌>>=◌ : (Option X → List ℕ → Type 0) → (X → Option Y → List ℕ → Type 0) → Option Y → List ℕ → Type 0
  ◌>>=◌ First Next found messages =
      (x : Option X) × (first : List ℕ) × First x first × GoesOn x first Next found messages

  -- the step gave the plain value of the result, or stopped, and its messages are written; at a stop
  -- the last message is still to be said; where memory ran out a front of them is written
  abbrev pub Loads : (X → Y) → (Option Y → List ℕ → Type 0) → Sinks → Sinks → Result X Stop → Type 0
  Loads plain IsStep old new (Ok x) =
      (messages : List ℕ) × IsStep (Some (plain x)) messages × Writes old new (said messages)
  Loads plain IsStep old new (Err (stop.Refused text)) =
      (messages : List ℕ) × IsStep None (messages ++ string_bytes text) × Writes old new (said messages)
  Loads plain IsStep old new (Err stop.CannotWrite) = old.out ≡ None
  Loads plain IsStep old new (Err stop.OutOfMemory) =
      (found : Option Y) × (messages : List ℕ) × IsStep found messages × WritesFront old new (said messages)
