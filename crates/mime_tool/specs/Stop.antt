-- Why a command stops, and what is said on standard error.
use Rattle.std.specs.Prelude.{◌≡◌, ◌⊎◌, ℕ, List, [], Option, Some, Result, Ok, Err, codes, string_bytes}
use Rattle.mime_base.specs.declared.memory.OutOfMemory.{OutOfMemory as NoMemory}
use Rattle.mime_tool.specs.Run.{out_of_memory}
use Rattle.mime_tool.specs.Sink.{Flush, Wrote, WroteFront, WroteMessage}
use Rattle.mime_tool.specs.declared.sink.SinkFault.{SinkFault}
use Rattle.mime_tool.specs.declared.sink.SinkFault.TheVariants as fault
use Rattle.mime_tool.specs.declared.stop.Stop.{Stop}
use Rattle.mime_tool.specs.declared.stop.Stop.TheVariants as stop

-- the stop that a fault of standard output leads to
abbrev pub stop_of : SinkFault → Stop
stop_of fault.Failed = stop.CannotWrite
stop_of fault.OutOfMemory = stop.OutOfMemory

-- known bytes grow by these, or by what these begin with where memory runs out
abbrev pub Says : Option (List ℕ) → Option (List ℕ) → Result (Unit {0}) NoMemory → List ℕ → Type 0
Says old new (Ok _) bs = Wrote old new bs
Says old new (Err _) bs = WroteFront old new bs

-- what is said of a stop
abbrev pub message : Stop → List ℕ
message (stop.Refused text) = string_bytes text
message stop.CannotWrite = codes "mimelook: cannot write output\n"
message stop.OutOfMemory = []

-- the data are refused with this message, unless memory ran out
abbrev pub IsRefusal : List ℕ → Stop → Type 0
IsRefusal text (stop.Refused message) = string_bytes message ≡ text
IsRefusal text stop.CannotWrite = ⊥
IsRefusal text stop.OutOfMemory = Unit {0}

-- the message of a stop is said; that memory ran out isn't said here
abbrev pub SaysStop : Stop → Option (List ℕ) → Option (List ℕ) → Result (Unit {0}) NoMemory → Type 0
SaysStop stop.OutOfMemory old new (Ok _) = ⊥
SaysStop stop.OutOfMemory old new (Err _) = new ≡ old
SaysStop s old new r = Says old new r (message s)

-- memory ran out in the middle of this message; then that is said
abbrev pub SaysCut : Option ℕ → Option (List ℕ) → Option (List ℕ) → List ℕ → Type 0
SaysCut capacity old new bs = (mid : Option (List ℕ)) × WroteFront old mid bs × WroteMessage capacity mid new out_of_memory

-- the message is said and the status is 3; or memory ran out, and the status is 4
abbrev pub TellsStop : Stop → Option ℕ → Option (List ℕ) → Option (List ℕ) → ℕ → Type 0
TellsStop stop.OutOfMemory capacity old new status = (status ≡ 4) × WroteMessage capacity old new out_of_memory
TellsStop s capacity old new status =
    ((status ≡ 3) × Wrote old new (message s)) ⊎ ((status ≡ 4) × SaysCut capacity old new (message s))

-- what a run came to is what it came to before the flush, unless memory ran out in that
abbrev pub IsFlushed : Flush → Result ℕ Stop → Result ℕ Stop → Type 0
IsFlushed flush (Ok status) after =
    ((flush ≡ Some (Ok tt)) × (after ≡ Ok status)) ⊎ ((flush ≡ Some (Err fault.OutOfMemory)) × (after ≡ Err stop.OutOfMemory))
IsFlushed flush (Err s) after =
    (after ≡ Err s) × ((flush ≡ Some (Ok tt)) ⊎ (flush ≡ Some (Err fault.OutOfMemory)))
