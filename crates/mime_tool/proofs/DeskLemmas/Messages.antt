-- How a message is put on standard error where it has room, and where it may not have.
use Rattle.std.proofs.Common.{◌≡◌, ℕ, List, false, true, Option, Result, Ok, Err, inl, inr, refl, subst}
use Rattle.std.specs.Prelude.{IsOk}
use Rattle.mime_base.specs.declared.memory.OutOfMemory.{OutOfMemory as NoMemory}
use Rattle.mime_tool.specs.Run.{out_of_memory}
use Rattle.mime_tool.specs.Sink.{HasRoom, WroteMessage}
use Rattle.mime_tool.specs.Stop.{Says, SaysStop, TellsStop}
use Rattle.mime_tool.specs.declared.stop.Stop.{Stop}
use Rattle.mime_tool.specs.declared.stop.Stop.TheVariants as stop
use Rattle.mime_tool.proofs.DeskLemmas.Sinks.{front_all}

-- false is not true
is_other : false ≡ true → ⊥
is_other e = cc

-- a message is written whole where there is room
pub said_message : (capacity : Option ℕ) (old new : Option (List ℕ)) (r : Result (Unit {0}) NoMemory) (bs : List ℕ)
    → Says old new r bs → (HasRoom capacity old bs → IsOk r) → WroteMessage capacity old new bs
said_message capacity old new (Ok _) bs says room = (front_all old new bs says, λ _. says)
said_message capacity old new (Err _) bs says room = (says, λ fits. absurd (is_other (room fits)))

-- that memory ran out is said
pub tells_memory : (s : Stop) (capacity : Option ℕ) (old mid new : Option (List ℕ)) (r : Result (Unit {0}) NoMemory) (none : NoMemory)
    → SaysStop s old mid (Err none) → Says mid new r out_of_memory → (HasRoom capacity mid out_of_memory → IsOk r)
    → TellsStop s capacity old new 4
tells_memory stop.OutOfMemory capacity old mid new r none said says room =
    let told = said_message capacity mid new r out_of_memory says room in
    (refl, subst (λ (s : Option (List ℕ)). WroteMessage capacity s new out_of_memory) said told)
tells_memory stop.CannotWrite capacity old mid new r none said says room =
    inr (refl, (mid, said, said_message capacity mid new r out_of_memory says room))
tells_memory (stop.Refused m) capacity old mid new r none said says room =
    inr (refl, (mid, said, said_message capacity mid new r out_of_memory says room))

-- the message of a stop is said
pub tells_stop : (s : Stop) (capacity : Option ℕ) (old new : Option (List ℕ)) → SaysStop s old new (Ok tt) → TellsStop s capacity old new 3
tells_stop stop.OutOfMemory capacity old new said = absurd said
tells_stop stop.CannotWrite capacity old new said = inl (refl, said)
tells_stop (stop.Refused m) capacity old new said = inl (refl, said)
