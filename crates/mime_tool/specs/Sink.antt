-- What sinks hold, and what they handed on.
use Rattle.std.specs.Prelude.{◌≡◌, ◌⊎◌, ◌≤◌, ℕ, List, ◌++◌, length, Option, Some, None, Result, Ok, Err}
use Rattle.mime_tool.specs.declared.sink.SinkFault.{SinkFault}
use Rattle.mime_tool.specs.declared.sink.SinkFault.TheVariants.{Failed, OutOfMemory}

-- known bytes grow by these
abbrev pub Wrote : Option (List ℕ) → Option (List ℕ) → List ℕ → Type 0
Wrote None new bs = Unit {0}
Wrote (Some xs) new bs = new ≡ Some (xs ++ bs)

-- known bytes grow by what these begin with
abbrev pub WroteFront : Option (List ℕ) → Option (List ℕ) → List ℕ → Type 0
WroteFront None new bs = Unit {0}
WroteFront (Some xs) new bs =
    (front : List ℕ) × (rest : List ℕ) × (bs ≡ front ++ rest) × (new ≡ Some (xs ++ front))

-- a known sink that holds that many bytes at the most, where that is told, has room for these
abbrev pub HasRoom : Option ℕ → Option (List ℕ) → List ℕ → Type 0
HasRoom None held bs = ⊥
HasRoom (Some capacity) None bs = ⊥
HasRoom (Some capacity) (Some xs) bs = length (xs ++ bs) ≤ capacity

-- a message is written, or what it begins with where the sink has no room for all of it
abbrev pub WroteMessage : Option ℕ → Option (List ℕ) → Option (List ℕ) → List ℕ → Type 0
WroteMessage capacity old new bs = WroteFront old new bs × (HasRoom capacity old bs → Wrote old new bs)

-- all the bytes are taken, or memory runs out in the middle of them, or the sink isn't known
abbrev pub IsPut : Option (List ℕ) → Option (List ℕ) → Result (Unit {0}) SinkFault → List ℕ → Type 0
IsPut old new (Ok _) bs = Wrote old new bs
IsPut old new (Err OutOfMemory) bs = WroteFront old new bs
IsPut old new (Err Failed) bs = old ≡ None

-- what the flush after the last bytes answered, if there was one
abbrev pub Flush : Type 0
Flush = Option (Result (Unit {0}) SinkFault)

-- a known sink says what its flush answered
abbrev pub Flushes : Option (List ℕ) → Flush → Result (Unit {0}) SinkFault → Type 0
Flushes None flush answer = Unit {0}
Flushes (Some xs) flush answer = flush ≡ Some answer

-- all bytes were handed on; or memory ran out while they were, and the status says that or an earlier stop
abbrev pub IsHandedOn : ℕ → Flush → Type 0
IsHandedOn status flush =
    (flush ≡ Some (Ok tt)) ⊎ ((flush ≡ Some (Err OutOfMemory)) × (3 ≤ status))
