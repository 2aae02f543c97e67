-- How the names of a list are read.
use Rattle.std.specs.Prelude.{◌≡◌, ◌==◌, ◌++◌, ℕ, Bool, true, false, not, List, [], ◌∷◌, Option, Some, None, Result, Ok, Err, Vec, drop, string_bytes}
use Rattle.std.specs.List.{list_all}
use Rattle.std.specs.Option.{option_map}
use Rattle.std.specs.declared.alloc.Global.{Global}
use Rattle.mime_lookup.specs.Content.{Health}
use Rattle.mime_tool.specs.Files.{Stored, bytes, unknown, unreadable}
use Rattle.mime_tool.specs.Finish.{Sinks, Writes}
use Rattle.mime_tool.specs.Listed.{IsUnlisted, listed}
use Rattle.mime_tool.specs.Process.{given_by}
use Rattle.mime_tool.specs.Run.{cannot_read, silent}
use Rattle.mime_tool.specs.declared.names.Names.{Names}
use Rattle.mime_tool.specs.declared.stop.Stop.{Stop}
use Rattle.mime_tool.specs.declared.stop.Stop.TheVariants as stop

-- what of the block was not given yet
abbrev pub unread_in : {R : Type 0} → Names R → List ℕ
unread_in names = drop names.given names.block.items

-- what is left of a list: what was read of it and not given yet, and what its reader still gives
abbrev pub left_in : {R : Type 0} → (R → Option (List ℕ)) → (R → Health) → Names R → Stored
left_in remaining health names =
    given_by (option_map (λ rest. unread_in names ++ rest) (remaining names.reader)) (health names.reader)

-- no byte is zero
abbrev pub has_no_zero : List ℕ → Bool
has_no_zero bs = list_all (λ b. not (b == 0)) bs

-- of what was left of a list these bytes are taken, and this is left
abbrev pub TakesBytes : Stored → List ℕ → Stored → Type 0
TakesBytes unknown taken after = Unit {0}
TakesBytes (bytes bs) taken after = (rest : List ℕ) × (bs ≡ taken ++ rest) × (after ≡ bytes rest)
TakesBytes unreadable taken after = (taken ≡ []) × (after ≡ unreadable)
TakesBytes _ taken after = ⊥

-- what ends a name: a zero byte, or nothing yet
abbrev pub ending : Bool → List ℕ
ending true = 0 ∷ []
ending false = []

-- a piece of bytes is what goes before the first zero byte, or all of them
abbrev pub CutsPiece : List ℕ → List ℕ → Bool → Type 0
CutsPiece bs piece ended =
    (has_no_zero piece ≡ true) × ((rest : List ℕ) × (bs ≡ piece ++ (ending ended ++ rest)) × (ended ≡ false → rest ≡ []))

-- a name grows by a piece of what was left of a list, and this is left; where that ends it, the zero byte is taken too
abbrev pub TakesPiece : Stored → Stored → List ℕ → List ℕ → Bool → Type 0
TakesPiece before after old new ended =
    (piece : List ℕ) × (has_no_zero piece ≡ true) × (new ≡ old ++ piece) × TakesBytes before (piece ++ ending ended) after

-- the list gives its next name, and this is left
abbrev pub Gives : Stored → List ℕ → Stored → Type 0
Gives unknown name after = Unit {0}
Gives (bytes bs) name after = (rest : List ℕ) × (listed bs ≡ name ∷ listed rest) × (after ≡ bytes rest)
Gives _ name after = ⊥

-- the list is at its end
abbrev pub IsAtEnd : Stored → Type 0
IsAtEnd unknown = Unit {0}
IsAtEnd (bytes bs) = bs ≡ []
IsAtEnd _ = ⊥

-- more is read of what was left, or that is at its end; or it can't be read, and the message names the list
abbrev pub ReadsMore : List ℕ → Stored → Stored → Result Bool Stop → Type 0
ReadsMore list before after (Ok true) = TakesBytes before [] after
ReadsMore list before after (Ok false) = TakesBytes before [] after × IsAtEnd before
ReadsMore list before after (Err (stop.Refused text)) = IsUnlisted before × (string_bytes text ≡ cannot_read list)
ReadsMore list before after (Err stop.CannotWrite) = ⊥
ReadsMore list before after (Err stop.OutOfMemory) = Unit {0}

-- the next name is given, or none at the end, once what was printed is handed on; or the list can't be read, and the message names it
abbrev pub GivesName : List ℕ → Stored → Stored → Sinks → Sinks → Result (Option (Vec ℕ Global)) Stop → Type 0
GivesName list before after old new (Ok (Some name)) = Writes old new silent × Gives before name.items after
GivesName list before after old new (Ok None) = Writes old new silent × IsAtEnd before
GivesName list before after old new (Err (stop.Refused text)) =
    Writes old new silent × IsUnlisted before × (string_bytes text ≡ cannot_read list)
GivesName list before after old new (Err stop.CannotWrite) = old.out ≡ None
GivesName list before after old new (Err stop.OutOfMemory) = Writes old new silent
