-- What a read of a reader that tells its health can be.
use Rattle.std.proofs.Common.{◌≡◌, ℕ, Bool, true, false, cond, Result, Ok, refl}
use Rattle.mime_lookup.specs.Content.{Health, KeepsHealth, sound, untold}
use Rattle.mime_lookup.specs.declared.content.ReadFault.{ReadFault}

-- of a reader that is sound or untold, by whether all is well: bytes were given and it tells the same
pub tells_on : (before after : Bool) (count : ℕ) → before ≡ after →
    KeepsHealth (cond before sound untold) (cond after sound untold) (Ok count)
tells_on true true count same = (refl, refl)
tells_on true false count same = absurd cc
tells_on false after count same = tt

-- it tells nothing
pub tells_nothing : (before : Bool) (after : Health) (result : Result ℕ ReadFault) → before ≡ false →
    KeepsHealth (cond before sound untold) after result
tells_nothing true after result all = absurd cc
tells_nothing false after result all = tt
