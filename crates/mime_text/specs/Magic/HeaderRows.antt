-- Texts of magic with a header or without, and their faults. Each law computes.
use Rattle.std.specs.Prelude.{◌≡◌, [], ◌∷◌, ◌++◌, codes, Some, None, refl}
use Rattle.mime_text.specs.declared.magic.fault.MagicFault.TheVariants.{Malformed}
use Rattle.mime_text.specs.declared.magic.fault.MagicFaultKind.TheVariants.{NoHeader}
use Rattle.mime_text.specs.Magic.Reading.{header, magic_fault}
use Rattle.mime_text.specs.Magic.Rows.{computing}

-- the header with a small letter
lower_case : magic_fault (codes "MIME-magic" ++ 0 ∷ 10 ∷ []) ≡ Some (Malformed NoHeader 0)
unfolding computing
lower_case = refl

-- the header without its newline
eleven_bytes : magic_fault (codes "MIME-Magic" ++ 0 ∷ []) ≡ Some (Malformed NoHeader 0)
unfolding computing
eleven_bytes = refl

-- the header alone
twelve_bytes : magic_fault header ≡ None
unfolding computing
twelve_bytes = refl

-- a byte before the header
byte_before : magic_fault (10 ∷ codes "MIME-Magic" ++ 0 ∷ 10 ∷ []) ≡ Some (Malformed NoHeader 0)
unfolding computing
byte_before = refl
