-- What a content is sniffed as.
use Rattle.std.specs.Prelude.{◌≡◌, ◌⊎◌, refl, ℕ, ◌≤◌, if◌then◌else◌, List, [], ◌∷◌, ◌++◌, length, Option, None, Some, codes}
use Rattle.mime_base.specs.Database.{PlainDatabase}
use Rattle.mime_base.specs.Format.Sample.{empty_database}
use Rattle.mime_base.specs.Magic.Extent.{extent}
use Rattle.mime_base.specs.Magic.Holds.{first_magic}
use Rattle.mime_base.specs.Database.Subclass.{resolved}
use Rattle.mime_base.specs.Magic.Textual.{looks_textual}
use Rattle.mime_base.specs.declared.magic.host.Host.{Host}

-- by its bytes alone: empty, text or other bytes
abbrev pub sniffed_by_bytes : List ℕ → List ℕ
sniffed_by_bytes [] = codes "application/x-zerosize"
sniffed_by_bytes (byte ∷ content) =
    if looks_textual (byte ∷ content) then codes "text/plain" else codes "application/octet-stream"

-- by the first section that holds, whose type is resolved, else by its bytes alone
abbrev pub sniffed_by_magic : PlainDatabase → Option (List ℕ × ℕ) → List ℕ → List ℕ
sniffed_by_magic b None content = sniffed_by_bytes content
sniffed_by_magic b (Some section) content = resolved b.aliases section.0

-- content that is not available is bytes, any other is sniffed by magic
unfoldable pub sniffed : PlainDatabase → Option (List ℕ) → Host → List ℕ
sniffed b None host = codes "application/octet-stream"
sniffed b (Some content) host = sniffed_by_magic b (first_magic b.sections content host) content

-- a front that is as long as the greater of 128 and the extent, or the whole, is sniffed as the whole
abbrev pub FrontIsEnough : Type 0
FrontIsEnough =
    (b : PlainDatabase) (front rest : List ℕ) (host : Host) → (rest ≡ []) ⊎ ((128 ≤ length front) × (extent b ≤ length front)) →
    sniffed b (Some front) host ≡ sniffed b (Some (front ++ rest)) host

-- content that is not available, and content without any magic
not_available : (host : Host) → sniffed empty_database None host ≡ codes "application/octet-stream"
unfolding sniffed
not_available host = refl

empty : (host : Host) → sniffed empty_database (Some []) host ≡ codes "application/x-zerosize"
unfolding sniffed first_magic
empty host = refl

a_line : (host : Host) → sniffed empty_database (Some (codes "hi" ++ 10 ∷ [])) host ≡ codes "text/plain"
unfolding sniffed first_magic looks_textual
a_line host = refl
