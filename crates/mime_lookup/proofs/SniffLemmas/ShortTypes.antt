-- What a content is sniffed as has at most 255 bytes.
use Rattle.std.proofs.Common.{ℕ, ◌≤◌, List, [], ◌∷◌, length, Option, None, Some, bytes_eq, codes, arith}
use Rattle.std.specs.Prelude.{IfSome}
use Rattle.std.specs.List.{All}
use Rattle.std.proofs.lemmas.Bool.{cond_both}
use Rattle.std.proofs.lemmas.List.Elements.{All-head, All-tail}
use Rattle.mime_base.specs.Database.{PlainDatabase}
use Rattle.mime_base.specs.Database.Subclass.{resolved}
use Rattle.mime_base.specs.Magic.{PlainSection}
use Rattle.mime_base.specs.Magic.Holds.{first_magic, some_holds}
use Rattle.mime_base.specs.Magic.Textual.{looks_textual}
use Rattle.mime_base.specs.declared.magic.host.Host.{Host}
use Rattle.mime_lookup.specs.ShortTypes.{HasShortTypes}
use Rattle.mime_lookup.specs.Sniffing.{sniffed, sniffed_by_bytes, sniffed_by_magic}

-- a type after one alias step
resolved-short : (pairs : List (List ℕ × List ℕ)) (kind : List ℕ) → All (λ pair. length pair.1 ≤ 255) pairs → length kind ≤ 255 →
    length (resolved pairs kind) ≤ 255
unfolding resolved
resolved-short [] kind short own = own
resolved-short (pair ∷ pairs) kind short own =
    let P : List ℕ × List ℕ → Type 0 = λ pair. length pair.1 ≤ 255 in
    cond_both (bytes_eq pair.0 kind) pair.1 (resolved pairs kind) (λ (x : List ℕ). length x ≤ 255)
    (λ _. All-head P pair pairs short) (λ _. resolved-short pairs kind (All-tail P pair pairs short) own)

-- the type that a section gives
first_magic-short : (sections : List PlainSection) (content : List ℕ) (host : Host) → All (λ section. length section.kind ≤ 255) sections →
    IfSome (first_magic sections content host) (λ found. length found.0 ≤ 255)
unfolding first_magic
first_magic-short [] content host short = tt
first_magic-short (section ∷ sections) content host short =
    let P : PlainSection → Type 0 = λ section. length section.kind ≤ 255 in
    cond_both (some_holds section.lines content host) (Some (section.kind, section.priority)) (first_magic sections content host)
    (λ (x : Option (List ℕ × ℕ)). IfSome x (λ found. length found.0 ≤ 255))
    (λ _. All-head P section sections short) (λ _. first_magic-short sections content host (All-tail P section sections short))

-- the type by the bytes alone
by_bytes-short : (content : List ℕ) → length (sniffed_by_bytes content) ≤ 255
by_bytes-short [] = omega arith
by_bytes-short (byte ∷ content) =
    cond_both (looks_textual (byte ∷ content)) (codes "text/plain") (codes "application/octet-stream") (λ (x : List ℕ). length x ≤ 255)
    (λ _. omega arith) (λ _. omega arith)

-- the type by magic
by_magic-short : (b : PlainDatabase) (content : List ℕ) → HasShortTypes b → (found : Option (List ℕ × ℕ)) →
    IfSome found (λ section. length section.0 ≤ 255) → length (sniffed_by_magic b found content) ≤ 255
by_magic-short b content short None is = by_bytes-short content
by_magic-short b content short (Some section) is = resolved-short b.aliases section.0 short.targets is

-- and so what it is sniffed as
pub sniffed-short : (b : PlainDatabase) (content : Option (List ℕ)) (host : Host) → HasShortTypes b → length (sniffed b content host) ≤ 255
unfolding sniffed
sniffed-short b None host short = omega arith
sniffed-short b (Some content) host short =
    by_magic-short b content short (first_magic b.sections content host) (first_magic-short b.sections content host short.sections)
