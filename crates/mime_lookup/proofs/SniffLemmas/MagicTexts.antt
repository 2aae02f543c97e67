-- The types of the magic list of a cache are texts of it.
use Rattle.std.proofs.Common.{◌≡◌, ℕ, ◌+◌, Bool, true, false, cond, List, [], ◌∷◌, Option, Some, None, Bor}
use Rattle.std.specs.Prelude.{IfSome}
use Rattle.mime_base.specs.Cache.Bytes.{Stands}
use Rattle.mime_base.specs.Format.Magic.{IsSectionRecord}
use Rattle.mime_base.specs.Format.Records.{RecordsAt}
use Rattle.mime_base.specs.Magic.Holds.{first_magic, some_holds}
use Rattle.mime_base.specs.Magic.{PlainSection}
use Rattle.mime_base.specs.declared.magic.host.Host.{Host}
use Rattle.mime_base.proofs.CacheLemmas.TextsStand.{text_at-standing}
use Rattle.mime_lookup.specs.Cached.{IsCacheText}
use Rattle.mime_lookup.proofs.SniffLemmas.FirstSections.{first_magic-nil, first_magic-section}
use Rattle.mime_view.specs.Magic.{plain_found}

-- a type with a priority, of which the type is a text of the cache
abbrev IsFoundText : List ℕ → Option (List ℕ × ℕ) → Type 0
IsFoundText c found = IfSome found (λ it. IsCacheText c it.0)

-- the type of the first section that holds is a text of the cache
pub first_text : (c : List ℕ) (at : ℕ) (sections : List PlainSection) (content : List ℕ) (host : Host)
    → RecordsAt (Stands c) 16 (IsSectionRecord (Stands c)) at sections → IsFoundText c (first_magic sections content host)
first_text c at [] content host stand = rw (first_magic-nil content host) tt
first_text c at (section ∷ sections) content host stand =
    rw (first_magic-section content host section sections) (by_cases (some_holds section.lines content host)
    (first_text c (at + 16) sections content host stand.3))
  where
    by_cases : (holds : Bool) → IsFoundText c (first_magic sections content host)
        → IsFoundText c (cond holds (Some (section.kind, section.priority)) (first_magic sections content host))
    by_cases true rest =
        let is = stand.2 in
        (is.0, text_at-standing c is.0 section.kind is.3.is_text is.3.stand)
    by_cases false rest = rest

-- so is that of what was found, where it is that
pub found_text : (c : List ℕ) (found : Option (Bor (List ℕ) × ℕ)) (is : Option (List ℕ × ℕ)) → plain_found found ≡ is
    → IsFoundText c is → IfSome found (λ it. IsCacheText c it.0.now)
found_text c None is same text = tt
found_text c (Some it) is same text = rw (← same) at text
