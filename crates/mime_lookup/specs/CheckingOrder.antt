-- The checking order: which type a name and a content have, and how much of the content is read.
use Rattle.std.specs.Prelude.{◌≡◌, ◌⊎◌, ℕ, Bool, true, false, nat_le, if◌then◌else◌, min, max, List, [], ◌∷◌, length, bytes_eq}
use Rattle.std.specs.Prelude.{Option, None, Some, IfSome, MatchOption}
use Rattle.std.specs.List.{list_all}
use Rattle.mime_base.specs.Database.{PlainDatabase, pairs_of}
use Rattle.mime_base.specs.Magic.Extent.{extent}
use Rattle.mime_base.specs.Magic.Holds.{first_magic}
use Rattle.mime_base.specs.Database.Subclass.{resolved}
use Rattle.mime_base.specs.declared.magic.host.Host.{Host}
use Rattle.mime_lookup.specs.Choice.{ChoosesAmong, candidates, kept}
use Rattle.mime_lookup.specs.Content.{MayBe, known_content}
use Rattle.mime_lookup.specs.Sniffing.{sniffed}
use Rattle.mime_lookup.specs.declared.order.Order.{Order}
use Rattle.mime_lookup.specs.declared.order.Order.TheVariants.{AllGlobs, ContentOnly, GlobsFirst, MagicFirst}
use Rattle.mime_lookup.specs.declared.sniff.Sniffed.{Sniffed}

-- the resolved type of a section with a priority of 80 or more
abbrev pub of_high_priority : PlainDatabase → Option (List ℕ × ℕ) → Option (List ℕ)
of_high_priority b None = None
of_high_priority b (Some section) = if nat_le 80 section.1 then Some (resolved b.aliases section.0) else None

-- the type that content gives before globs are asked: under MagicFirst that of a first section of high priority, under
-- ContentOnly the sniffed one
unfoldable pub before_globs : PlainDatabase → Option (List ℕ) → Host → Order → Option (List ℕ)
before_globs b content host GlobsFirst = None
before_globs b None host MagicFirst = None
before_globs b (Some content) host MagicFirst = of_high_priority b (first_magic b.sections content host)
before_globs b content host AllGlobs = None
before_globs b content host ContentOnly = Some (sniffed b content host)

-- whether there is such a section
abbrev pub is_section : Option (List ℕ × ℕ) → Bool
is_section None = false
is_section (Some section) = true

-- whether a section of magic holds for a content
abbrev pub has_magic : PlainDatabase → Option (List ℕ) → Host → Bool
has_magic b None host = false
has_magic b (Some content) host = is_section (first_magic b.sections content host)

-- the types that are asked for the sniffed one: the kept ones, but under AllGlobs all candidates where a section of magic holds
abbrev pub asked_types : PlainDatabase → List ℕ → Option (List ℕ) → Host → Order → List (List ℕ)
asked_types b name content host GlobsFirst = kept (pairs_of b) b.rules name
asked_types b name content host MagicFirst = kept (pairs_of b) b.rules name
asked_types b name content host AllGlobs =
    if has_magic b content host then candidates (pairs_of b) b.rules name else kept (pairs_of b) b.rules name
asked_types b name content host ContentOnly = kept (pairs_of b) b.rules name

-- What a content was sniffed as.
pub record IsSniffed (b : PlainDatabase) (content : Option (List ℕ)) (host : Host) (found : Sniffed) : Type 0 where
  -- The type is that of the first section that holds, else one by the bytes alone.
  pub kind : found.kind.now ≡ sniffed b content host
  -- It is of high priority where it comes before the globs if magic is asked first.
  pub high : (if found.is_high then Some found.kind.now else None) ≡ before_globs b content host MagicFirst
  -- Whether a section gave it.
  pub magic : found.by_magic ≡ has_magic b content host

-- What a content is sniffed as, of which not all need be known.
pub record IsSniffedFor {R : Type 0} (remaining : R → Option (List ℕ)) (b : PlainDatabase) (content : Option R) (host : Host)
    (found : Sniffed) : Type 0 where
  -- It is what the content is sniffed as, where that is known.
  pub sniffed : IfSome (known_content remaining content) (λ known. IsSniffed b known host found)
  -- Whatever is known of the content, it is what some content is sniffed as.
  pub some : (some : Option (List ℕ)) × MayBe content some × IsSniffed b some host found

-- the answer to a name and a content, where there is one; under AllGlobs candidates that are one type are the answer whichever are
-- asked, since the kept ones are the first of them
unfoldable pub Chooses : PlainDatabase → List ℕ → Option (List ℕ) → Host → Order → List ℕ → Type 0
Chooses b name content host order answer =
    MatchOption (before_globs b content host order)
    (ChoosesAmong (pairs_of b) (asked_types b name content host order) (sniffed b content host) answer) (λ kind. answer ≡ kind)

-- where the content alone is asked the answer is what it is sniffed as, whatever the name is
content_alone : (b : PlainDatabase) (name : List ℕ) (content : Option (List ℕ)) (host : Host) (answer : List ℕ)
    → Chooses b name content host ContentOnly answer → answer ≡ sniffed b content host
unfolding Chooses before_globs
content_alone b name content host answer chosen = chosen

-- whether some types are one type
abbrev pub are_one_type : List (List ℕ) → Bool
are_one_type [] = false
are_one_type (first ∷ more) = list_all (bytes_eq first) more

-- the types of a name that are asked before a content is: the kept ones, under AllGlobs all candidates, and none where
-- content is asked first
abbrev pub types_before : PlainDatabase → List ℕ → Order → List (List ℕ)
types_before b name GlobsFirst = kept (pairs_of b) b.rules name
types_before b name MagicFirst = []
types_before b name AllGlobs = candidates (pairs_of b) b.rules name
types_before b name ContentOnly = []

-- whether the globs alone give the answer
unfoldable pub globs_suffice : PlainDatabase → List ℕ → Order → Bool
globs_suffice b name GlobsFirst = are_one_type (kept (pairs_of b) b.rules name)
globs_suffice b name MagicFirst = false
globs_suffice b name AllGlobs = are_one_type (candidates (pairs_of b) b.rules name)
globs_suffice b name ContentOnly = false

-- the globs alone decide: they suffice, or no content is available and one type is kept or none
abbrev pub GlobsDecide : PlainDatabase → List ℕ → Order → Type 0 → Type 0
GlobsDecide b name order NoContent =
    (globs_suffice b name order ≡ true)
    ⊎ (NoContent × ((are_one_type (kept (pairs_of b) b.rules name) ≡ true) ⊎ (kept (pairs_of b) b.rules name ≡ [])))

-- the most that is read of a content
unfoldable pub read_limit : PlainDatabase → ℕ
read_limit b = max 128 (extent b)

-- how many bytes are read of a content that is looked at
abbrev pub front_size : PlainDatabase → Option (List ℕ) → ℕ
front_size b None = 0
front_size b (Some content) = min (length content) (read_limit b)

-- how many bytes are read of a content
unfoldable pub read_of : PlainDatabase → List ℕ → Option (List ℕ) → Order → ℕ
read_of b name content order = if globs_suffice b name order then 0 else front_size b content
