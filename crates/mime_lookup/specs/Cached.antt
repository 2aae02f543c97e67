-- What the steps of a lookup over a cache give and why they stop, as plain values.
use Rattle.std.specs.Prelude.{◌≡◌, ◌≢◌, ◌⊎◌, ℕ, ◌≤◌, true, false, if◌then◌else◌, List, ◌∷◌, [], length, get_or, All, Contains, codes}
use Rattle.std.specs.Prelude.{Result, Ok, IfOk}
use Rattle.std.specs.Borrow.{Bor}
use Rattle.mime_base.specs.Cache.Texts.{text_at}
use Rattle.mime_base.specs.Database.{PlainDatabase, pairs_of}
use Rattle.mime_lookup.specs.CheckingOrder.{are_one_type}
use Rattle.mime_lookup.specs.Choice.{ChoosesAmong}
use Rattle.mime_lookup.specs.Finding.{PlainFinding, by_magic, fixed, resolved_finding}
use Rattle.mime_lookup.specs.declared.cached.name_types.NameTypes.{NameTypes}
use Rattle.mime_lookup.specs.declared.cached.name_types.NameTypes.TheVariants as types
use Rattle.mime_lookup.specs.declared.cached.sniff.Finding.{Finding}
use Rattle.mime_lookup.specs.declared.cached.sniff.Finding.TheVariants as finding
use Rattle.mime_lookup.specs.declared.stopped.Cause.{Cause}
use Rattle.mime_lookup.specs.declared.stopped.Cause.TheVariants as cause
use Rattle.mime_view.specs.declared.fault.CacheFault.{CacheFault}
use Rattle.mime_view.specs.declared.fault.CacheFault.TheVariants as fault

-- the types that the checking order gives without a cache
abbrev pub fixed_kinds : List (List ℕ)
fixed_kinds = codes "application/octet-stream" ∷ codes "application/x-zerosize" ∷ codes "text/plain" ∷ []

-- a text of the cache
abbrev pub IsCacheText : List ℕ → List ℕ → Type 0
IsCacheText c text = (at : ℕ) × (text_at c at ≡ Ok text)

-- a text of the cache, or one of the fixed types
abbrev pub IsKind : List ℕ → List ℕ → Type 0
IsKind c kind = IsCacheText c kind ⊎ Contains fixed_kinds kind

-- the plain value of a finding
abbrev pub plain_finding : Finding → PlainFinding
plain_finding (finding.Magic kind priority) = by_magic kind.now priority
plain_finding (finding.Fixed kind) = fixed kind.now

-- a section's type is a text of the cache, any other type is fixed
abbrev pub IsFinding : List ℕ → Finding → Type 0
IsFinding c (finding.Magic kind priority) = IsCacheText c kind.now
IsFinding c (finding.Fixed kind) = Contains fixed_kinds kind.now

-- an answer is the type that is chosen among these for what was found
abbrev pub ChoosesFound : PlainDatabase → List (List ℕ) → Finding → Result (Bor (List ℕ)) CacheFault → Type 0
ChoosesFound b kinds finding result =
    IfOk result (λ kind. ChoosesAmong (pairs_of b) kinds (resolved_finding b.aliases (plain_finding finding)) kind.now)

-- how many of some kept types are asked for what was sniffed: one where all are one type
abbrev pub asked_count : List (List ℕ) → ℕ
asked_count kinds = if are_one_type kinds then 1 else length kinds

-- what is given of these types, of which the first are kept: the one that all are, or all of them
abbrev pub AreNameTypes : List (List ℕ) → List (List ℕ) → NameTypes → Type 0
AreNameTypes kinds kept (types.One kind) = (are_one_type kinds ≡ true) × (kind.now ≡ get_or kinds 0 [])
AreNameTypes kinds kept (types.Others others asked) =
    (are_one_type kinds ≡ false) × (others ≡ kinds) × (asked ≡ asked_count kept)

-- texts of the cache, of which no more are asked than there are
abbrev pub AreCacheTexts : List ℕ → NameTypes → Type 0
AreCacheTexts c (types.One kind) = IsCacheText c kind.now
AreCacheTexts c (types.Others others asked) = All (IsCacheText c) others × (asked ≤ length others)

-- how many types are left to choose among
abbrev pub others_count : NameTypes → ℕ
others_count (types.One kind) = 0
others_count (types.Others others asked) = length others

-- a read failed, an allocation was refused, or the cache has such a fault
abbrev pub IsStop : (CacheFault → Type 0) → Cause → Type 0
IsStop IsFault stop = (stop ≡ cause.Read) ⊎ (stop ≡ cause.OutOfMemory)
    ⊎ ((e : CacheFault) × (stop ≡ cause.Cache e) × (e ≢ fault.OutOfMemory) × IsFault e)

-- why a lookup stops for a fault of its cache; an allocation that was refused is no fault of it
abbrev pub cause_of : CacheFault → Cause
cause_of fault.OutOfMemory = cause.OutOfMemory
cause_of e = cause.Cache e
