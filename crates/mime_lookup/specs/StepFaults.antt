-- Why a step of a lookup over a cache gives no answer, with the record or the text that shows it.
use Rattle.std.specs.Prelude.{◌≡◌, ◌⊎◌, ℕ, ◌+◌, ◌<◌, max, List, length, take, Option, None, Some, ⊤}
use Rattle.mime_base.specs.Cache.Bytes.{field}
use Rattle.mime_base.specs.declared.magic.host.Host.{Host}
use Rattle.mime_lookup.specs.Bounds.{stated_extent}
use Rattle.mime_view.specs.Lists.{IsPairsFault}
use Rattle.mime_view.specs.Magic.{IsMagicFault}
use Rattle.mime_view.specs.NameHits.{IsHitsFault, lists_of}
use Rattle.mime_view.specs.Opening.{IsOpenFault}
use Rattle.mime_view.specs.Parents.{IsParentsFault}
use Rattle.mime_view.specs.declared.budget.Budget.{Budget}
use Rattle.mime_view.specs.declared.fault.CacheFault.{CacheFault}
use Rattle.mime_view.specs.declared.fault.CacheFault.TheVariants.{OutOfMemory, OutOfRange}

-- of an alias step: the list of aliases, or a text that it names
abbrev pub IsAliasFault : List ℕ → CacheFault → Type 0
IsAliasFault c e = IsPairsFault c (field c 0 1) e

-- of the types of a name: the glob rules, or an alias step
abbrev pub IsGlobsFault : List ℕ → List ℕ → Budget → CacheFault → Type 0
IsGlobsFault c name after e = IsHitsFault c (lists_of c) name after e ⊎ IsAliasFault c e

-- of the head of magic, which states the extent: it does not lie in the cache
abbrev pub IsMagicHeadFault : List ℕ → CacheFault → Type 0
IsMagicHeadFault c e = (length c < field c 0 6 + 12) × (e ≡ OutOfRange (field c 0 6))

-- of what a front of a content is sniffed as: the magic list
abbrev pub IsSniffFault : List ℕ → List ℕ → Host → Budget → CacheFault → Type 0
IsSniffFault c front host after e = IsMagicFault c (field c 0 6) front host after e

-- of what a front is sniffed as, where there is one
abbrev pub IsFrontFault : List ℕ → Option (List ℕ) → Host → Budget → CacheFault → Type 0
IsFrontFault c None host after e = ⊥
IsFrontFault c (Some front) host after e = IsSniffFault c front host after e

-- of a front by itself over an opened cache: an alias step, or what it is sniffed as
abbrev pub IsSniffStepFault : List ℕ → List ℕ → Host → Budget → CacheFault → Type 0
IsSniffStepFault c front host after e = IsAliasFault c e ⊎ IsSniffFault c front host after e

-- of a content by itself: the header, or what comes of its front once that is open
abbrev pub IsSniffingFault : List ℕ → List ℕ → Host → CacheFault → Type 0
IsSniffingFault c content host e = IsOpenFault c e
    ⊎ ((after : Budget) × IsSniffStepFault c (take (max 128 (stated_extent c)) content) host after e)

-- the parents of some type are not given
pub record IsSomeParentsFault (c : List ℕ) (after : Budget) (e : CacheFault) : Type 0 where
  pub marks : List ℕ
  pub kind : List ℕ
  pub before : ℕ
  pub fault : IsParentsFault c (field c 0 2) marks kind before after.records e

-- of a search for a subclass: the parents of a type, an alias step, or memory
abbrev pub IsSearchFault : List ℕ → Budget → CacheFault → Type 0
IsSearchFault c after e = IsSomeParentsFault c after e ⊎ IsAliasFault c e ⊎ (e ≡ OutOfMemory)

-- of a subclass: the header, or the search for it
abbrev pub IsSubclassFault : List ℕ → CacheFault → Type 0
IsSubclassFault c e = IsOpenFault c e ⊎ ((after : Budget) × IsSearchFault c after e)

-- of the types of a name and the choice among them: the glob rules, an alias step, or a search for a subclass
abbrev pub IsChoiceFault : List ℕ → List ℕ → Budget → CacheFault → Type 0
IsChoiceFault c name after e = IsGlobsFault c name after e ⊎ IsSearchFault c after e

-- of what a name leaves: the front, where there is one, or the types of the name and the choice among them
abbrev pub IsRestFault : List ℕ → List ℕ → Option (List ℕ) → Host → Budget → CacheFault → Type 0
IsRestFault c name front host after e = IsFrontFault c front host after e ⊎ IsChoiceFault c name after e

-- of a lookup of a name: the header, the types of the name and the choice among them; where there is a content, also the extent, and what
-- a front is sniffed as
pub data IsLookUpFault (c name : List ℕ) (NoContent : Type 0) (e : CacheFault) : Type 0 where
  of_header : IsOpenFault c e → IsLookUpFault c name NoContent e
  of_choice : (after : Budget) → IsChoiceFault c name after e → IsLookUpFault c name NoContent e
  of_head : (NoContent → ⊥) → IsMagicHeadFault c e → IsLookUpFault c name NoContent e
  of_magic : (NoContent → ⊥) → (front : List ℕ) (host : Host) (after : Budget) → IsSniffFault c front host after e
      → IsLookUpFault c name NoContent e

-- of a lookup of a name alone: the extent, or what comes of a name without a content
abbrev pub IsNameFault : List ℕ → List ℕ → CacheFault → Type 0
IsNameFault c name e = IsMagicHeadFault c e ⊎ IsLookUpFault c name ⊤ e

-- of icons: the header, an alias step, or one of the two lists
abbrev pub IsIconFault : List ℕ → CacheFault → Type 0
IsIconFault c e =
    IsOpenFault c e ⊎ IsAliasFault c e ⊎ IsPairsFault c (field c 0 8) e ⊎ IsPairsFault c (field c 0 9) e
