-- Which icons a cache lists for a type, whatever its bytes are, and what C gets of them.
use Rattle.std.specs.Prelude.{◌≡◌, ◌⊎◌, ℕ, ◌*◌, List, [], Option, None, Some, option_map, Result, IfOk, IsOk, MatchResult}
use Rattle.std.specs.Borrow.{Bor}
use Rattle.mime_base.specs.Cache.Bytes.{Stands, field}
use Rattle.mime_base.specs.Format.Header.{HeaderAt, Offsets}
use Rattle.mime_base.specs.Format.Pairs.{PairsAt}
use Rattle.mime_base.specs.declared.meter.Meter.{Meter}
use Rattle.mime_c.specs.Reader.{IsReaderCall, IsReaderReport}
use Rattle.mime_c.specs.declared.look_up.Text.{Text}
use Rattle.mime_c.specs.declared.report.Report.{Report}
use Rattle.mime_view.specs.Lists.{IsPairsFault}
use Rattle.mime_view.specs.Pairs.{IsSecondName, looked_up}
use Rattle.mime_view.specs.declared.fault.CacheFault.{CacheFault}

-- a name, if there is one
abbrev pub name_of : Option (Bor (List ℕ)) → Option (List ℕ)
name_of = option_map (λ (text : Bor (List ℕ)). text.now)

-- the names of an icon and of a generic icon, if there are any
abbrev pub ListedNames : Type 0
ListedNames = Option (Bor (List ℕ)) × Option (Bor (List ℕ))

-- All that is promised of the icons that a cache lists, if it opens.
pub record IsListedIcons (c kind : List ℕ) (result : Result ListedNames CacheFault) : Type 0 where
  -- Where the icon list stands, the first name is the one that the list has for the type, if it has one.
  pub icon : (offsets : Offsets) (icons : List (List ℕ × List ℕ)) → HeaderAt (Stands c) offsets →
      PairsAt (Stands c) offsets.icons icons → IfOk result (λ found. name_of found.0 ≡ looked_up icons kind)
  -- Where the list of generic icons stands, so is the second name.
  pub generic : (offsets : Offsets) (icons : List (List ℕ × List ℕ)) → HeaderAt (Stands c) offsets →
      PairsAt (Stands c) offsets.generic_icons icons → IfOk result (λ found. name_of found.1 ≡ looked_up icons kind)
  -- Where both stand, there is an answer.
  pub need : (offsets : Offsets) (icons generic : List (List ℕ × List ℕ)) → HeaderAt (Stands c) offsets →
      PairsAt (Stands c) offsets.icons icons → PairsAt (Stands c) offsets.generic_icons generic → IsOk result
  -- On any bytes each name is a text of the cache, or one of the lists or a text that it names does not stand.
  pub given : MatchResult result
      (λ found. IsSecondName c (field c 0 8) found.0 × IsSecondName c (field c 0 9) found.1)
      (λ e. IsPairsFault c (field c 0 8) e ⊎ IsPairsFault c (field c 0 9) e)

-- the bytes that C gets of a name: none where none is listed
abbrev pub bytes_or_none : Option (Bor (List ℕ)) → List ℕ
bytes_or_none None = []
bytes_or_none (Some text) = text.now

-- the texts are the two names
abbrev pub AreGivenIcons : Text × Text → ListedNames → Type 0
AreGivenIcons after found = (after.0.bytes.now ≡ bytes_or_none found.0) × (after.1.bytes.now ≡ bytes_or_none found.1)

-- so they go out; where the lists say nothing, both stay
abbrev pub IsListedReport : Text × Text → Text × Text → Result ListedNames CacheFault → Meter → Report → Type 0
IsListedReport before after found meter told = IsReaderReport (AreGivenIcons after) (after ≡ before) found meter told

-- the texts are the two names; where the lists say nothing, both stay
abbrev pub IsAskedListedIcons : List ℕ → List ℕ → Text × Text → Text × Text → Report → Type 0
IsAskedListedIcons c kind before after told =
    IsReaderCall c (IsListedIcons c kind) 59 (256 * 58)
    (AreGivenIcons after) (after ≡ before) told
