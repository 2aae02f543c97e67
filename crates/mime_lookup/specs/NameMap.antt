-- Values by names: a name is found by its mark, or else in a map.
use Rattle.std.specs.Prelude.{◌≡◌, ℕ, ◌≤◌, Bool, false, if◌then◌else◌, List, length, get_or, slice_get, Option, None, Some, bytes_eq}
use Rattle.std.specs.HashMap.{get_by}
use Rattle.mime_lookup.specs.Marks.{mark}
use Rattle.mime_lookup.specs.declared.name_map.NameEntry.{NameEntry}
use Rattle.mime_lookup.specs.declared.name_map.NameMap.{NameMap}

-- the number of the entry that a name's mark leads to
abbrev pub number_of : List ℕ → List ℕ → ℕ
number_of numbers name = get_or numbers (mark name) 65535

-- the entry that a name's mark leads to
abbrev pub entry_of : {V : Type 0} → NameMap V → List ℕ → Option (NameEntry V)
entry_of map name = slice_get map.entries.items (number_of map.numbers.items name)

-- what a map has for a name without an entry
abbrev pub other_of : {V : Type 0} → NameMap V → List ℕ → Option V
other_of map name = get_by (λ key. bytes_eq name key.now) map.others

-- what an entry has for a name, or else another value
abbrev pub value_at : {V : Type 0} → Option (NameEntry V) → Option V → List ℕ → Option V
value_at None other name = other
value_at (Some entry) other name = if bytes_eq entry.name.now name then Some entry.value else other

-- the value of a name
abbrev pub value_in : {V : Type 0} → NameMap V → List ℕ → Option V
value_in map name = value_at (entry_of map name) (other_of map name) name

-- whether an entry's mark has other names
abbrev pub is_shared : {V : Type 0} → Option (NameEntry V) → Bool
is_shared None = false
is_shared (Some entry) = entry.shared

-- a map whose marks lead to its names
pub record IsNameMap {V : Type 0} (map : NameMap V) : Type 0 where
  -- There is a number for each mark.
  pub many : length map.numbers.items ≡ 16384
  -- Each entry has a number.
  pub size : length map.entries.items ≤ 65535
  -- A number of no entry stays one.
  pub empty : (m : ℕ) → length map.entries.items ≤ get_or map.numbers.items m 65535 → get_or map.numbers.items m 65535 ≡ 65535
  -- A name has no other value where its mark isn't shared.
  pub alone : (name : List ℕ) → is_shared (entry_of map name) ≡ false → other_of map name ≡ None
