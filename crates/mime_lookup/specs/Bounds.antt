-- The most that a lookup visits, compares and reads over a cache of any bytes. This project's own.
use Rattle.std.specs.Prelude.{◌≡◌, refl, ℕ, ◌+◌, ◌*◌, ◌≤◌, List, length}
use Rattle.mime_base.specs.Cache.Bytes.{field}
use Rattle.mime_base.specs.declared.meter.Meter.{Meter}

-- records that are visited, for the lengths of the name and of the cache
abbrev pub nodes_max : ℕ → ℕ → ℕ
nodes_max name cache = 64 * (name + 2) + 16 * cache

-- bytes that are read or compared, with the bytes of the content that were read
abbrev pub bytes_max : ℕ → ℕ → ℕ → ℕ
bytes_max name cache read = 256 * nodes_max name cache + 64 * (cache + 1) * (name + 1) + (read + 1) * cache

-- the extent that a cache states: the second number of its magic list
abbrev pub stated_extent : List ℕ → ℕ
stated_extent c = field c (field c 0 6) 1

-- a meter keeps to both
pub record KeepsBounds (name : ℕ) (c : List ℕ) (read : ℕ) (meter : Meter) : Type 0 where
  pub nodes : meter.nodes ≤ nodes_max name (length c)
  pub bytes : meter.bytes ≤ bytes_max name (length c) read

-- records that are visited for a type that the globs alone give, with the number of rules that are near the name
abbrev pub near_max : ℕ → ℕ → ℕ
near_max name rules = 64 * (name + 2) + 40 * rules

-- the numbers of these bounds: with nothing, and what one byte more of each, or one rule more, allows
nodes_of_nothing : nodes_max 0 0 ≡ 128
nodes_of_nothing = refl

nodes_of_a_byte : nodes_max 1 1 ≡ 128 + 64 + 16
nodes_of_a_byte = refl

bytes_of_nothing : bytes_max 0 0 0 ≡ 256 * 128 + 64
bytes_of_nothing = refl

bytes_of_a_byte : bytes_max 1 1 1 ≡ 256 * (128 + 64 + 16) + 64 * 4 + 2
bytes_of_a_byte = refl

near_of_nothing : near_max 0 0 ≡ 128
near_of_nothing = refl

near_of_a_byte : near_max 1 0 ≡ 128 + 64
near_of_a_byte = refl

near_of_a_rule : near_max 0 1 ≡ 128 + 40
near_of_a_rule = refl
