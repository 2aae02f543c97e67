-- What is paid before a part of a cache is read back.
use Rattle.std.specs.Prelude.{◌≡◌, ◌⊎◌, ℕ, ◌+◌, ◌-◌, ◌*◌, ◌/◌, ◌==◌, Bool, true, false, if◌then◌else◌, List, Option, None, Some, length}
use Rattle.mime_view.specs.Globs.{globs_listed}

-- as many records as reading back the names of a cache of that length may visit
abbrev pub names_price : ℕ → ℕ
names_price length = 5 + length / 4 + length / 8

-- twice as many as reading back its magic list may visit
abbrev pub magic_due : ℕ → ℕ
magic_due length = 2 + length / 8

-- as many records as reading back its aliases and parents may visit
abbrev pub pairs_price : ℕ → ℕ
pairs_price length = 3 + length / 2 + length / 8

-- as many records as reading back its aliases and icons may visit
abbrev pub icons_price : ℕ → ℕ
icons_price length = 4 + 3 * (length / 8)

-- A cache, and what is owed before more of it is read back.
pub record PlainPaidCache : Type 0 where
  -- The cache.
  pub cache : List ℕ
  -- How many of the records that a name visits don't pay for the magic list.
  pub listed : ℕ
  -- What is owed for what names need; none once they were tried.
  pub names : Option ℕ
  -- What is owed for the magic list; none once it was tried.
  pub magic : Option ℕ
  -- What is owed for the aliases and the parents; none once they were tried.
  pub pairs : Option ℕ
  -- What is owed for the aliases and the icons; none once they were tried.
  pub icons : Option ℕ

-- Nothing is paid yet.
pub record OwesAll (paid : PlainPaidCache) : Type 0 where
  -- What names need costs so much.
  pub owed_names : paid.names ≡ Some (names_price (length paid.cache))
  -- So does the magic list.
  pub owed_magic : paid.magic ≡ Some (magic_due (length paid.cache))
  -- So do the aliases and the parents.
  pub owed_pairs : paid.pairs ≡ Some (pairs_price (length paid.cache))
  -- So do the aliases and the icons.
  pub owed_icons : paid.icons ≡ Some (icons_price (length paid.cache))
  -- Entries of the glob list don't pay for the magic list: as many as the list states, if it lies in the cache.
  pub entries : (paid.listed ≡ globs_listed paid.cache) ⊎ (paid.listed ≡ 0)

-- what is owed after that many records were visited, nothing at least
abbrev pub less : Option ℕ → ℕ → Option ℕ
less (Some owed) visited = Some (owed - visited)
less None visited = None

-- the answer to a name pays for names, and, if its content was read, for the magic list with all but the entries of the glob list
abbrev pub paid_by_name : ℕ → Bool → PlainPaidCache → PlainPaidCache
paid_by_name visited true it = record it { names = less it.names visited; magic = less it.magic (visited - it.listed) }
paid_by_name visited false it = record it { names = less it.names visited }

-- the answer to a content alone pays for the magic list
abbrev pub paid_by_content : ℕ → PlainPaidCache → PlainPaidCache
paid_by_content visited it = record it { magic = less it.magic visited }

-- the answer whether a type is another pays for the aliases and the parents
abbrev pub paid_by_types : ℕ → PlainPaidCache → PlainPaidCache
paid_by_types visited it = record it { pairs = less it.pairs visited }

-- the icons of a type pay for the aliases and the icons
abbrev pub paid_by_icons : ℕ → PlainPaidCache → PlainPaidCache
paid_by_icons visited it = record it { icons = less it.icons visited }

-- it wasn't tried yet, and owes nothing
abbrev pub is_due : Option ℕ → Bool
is_due (Some owed) = owed == 0
is_due None = false

-- what is owed once the first that is paid was tried: what names need, else the magic list, else the aliases and the parents, else the
-- aliases and the icons
abbrev pub after_reading : PlainPaidCache → PlainPaidCache
after_reading it =
    if is_due it.names then record it { names = None }
    else if is_due it.magic then record it { magic = None }
    else if is_due it.pairs then record it { pairs = None }
    else if is_due it.icons then record it { icons = None }
    else it

-- what was paid for it; nothing where nothing is paid
abbrev pub reading_price : PlainPaidCache → ℕ
reading_price it =
    if is_due it.names then names_price (length it.cache)
    else if is_due it.magic then magic_due (length it.cache)
    else if is_due it.pairs then pairs_price (length it.cache)
    else if is_due it.icons then icons_price (length it.cache)
    else 0
