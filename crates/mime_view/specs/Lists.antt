-- Lists of records of a cache, and what is wrong where one can't be read.
use Rattle.std.specs.Prelude.{◌≡◌, ◌≢◌, ◌⊎◌, ℕ, suc, ◌+◌, ◌*◌, ◌<◌, ◌≤◌, true, false, List, [], ◌∷◌, get_or, length, Ok, Err}
use Rattle.std.specs.Prelude.{Option, None, Some, IfSome, option_map, if◌then◌else◌, bytes_eq}
use Rattle.std.specs.Ordering.{nat_cmp}
use Rattle.std.specs.List.Sorted.{IsSortedBy}
use Rattle.std.specs.Cmp.Lexicographic.{slice_cmp}
use Rattle.std.specs.declared.cmp.Ordering.TheVariants.{Less}
use Rattle.mime_base.specs.Cache.Bytes.{field}
use Rattle.mime_base.specs.Cache.Texts.{text_at}
use Rattle.mime_base.specs.Format.Sorted.{text_lt}
use Rattle.mime_base.specs.declared.cache.byte_fault.ByteFault.{ByteFault}
use Rattle.mime_view.specs.Faults.{cache_fault}
use Rattle.mime_view.specs.declared.entry.NamedEntry.{NamedEntry}
use Rattle.mime_view.specs.declared.search.Sought.{Sought}
use Rattle.mime_view.specs.declared.fault.CacheFault.{CacheFault}
use Rattle.mime_view.specs.declared.fault.CacheFault.TheVariants.{OutOfRange}

-- this text stands at the offset that the first number of record i of a list names
abbrev pub HasText : List ℕ → ℕ → ℕ → ℕ → List ℕ → Type 0
HasText c first size i text = text_at c (field c (first + size * i) 0) ≡ Ok text

-- these texts stand at the offsets that the first numbers of records of this size name
abbrev pub KeysAt : List ℕ → ℕ → ℕ → List (List ℕ) → Type 0
KeysAt c at size [] = Unit {0}
KeysAt c at size (key ∷ keys) = (text_at c (field c at 0) ≡ Ok key) × KeysAt c (at + size) size keys

-- no text is less than the one before it
abbrev pub AreSorted : List (List ℕ) → Type 0
AreSorted keys = IsSortedBy text_lt keys

-- the place of the first text that is the key
abbrev pub place_of : List (List ℕ) → List ℕ → Option ℕ
place_of [] key = None
place_of (text ∷ texts) key = if bytes_eq text key then Some 0 else option_map suc (place_of texts key)

-- the list at `at`, of two numbers an entry, has these texts as its entries' first, and they are sorted
pub record ReadsKeys (c : List ℕ) (at : ℕ) (keys : List (List ℕ)) : Type 0 where
  pub count : field c at 0 ≡ length keys
  pub inside : at + 4 + 8 * length keys ≤ length c
  pub texts : KeysAt c (at + 4) 8 keys
  pub sorted : AreSorted keys

-- the texts before a place are less than a key, and those from it on are not
pub record SplitsAt (keys : List (List ℕ)) (key : List ℕ) (place : ℕ) : Type 0 where
  pub within : place ≤ length keys
  pub less : (i : ℕ) → i < place → text_lt (get_or keys i []) key ≡ true
  pub not_less : (i : ℕ) → place ≤ i → i < length keys → text_lt (get_or keys i []) key ≡ false

-- a place among `count` sorted records: the text before it is less than the key, and the one at it is not
pub record IsPlace (c : List ℕ) (first size count : ℕ) (key : List ℕ) (place : ℕ) : Type 0 where
  pub within : place ≤ count
  pub before : (i : ℕ) (text : List ℕ) → i + 1 ≡ place → HasText c first size i text → slice_cmp nat_cmp text key ≡ Less
  pub after : (text : List ℕ) → place < count → HasText c first size place text → slice_cmp nat_cmp text key ≢ Less

-- What a search for a key among `count` records says, on any bytes.
pub record IsSought (c : List ℕ) (first size count : ℕ) (key : List ℕ) (sought : Sought) : Type 0 where
  -- The text before the place is less than the key, and the one at it is not.
  pub found : IsPlace c first size count key sought.place
  -- It says that the text at the place is the key only where it is.
  pub same : sought.equal ≡ true → (sought.place < count) × HasText c first size sought.place key
  -- It says that it is not only where it is another.
  pub other : sought.equal ≡ false → (text : List ℕ) → sought.place < count → HasText c first size sought.place text → text ≢ key

-- the list at `at`, of records of this size, lies in the cache
abbrev pub LiesList : List ℕ → ℕ → ℕ → Type 0
LiesList c at size = at + 4 + size * field c at 0 ≤ length c

-- the list at `at`, of records of this size, does not lie in the cache
pub record IsListFault (c : List ℕ) (at size : ℕ) (e : CacheFault) : Type 0 where
  pub outside : length c < at + 4 + size * field c at 0
  pub is : e ≡ OutOfRange at

-- the head of a list at `at`, of that many bytes, lies in the cache
abbrev pub LiesHead : List ℕ → ℕ → ℕ → Type 0
LiesHead c at size = at + size ≤ length c

-- the head of a list at `at`, of that many bytes, does not lie in the cache
abbrev pub IsHeadFault : List ℕ → ℕ → ℕ → CacheFault → Type 0
IsHeadFault c at size e = (length c < at + size) × (e ≡ OutOfRange at)

-- No text stands at `at`.
pub record IsNoText (c : List ℕ) (at : ℕ) (e : CacheFault) : Type 0 where
  -- A fault of a counted read.
  pub fault : ByteFault
  -- It is why no text stands there.
  pub no_text : text_at c at ≡ Err fault
  -- It is the one that is reported.
  pub is : e ≡ cache_fault fault

-- Among `count` records from `first` on, this number of one is the offset of no text.
pub record IsNamedFault (c : List ℕ) (first size count number : ℕ) (e : CacheFault) : Type 0 where
  -- Which record it is.
  pub i : ℕ
  -- It is one of them.
  pub within : i < count
  -- No text stands where it says.
  pub text : IsNoText c (field c (first + size * i) number) e

-- Among `count` records from `first` on, this number of one is a place.
pub record IsNamedPlace (c : List ℕ) (first size count number place : ℕ) : Type 0 where
  -- Which record it is.
  pub i : ℕ
  -- It is one of them.
  pub within : i < count
  -- It says so.
  pub is : place ≡ field c (first + size * i) number

-- why no key is found in the list at `at`, of two numbers an entry: the list, or a key that one of its entries names
abbrev pub IsKeysFault : List ℕ → ℕ → CacheFault → Type 0
IsKeysFault c at e = IsListFault c at 8 e ⊎ IsNamedFault c (at + 4) 8 (field c at 0) 0 e

-- why no pair is given from the list at `at`: its keys, or a second name that one of its entries names
abbrev pub IsPairsFault : List ℕ → ℕ → CacheFault → Type 0
IsPairsFault c at e = IsKeysFault c at e ⊎ IsNamedFault c (at + 4) 8 (field c at 0) 1 e

-- An entry of the list at `at`, of two numbers an entry, whose text is the key.
pub record IsEntryOf (c : List ℕ) (at : ℕ) (key : List ℕ) (entry : NamedEntry) : Type 0 where
  -- It is one of the list's entries.
  pub within : entry.place < field c at 0
  -- Its first number names the key.
  pub text : HasText c (at + 4) 8 entry.place key
  -- Its target is its second number.
  pub second : entry.target ≡ field c (at + 4 + 8 * entry.place) 1

-- What is found for a key in the list at `at`, on any bytes.
pub record IsFound (c : List ℕ) (at : ℕ) (key : List ℕ) (found : Option NamedEntry) : Type 0 where
  -- The list lies in the cache.
  pub inside : LiesList c at 8
  -- What is found, if anything is, is an entry of the key.
  pub entry : IfSome found (IsEntryOf c at key)
