-- The parent list as it is read, marks on its entries, and what is given for a type.
use Rattle.std.specs.Prelude.{◌≡◌, ◌⊎◌, ℕ, ◌+◌, ◌*◌, ◌<◌, ◌≤◌, Bool, true, false, ◌&&◌, nat_lt, if◌then◌else◌, bytes_eq}
use Rattle.std.specs.Prelude.{List, [], get_or, length, Option, None, Some, IfSome, MatchOption, Result, Ok, Err, MatchResult}
use Rattle.std.specs.List.{list_any}
use Rattle.std.specs.Ordering.{is_eq, nat_cmp}
use Rattle.std.specs.BTreeSet.{insert_key}
use Rattle.mime_base.specs.Cache.Bytes.{field}
use Rattle.mime_base.specs.Cache.Texts.{text_at}
use Rattle.mime_base.specs.Database.Subclass.{parents}
use Rattle.mime_base.specs.declared.cache.byte_fault.ByteFault.{ByteFault}
use Rattle.mime_view.specs.Faults.{cache_fault}
use Rattle.mime_view.specs.Lists.{IsKeysFault, IsListFault, IsNamedFault, KeysAt, LiesList, ReadsKeys, place_of}
use Rattle.mime_view.specs.Spending.{Gives}
use Rattle.mime_view.specs.declared.fault.CacheFault.{CacheFault}
use Rattle.mime_view.specs.declared.fault.CacheFault.TheVariants.{OutOfMemory, Spent}
use Rattle.mime_view.specs.declared.parents.Parents.{Parents}
use Rattle.mime_view.specs.declared.spending.Spending.{Spending}

-- whether a place is among these
abbrev pub has_place : List ℕ → ℕ → Bool
has_place places place = list_any (λ other. is_eq (nat_cmp place other)) places

-- rising places, and this one among them
abbrev pub with_place : List ℕ → ℕ → List ℕ
with_place places place = insert_key nat_cmp places place

-- a place, if there is one, and others
abbrev pub with_first : Option ℕ → List ℕ → List ℕ
with_first None others = others
with_first (Some place) others = with_place others place

-- whether what was read is this text
abbrev pub is_text : List ℕ → Result (List ℕ) ByteFault → Bool
is_text kind (Ok text) = bytes_eq text kind
is_text kind (Err fault) = false

-- whether the parent list at `at` has an entry of this type at the place
unfoldable pub is_entry : List ℕ → ℕ → List ℕ → ℕ → Bool
is_entry c at kind place = nat_lt place (field c at 0) && is_text kind (text_at c (field c (at + 4 + 8 * place) 0))

-- whether an entry of this type is among the places
unfoldable pub is_marked : List ℕ → ℕ → List ℕ → List ℕ → Bool
is_marked c at places kind = list_any (is_entry c at kind) places

-- where the parents of the entry at a place stand
abbrev pub parents_at : List ℕ → ℕ → ℕ → ℕ
parents_at c at place = field c (at + 4 + 8 * place) 1

-- a count, and that many numbers after it, that name these texts
pub record ReadsTexts (c : List ℕ) (at : ℕ) (texts : List (List ℕ)) : Type 0 where
  pub count : field c at 0 ≡ length texts
  pub inside : at + 4 + 4 * length texts ≤ length c
  pub named : KeysAt c (at + 4) 4 texts

-- the parent list at `at` has these types, each once and with its parents, and all types that have a parent
pub record ReadsParents (c : List ℕ) (at : ℕ) (pairs : List (List ℕ × List ℕ)) (kinds : List (List ℕ)) : Type 0 where
  pub types : ReadsKeys c at kinds
  pub once : (i j : ℕ) → i < length kinds → j < length kinds → get_or kinds i [] ≡ get_or kinds j [] → i ≡ j
  pub above : (i : ℕ) → i < length kinds → ReadsTexts c (parents_at c at i) (parents pairs (get_or kinds i []))
  pub some : (i : ℕ) → i < length kinds → 0 < length (parents pairs (get_or kinds i []))
  pub all : (kind : List ℕ) → place_of kinds kind ≡ None → parents pairs kind ≡ []

-- the parents of a type, or none where its entry is marked
abbrev pub unmarked_parents : List (List ℕ × List ℕ) → Bool → List ℕ → List (List ℕ)
unmarked_parents pairs marked kind = if marked then [] else parents pairs kind

-- what is given for a type: the place of its entry, with its parents unless it is marked; nothing just where it has no parent
abbrev pub IsGiven : List (List ℕ × List ℕ) → List (List ℕ) → Bool → List ℕ → Option Parents → Type 0
IsGiven pairs kinds marked kind None = (place_of kinds kind ≡ None) × (parents pairs kind ≡ [])
IsGiven pairs kinds marked kind (Some found) =
    (place_of kinds kind ≡ Some found.entry) × (0 < length (parents pairs kind))
    × (found.types ≡ unmarked_parents pairs marked kind)

-- where the list at `at` has these types, the parents of one are given, none where its entry is marked, and each takes a record
abbrev pub GivesParents : List ℕ → ℕ → List (List ℕ × List ℕ) → List (List ℕ) → List ℕ → List ℕ → Spending → Spending
    → Result (Option Parents) CacheFault → Type 0
GivesParents c at pairs kinds marks kind old new result =
    let marked = is_marked c at marks kind in
    Gives (IsGiven pairs kinds marked kind) (length (unmarked_parents pairs marked kind)) old new result

-- what is given on any bytes: an entry of the type, with no types where it is marked, else with the texts that stand there
pub record IsRead (c : List ℕ) (at : ℕ) (marks kind : List ℕ) (found : Parents) : Type 0 where
  pub entry : is_entry c at kind found.entry ≡ true
  pub marked : has_place marks found.entry ≡ true → found.types ≡ []
  pub unmarked : has_place marks found.entry ≡ false → ReadsTexts c (parents_at c at found.entry) found.types

-- The text whose offset stands at `at` was taken.
pub record TakesText (c : List ℕ) (at : ℕ) (old new : Spending) (text : List ℕ) : Type 0 where
  -- It stands at that offset.
  pub stands : text_at c (field c at 0) ≡ Ok text
  -- It took a record.
  pub taken : new.budget.records + 1 ≡ old.budget.records

-- The texts of the list of offsets at `at` were taken.
pub record TakesTexts (c : List ℕ) (at : ℕ) (old new : Spending) (texts : List (List ℕ)) : Type 0 where
  -- They are those of the list.
  pub read : ReadsTexts c at texts
  -- Each took a record.
  pub taken : new.budget.records + length texts ≡ old.budget.records

-- Parents of a type, if it has an entry, were taken on any bytes, with these marks before and after.
pub record TakesParents (c : List ℕ) (at : ℕ) (kind : List ℕ) (old new : Spending) (before after : List ℕ)
    (found : Option Parents) : Type 0 where
  -- The list lies in the cache.
  pub inside : LiesList c at 8
  -- The entry is the type's; it has no parents where it was marked, else those that stand there.
  pub read : IfSome found (IsRead c at before kind)
  -- It is marked afterwards, and no other is that was not.
  pub marked : MatchOption found (after ≡ before) (λ parents.
      (has_place before parents.entry ≡ true) × (after ≡ before)
      ⊎ (has_place before parents.entry ≡ false) × (after ≡ with_place before parents.entry))
  -- Each parent took a record.
  pub taken : MatchOption found (new.budget.records ≡ old.budget.records)
      (λ parents. new.budget.records + length parents.types ≡ old.budget.records)

-- a list of more records than there were left took all of them
pub record IsShortOfRecords (count before after : ℕ) (e : CacheFault) : Type 0 where
  pub more : before < count
  pub none_left : after ≡ 0
  pub is : e ≡ Spent

-- The text whose offset stands at `at` can't be read.
pub record IsUnread (c : List ℕ) (at before : ℕ) (e : CacheFault) : Type 0 where
  -- Some fault of a counted read.
  pub fault : ByteFault
  -- It is why no text stands there.
  pub no_text : text_at c (field c at 0) ≡ Err fault
  -- It is the one that is reported.
  pub is : e ≡ cache_fault fault
  -- There was a record for the text.
  pub some : 0 < before

-- why that text is not taken, with the records that were left before and after
abbrev pub IsTextUntaken : List ℕ → ℕ → ℕ → ℕ → CacheFault → Type 0
IsTextUntaken c at before after e = (e ≡ Spent) × (before ≡ 0) × (after ≡ 0) ⊎ IsUnread c at before e

-- why the parents at `at` are not given, with the records that were left before and after
abbrev pub IsTextsFault : List ℕ → ℕ → ℕ → ℕ → CacheFault → Type 0
IsTextsFault c at before after e =
    IsListFault c at 4 e ⊎ IsNamedFault c (at + 4) 4 (field c at 0) 0 e ⊎ IsShortOfRecords (field c at 0) before after e ⊎ (e ≡ OutOfMemory)

-- an entry of the type is not marked, and its parents are not given
pub record IsEntryFault (c : List ℕ) (at : ℕ) (marks kind : List ℕ) (before after : ℕ) (e : CacheFault) : Type 0 where
  pub place : ℕ
  pub entry : is_entry c at kind place ≡ true
  pub unmarked : has_place marks place ≡ false
  pub fault : IsTextsFault c (parents_at c at place) before after e

-- why nothing is said of a type's parents: the list, a type that one of its entries names, or the parents of its entry
abbrev pub IsParentsFault : List ℕ → ℕ → List ℕ → List ℕ → ℕ → ℕ → CacheFault → Type 0
IsParentsFault c at marks kind before after e =
    IsKeysFault c at e ⊎ IsEntryFault c at marks kind before after e

-- Parents of a type are not given on any bytes.
pub record StopsParents (c : List ℕ) (at : ℕ) (kind : List ℕ) (old new : Spending) (before after : List ℕ)
    (e : CacheFault) : Type 0 where
  -- This is why.
  pub fault : IsParentsFault c at before kind old.budget.records new.budget.records e
  -- The marks are as they were.
  pub unmarked : after ≡ before

-- on any bytes the parents of a type are taken, or they are not given and the marks stay
abbrev pub TakesOrStops : List ℕ → ℕ → List ℕ → Spending → Spending → List ℕ → List ℕ → Result (Option Parents) CacheFault → Type 0
TakesOrStops c at kind old new before after result =
    MatchResult result (TakesParents c at kind old new before after) (StopsParents c at kind old new before after)
