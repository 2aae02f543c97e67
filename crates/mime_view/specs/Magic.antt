-- The magic list as it is read, what sniffing answers of it, what it takes, and why it gives no answer.
use Rattle.std.specs.Prelude.{◌≡◌, ◌⊎◌, ℕ, zero, suc, ◌+◌, ◌-◌, ◌*◌, ◌<◌, ◌≤◌, Bool, true, false, if◌then◌else◌, List, [], ◌∷◌}
use Rattle.std.specs.Prelude.{length, Result, Ok, IfErr, IfOk, IsOk, OnOk, Option, None, Some, IfSome}
use Rattle.std.specs.Borrow.{Bor}
use Rattle.mime_base.specs.Cache.Bytes.{both_lie, field, lies, optional_mask, value_at}
use Rattle.mime_base.specs.Cache.Texts.{text_at}
use Rattle.mime_base.specs.Format.Magic.{line_count, width}
use Rattle.mime_base.specs.Format.Packed.{forest_value_length, matchlet_count, value_length}
use Rattle.mime_base.specs.Magic.{Forest, PlainLine, PlainSection, are_allowed, are_allowed_sections, bare, line}
use Rattle.mime_base.specs.Magic.Holds.{bytes_of_mask, equals_from, first_magic, some_holds}
use Rattle.mime_base.specs.Magic.Ranges.{stated_line}
use Rattle.mime_base.specs.declared.magic.host.Host.{Host}
use Rattle.mime_view.specs.Compared.{counted_on, line_compared, lines_compared, sections_compared}
use Rattle.mime_view.specs.Lists.{IsHeadFault, IsNoText, LiesHead}
use Rattle.mime_view.specs.Spending.{Price, Spends}
use Rattle.mime_view.specs.declared.budget.Budget.{Budget}
use Rattle.mime_view.specs.declared.fault.CacheFault.{CacheFault}
use Rattle.mime_view.specs.declared.fault.CacheFault.TheVariants.{OutOfRange, Spent, TooDeep}
use Rattle.mime_view.specs.declared.magic.MagicQuery.{MagicQuery}
use Rattle.mime_view.specs.declared.magic.Seen.{Seen}
use Rattle.mime_view.specs.declared.spending.Spending.{Spending}

-- That many records of a size lie in the cache; no records lie anywhere.
pub record LiesBlock (c : List ℕ) (first size count : ℕ) : Type 0 where
  -- Where there are some, the cache does not end before they do.
  pub inside : 0 < count → first + size * count ≤ length c

-- The record at `at` is that of a line without its children.
pub record ReadsLine (c : List ℕ) (at : ℕ) (own : PlainLine) : Type 0 where
  -- Its first number is where the range begins.
  pub start : field c at 0 ≡ own.start
  -- Its second is how many offsets that has.
  pub range : field c at 1 ≡ own.range
  -- Its third is the word.
  pub word : field c at 2 ≡ own.word
  -- Its fourth is the length of the value.
  pub size : field c at 3 ≡ length own.value
  -- The value lies in the cache where the fifth says, and the mask, if there is one, where the sixth does.
  pub lies : both_lie c (field c at 4) (field c at 5) (length own.value) ≡ true
  -- The value stands there.
  pub value : value_at c (field c at 4) (length own.value) ≡ own.value
  -- So does the mask.
  pub mask : optional_mask c (field c at 5) (length own.value) ≡ bytes_of_mask own.mask

-- lines are read one after another, and the children of each
abbrev pub ReadsLines : List ℕ → ℕ → Forest → Type 0
ReadsLines c at bare = Unit {0}
ReadsLines c at (line own children rest) =
    ReadsLine c at own × (field c at 6 ≡ width children) × LiesBlock c (field c at 7) 32 (width children)
    × ReadsLines c (field c at 7) children × ReadsLines c (at + 32) rest

-- The record at `at` is that of a section, and its lines are read.
pub record ReadsSection (c : List ℕ) (at : ℕ) (section : PlainSection) : Type 0 where
  -- Its first number is the priority.
  pub priority : field c at 0 ≡ section.priority
  -- Its second names the type.
  pub kind : text_at c (field c at 1) ≡ Ok section.kind
  -- Its third is how many lines it has, those below others not counted.
  pub count : field c at 2 ≡ width section.lines
  -- They lie in the cache where its fourth says.
  pub block : LiesBlock c (field c at 3) 32 (width section.lines)
  -- They are read there, one after another.
  pub lines : ReadsLines c (field c at 3) section.lines

-- sections are read one after another
abbrev pub ReadsSections : List ℕ → ℕ → List PlainSection → Type 0
ReadsSections c at [] = Unit {0}
ReadsSections c at (section ∷ sections) = ReadsSection c at section × ReadsSections c (at + 16) sections

-- The magic list at `at` is of these sections.
pub record ReadsMagic (c : List ℕ) (at : ℕ) (sections : List PlainSection) : Type 0 where
  -- Its head lies in the cache.
  pub head : at + 12 ≤ length c
  -- The head's first number is how many sections there are.
  pub count : field c at 0 ≡ length sections
  -- They lie in the cache where its third says.
  pub block : LiesBlock c (field c at 2) 16 (length sections)
  -- They are read there, one after another.
  pub sections_read : ReadsSections c (field c at 2) sections

-- The head of the magic list at `at` and its sections lie in the cache.
pub record LiesMagic (c : List ℕ) (at : ℕ) : Type 0 where
  -- The head.
  pub head : LiesHead c at 12
  -- The sections.
  pub sections : LiesBlock c (field c at 2) 16 (field c at 0)

-- At most that many records and value bytes are taken.
pub record Takes (records value_bytes : ℕ) (old new : Budget) : Type 0 where
  -- No more records.
  pub most_records : old.records ≤ new.records + records
  -- No more value bytes.
  pub most_value_bytes : old.value_bytes ≤ new.value_bytes + value_bytes

-- What is answered of lines or sections that stand, have that many records and that many value bytes, and compare that many bytes.
pub record Answers {X : Type 0} (Is : X → Type 0) (allowed : Type 0) (records value_bytes compared : ℕ) (old new : Spending)
    (result : Result X CacheFault) : Type 0 where
  -- An answer is the right one.
  pub answer : IfOk result Is
  -- There is one, where the lines are allowed and as much is left.
  pub need : allowed → records ≤ old.budget.records → value_bytes ≤ old.budget.value_bytes → IsOk result
  -- No more is taken, with an answer or without.
  pub takes : Takes records value_bytes old.budget new.budget
  -- With an answer just the bytes that are compared are counted, until the sum stops.
  pub counted : OnOk result (new.meter.bytes ≡ counted_on old.meter.bytes compared)

-- of a line by itself: whether it equals its value at an offset of its range
abbrev pub AnswersLine : MagicQuery → PlainLine → Spending → Spending → Result Seen CacheFault → Type 0
AnswersLine query own old new result =
    Answers (λ seen. seen.equals ≡ equals_from own query.host query.content own.start own.range) (Unit {0})
    1 (length own.value) (line_compared own query.content query.host) old new result

-- of lines with their children, of which that many levels are allowed: whether one holds
abbrev pub AnswersLines : MagicQuery → ℕ → Forest → Spending → Spending → Result Bool CacheFault → Type 0
AnswersLines query levels lines old new result =
    Answers (λ holds. holds ≡ some_holds lines query.content query.host) (are_allowed levels lines ≡ true)
    (line_count lines) (forest_value_length lines) (lines_compared lines query.content query.host) old new result

-- a type and a priority that were found, as plain values
abbrev pub plain_found : Option (Bor (List ℕ) × ℕ) → Option (List ℕ × ℕ)
plain_found None = None
plain_found (Some found) = Some (found.0.now, found.1)

-- of sections, and of a content with the order of bytes of words: the type and the priority of the first that holds
abbrev pub AnswersMagic : List ℕ → Host → Type 0 → List PlainSection → Spending → Spending
    → Result (Option (Bor (List ℕ) × ℕ)) CacheFault → Type 0
AnswersMagic content host allowed sections old new result =
    Answers (λ found. plain_found found ≡ first_magic sections content host) allowed
    (length sections + matchlet_count sections) (value_length sections) (sections_compared sections content host) old new result

-- the same of a query, where the sections are allowed
abbrev pub AnswersSections : MagicQuery → List PlainSection → Spending → Spending
    → Result (Option (Bor (List ℕ) × ℕ)) CacheFault → Type 0
AnswersSections query sections old new result =
    AnswersMagic query.content query.host (are_allowed_sections sections ≡ true) sections old new result

-- of the sections that stand in the magic list at `at`
abbrev pub AnswersMagicAt : MagicQuery → ℕ → Spending → Spending → Result (Option (Bor (List ℕ) × ℕ)) CacheFault → Type 0
AnswersMagicAt query at old new result =
    (sections : List PlainSection) → ReadsMagic query.counted.now at sections → AnswersSections query sections old new result

-- of that many lines that stand on a level, the first at `first`, with their children
abbrev pub AnswersLinesAt : MagicQuery → ℕ → ℕ → ℕ → Spending → Spending → Result Bool CacheFault → Type 0
AnswersLinesAt query first count level old new result =
    (lines : Forest) → width lines ≡ count → ReadsLines query.counted.now first lines
    → AnswersLines query (64 - level) lines old new result

-- of the line that stands at `at` on a level, with its children
abbrev pub AnswersLineAt : MagicQuery → ℕ → ℕ → Spending → Spending → Result Bool CacheFault → Type 0
AnswersLineAt query at level old new result =
    (own : PlainLine) (children : Forest) → ReadsLines query.counted.now at (line own children bare)
    → AnswersLines query (64 - level) (line own children bare) old new result

-- What a step does on any bytes.
pub record Ends {X : Type 0} (Fault : Budget → CacheFault → Type 0) (price : Price) (nodes : ℕ) (old new : Spending)
    (result : Result X CacheFault) : Type 0 where
  -- Why it gives no answer, with what is left then.
  pub fault : IfErr result (Fault new.budget)
  -- What it costs, with an answer or without.
  pub cost : Spends price nodes 0 old new

-- a line costs a node, and each of its value bytes one byte more than the content has
abbrev pub line_price : MagicQuery → Price
line_price query = record { nodes = 1; bytes = 0; value_byte = length query.content + 1 }

-- a section costs the text of its type besides; so a search of magic does, for a content of that many bytes
abbrev pub magic_price : ℕ → Price
magic_price content = record { nodes = 1; bytes = 256; value_byte = content + 1 }

-- what was seen of a line names its children
pub record NamesChildren (c : List ℕ) (at : ℕ) (seen : Seen) : Type 0 where
  -- How many there are.
  pub count : seen.count ≡ field c at 6
  -- Where the first stands.
  pub first : seen.first ≡ field c at 7

-- a type that was found is a text of the cache
abbrev pub NamesText : List ℕ → Option (Bor (List ℕ) × ℕ) → Type 0
NamesText c found = IfSome found (λ pair. (at : ℕ) × (text_at c at ≡ Ok pair.0.now))

-- The records that a record names do not lie in the cache.
pub record IsBlockFault (c : List ℕ) (first size count : ℕ) (e : CacheFault) : Type 0 where
  -- There is one.
  pub some : 0 < count
  -- The cache ends before the last does.
  pub outside : length c < first + size * count
  -- The fault names the offset of the first.
  pub is : e ≡ OutOfRange first

-- The value of a line, or its mask, does not lie in the cache.
pub record IsValueFault (c : List ℕ) (r : ℕ) (e : CacheFault) : Type 0 where
  -- One of them does not.
  pub outside : both_lie c (field c r 4) (field c r 5) (field c r 3) ≡ false
  -- The fault names the offset of the value where that does not, else that of the mask.
  pub is : e ≡ OutOfRange (if lies c (field c r 4) (field c r 3) then field c r 5 else field c r 4)

-- no record is left, or fewer value bytes than a line states
abbrev pub IsLineSpent : List ℕ → ℕ → Budget → CacheFault → Type 0
IsLineSpent c r after e = (e ≡ Spent) × ((after.records ≡ 0) ⊎ (after.value_bytes < field c r 3))

-- why a line is not seen: its value, or what is left
abbrev pub IsSeenFault : List ℕ → ℕ → Budget → CacheFault → Type 0
IsSeenFault c r after e = IsValueFault c r e ⊎ IsLineSpent c r after e

-- the line that the record at r states
abbrev pub line_at : List ℕ → ℕ → PlainLine
line_at c r =
    stated_line c (record { at = field c r 4; mask_at = field c r 5; size = field c r 3; word = field c r 2 }) (field c r 0) (field c r 1)

-- The line at r equals its value at an offset of its range.
pub record EqualsAt (c : List ℕ) (r : ℕ) (content : List ℕ) (host : Host) : Type 0 where
  -- Its value lies in the cache, and its mask if it has one.
  pub lies : both_lie c (field c r 4) (field c r 5) (field c r 3) ≡ true
  -- Some window of the content equals it.
  pub equals : equals_from (line_at c r) host content (field c r 0) (field c r 1) ≡ true

-- The line at r holds by itself on the last level, and has children.
pub record IsTooDeep (c : List ℕ) (r level : ℕ) (content : List ℕ) (host : Host) (e : CacheFault) : Type 0 where
  -- That is the fault.
  pub is : e ≡ TooDeep
  -- It is on the last of 64 levels.
  pub last : level ≡ 63
  -- It equals its value.
  pub equals : EqualsAt c r content host
  -- It has a child.
  pub some : 0 < field c r 6

-- why a line on this level gives no answer: it is not seen, its children do not lie in the cache, or they are too deep
abbrev pub IsOwnFault : List ℕ → ℕ → ℕ → List ℕ → Host → Budget → CacheFault → Type 0
IsOwnFault c r level content host after e =
    IsSeenFault c r after e ⊎ IsBlockFault c (field c r 7) 32 (field c r 6) e ⊎ IsTooDeep c r level content host e

-- that many steps, each from a line to one of its children, lead from the line at `at` to the one at r
abbrev pub LeadsToLine : List ℕ → ℕ → ℕ → ℕ → Type 0
LeadsToLine c zero at r = r ≡ at
LeadsToLine c (suc steps) at r = (i : ℕ) × (i < field c at 6) × LeadsToLine c steps (field c at 7 + 32 * i) r

-- The line at `at`, on this level, or one below it gives no answer.
pub record IsLineFault (c : List ℕ) (at level : ℕ) (content : List ℕ) (host : Host) (after : Budget) (e : CacheFault) : Type 0 where
  -- How many levels below it the line is.
  pub steps : ℕ
  -- It is on one of 64 levels.
  pub within : level + steps ≤ 63
  -- Where its record stands.
  pub r : ℕ
  -- It is below the line at `at`.
  pub leads : LeadsToLine c steps at r
  -- Why it gives no answer.
  pub fault : IsOwnFault c r (level + steps) content host after e

-- one of that many lines on a level, or one below it, gives no answer
abbrev pub IsLinesFault : List ℕ → ℕ → ℕ → ℕ → List ℕ → Host → Budget → CacheFault → Type 0
IsLinesFault c first count level content host after e =
    (i : ℕ) × (i < count) × IsLineFault c (first + 32 * i) level content host after e

-- why the section at `at` gives no answer: where its lines are, what is left, its lines, or its type
abbrev pub IsSectionFault : List ℕ → ℕ → List ℕ → Host → Budget → CacheFault → Type 0
IsSectionFault c at content host after e =
    IsBlockFault c (field c at 3) 32 (field c at 2) e ⊎ ((e ≡ Spent) × (after.records ≡ 0))
    ⊎ IsLinesFault c (field c at 3) (field c at 2) 0 content host after e ⊎ IsNoText c (field c at 1) e

-- the magic list at `at`, or one of its sections, gives no answer of a content, with the order of bytes of words
abbrev pub IsMagicFault : List ℕ → ℕ → List ℕ → Host → Budget → CacheFault → Type 0
IsMagicFault c at content host after e =
    IsHeadFault c at 12 e ⊎ IsBlockFault c (field c at 2) 16 (field c at 0) e
    ⊎ (i : ℕ) × (i < field c at 0) × IsSectionFault c (field c at 2 + 16 * i) content host after e

-- The line at r is one of a section of the magic list at `at`, or below one.
pub record IsMagicLine (c : List ℕ) (at r : ℕ) : Type 0 where
  -- Which section it is.
  pub section : ℕ
  -- It is one of the list's.
  pub within : section < field c at 0
  -- Which of its lines leads to the line.
  pub top : ℕ
  -- It is one of the section's.
  pub below : top < field c (field c at 2 + 16 * section) 2
  -- How many levels below it the line is.
  pub steps : ℕ
  -- It is on one of 64 levels.
  pub few : steps ≤ 63
  -- It is below that one.
  pub leads : LeadsToLine c steps (field c (field c at 2 + 16 * section) 3 + 32 * top) r
