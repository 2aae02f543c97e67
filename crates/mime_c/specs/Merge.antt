-- The cache of what data directories say, and what C gets of it.
use Rattle.std.specs.Prelude.{◌≡◌, ◌⊎◌, ◌++◌, ℕ, ◌<◌, ◌≤◌, List, [], ◌∷◌, length, drop, Result, Ok, Err, MatchResult, Vec}
use Rattle.std.specs.declared.alloc.Global.{Global}
use Rattle.mime_base.specs.Database.{PlainDatabase}
use Rattle.mime_base.specs.Format.Packed.{Packed}
use Rattle.mime_base.specs.Format.Room.{room}
use Rattle.mime_base.specs.Format.Spells.{Spells, cache_limit}
use Rattle.mime_c.specs.Status.{status_answered, status_bad_magic, status_out_of_memory, status_short_buffer, status_too_large}
use Rattle.mime_c.specs.declared.merge.MergeFault.{MergeFault}
use Rattle.mime_c.specs.declared.merge.MergeFault.TheVariants as fault
use Rattle.mime_c.specs.declared.merge.MergeReport.{MergeReport}
use Rattle.mime_store.specs.Namespaces.{HasNoNamespaces}
use Rattle.mime_text.specs.DirTexts.{FirstRefused, SayDatabase}
use Rattle.mime_text.specs.declared.dir_texts.DirTexts.{DirTexts}
use Rattle.mime_text.specs.declared.dir_texts.DirsFault.{DirsFault}
use Rattle.mime_text.specs.declared.dir_texts.DirsFault.TheVariants as dirs_fault
use Rattle.mime_text.specs.declared.magic.fault.MagicFault.TheVariants.{Malformed}
use Rattle.mime_text.specs.declared.magic.fault.MagicFaultKind.{MagicFaultKind}
use Rattle.mime_text.specs.declared.magic.fault.MagicFaultKind.TheVariants as kind

-- The bytes are a cache of the database that directories say: what the command `build` writes.
pub record IsCacheOfDirs (dirs : List DirTexts) (cache : List ℕ) : Type 0 where
  -- The database: what the texts say, merged, less the rules that are never kept.
  pub database : PlainDatabase
  pub says : SayDatabase dirs database
  -- The bytes spell it, by the format's own definition.
  pub spells : Spells cache database
  -- The records that a reader may visit, and the values, take no more bytes than the cache has.
  pub packed : Packed cache database
  -- The list of namespaces is empty.
  pub no_namespaces : HasNoNamespaces cache
  -- It has no more bytes than the database takes where no text is shared, and than a cache may have.
  pub long : length cache ≤ room database
  pub fits : room database ≤ cache_limit

-- why directories give no cache: the first fault of the first magic that has one; or no cache can hold what they say; or memory
abbrev pub IsMergeFault : List DirTexts → MergeFault → Type 0
IsMergeFault dirs (fault.Magic directory kind offset) = FirstRefused dirs directory (Malformed kind offset)
IsMergeFault dirs fault.TooLarge = (b : PlainDatabase) × SayDatabase dirs b × (cache_limit < room b)
IsMergeFault dirs fault.OutOfMemory = Unit {0}

-- a fault of directories
abbrev pub of_dirs : DirsFault → MergeFault
of_dirs (dirs_fault.Magic directory kind offset) = fault.Magic directory kind offset
of_dirs dirs_fault.OutOfMemory = fault.OutOfMemory

-- the number of what is wrong with a text of magic; the header for C has the same ones
abbrev pub magic_number : MagicFaultKind → ℕ
magic_number kind.NoHeader = 1
magic_number kind.Truncated = 2
magic_number kind.BadSection = 3
magic_number kind.BadNumber = 4
magic_number kind.BadWord = 5
magic_number kind.BadIndent = 6
magic_number kind.TooDeep = 7

-- a status alone
abbrev pub merge_status : ℕ → MergeReport
merge_status status = record { status = status; fault = 0; directory = 0; at = 0; spare = 0 ∷ 0 ∷ [] }

-- why there is no cache
abbrev pub merge_fault_report : MergeFault → MergeReport
merge_fault_report (fault.Magic directory kind offset) =
    record { status = status_bad_magic; fault = magic_number kind; directory = directory; at = offset; spare = 0 ∷ 0 ∷ [] }
merge_fault_report fault.TooLarge = merge_status status_too_large
merge_fault_report fault.OutOfMemory = merge_status status_out_of_memory

-- a buffer for a cache, and the length of one
pub record CacheRoom : Type 0 where
  pub buffer : List ℕ
  pub length : ℕ

-- the cache stands at the front of the buffer, the rest is as it was, and its length is told
abbrev pub with_cache : List ℕ → CacheRoom → CacheRoom
with_cache cache before = record { buffer = cache ++ drop (length cache) before.buffer; length = length cache }

-- a cache is written where there is room for it, else its length alone
abbrev pub IsCachePut : List ℕ → CacheRoom → CacheRoom → MergeReport → Type 0
IsCachePut cache before after told =
    ((length cache ≤ length before.buffer) × (after ≡ with_cache cache before) × (told ≡ merge_status status_answered))
    ⊎ ((length before.buffer < length cache) × (after ≡ record before { length = length cache })
    × (told ≡ merge_status status_short_buffer))

-- what becomes of a cache; where there is none, all stays
abbrev pub IsMergeReport : Result (Vec ℕ Global) MergeFault → CacheRoom → CacheRoom → MergeReport → Type 0
IsMergeReport (Ok cache) before after told = IsCachePut cache.items before after told
IsMergeReport (Err e) before after told = (after ≡ before) × (told ≡ merge_fault_report e)

-- What C gets of directories.
pub record IsMergeAnswer (dirs : List DirTexts) (before after : CacheRoom) (told : MergeReport) : Type 0 where
  -- The cache, or why there is none.
  pub outcome : Result (Vec ℕ Global) MergeFault
  -- It is a cache of what the directories say, or this is why.
  pub promised : MatchResult outcome (λ cache. IsCacheOfDirs dirs cache.items) (IsMergeFault dirs)
  -- C is told just this.
  pub told_so : IsMergeReport outcome before after told
