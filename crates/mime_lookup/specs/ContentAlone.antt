-- What a content is sniffed as by itself over a cache of any bytes, with the priority of the section that holds.
use Rattle.std.specs.Prelude.{◌≡◌, ◌⊎◌, ℕ, ◌<◌, ◌≤◌, max, min, List, length, Option, Some, option_map, Result, Ok, Err}
use Rattle.std.specs.Prelude.{IfErr, IfOk, IsErrAnd, IsOk, MatchResult, OnOk}
use Rattle.std.specs.Borrow.{Bor}
use Rattle.mime_base.specs.Cache.Bytes.{field}
use Rattle.mime_base.specs.Database.{PlainDatabase}
use Rattle.mime_base.specs.Format.Packed.{Packed}
use Rattle.mime_base.specs.Magic.Holds.{first_magic}
use Rattle.mime_base.specs.declared.magic.host.Host.{Host}
use Rattle.mime_base.specs.declared.meter.Meter.{Meter}
use Rattle.mime_lookup.specs.Asking.{IsOfCache}
use Rattle.mime_lookup.specs.Bounds.{KeepsBounds, stated_extent}
use Rattle.mime_lookup.specs.Cached.{IsKind, cause_of}
use Rattle.mime_lookup.specs.Sniffing.{sniffed}
use Rattle.mime_lookup.specs.Spelling.{SpellsMagic}
use Rattle.mime_lookup.specs.Spent.{UsesUp}
use Rattle.mime_lookup.specs.StepFaults.{IsSniffingFault}
use Rattle.mime_lookup.specs.declared.cached.content_alone.SniffedContent.{SniffedContent}
use Rattle.mime_lookup.specs.declared.stopped.Cause.TheVariants as cause
use Rattle.mime_lookup.specs.declared.stopped.Stopped.{Stopped}
use Rattle.mime_view.specs.Lists.{LiesHead}
use Rattle.mime_view.specs.Opening.{IsOpenFault, Opens}
use Rattle.mime_view.specs.declared.fault.CacheFault.{CacheFault}
use Rattle.mime_view.specs.declared.fault.CacheFault.TheVariants.{Spent}

-- the priority of the first section that holds for a content, if one does
abbrev pub first_priority : PlainDatabase → List ℕ → Host → Option ℕ
first_priority b content host = option_map (λ section. section.1) (first_magic b.sections content host)

-- a type is what a content is sniffed as over a database, and a priority that of its first section that holds
abbrev pub IsSniffedAs : PlainDatabase → List ℕ → Host → List ℕ → Option ℕ → Type 0
IsSniffedAs b content host kind priority =
    (kind ≡ sniffed b (Some content) host) × (priority ≡ first_priority b content host)

-- What a step answers that sniffs a content.
pub record SniffsAs (c content : List ℕ) (host : Host) (result : Result (Bor (List ℕ) × Option ℕ) CacheFault) : Type 0 where
  -- Where magic and the aliases stand, the type and the priority are those of the content.
  pub answer : (b : PlainDatabase) → SpellsMagic c b → IfOk result (λ found. IsSniffedAs b content host found.0.now found.1)
  -- On any bytes the type is a text of the cache, or fixed.
  pub kind : IfOk result (λ found. IsKind c found.0.now)

-- how much is looked at of a content: all of it, up to 128 bytes or the extent that the cache states
abbrev pub looked_at : List ℕ → List ℕ → ℕ
looked_at c content = min (length content) (max 128 (stated_extent c))

-- what was found, or the cause, with what it took
abbrev pub told_content : Result (Bor (List ℕ) × Option ℕ) CacheFault → ℕ → Meter → Result SniffedContent Stopped
told_content (Ok found) read meter = Ok (record { kind = found.0; priority = found.1; read = read; meter = meter })
told_content (Err e) read meter = Err (record { cause = cause_of e; read = read; meter = meter })

-- How much of a content a step looks at.
pub record LooksAtFront {X E : Type 0} (c content : List ℕ) (read : ℕ) (result : Result X E) : Type 0 where
  -- Nothing is looked at, or just that much.
  pub looked : (read ≡ 0) ⊎ (read ≡ looked_at c content)
  -- Nothing is looked at where the head of magic, which states the extent, does not lie in the cache.
  pub head : 0 < read → LiesHead c (field c 0 6) 12
  -- For an answer just that much is looked at.
  pub exact : OnOk result (read ≡ looked_at c content)

-- What is looked at of a content, and what that costs.
pub record LooksWithin (c content : List ℕ) (read : ℕ) (meter : Meter) : Type 0 where
  -- Nothing is looked at, or just that much.
  pub looked : (read ≡ 0) ⊎ (read ≡ looked_at c content)
  -- Nothing is looked at where the head of magic, which states the extent, does not lie in the cache.
  pub head : 0 < read → LiesHead c (field c 0 6) 12
  -- The nodes and the bytes keep to the bounds of an empty name with that much content.
  pub bounds : KeepsBounds 0 c read meter

-- All that is promised of what a content is sniffed as.
pub record IsSniffing (c content : List ℕ) (host : Host) (result : Result SniffedContent Stopped) : Type 0 where
  -- Where magic and the aliases stand, the type and the priority are those of the whole content.
  pub answer : (b : PlainDatabase) → SpellsMagic c b →
      IfOk result (λ found. IsSniffedAs b content host found.kind.now found.priority)
  -- On any bytes the type is a text of the cache, or fixed.
  pub kind : IfOk result (λ found. IsKind c found.kind.now)
  -- Where there is an answer, the bytes open as a cache.
  pub opened : OnOk result (Opens c)
  -- Bytes that don't are refused for that.
  pub refused : (e : CacheFault) → IsOpenFault c e → IsErrAnd result (λ stopped. stopped.cause ≡ cause.Cache e)
  -- Where magic and the aliases of a packed database stand in a cache of at most 268,435,456 bytes, there is an answer.
  pub need : (b : PlainDatabase) → SpellsMagic c b → Packed c b → length c ≤ 268435456 → IsOk result
  -- It stops for a fault that the header, magic or the aliases show, and never for memory.
  pub fault : IfErr result (λ stopped. IsOfCache (IsSniffingFault c content host) stopped.cause)
  -- It is spent only where more records were visited than a quarter of the cache's length, or a line of magic has a value.
  pub spent : IfErr result (λ stopped. stopped.cause ≡ cause.Cache Spent → UsesUp c ⊥ stopped.meter.nodes)
  -- For an answer just that much is looked at.
  pub read : IfOk result (λ found. found.read ≡ looked_at c content)
  -- Whatever the bytes are, no more is looked at than of a lookup.
  pub within : MatchResult result
      (λ found. LooksWithin c content found.read found.meter) (λ stopped. LooksWithin c content stopped.read stopped.meter)
