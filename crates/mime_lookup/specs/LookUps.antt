-- What a lookup over a cache promises: what it answers, when it stops, what it reads, and what it costs.
use Rattle.std.specs.Prelude.{◌≡◌, ◌⊎◌, ℕ, ◌<◌, ◌≤◌, true, max, List, length, Option, None, Result, Ok, Err}
use Rattle.std.specs.Prelude.{IfErr, IfSome, IsErrAnd, OnOk}
use Rattle.mime_base.specs.Cache.Bytes.{field}
use Rattle.mime_base.specs.Database.{PlainDatabase}
use Rattle.mime_base.specs.Database.Limits.{IsWithinLimits}
use Rattle.mime_base.specs.Format.Packed.{Packed}
use Rattle.mime_base.specs.Format.Spells.{Spells}
use Rattle.mime_base.specs.declared.magic.host.Host.{Host}
use Rattle.mime_base.specs.declared.meter.Meter.{Meter}
use Rattle.mime_lookup.specs.Bounds.{KeepsBounds, near_max, stated_extent}
use Rattle.mime_lookup.specs.Cached.{IsKind, IsStop}
use Rattle.mime_lookup.specs.CheckingOrder.{Chooses, GlobsDecide, globs_suffice, read_of}
use Rattle.mime_lookup.specs.Content.{Health, MayBe, Tally, known_content}
use Rattle.mime_lookup.specs.Reads.{AsksUnless, Reads}
use Rattle.mime_lookup.specs.Spelling.{SpellsGlobs}
use Rattle.mime_lookup.specs.Spent.{UsesUp}
use Rattle.mime_lookup.specs.StepFaults.{IsLookUpFault}
use Rattle.mime_lookup.specs.Steps.{Suffices}
use Rattle.mime_lookup.specs.declared.answer.Answer.{Answer}
use Rattle.mime_lookup.specs.declared.order.Order.{Order}
use Rattle.mime_lookup.specs.declared.stopped.Cause.{Cause}
use Rattle.mime_lookup.specs.declared.stopped.Cause.TheVariants as cause
use Rattle.mime_lookup.specs.declared.stopped.Stopped.{Stopped}
use Rattle.mime_view.specs.Hits.{near}
use Rattle.mime_view.specs.Lists.{LiesHead}
use Rattle.mime_view.specs.Opening.{IsOpenFault, Opens}
use Rattle.mime_view.specs.declared.fault.CacheFault.{CacheFault}
use Rattle.mime_view.specs.declared.fault.CacheFault.TheVariants.{Spent}

-- the answer, or the cause
abbrev pub cause_in : Result Answer Stopped → Result Answer Cause
cause_in (Ok answer) = Ok answer
cause_in (Err stopped) = Err stopped.cause

-- how many bytes of the content were read
abbrev pub read_in : Result Answer Stopped → ℕ
read_in (Ok answer) = answer.read
read_in (Err stopped) = stopped.read

-- what was looked at
abbrev pub meter_in : Result Answer Stopped → Meter
meter_in (Ok answer) = answer.meter
meter_in (Err stopped) = stopped.meter

-- a name of more than 4,096 bytes is too long: nothing was read or looked at
abbrev pub name_too_long : {X : Type 0} → Result X Stopped
name_too_long = Err (record { cause = cause.NameTooLong; read = 0; meter = record { nodes = 0; bytes = 0 } })

-- the order gives the type to the name and to some content, whatever is known of it
abbrev pub ChoosesSome : {R : Type 0} → PlainDatabase → List ℕ → Option R → Host → Order → List ℕ → Type 0
ChoosesSome b name reader host order kind =
    (content : Option (List ℕ)) × MayBe reader content × Chooses b name content host order kind

-- What a lookup by a database answers for a content that is known.
pub record IsPlainAnswer (b : PlainDatabase) (name : List ℕ) (content : Option (List ℕ)) (host : Host) (order : Order)
    (answer : Answer) : Type 0 where
  -- The type is the one that the order gives.
  pub chosen : Chooses b name content host order answer.kind.now
  -- As many bytes are read as the order says.
  pub read : answer.read ≡ read_of b name content order

-- For which fault a step stops over a cache, whose header comes before anything else; `told` is the error for the header's fault.
pub record ShowsFault {X E : Type 0} (told : CacheFault → E) (c : List ℕ) (IsFault : E → Type 0) (result : Result X E) : Type 0 where
  -- Bytes that don't open as a cache are refused for that.
  pub refused : (e : CacheFault) → IsOpenFault c e → IsErrAnd result (λ stop. stop ≡ told e)
  -- Where there is an answer they do open.
  pub opened : OnOk result (Opens c)
  -- It stops for nothing else than such a fault.
  pub fault : IfErr result IsFault

-- What a lookup over a cache begins with.
pub record Begins (nodes read : ℕ) (meter : Meter) : Type 0 where
  -- Nothing was read of a content.
  pub none : read ≡ 0
  -- That many records were visited, and nothing was compared.
  pub visited : meter ≡ record { nodes = nodes; bytes = 0 }

-- What a lookup answers.
pub record AnswersLookUp {R : Type 0} (remaining : R → Option (List ℕ)) (c name : List ℕ) (content : Option R) (host : Host)
    (order : Order) (kind : List ℕ) : Type 0 where
  -- Where enough of a database stands, it is the type that the order gives to the name and the content.
  pub chosen : (b : PlainDatabase) → Suffices c name order (content ≡ None) b →
      IfSome (known_content remaining content) (λ known. Chooses b name known host order kind)
  -- Where the glob rules stand and suffice, it is the type that the order gives to the name and any content, known or not.
  pub by_globs : (b : PlainDatabase) → SpellsGlobs c b → globs_suffice b name order ≡ true →
      (any : Option (List ℕ)) → Chooses b name any host order kind
  -- Whatever the bytes are, it is a text of the cache, or a fixed type.
  pub allowed : IsKind c kind

-- When a lookup stops, and why.
pub record StopsLookUp {R : Type 0} (c name : List ℕ) (order : Order) (before after : Option R) (result : Result Answer Stopped) :
    Type 0 where
  -- A name of more than 4,096 bytes is too long, before anything else.
  pub too_long : 4096 < length name → (after ≡ before) × (result ≡ name_too_long)
  -- Bytes that don't open as a cache are refused for that.
  pub refused : length name ≤ 4096 → (e : CacheFault) → IsOpenFault c e → IsErrAnd result (λ stopped. stopped.cause ≡ cause.Cache e)
  -- Where there is an answer they do open.
  pub opened : OnOk result (Opens c)
  -- For another name a read failed, memory was refused, or the header or another part of the cache shows the fault.
  pub fault : length name ≤ 4096 → IfErr result (λ stopped. IsStop (IsLookUpFault c name (before ≡ None)) stopped.cause)
  -- It is spent only where more records were visited than a quarter of the cache's length, or, with content, a line of magic has a value.
  pub spent : IfErr result
      (λ stopped. stopped.cause ≡ cause.Cache Spent → UsesUp c (before ≡ None) stopped.meter.nodes)
  -- Where enough of a packed database stands, memory was refused, or a read failed and the globs didn't decide alone.
  pub need : (b : PlainDatabase) → Suffices c name order (before ≡ None) b → length c ≤ 268435456 → Packed c b →
      length name ≤ 4096 → IfErr result (λ stopped. (stopped.cause ≡ cause.OutOfMemory)
      ⊎ ((stopped.cause ≡ cause.Read) × (GlobsDecide b name order (before ≡ None) → ⊥)))

-- What a lookup reads of the content.
pub record ReadsLookUp {R X : Type 0} (remaining : R → Option (List ℕ)) (tally : R → Option Tally) (health : R → Health)
    (c name : List ℕ) (order : Order) (before after : Option R) (read : ℕ) (result : Result X Cause) : Type 0 where
  -- It takes no more than 128 bytes or the stated extent, tries interrupted reads again, and gives up only where one failed.
  pub reader : Reads remaining tally health (max 128 (stated_extent c)) before after read result
  -- Where the glob rules stand, the reader is asked only if they don't suffice.
  pub asks : (b : PlainDatabase) → SpellsGlobs c b → AsksUnless health (globs_suffice b name order) before after result
  -- Where they suffice, nothing is read.
  pub unread : (b : PlainDatabase) → SpellsGlobs c b → globs_suffice b name order ≡ true → read ≡ 0
  -- Nor is anything where the head of magic, which states the extent, does not lie in the cache.
  pub head : 0 < read → LiesHead c (field c 0 6) 12
  -- For an answer over a database that the cache spells, as much is read as the order says.
  pub exact : (b : PlainDatabase) → IsWithinLimits b → Spells c b →
      OnOk result (IfSome (known_content remaining before) (λ known. read ≡ read_of b name known order))

-- What a lookup costs.
pub record CostsLookUp {R X : Type 0} (c name : List ℕ) (order : Order) (content : Option R) (read : ℕ) (meter : Meter)
    (result : Result X Cause) : Type 0 where
  -- Whatever the bytes are, the nodes and the bytes keep to the bounds.
  pub bounds : KeepsBounds (length name) c read meter
  -- For an answer the header was visited.
  pub counted : OnOk result (1 ≤ meter.nodes)
  -- Where the glob rules stand and decide alone, the nodes keep to the bound by the rules near the name.
  pub near : (b : PlainDatabase) → SpellsGlobs c b → GlobsDecide b name order (content ≡ None) →
      OnOk result (meter.nodes ≤ near_max (length name) (near name b.rules))
