-- What a lookup of a name alone over a cache promises: the type without a content, and how much of one is wanted.
use Rattle.std.specs.Prelude.{◌≡◌, ◌≢◌, ◌+◌, ◌<◌, ◌≤◌, ℕ, if◌then◌else◌, List, length, None, Result, Ok, Err}
use Rattle.std.specs.Prelude.{IfErr, IfOk, IsErrAnd, MatchResult, OnOk, ⊤}
use Rattle.std.specs.Borrow.{Bor}
use Rattle.mime_base.specs.Database.{PlainDatabase}
use Rattle.mime_base.specs.Format.Packed.{Packed}
use Rattle.mime_base.specs.declared.magic.host.Host.{Host}
use Rattle.mime_base.specs.declared.meter.Meter.{Meter}
use Rattle.mime_lookup.specs.Asking.{IsCaused}
use Rattle.mime_lookup.specs.Bounds.{KeepsBounds, near_max}
use Rattle.mime_lookup.specs.Cached.{IsKind, cause_of}
use Rattle.mime_lookup.specs.CheckingOrder.{Chooses, GlobsDecide, globs_suffice}
use Rattle.mime_lookup.specs.LookUps.{name_too_long}
use Rattle.mime_lookup.specs.Spelling.{SpellsGlobs}
use Rattle.mime_lookup.specs.Spent.{UsesUp}
use Rattle.mime_lookup.specs.StepFaults.{IsNameFault}
use Rattle.mime_lookup.specs.Steps.{Suffices}
use Rattle.mime_lookup.specs.Wanted.{IsWanted, SufficesForWanted}
use Rattle.mime_lookup.specs.declared.answer.NameAnswer.{NameAnswer}
use Rattle.mime_lookup.specs.declared.order.Order.{Order}
use Rattle.mime_lookup.specs.declared.stopped.Cause.TheVariants as cause
use Rattle.mime_lookup.specs.declared.stopped.Stopped.{Stopped}
use Rattle.mime_view.specs.Hits.{near}
use Rattle.mime_view.specs.Opening.{IsOpenFault, Opens}
use Rattle.mime_view.specs.declared.fault.CacheFault.{CacheFault}
use Rattle.mime_view.specs.declared.fault.CacheFault.TheVariants.{Spent}

-- enough of a database stands for the type of a name without a content, and to say how much of one is wanted
abbrev pub SufficesForName : List ℕ → List ℕ → Order → PlainDatabase → Type 0
SufficesForName c name order b = Suffices c name order ⊤ b × SufficesForWanted c name order b

-- What a lookup of a name alone answers.
pub record AnswersName (c name : List ℕ) (order : Order) (kind : List ℕ) (wanted : ℕ) : Type 0 where
  -- Where enough of a database stands, it is the type that the order gives to the name without a content.
  pub chosen : (b : PlainDatabase) → Suffices c name order ⊤ b → (host : Host) → Chooses b name None host order kind
  -- Whatever the bytes are, it is a text of the cache, or a fixed type.
  pub allowed : IsKind c kind
  -- That much of a content is wanted.
  pub wants : IsWanted c name order wanted

-- what was found, or the cause, with what it took; no content is read
abbrev pub told_name : Result (Bor (List ℕ) × ℕ) CacheFault → Meter → Result NameAnswer Stopped
told_name (Ok found) meter = Ok (record { kind = found.0; wanted = found.1; meter = meter })
told_name (Err e) meter = Err (record { cause = cause_of e; read = 0; meter = meter })

-- What a lookup of a name alone costs.
pub record CostsName {X E : Type 0} (c name : List ℕ) (order : Order) (meter : Meter) (result : Result X E) : Type 0 where
  -- Whatever the bytes are, the nodes and the bytes keep to the bounds of a lookup that reads nothing.
  pub bounds : KeepsBounds (length name) c 0 meter
  -- For an answer the header was visited.
  pub counted : OnOk result (1 ≤ meter.nodes)
  -- Where the glob rules stand and decide alone, the nodes keep to the bound by the rules near the name, and one for the extent
  -- where a content is wanted.
  pub near : (b : PlainDatabase) → SpellsGlobs c b → GlobsDecide b name order ⊤ →
      OnOk result (meter.nodes ≤ near_max (length name) (near name b.rules) + (if globs_suffice b name order then 0 else 1))

-- All that is promised of a lookup of a name alone.
pub record IsNameLookUp (c name : List ℕ) (order : Order) (result : Result NameAnswer Stopped) : Type 0 where
  -- It answers the type, and how much of a content is wanted.
  pub answers : IfOk result (λ answer. AnswersName c name order answer.kind.now answer.wanted)
  -- A name of more than 4,096 bytes is too long, before anything else.
  pub too_long : 4096 < length name → result ≡ name_too_long
  -- Bytes that don't open as a cache are refused for that.
  pub refused : length name ≤ 4096 → (e : CacheFault) → IsOpenFault c e → IsErrAnd result (λ stopped. stopped.cause ≡ cause.Cache e)
  -- Where there is an answer they do open.
  pub opened : OnOk result (Opens c)
  -- For another name memory was refused, or the header or another part of the cache shows the fault.
  pub fault : length name ≤ 4096 → IfErr result (λ stopped. IsCaused (IsNameFault c name) stopped.cause)
  -- It is spent only where more records were visited than a quarter of the cache's length.
  pub spent : IfErr result (λ stopped. stopped.cause ≡ cause.Cache Spent → UsesUp c ⊤ stopped.meter.nodes)
  -- Where enough of a packed database stands, only memory is refused.
  pub need : (b : PlainDatabase) → SufficesForName c name order b → length c ≤ 268435456 → Packed c b → length name ≤ 4096 →
      IfErr result (λ stopped. stopped.cause ≡ cause.OutOfMemory)
  -- No content is read.
  pub read : IfErr result (λ stopped. stopped.read ≡ 0)
  -- So no read fails.
  pub readable : IfErr result (λ stopped. stopped.cause ≢ cause.Read)
  -- Whatever the bytes are, the nodes and the bytes keep to the bounds of a lookup that reads nothing.
  pub bounds : MatchResult result
      (λ answer. KeepsBounds (length name) c 0 answer.meter) (λ stopped. KeepsBounds (length name) c 0 stopped.meter)
  -- For an answer the header was visited.
  pub counted : IfOk result (λ answer. 1 ≤ answer.meter.nodes)
  -- Where the glob rules stand and decide alone, the nodes keep to the bound by the rules near the name, and one for the extent
  -- where a content is wanted.
  pub near : (b : PlainDatabase) → SpellsGlobs c b → GlobsDecide b name order ⊤ → IfOk result
      (λ answer. answer.meter.nodes ≤ near_max (length name) (near name b.rules) + (if globs_suffice b name order then 0 else 1))
