-- What an answer over a database comes to, from a lookup over its cache.
use Rattle.std.proofs.Common.{◌≡◌, ◌⊎◌, ◌∙◌, ℕ, ◌+◌, ◌*◌, ◌<◌, ◌≤◌, List, length, Option, Result, Ok, Err, Vec, IfSome}
use Rattle.std.proofs.Common.{arith, ap, refl, sym, subst, inl, inr}
use Rattle.std.specs.declared.alloc.Global.{Global}
use Rattle.std.proofs.lemmas.Bool.{cases_lt}
use Rattle.std.proofs.Math.Nat.{mul-le-mul_left}
use Rattle.mime_base.specs.Database.{PlainDatabase}
use Rattle.mime_base.specs.Format.Room.{room}
use Rattle.mime_base.specs.Format.Spells.{cache_limit}
use Rattle.mime_base.specs.declared.meter.Meter.{Meter}
use Rattle.mime_lookup.specs.Bounds.{KeepsBounds}
use Rattle.mime_base.specs.declared.magic.host.Host.{Host}
use Rattle.mime_lookup.specs.CheckingOrder.{Chooses, read_of}
use Rattle.mime_lookup.specs.declared.answer.Answer.{Answer}
use Rattle.mime_lookup.specs.declared.order.Order.{Order}
use Rattle.mime_lookup.specs.declared.stopped.Cause.{Cause}
use Rattle.mime_lookup.specs.declared.stopped.Cause.TheVariants as cause
use Rattle.mime_lookup.specs.declared.stopped.Stopped.{Stopped}
use Rattle.mime_tool.specs.FromTexts.{IsAnswer, IsFaultOver, IsStopped, KeepsRoom, of_cause, of_stopped}

-- what keeps to the bounds over a cache keeps to those over as many bytes or more
pub keeps_room : (name size read : ℕ) (c : List ℕ) (meter : Meter) → length c ≤ size → KeepsBounds name c read meter
    → KeepsRoom name size read meter
keeps_room name size read c meter within keeps =
    let m : (name + 1) * length c ≤ (name + 1) * size = mul-le-mul_left (name + 1) within in
    let r : (read + 1) * length c ≤ (read + 1) * size = mul-le-mul_left (read + 1) within in
    record {
      nodes = omega (arith, keeps.nodes, within);
      bytes = omega (arith, keeps.bytes, within, m, r);
    }

-- the same of bytes that are those of a cache
keeps_same : (name size read : ℕ) (c bytes : List ℕ) (meter : Meter) → length c ≤ size → bytes ≡ c
    → KeepsBounds name bytes read meter
    → KeepsRoom name size read meter
keeps_same name size read c bytes meter within same keeps =
    keeps_room name size read c meter within (subst (λ (x : List ℕ). KeepsBounds name x read meter) same keeps)

-- the cause of a lookup's stop
abbrev cause_in : Result Answer Stopped → Cause
cause_in (Ok answer) = cause.OutOfMemory
cause_in (Err stopped) = stopped.cause

-- how a lookup ends for a name that is too long
abbrev IsTooLong : Type 0 → Result Answer Stopped → Type 0
IsTooLong Same result = Same × (result ≡ Err (record {
  cause = cause.NameTooLong;
  read = 0;
  meter = record { nodes = 0; bytes = 0 };
}))

-- a lookup answers
abbrev Answers : Result Answer Stopped → Type 0
Answers (Ok answer) = Unit {0}
Answers (Err stopped) = ⊥

-- memory isn't the cause
abbrev IsOther : Cause → Type 0
IsOther cause.NameTooLong = Unit {0}
IsOther (cause.Cache f) = Unit {0}
IsOther cause.Read = Unit {0}
IsOther cause.OutOfMemory = ⊥

-- a stop of a lookup is a fault over the database
pub stopped_over : (b : PlainDatabase) (name c bytes : List ℕ) (Same : Type 0) (stopped : Stopped) → room b ≤ cache_limit
    → length c ≤ room b → bytes ≡ c → (4096 < length name → IsTooLong Same (Err stopped))
    → (length name ≤ 4096 → (stopped.cause ≡ cause.Read) ⊎ (stopped.cause ≡ cause.OutOfMemory))
    → KeepsBounds (length name) bytes stopped.read stopped.meter → IsFaultOver b name (of_stopped stopped)
stopped_over b name c bytes Same stopped fits long same too_long otherwise keeps = go stopped.cause refl
  where
    read_alone : (k : Cause) → stopped.cause ≡ k → IsOther k
        → (stopped.cause ≡ cause.Read) ⊎ (stopped.cause ≡ cause.OutOfMemory) → stopped.cause ≡ cause.Read
    read_alone k is other (inl e) = e
    read_alone k is other (inr e) = absurd (subst IsOther (sym is ∙ e) other)

    stays : (k : Cause) → stopped.cause ≡ k → IsOther k → IsStopped b name stopped
    stays k is other = record {
      fits = fits;
      too_long = λ above. ap cause_in (too_long above).1;
      otherwise = λ short. read_alone k is other (otherwise short);
      keeps = keeps_same (length name) (room b) stopped.read c bytes stopped.meter long same keeps;
    }

    go : (k : Cause) → stopped.cause ≡ k → IsFaultOver b name (of_cause stopped k)
    go cause.NameTooLong is = stays cause.NameTooLong is tt
    go (cause.Cache f) is = stays (cause.Cache f) is tt
    go cause.Read is = stays cause.Read is tt
    go cause.OutOfMemory is = tt

-- an answer of a lookup is one over the database
pub answer_over : (b : PlainDatabase) (name c bytes : List ℕ) (Same : Type 0) (content : Option (Option (List ℕ))) (host : Host)
    (order : Order) (answer : Answer) (kind : Vec ℕ Global) → room b ≤ cache_limit → length c ≤ room b → bytes ≡ c
    → (4096 < length name → IsTooLong Same (Ok answer))
    → IfSome content (λ known. Chooses b name known host order answer.kind.now)
    → IfSome content (λ known. answer.read ≡ read_of b name known order)
    → KeepsBounds (length name) bytes answer.read answer.meter → kind.items ≡ answer.kind.now
    → IsAnswer b name content host order (record { kind = kind; read = answer.read; meter = answer.meter })
answer_over b name c bytes Same content host order answer kind fits long same too_long chosen read keeps is = record {
  fits = fits;
  short = at_most (cases_lt 4096 (length name));
  chosen = subst (λ (text : List ℕ). IfSome content (λ known. Chooses b name known host order text)) (sym is) chosen;
  read = read;
  keeps = keeps_same (length name) (room b) answer.read c bytes answer.meter long same keeps;
}
  where
    at_most : (4096 < length name) ⊎ (length name ≤ 4096) → length name ≤ 4096
    at_most (inl above) = absurd (subst Answers (too_long above).1 tt)
    at_most (inr short) = short
