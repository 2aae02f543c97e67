-- What a lookup promises of its outcome, from what it promises of the type or the cause alone.
use Rattle.std.proofs.Common.{◌≡◌, ◌⊎◌, ℕ, ◌≤◌, List, length, Option, None, Result, Ok, Err, inl, inr, arith}
use Rattle.std.specs.Prelude.{IfOk}
use Rattle.mime_base.specs.declared.magic.host.Host.{Host}
use Rattle.mime_base.specs.declared.meter.Meter.{Meter}
use Rattle.mime_lookup.specs.Cached.{IsStop}
use Rattle.mime_lookup.specs.CheckingOrder.{GlobsDecide}
use Rattle.mime_lookup.specs.Content.{GivesUp, Health, OfReader, Tally}
use Rattle.mime_lookup.specs.Headline.{IsHeadline, IsRefused}
use Rattle.mime_lookup.specs.LookUps.{AnswersLookUp, CostsLookUp, ReadsLookUp, ShowsFault, StopsLookUp, cause_in, meter_in, read_in}
use Rattle.mime_lookup.specs.Spent.{UsesUp}
use Rattle.mime_lookup.specs.StepFaults.{IsLookUpFault}
use Rattle.mime_lookup.specs.Steps.{IsPacked, Stops, Suffices}
use Rattle.mime_lookup.specs.declared.answer.Answer.{Answer}
use Rattle.mime_lookup.specs.declared.order.Order.{Order}
use Rattle.mime_lookup.specs.declared.stopped.Cause.{Cause}
use Rattle.mime_lookup.specs.declared.stopped.Cause.TheVariants as cause
use Rattle.mime_lookup.specs.declared.stopped.Stopped.{Stopped}

module _ {R : Type 0} {remaining : R → Option (List ℕ)} {tally : R → Option Tally} {health : R → Health} {c name : List ℕ} {order : Order}
    {before after : Option R} {read : ℕ}
  where
    -- what is read, of an answer and of a cause
    pub reads_answer : {X Y : Type 0} {x : X} (y : Y) → ReadsLookUp remaining tally health c name order before after read (Ok x)
        → ReadsLookUp remaining tally health c name order before after read (Ok y)
    reads_answer y is = record {
      reader = record { gives_up = tt; goes = is.reader.goes; fails = tt; advances = is.reader.advances; within = is.reader.within };
      asks = λ b globs. record { answers = (is.asks b globs).answers; asked = tt };
      unread = is.unread;
      head = is.head;
      exact = is.exact;
    }

    pub reads_cause : {X Y : Type 0} {stop : Cause}
        → ReadsLookUp {X = X} remaining tally health c name order before after read (Err stop)
        → ReadsLookUp {X = Y} remaining tally health c name order before after read (Err stop)
    reads_cause is = record {
      reader = record {
        gives_up = is.reader.gives_up;
        goes = tt;
        fails = is.reader.fails;
        advances = is.reader.advances;
        within = is.reader.within;
      };
      asks = λ b globs. record { answers = tt; asked = (is.asks b globs).asked };
      unread = is.unread;
      head = is.head;
      exact = λ b within spells. tt;
    }

-- when it stops, of a cause
pub stops_cause : {R X : Type 0} {c name : List ℕ} {order : Order} {before after : Option R} (read : ℕ) (meter : Meter) (stop : Cause)
    → length name ≤ 4096 → ShowsFault {X = X} cause.Cache c (IsStop (IsLookUpFault c name (before ≡ None))) (Err stop)
    → Stops (UsesUp c (before ≡ None) meter.nodes)
    (λ b. Suffices c name order (before ≡ None) b × IsPacked c b)
    (λ b. GlobsDecide b name order (before ≡ None) → ⊥) stop
    → StopsLookUp c name order before after (Err (record { cause = stop; read = read; meter = meter }))
stops_cause read meter stop short faults is = record {
  too_long = λ long. absurd (omega arith);
  refused = λ _. faults.refused;
  opened = tt;
  fault = λ _. faults.fault;
  spent = is.spent;
  need = λ b enough limit packed _. is.need b (enough, record { small = limit; packed = packed });
}

-- all of it in one
pub headline : {R : Type 0} {remaining : R → Option (List ℕ)} {tally : R → Option Tally} {health : R → Health} {c name : List ℕ}
    {before after : Option R} {order : Order} (host : Host) (result : Result Answer Stopped)
    → IfOk result (λ answer. AnswersLookUp remaining c name before host order answer.kind.now)
    → StopsLookUp c name order before after result
    → ReadsLookUp remaining tally health c name order before after (read_in result) (cause_in result)
    → CostsLookUp c name order before (read_in result) (meter_in result) (cause_in result)
    → IsHeadline remaining tally c name before after host order result
headline host (Ok answer) answers stops reads costs = record {
  any_bytes = record { limit = reads.reader.within; bounds = costs.bounds };
  written = λ b within spells packed short. answers.chosen b (inl (within, spells));
}
headline {R} {remaining} {tally} {health} {c} {name} {before} {after} host (Err stopped) answers stops reads costs = record {
  any_bytes = record { limit = reads.reader.within; bounds = costs.bounds };
  written = λ b within spells packed short.
      is_refused reads.reader.gives_up (stops.need b (inl (within, spells)) spells.within packed short);
}
  where
    is_refused : {A : Type 0} → (stopped.cause ≡ cause.Read → OfReader (λ old new. GivesUp (tally old) (tally new) 1000) ⊥ before after)
        → (stopped.cause ≡ cause.OutOfMemory) ⊎ ((stopped.cause ≡ cause.Read) × A) → IsRefused tally before after stopped.cause
    is_refused gives_up (inl memory) = inl memory
    is_refused gives_up (inr read) = inr (read.0, gives_up read.0)
