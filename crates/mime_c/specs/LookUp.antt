-- What a lookup of a name and a content promises over a cache of any bytes, and what C gets of it.
use Rattle.std.specs.Prelude.{◌≡◌, ℕ, Bool, true, false, List, Option, None, Some, Result, Ok, Err, IfOk}
use Rattle.std.specs.Borrow.{Bor}
use Rattle.mime_base.specs.declared.magic.host.Host.TheVariants.{Little}
use Rattle.mime_c.specs.Report.{IsStatusAlone, IsStopReport, no_spare, status_report}
use Rattle.mime_c.specs.Status.{status_answered, status_unknown_order}
use Rattle.mime_c.specs.declared.look_up.TypeAnswer.{TypeAnswer}
use Rattle.mime_c.specs.declared.report.Report.{Report}
use Rattle.mime_lookup.specs.Content.{sound}
use Rattle.mime_lookup.specs.LookUps.{AnswersLookUp, CostsLookUp, ReadsLookUp, StopsLookUp, cause_in, meter_in, read_in}
use Rattle.mime_lookup.specs.NameAlone.{IsNameLookUp}
use Rattle.mime_lookup.specs.declared.answer.Answer.{Answer}
use Rattle.mime_lookup.specs.declared.answer.NameAnswer.{NameAnswer}
use Rattle.mime_lookup.specs.declared.order.Order.{Order}
use Rattle.mime_lookup.specs.declared.stopped.Stopped.{Stopped}

-- a content, where it is available
abbrev pub available_content : Bool → List ℕ → Option (List ℕ)
available_content true content = Some content
available_content false content = None

-- the bytes that a reader of bytes has left
abbrev pub left_of : Bor (List ℕ) → Option (List ℕ)
left_of reader = Some reader.now

-- All that is promised of a lookup of a name and a content that is available: what is promised over any reader, of one of its bytes.
pub record IsLookUp (c name content : List ℕ) (order : Order) (result : Result Answer Stopped) : Type 0 where
  -- A reader of bytes.
  pub before : Bor (List ℕ)
  -- They are the content.
  pub whole : before.now ≡ content
  -- The reader, once the lookup is done.
  pub after : Option (Bor (List ℕ))
  -- What it answers.
  pub answers : IfOk result (λ answer. AnswersLookUp left_of c name (Some before) Little order answer.kind.now)
  -- Why it stops.
  pub stops : StopsLookUp c name order (Some before) after result
  -- What it reads; each read of bytes gives some, or their end.
  pub reads : ReadsLookUp left_of (λ _. Some (record { failed = 0; interrupted = 0 })) (λ _. sound) c name order (Some before) after
      (read_in result) (cause_in result)
  -- What it costs.
  pub costs : CostsLookUp c name order (Some before) (read_in result) (meter_in result) (cause_in result)

-- What is written of an answer.
pub record IsWritten (kind : List ℕ) (wanted : ℕ) (after : TypeAnswer) : Type 0 where
  -- The type.
  pub type : after.kind.bytes.now ≡ kind
  -- How much of a content is still wanted.
  pub size : after.wanted ≡ wanted
  -- Zeros in the spare fields.
  pub spare : after.spare ≡ no_spare

-- an answer to a name and a content goes out, of which nothing more is wanted; where the lookup stopped, what was there stays
abbrev pub IsLookUpReport : Result Answer Stopped → TypeAnswer → TypeAnswer → Report → Type 0
IsLookUpReport (Ok answer) before after told =
    IsWritten answer.kind.now 0 after × (told ≡ status_report status_answered answer.read answer.meter)
IsLookUpReport (Err stopped) before after told = (after ≡ before) × IsStopReport stopped.cause stopped.read stopped.meter told

-- so does an answer to a name alone, with how much of a content is wanted
abbrev pub IsNameReport : Result NameAnswer Stopped → TypeAnswer → TypeAnswer → Report → Type 0
IsNameReport (Ok answer) before after told =
    IsWritten answer.kind.now answer.wanted after × (told ≡ status_report status_answered 0 answer.meter)
IsNameReport (Err stopped) before after told = (after ≡ before) × IsStopReport stopped.cause stopped.read stopped.meter told

-- What C gets of a name and a content that is available.
pub record IsTypedByContent (c name content : List ℕ) (order : Order) (before after : TypeAnswer) (told : Report) : Type 0 where
  -- There is an outcome.
  pub outcome : Result Answer Stopped
  -- It keeps all that is promised of such a lookup.
  pub promised : IsLookUp c name content order outcome
  -- It is what is written and reported.
  pub told_so : IsLookUpReport outcome before after told

-- What C gets of a name alone.
pub record IsTypedByName (c name : List ℕ) (order : Order) (before after : TypeAnswer) (told : Report) : Type 0 where
  -- There is an outcome.
  pub outcome : Result NameAnswer Stopped
  -- It keeps all that is promised of such a lookup.
  pub promised : IsNameLookUp c name order outcome
  -- It is what is written and reported.
  pub told_so : IsNameReport outcome before after told

-- what C gets of a name and a content, where that is available
abbrev pub IsTypedAnswer : List ℕ → List ℕ → Option (List ℕ) → Order → TypeAnswer → TypeAnswer → Report → Type 0
IsTypedAnswer c name None order before after told = IsTypedByName c name order before after told
IsTypedAnswer c name (Some content) order before after told = IsTypedByContent c name content order before after told

-- what C gets where the order may be unknown: then that alone, and what was there stays
abbrev pub IsLookedUp : List ℕ → List ℕ → Option (List ℕ) → Option Order → TypeAnswer → TypeAnswer → Report → Type 0
IsLookedUp c name content None before after told = (after ≡ before) × IsStatusAlone status_unknown_order told
IsLookedUp c name content (Some order) before after told = IsTypedAnswer c name content order before after told
