-- What the steps of a lookup promise of a question: of its name, its host and its order.
use Rattle.std.specs.Prelude.{◌≡◌, ℕ, if◌then◌else◌, List, length, Option, None, Result, IfOk, IfSome, OnOk}
use Rattle.std.specs.Borrow.{Bor}
use Rattle.mime_base.specs.Database.{PlainDatabase}
use Rattle.mime_base.specs.declared.meter.Meter.{Meter}
use Rattle.mime_lookup.specs.Bounds.{near_max}
use Rattle.mime_lookup.specs.Cached.{IsStop}
use Rattle.mime_lookup.specs.CheckingOrder.{Chooses, GlobsDecide, globs_suffice, read_of}
use Rattle.mime_lookup.specs.Content.{Health, Tally, known_content}
use Rattle.mime_lookup.specs.LookUps.{AnswersLookUp, ChoosesSome, CostsLookUp, ReadsLookUp, ShowsFault}
use Rattle.mime_lookup.specs.NameAlone.{AnswersName, SufficesForName}
use Rattle.mime_lookup.specs.StepFaults.{IsLookUpFault}
use Rattle.mime_lookup.specs.Steps.{Stops, Suffices}
use Rattle.mime_lookup.specs.declared.question.Question.{Question}
use Rattle.mime_lookup.specs.declared.stopped.Cause.{Cause}
use Rattle.mime_lookup.specs.declared.stopped.Cause.TheVariants as cause
use Rattle.mime_view.specs.Hits.{near}

-- What a lookup over a database answers to a question.
pub record ChoosesFor {R : Type 0} (remaining : R → Option (List ℕ)) (b : PlainDatabase) (question : Question) (content : Option R)
    (result : Result (Bor (List ℕ)) Cause) : Type 0 where
  -- It is the type that the order gives to the name and the whole content, where that is known.
  pub chosen : IfOk result (λ kind. IfSome (known_content remaining content)
      (λ known. Chooses b question.name.now known question.host question.order kind.now))
  -- Whatever is known of the content, the order gives the type to the name and to some content.
  pub some : IfOk result (λ kind. ChoosesSome b question.name.now content question.host question.order kind.now)

-- over a database as many bytes are read for a question as the order says, where the content is known
abbrev pub ReadsFor : {R X : Type 0} → (R → Option (List ℕ)) → PlainDatabase → Question → Option R → ℕ → Result X Cause → Type 0
ReadsFor remaining b question content read result = OnOk result (IfSome (known_content remaining content)
    (λ known. read ≡ read_of b question.name.now known question.order))

-- what a lookup over a cache answers to a question
abbrev pub AnswersQuestion : {R : Type 0} → (R → Option (List ℕ)) → List ℕ → Question → Option R → List ℕ → Type 0
AnswersQuestion remaining c question content kind =
    AnswersLookUp remaining c question.name.now content question.host question.order kind

-- why it stops: where enough stands and is afforded, for memory, or for a read if the globs do not decide the question alone
abbrev pub StopsQuestion : {R : Type 0} → List ℕ → Question → Option R → Type 0 → (PlainDatabase → Type 0) → Cause → Type 0
StopsQuestion c question content IsUsed IsAfforded stop =
    Stops IsUsed (λ b. Suffices c question.name.now question.order (content ≡ None) b × IsAfforded b)
    (λ b. GlobsDecide b question.name.now question.order (content ≡ None) → ⊥) stop

-- for which fault of the cache it stops, if not for a read or for memory
abbrev pub FaultsQuestion : {R X : Type 0} → List ℕ → Question → Option R → Result X Cause → Type 0
FaultsQuestion c question content result =
    ShowsFault cause.Cache c (IsStop (IsLookUpFault c question.name.now (content ≡ None))) result

-- what it reads of the content for a question
abbrev pub ReadsQuestion : {R X : Type 0} → (R → Option (List ℕ)) → (R → Option Tally) → (R → Health) → List ℕ → Question
    → Option R → Option R → ℕ → Result X Cause → Type 0
ReadsQuestion remaining tally health c question before after read result =
    ReadsLookUp remaining tally health c question.name.now question.order before after read result

-- what a question costs it
abbrev pub CostsQuestion : {R X : Type 0} → List ℕ → Question → Option R → ℕ → Meter → Result X Cause → Type 0
CostsQuestion c question content read meter result =
    CostsLookUp c question.name.now question.order content read meter result

-- what a lookup answers to a question of which it looks at the name alone
abbrev pub NamesQuestion : List ℕ → Question → List ℕ → ℕ → Type 0
NamesQuestion c question kind wanted = AnswersName c question.name.now question.order kind wanted

-- enough of a database stands for an answer to that
abbrev pub SufficesUnread : List ℕ → Question → PlainDatabase → Type 0
SufficesUnread c question b = SufficesForName c question.name.now question.order b

-- the globs alone decide a question
abbrev pub IsDecided : PlainDatabase → Question → Type 0 → Type 0
IsDecided b question NoContent = GlobsDecide b question.name.now question.order NoContent

-- the records that are visited where the globs alone decide a question, by the number of rules near the name
abbrev pub near_most : PlainDatabase → Question → ℕ
near_most b question = near_max (length question.name.now) (near question.name.now b.rules)

-- the record that states the extent is visited too, where a content is wanted
abbrev pub extent_asked : PlainDatabase → Question → ℕ
extent_asked b question = if globs_suffice b question.name.now question.order then 0 else 1
