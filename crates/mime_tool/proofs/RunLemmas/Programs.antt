-- From the run of a command to the run of the program.
use Rattle.std.proofs.Common.{◌≡◌, ◌≢◌, ◌∙◌, ℕ, Bool, true, false, List, [], Option, Result, Ok, Err, ap, inl, inr, subst}
use Rattle.clap.specs.Values.{kind_of}
use Rattle.clap.specs.declared.error.Error.{Error}
use Rattle.clap.specs.declared.error.kind.ErrorKind.{ErrorKind}
use Rattle.clap.specs.declared.error.kind.ErrorKind.TheVariants as kind
use Rattle.mime_request.specs.Request.{PlainDirectories, PlainRequest, Meaning, Means, plain_request, asks, build, icon, is_a, list}
use Rattle.mime_request.specs.Request.{check, explain, plain, refused, type_of}
use Rattle.mime_request.specs.declared.request.Request.{Request}
use Rattle.mime_tool.specs.Build.{Builds, LeavesWhere, is_output}
use Rattle.mime_tool.specs.Desk.{EndsOverFiles, State, Works}
use Rattle.mime_tool.specs.Environment.{PlainEnvironment}
use Rattle.mime_tool.specs.Files.{Stored, Writing}
use Rattle.mime_tool.specs.Finish.{Sinks}
use Rattle.mime_tool.specs.Process.{PlainProcess}
use Rattle.mime_tool.specs.Program.{Answers, IsAnswer, IsShown, LeavesFiles, is_help, names_of, shown}
use Rattle.mime_tool.specs.Run.{Run, stopped}
use Rattle.mime_tool.specs.Stop.{message}
use Rattle.mime_tool.specs.declared.stop.Stop.{Stop}
use Rattle.mime_tool.specs.declared.stop.Stop.TheVariants as stop

-- ---- from an answer to what the words mean

-- a run that is one of more
pub ends_weaker : (P Q : List (List ℕ) → Run → Type 0) (files : List (List ℕ)) (a b : Sinks) (r : Result ℕ Stop)
    → ((fs : List (List ℕ)) (run : Run) → P fs run → Q fs run) → EndsOverFiles P files a b r → EndsOverFiles Q files a b r
ends_weaker P Q files a b (Ok status) more p = (p.0, more files p.0 p.1, p.2, p.3, p.4)
ends_weaker P Q files a b (Err stop.OutOfMemory) more (inl p) = inl p
ends_weaker P Q files a b (Err stop.OutOfMemory) more (inr p) =
    inr (p.0, record { front = p.1.front; rest = p.1.rest; split = p.1.split; is_run = more p.1.front p.0 p.1.is_run }, p.2)
ends_weaker P Q files a b (Err stop.CannotWrite) more p = p
ends_weaker P Q files a b (Err (stop.Refused m)) more p = (p.0, more files (stopped (message (stop.Refused m)) p.0) p.1, p.2)

-- a request that the words mean is answered
pub answers_asked : (v : PlainProcess) (m : Meaning) (q : Request) (a b : State) (r : Result ℕ Stop) → Means m (Ok q)
    → Answers v (asks (plain_request q)) a b r → Answers v m a b r
answers_asked v (asks x) q a b r means p = subst (λ (y : PlainRequest). Answers v (asks y) a b r) means p
answers_asked v (refused kinds) q a b r means p = absurd means

-- an error that the words mean is shown
pub error_shown : (v : PlainProcess) (writes : List ℕ → List ℕ → Writing) (stored after : List ℕ → Stored) (m : Meaning) (e : Error) (a b : Sinks)
    (r : Result ℕ Stop) → Means m (Err e)
    → EndsOverFiles (λ _. IsShown (kind_of e)) [] a b r → EndsOverFiles (IsAnswer v writes stored after m) (names_of v stored m) a b r
error_shown v writes stored after (asks x) e a b (Ok status) means p = absurd (p.1.0 means)
error_shown v writes stored after (asks x) e a b (Err stop.OutOfMemory) means (inl p) = inl p
error_shown v writes stored after (asks x) e a b (Err stop.OutOfMemory) means (inr p) = absurd (p.1.is_run.0 means)
error_shown v writes stored after (asks x) e a b (Err stop.CannotWrite) means p = p
error_shown v writes stored after (asks x) e a b (Err (stop.Refused m)) means p = absurd (p.1.0 means)
error_shown v writes stored after (refused kinds) e a b (Ok status) (inl memory) p = absurd (p.1.0 memory)
error_shown v writes stored after (refused kinds) e a b (Err stop.OutOfMemory) (inl memory) (inl p) = inl p
error_shown v writes stored after (refused kinds) e a b (Err stop.OutOfMemory) (inl memory) (inr p) = absurd (p.1.is_run.0 memory)
error_shown v writes stored after (refused kinds) e a b (Err stop.CannotWrite) (inl memory) p = p
error_shown v writes stored after (refused kinds) e a b (Err (stop.Refused m)) (inl memory) p = absurd (p.1.0 memory)
error_shown v writes stored after (refused kinds) e a b r (inr among) p =
    ends_weaker (λ _. IsShown (kind_of e)) (IsAnswer v writes stored after (refused kinds)) [] a b r
    (λ fs run q. (kind_of e, among, q)) p

-- `build` leaves what was stored
leaves_where : (output : Bool) (e : Option PlainEnvironment) (dirs : PlainDirectories) (drop_twins : Bool) (file : List ℕ)
    (old new : List ℕ → Stored) → new ≡ old → LeavesWhere output e dirs drop_twins file old new
leaves_where true e dirs drop_twins file old new same = same
leaves_where false e dirs drop_twins file old new same = inl (λ other _. ap (λ (stored : List ℕ → Stored). stored other) same)

-- what is stored stays
pub leaves_same : (v : PlainProcess) (m : Meaning) (old new : List ℕ → Stored) → new ≡ old → LeavesFiles v m old new
leaves_same v (asks (build dirs drop_twins file)) old new same =
    leaves_where (is_output file) v.environment dirs drop_twins file old new same
leaves_same v (asks (plain dirs options subjects)) old new same = same
leaves_same v (asks (list source)) old new same = same
leaves_same v (asks (check source)) old new same = same
leaves_same v (asks (explain source options files)) old new same = same
leaves_same v (asks (is_a source kind base)) old new same = same
leaves_same v (asks (icon source kind)) old new same = same
leaves_same v (asks (type_of source options subjects)) old new same = same
leaves_same v (refused kinds) old new same = same

-- showing an error of the words is what they lead to
pub answers_error : (v : PlainProcess) (m : Meaning) (e : Error) (a b : State) (r : Result ℕ Stop) → Means m (Err e)
    → Works (EndsOverFiles (λ _. IsShown (kind_of e)) []) a b r → Answers v m a b r
answers_error v m e a b r means p = record {
  same_setting = p.same_setting;
  sinks = error_shown v a.setting.writes a.stored b.stored m e a.sinks b.sinks r means p.sinks;
  leaves = leaves_same v m a.stored b.stored p.same_files;
}

-- `build` leaves what it says
pub answers_build : (v : PlainProcess) (dirs : PlainDirectories) (drop_twins : Bool) (file : List ℕ) (a b : State)
    (r : Result ℕ Stop) → Builds v.environment v.to_terminal dirs drop_twins file a b r → Answers v (asks (build dirs drop_twins file)) a b r
answers_build v dirs drop_twins file a b r p = record { same_setting = p.same_setting; sinks = p.sinks; leaves = p.leaves }

-- the text of an error is shown
pub shown_text : (k : ErrorKind) (help : Bool) (text : List ℕ) (a b : Sinks) (r : Result ℕ Stop) → k ≢ kind.OutOfMemory
    → help ≡ is_help k
    → EndsOverFiles (λ _ run. run ≡ shown help text) [] a b r → EndsOverFiles (λ _. IsShown k) [] a b r
shown_text k help text a b r other is p =
    ends_weaker (λ _ run. run ≡ shown help text) (λ _. IsShown k) [] a b r
    (λ fs run q. (other, (text, q ∙ ap (λ (h : Bool). shown h text) is))) p
