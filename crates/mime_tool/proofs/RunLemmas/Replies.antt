-- From an answer to the run of words of which some are no text.
use Rattle.std.proofs.Common.{◌≡◌, ◌∙◌, ℕ, List, [], ◌∷◌, Option, Some, None, Result, Ok, Err, ap, inl, inr, refl, subst, sym}
use Rattle.std.proofs.lemmas.List.{map-id}
use Rattle.clap.specs.Values.{kind_of}
use Rattle.clap.specs.declared.error.Error.{Error}
use Rattle.mime_request.specs.Request.{PlainRequest, PlainSubjects, Meaning, Means, asks, build, icon, is_a, list, of_files, of_input, of_list, plain}
use Rattle.mime_request.specs.Request.{check, explain, plain_request, refused, type_of}
use Rattle.mime_request.specs.declared.request.Request.{Request}
use Rattle.mime_tool.specs.Desk.{EndsOverFiles, State, Works}
use Rattle.mime_tool.specs.Files.{Stored, Writing}
use Rattle.mime_tool.specs.Finish.{Finishes, Sinks}
use Rattle.mime_tool.specs.Heard.{IsRefusedRun, IsReply, LeavesHeard, Replies, heard_names}
use Rattle.mime_tool.specs.Process.{PlainProcess}
use Rattle.mime_tool.specs.Program.{Answers, IsAskedRun, asked_files, asked_names}
use Rattle.mime_tool.specs.Run.{mistaken}
use Rattle.mime_tool.specs.Words.{Heard, heard_in, means, misplaced, no_text, named_subjects, not_text, placed, with_names}
use Rattle.mime_tool.specs.declared.stop.Stop.{Stop}
use Rattle.mime_tool.specs.declared.stop.Stop.TheVariants as stop
use Rattle.mime_tool.specs.declared.words.RawWord.{RawWord}
use Rattle.mime_tool.proofs.RunLemmas.Programs.{ends_weaker, error_shown, leaves_same}

-- where all words are text, the names of FILEs are their texts
no_names : (subjects : PlainSubjects) → named_subjects [] subjects ≡ subjects
no_names (of_files files) = ap of_files (map-id files)
no_names (of_input name) = refl
no_names (of_list path) = refl

-- so a request stays
with_no_names : (q : PlainRequest) → with_names [] q ≡ q
with_no_names (build dirs drop_twins file) = refl
with_no_names (plain dirs options subjects) = ap (plain dirs options) (no_names subjects)
with_no_names (list source) = refl
with_no_names (check source) = refl
with_no_names (explain source options files) = ap (explain source options) (map-id files)
with_no_names (is_a source kind base) = refl
with_no_names (icon source kind) = refl
with_no_names (type_of source options subjects) = ap (type_of source options) (no_names subjects)

-- a request, by the words that are misplaced
heard_placed : (raws : List RawWord) (q : PlainRequest) → placed (misplaced raws (asked_files q)) raws q ≡ heard_in raws (asks q)
heard_placed [] q = ap (λ (x : PlainRequest). means (asks x)) (with_no_names q)
heard_placed (raw ∷ raws) q = refl

-- an answer is a reply
pub replies_named : (v : PlainProcess) (raws : List RawWord) (q : PlainRequest) (a b : State) (r : Result ℕ Stop)
    → misplaced raws (asked_files q) ≡ None → Answers v (asks (with_names raws q)) a b r → Replies v (heard_in raws (asks q)) a b r
replies_named v raws q a b r none p =
    subst (λ (h : Heard). Replies v h a b r) (ap (λ (o : Option ℕ). placed o raws q) (sym none) ∙ heard_placed raws q)
    (record { same_setting = p.same_setting; sinks = p.sinks; leaves = p.leaves })

-- and so is the message on a word
pub replies_no_text : (v : PlainProcess) (raws : List RawWord) (q : PlainRequest) (n : ℕ) (a b : State) (r : Result ℕ Stop)
    → misplaced raws (asked_files q) ≡ Some n → Works (EndsOverFiles (λ _ run. run ≡ mistaken (not_text n)) []) a b r
    → Replies v (heard_in raws (asks q)) a b r
replies_no_text v raws q n a b r some p =
    subst (λ (h : Heard). Replies v h a b r) (ap (λ (o : Option ℕ). placed o raws q) (sym some) ∙ heard_placed raws q)
    (record { same_setting = p.same_setting; sinks = p.sinks; leaves = p.same_files })

-- a request that the words mean is answered
pub replies_asked : (v : PlainProcess) (raws : List RawWord) (m : Meaning) (q : Request) (a b : State) (r : Result ℕ Stop)
    → Means m (Ok q) → Replies v (heard_in raws (asks (plain_request q))) a b r → Replies v (heard_in raws m) a b r
replies_asked v raws (asks x) q a b r meant p = subst (λ (y : PlainRequest). Replies v (heard_in raws (asks y)) a b r) meant p
replies_asked v raws (refused kinds) q a b r meant p = absurd meant

-- an error of the words is said, or which of them is no text
refused_said : (v : PlainProcess) (writes : List ℕ → List ℕ → Writing) (stored after : List ℕ → Stored) (raws : List RawWord) (m : Meaning)
    (e : Error) (a b : Sinks) (r : Result ℕ Stop) → Means m (Err e) → EndsOverFiles (λ _. IsRefusedRun raws (kind_of e)) [] a b r
    → EndsOverFiles (IsReply v writes stored after (heard_in raws m)) (heard_names v stored (heard_in raws m)) a b r
refused_said v writes stored after [] m e a b r meant p = error_shown v writes stored after m e a b r meant p
refused_said v writes stored after (raw ∷ raws) (asks x) e a b (Ok status) meant p = absurd (p.1.0 meant)
refused_said v writes stored after (raw ∷ raws) (asks x) e a b (Err stop.OutOfMemory) meant (inl p) = inl p
refused_said v writes stored after (raw ∷ raws) (asks x) e a b (Err stop.OutOfMemory) meant (inr p) = absurd (p.1.is_run.0 meant)
refused_said v writes stored after (raw ∷ raws) (asks x) e a b (Err stop.CannotWrite) meant p = p
refused_said v writes stored after (raw ∷ raws) (asks x) e a b (Err (stop.Refused m)) meant p = absurd (p.1.0 meant)
refused_said v writes stored after (raw ∷ raws) (refused kinds) e a b r meant p =
    ends_weaker (λ _. IsRefusedRun (raw ∷ raws) (kind_of e)) (IsReply v writes stored after (no_text raw.number)) [] a b r
    (λ fs run q. q.1) p

-- what is stored stays, where a request is placed or not
leaves_placed : (v : PlainProcess) (o : Option ℕ) (raws : List RawWord) (q : PlainRequest) (old new : List ℕ → Stored) → new ≡ old
    → LeavesHeard v (placed o raws q) old new
leaves_placed v (Some n) raws q old new same = same
leaves_placed v None raws q old new same = leaves_same v (asks (with_names raws q)) old new same

-- what is stored stays
leaves_heard : (v : PlainProcess) (raws : List RawWord) (m : Meaning) (old new : List ℕ → Stored) → new ≡ old
    → LeavesHeard v (heard_in raws m) old new
leaves_heard v [] m old new same = leaves_same v m old new same
leaves_heard v (raw ∷ raws) (refused kinds) old new same = same
leaves_heard v (raw ∷ raws) (asks q) old new same = leaves_placed v (misplaced (raw ∷ raws) (asked_files q)) (raw ∷ raws) q old new same

-- words that are refused are replied to
pub replies_refused : (v : PlainProcess) (raws : List RawWord) (m : Meaning) (e : Error) (a b : State) (r : Result ℕ Stop)
    → Means m (Err e) → Works (EndsOverFiles (λ _. IsRefusedRun raws (kind_of e)) []) a b r → Replies v (heard_in raws m) a b r
replies_refused v raws m e a b r meant p = record {
  same_setting = p.same_setting;
  sinks = refused_said v a.setting.writes a.stored b.stored raws m e a.sinks b.sinks r meant p.sinks;
  leaves = leaves_heard v raws m a.stored b.stored p.same_files;
}

-- the run of words that ask for this
pub asked_finishes : (v : PlainProcess) (writes : List ℕ → List ℕ → Writing) (stored after : List ℕ → Stored) (h : Heard)
    (capacity : Option ℕ) (a b : Sinks) (status : ℕ) (q : PlainRequest) → h ≡ means (asks q)
    → Finishes (IsReply v writes stored after h) (heard_names v stored h) capacity a b status
    → Finishes (IsAskedRun v writes stored after q) (asked_names v stored q) capacity a b status
asked_finishes v writes stored after h capacity a b status q is p =
    subst (λ (x : Heard). Finishes (IsReply v writes stored after x) (heard_names v stored x) capacity a b status) is p
