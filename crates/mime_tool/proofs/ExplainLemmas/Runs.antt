-- From what a file comes to, to the run over it, and from lists that were read back to the run of the command.
use Rattle.std.proofs.Common.{◌≡◌, ℕ, Bool, true, false, List, [], Option, Some, None, Result, Ok, Err, IfSome, ap, inl, inr, length, nat_le, option_map, refl}
use Rattle.std.proofs.Common.{subst, sym, Vec}
use Rattle.std.specs.declared.alloc.Global.{Global}
use Rattle.mime_base.specs.Database.{PlainDatabase}
use Rattle.mime_lookup.specs.Content.{Health}
use Rattle.mime_lookup.specs.Fronts.{IsEnough}
use Rattle.mime_lookup.specs.declared.order.Order.{Order}
use Rattle.mime_lookup.specs.declared.stopped.Cause.TheVariants as cause
use Rattle.mime_request.specs.declared.request.Output.{Output}
use Rattle.mime_tool.specs.Cache.{GivesOrRefuses, IsAnsweredOr}
use Rattle.mime_tool.specs.Desk.{EndsOverFiles}
use Rattle.mime_tool.specs.Explain.{IsExplained, explained_by}
use Rattle.mime_tool.specs.ExplainSteps.{ComesToText, ReadsEnough, run_of_text}
use Rattle.mime_tool.specs.Files.{Stored, bytes, closed, dangling, folder, nothing, special, unknown, unreadable}
use Rattle.mime_tool.specs.Finish.{Sinks}
use Rattle.mime_tool.specs.Line.{IsTypeLine, IsTypeLineBy, PlainLookup, fits, name_for}
use Rattle.mime_tool.specs.LineSteps.{IsContent}
use Rattle.mime_tool.specs.Output.{written}
use Rattle.mime_tool.specs.Run.{Run, cannot_read, silent, stopped, unanswered}
use Rattle.mime_tool.specs.declared.explain.Explained.{Explained}
use Rattle.mime_tool.specs.declared.stop.Stop.{Stop}
use Rattle.mime_tool.specs.declared.stop.Stop.TheVariants as stop
use Rattle.mime_tool.proofs.AnswerLemmas.CachedStops.{named}
use Rattle.mime_tool.proofs.ExplainLemmas.Reading.{explained_whole}
use Rattle.mime_tool.proofs.RunLemmas.Ends.{writes_nothing, writes_same}
use Rattle.mime_tool.proofs.RunLemmas.Programs.{ends_weaker}
use Rattle.mime_view.specs.declared.fault.CacheFault.{CacheFault}

-- a cache that is refused ends a command over files
pub files_refused : (X : Type 0) (path : List ℕ) (IsRefusedFor : CacheFault → Type 0) (IsGiven : X → Type 0)
    (IsAnswered : List (List ℕ) → Run → Type 0) (files : List (List ℕ)) (a : Sinks) (s : Stop)
    → GivesOrRefuses {X = X} path IsRefusedFor IsGiven (Err s)
    → EndsOverFiles (λ fs. IsAnsweredOr path IsRefusedFor (IsAnswered fs)) files a a (Err s)
files_refused X path IsRefusedFor IsGiven IsAnswered files a stop.OutOfMemory p = inl (writes_nothing a)
files_refused X path IsRefusedFor IsGiven IsAnswered files a stop.CannotWrite p = absurd p
files_refused X path IsRefusedFor IsGiven IsAnswered files a (stop.Refused m) p =
    (silent, inr (p.0, p.1, ap (λ (t : List ℕ). stopped t silent) p.2), writes_nothing a)

-- a run that looks at no file is one of a command over files
pub ends_files : (P : Run → Type 0) (files : List (List ℕ)) (a b : Sinks) (r : Result ℕ Stop) → EndsOverFiles (λ _. P) [] a b r → EndsOverFiles (λ _. P) files a b r
ends_files P files a b (Ok status) p = p
ends_files P files a b (Err stop.OutOfMemory) (inl p) = inl p
ends_files P files a b (Err stop.OutOfMemory) (inr p) =
    inr (p.0, record { front = []; rest = files; split = refl; is_run = p.1.is_run }, p.2)
ends_files P files a b (Err stop.CannotWrite) p = p
ends_files P files a b (Err (stop.Refused m)) p = p

-- ---- what a file comes to

module _ (b : PlainDatabase) (output : Output) (order : Order) (file : List ℕ) where
  -- how it is explained
  abbrev looks : Bool → PlainLookup
  looks name_only = explained_by b name_only output order

  -- a content of which a read failed
  pub unread_content : {R : Type 0} (remaining : R → Option (List ℕ)) (health : R → Health) (name_only : Bool) (stored : Stored) (content : Option R)
      → nat_le (length (name_for order file)) 4096 ≡ true → ReadsEnough remaining health b content (Err cause.Read)
      → IsContent remaining health name_only stored content
      → IsTypeLineBy name_only (looks name_only) stored file (unanswered (cannot_read (written output file)))
  unread_content remaining health true stored None fit fails has = absurd fails
  unread_content remaining health true stored (Some reader) fit fails has = absurd has
  unread_content remaining health false stored None fit fails has = absurd has
  unread_content remaining health false nothing (Some reader) fit fails has = absurd has
  unread_content remaining health false dangling (Some reader) fit fails has = absurd has
  unread_content remaining health false folder (Some reader) fit fails has = absurd has
  unread_content remaining health false (special kind) (Some reader) fit fails has = absurd has
  unread_content remaining health false closed (Some reader) fit fails has = absurd has
  unread_content remaining health false unreadable (Some reader) fit fails has = rw fit refl
  unread_content remaining health false (bytes bs) (Some reader) fit fails has = absurd (fails has.1)
  unread_content remaining health false unknown (Some reader) fit fails has = inr (inr (rw fit (inr refl)))

  -- a content of which enough was read, or none
  pub shown_content : {R : Type 0} (remaining : R → Option (List ℕ)) (health : R → Health) (name_only : Bool) (stored : Stored) (content : Option R)
      (front : Option (Vec ℕ Global)) (run : Run) → nat_le (length (name_for order file)) 4096 ≡ true
      → ReadsEnough remaining health b content (Ok front) → IsContent remaining health name_only stored content
      → IsExplained b output order (option_map (λ (bs : Vec ℕ Global). bs.items) front) file run
      → IsTypeLineBy name_only (looks name_only) stored file run
  shown_content remaining health true stored None front run fit reads has is =
      named (fits (name_for order file)) (written output file) _ _ fit
      (subst (λ (o : Option (Vec ℕ Global)). IsExplained b output order (option_map (λ (bs : Vec ℕ Global). bs.items) o) file run) reads is)
  shown_content remaining health true stored (Some reader) front run fit reads has is = absurd has
  shown_content remaining health false stored None front run fit reads has is = absurd has
  shown_content remaining health false stored (Some reader) None run fit reads has is = absurd reads
  shown_content remaining health false nothing (Some reader) (Some front) run fit reads has is = absurd has
  shown_content remaining health false dangling (Some reader) (Some front) run fit reads has is = absurd has
  shown_content remaining health false folder (Some reader) (Some front) run fit reads has is = absurd has
  shown_content remaining health false (special kind) (Some reader) (Some front) run fit reads has is = absurd has
  shown_content remaining health false closed (Some reader) (Some front) run fit reads has is = absurd has
  shown_content remaining health false unreadable (Some reader) (Some front) run fit reads has is = absurd (reads.0 has.1)
  shown_content remaining health false (bytes bs) (Some reader) (Some front) run fit reads has is =
      let read = subst (λ (known : Option (List ℕ)). IfSome known (λ whole. IsEnough b (Some whole) (Some front.items))) has.0 reads.1 in
      named (fits (name_for order file)) (written output file) _ _ fit (explained_whole b output order bs front.items file run read is)
  shown_content remaining health false unknown (Some reader) (Some front) run fit reads has is =
      inr (inr (named (fits (name_for order file)) (written output file) _ _ fit (inl (front.items, is))))

  module _ (name_only : Bool) (stored : List ℕ → Stored) (a : Sinks) where
    -- memory ran out before anything was written
    pub text_undone : (z : Sinks) (s : Stop) → ComesToText (looks name_only) (stored file) file a z (Err s)
        → EndsOverFiles (λ _. IsTypeLine (looks name_only) stored file) [] a z (Err s)
    text_undone z stop.OutOfMemory p = inl (writes_same a z p.0)
    text_undone z stop.CannotWrite p = let never : stop.CannotWrite ≡ stop.OutOfMemory = p.1 in absurd (cc)
    text_undone z (stop.Refused m) p = let never : stop.Refused m ≡ stop.OutOfMemory = p.1 in absurd (cc)

    -- what it came to is written
    pub text_written : (o : Explained) (y z : Sinks) (r : Result ℕ Stop) → ComesToText (looks name_only) (stored file) file a y (Ok o)
        → EndsOverFiles (λ _ run. run ≡ run_of_text (written output file) o) [] y z r
        → EndsOverFiles (λ _. IsTypeLine (looks name_only) stored file) [] a z r
    text_written o y z r p q =
        subst (λ (s : Sinks). EndsOverFiles (λ _. IsTypeLine (looks name_only) stored file) [] s z r) p.0
        (ends_weaker (λ _ run. run ≡ run_of_text (written output file) o) (λ _. IsTypeLine (looks name_only) stored file) [] y z r
        (λ _ run is. subst (IsTypeLine (looks name_only) stored file) (sym is) (None, refl, p.1)) q)
