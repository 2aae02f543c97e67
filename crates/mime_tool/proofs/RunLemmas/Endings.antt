-- From the end of a command, over the flush and the last message, to the end of the program.
use Rattle.std.proofs.Common.{◌≡◌, ◌≢◌, ◌∙◌, ◌≤◌, ◌⊎◌, ℕ, true, false, List, [], Option, Some, None, Result, Ok, Err, ap, arith, inl, inr}
use Rattle.std.proofs.Common.{is_some, refl, subst, sym}
use Rattle.std.proofs.lemmas.Bool.{false≢true}
use Rattle.mime_tool.specs.Desk.{EndsOverFiles}
use Rattle.mime_tool.specs.Finish.{Finishes, IsCut, IsCutAndSaid, Sinks, Writes}
use Rattle.mime_tool.specs.Run.{Run, out_of_memory, stopped, stops}
use Rattle.mime_tool.specs.Sink.{Flush, IsHandedOn, Wrote, WroteFront, WroteMessage}
use Rattle.mime_tool.specs.Stop.{IsFlushed, SaysCut, TellsStop, message}
use Rattle.mime_tool.specs.declared.stop.Stop.{Stop}
use Rattle.mime_tool.specs.declared.stop.Stop.TheVariants as stop
use Rattle.mime_tool.proofs.RunLemmas.Ends.{cut_all, writes_all}
use Rattle.mime_tool.proofs.DeskLemmas.Sinks.{front-append, front_all, front_kept, wrote-append, wrote_kept}

-- a sink that isn't known
unknown_known : (o : Option (List ℕ)) → o ≡ None → is_some o ≡ true → ⊥
unknown_known None is known = let bad : false ≡ true = known in cc
unknown_known (Some xs) is known = cc

-- a known sink stays known
known_wrote : (x y : Option (List ℕ)) (bs : List ℕ) → Wrote x y bs → is_some x ≡ true → is_some y ≡ true
known_wrote None y bs w known = let bad : false ≡ true = known in cc
known_wrote (Some xs) y bs w known = ap is_some w

-- where it is known what was held, it is known what is
known_front : (x y : Option (List ℕ)) (bs : List ℕ) → WroteFront x y bs → is_some x ≡ true → is_some y ≡ true
known_front None y bs w known = let bad : false ≡ true = known in cc
known_front (Some xs) y bs w known = ap is_some w.3

-- so does standard output over a command
pub ends_known : (P : List (List ℕ) → Run → Type 0) (files : List (List ℕ)) (a b : Sinks) (r : Result ℕ Stop) → EndsOverFiles P files a b r
    → is_some a.out ≡ true → is_some b.out ≡ true
ends_known P files a b (Ok status) p known = known_wrote a.out b.out p.0.out p.4.0 known
ends_known P files a b (Err stop.OutOfMemory) (inl p) known = known_wrote a.out b.out [] p.0 known
ends_known P files a b (Err stop.OutOfMemory) (inr p) known = known_front a.out b.out p.0.out p.2.0 known
ends_known P files a b (Err stop.CannotWrite) p known = absurd (unknown_known a.out p known)
ends_known P files a b (Err (stop.Refused m)) p known = known_wrote a.out b.out p.0.out p.2.0 known

-- equal results
same_ok : (x y : ℕ) → ◌≡◌ {A = Result ℕ Stop} (Ok x) (Ok y) → x ≡ y
same_ok x y e = cc

-- equal results stop for one reason
same_err : (x y : Stop) → ◌≡◌ {A = Result ℕ Stop} (Err x) (Err y) → x ≡ y
same_err x y e = cc

-- a status is no stop
ok_err : (x : ℕ) (s : Stop) → ◌≡◌ {A = Result ℕ Stop} (Ok x) (Err s) → ⊥
ok_err x s e = cc

-- the status of a run that doesn't stop, and that of a stop, isn't that of want of memory
goes_on : (run : Run) (status : ℕ) → status ≡ run.status → stops run ≡ false → status ≢ 4
goes_on run status is goes four = let bad : stops run ≡ true = rw (sym is ∙ four) refl in false≢true (sym goes ∙ bad)

-- a status of 3 is none of 4
not_four : (status : ℕ) → status ≡ 3 → status ≢ 4
not_four status is four = omega (arith, is, four)

-- a status after the flush is that of the command
pub finishes_done : (P : List (List ℕ) → Run → Type 0) (files : List (List ℕ)) (capacity : Option ℕ) (a b : Sinks) (o : Option (List ℕ)) (flush : Flush)
    (ended : Result ℕ Stop) (status : ℕ) → EndsOverFiles P files a b ended → Wrote b.out o []
    → IsFlushed flush ended (Ok status) → Finishes P files capacity a (record { out = o; err = b.err }) status
finishes_done P files capacity a b o flush (Ok s) status p kept (inl f) =
    let is = same_ok status s f.1 ∙ p.3 in
    inl (p.0, p.1, is, goes_on p.0 status is p.2, (wrote_kept a.out b.out o p.0.out p.4.0 kept, p.4.1))
finishes_done P files capacity a b o flush (Ok s) status p kept (inr f) = absurd (ok_err status stop.OutOfMemory f.1)
finishes_done P files capacity a b o flush (Err s) status p kept f = absurd (ok_err status s f.0)

-- memory ran out in a command
cut_said : (P : List (List ℕ) → Run → Type 0) (files : List (List ℕ)) (capacity : Option ℕ) (a b : Sinks) (o e : Option (List ℕ)) → IsCut P files a b
    → Wrote b.out o [] → WroteMessage capacity b.err e out_of_memory
    → IsCutAndSaid P files capacity a (record { out = o; err = e })
cut_said P files capacity a b o e (inl p) kept said =
    (record { out = o; err = b.err }, inl (wrote_kept a.out b.out o [] p.0 kept, p.1), refl, said)
cut_said P files capacity a b o e (inr p) kept said =
    (record { out = o; err = b.err }, inr (p.0, p.1, (front_kept a.out b.out o p.0.out p.2.0 kept, p.2.1)), refl, said)

-- the message of a refusal was said, or memory ran out
refused_said : (P : List (List ℕ) → Run → Type 0) (files : List (List ℕ)) (capacity : Option ℕ) (a b : Sinks) (o e : Option (List ℕ)) (text : List ℕ)
    (status : ℕ) (run : Run) → P files (stopped text run) → Writes a b run → Wrote b.out o []
    → ((status ≡ 3) × Wrote b.err e text) ⊎ ((status ≡ 4) × SaysCut capacity b.err e text)
    → Finishes P files capacity a (record { out = o; err = e }) status
refused_said P files capacity a b o e text status run is w kept (inl t) =
    inl (stopped text run, is, t.0, not_four status t.0, (wrote_kept a.out b.out o run.out w.0 kept, wrote-append a.err b.err e run.err text w.1 t.1))
refused_said P files capacity a b o e text status run is w kept (inr t) =
    let cut : Sinks = record { out = o; err = t.1.0 } in
    inr (
      t.0,
      (
        cut,
        cut_all P files a cut (stopped text run) is
            (front_all a.out o run.out (wrote_kept a.out b.out o run.out w.0 kept), front-append a.err b.err t.1.0 run.err text w.1 t.1.1),
        refl,
        t.1.2,
      ),
    )

-- a stop of the command was told
stop_told : (P : List (List ℕ) → Run → Type 0) (files : List (List ℕ)) (capacity : Option ℕ) (a b : Sinks) (o e : Option (List ℕ)) (s : Stop) (status : ℕ)
    → EndsOverFiles P files a b (Err s) → is_some a.out ≡ true → Wrote b.out o []
    → TellsStop s capacity b.err e status → Finishes P files capacity a (record { out = o; err = e }) status
stop_told P files capacity a b o e stop.OutOfMemory status p known kept told = inr (told.0, cut_said P files capacity a b o e p kept told.1)
stop_told P files capacity a b o e stop.CannotWrite status p known kept told = absurd (unknown_known a.out p known)
stop_told P files capacity a b o e (stop.Refused m) status p known kept told =
    refused_said P files capacity a b o e (message (stop.Refused m)) status p.0 p.1 p.2 kept told

-- memory ran out in the flush, after the command was done
unflushed_told : (P : List (List ℕ) → Run → Type 0) (files : List (List ℕ)) (capacity : Option ℕ) (a b : Sinks) (o e : Option (List ℕ)) (s : ℕ) (status : ℕ)
    → EndsOverFiles P files a b (Ok s) → Wrote b.out o []
    → TellsStop stop.OutOfMemory capacity b.err e status → Finishes P files capacity a (record { out = o; err = e }) status
unflushed_told P files capacity a b o e s status p kept told =
    inr (told.0, cut_said P files capacity a b o e (cut_all P files a b p.0 p.1 (writes_all a b p.0 p.4)) kept told.1)

-- a stop after the flush was told
pub finishes_told : (P : List (List ℕ) → Run → Type 0) (files : List (List ℕ)) (capacity : Option ℕ) (a b : Sinks) (o e : Option (List ℕ)) (flush : Flush)
    (ended : Result ℕ Stop) (s : Stop) (status : ℕ) → EndsOverFiles P files a b ended → is_some a.out ≡ true
    → Wrote b.out o [] → IsFlushed flush ended (Err s) → TellsStop s capacity b.err e status
    → Finishes P files capacity a (record { out = o; err = e }) status
finishes_told P files capacity a b o e flush (Ok t) s status p known kept (inl f) told = absurd (ok_err t s (sym f.1))
finishes_told P files capacity a b o e flush (Ok t) s status p known kept (inr f) told =
    unflushed_told P files capacity a b o e t status p kept (subst (λ (x : Stop). TellsStop x capacity b.err e status) (same_err s stop.OutOfMemory f.1) told)
finishes_told P files capacity a b o e flush (Err t) s status p known kept f told =
    stop_told P files capacity a b o e t status p known kept (subst (λ (x : Stop). TellsStop x capacity b.err e status) (same_err s t f.0) told)

-- a stop was told with status 3 or 4
told_status : (s : Stop) (capacity : Option ℕ) (old new : Option (List ℕ)) (status : ℕ) → TellsStop s capacity old new status → 3 ≤ status
told_status stop.OutOfMemory capacity old new status p = let x = p.0 in omega arith
told_status stop.CannotWrite capacity old new status (inl p) = let x = p.0 in omega arith
told_status stop.CannotWrite capacity old new status (inr p) = let x = p.0 in omega arith
told_status (stop.Refused m) capacity old new status (inl p) = let x = p.0 in omega arith
told_status (stop.Refused m) capacity old new status (inr p) = let x = p.0 in omega arith

-- the output was handed on where no stop is left
pub handed_on : (flush : Flush) (ended : Result ℕ Stop) (s status : ℕ) → IsFlushed flush ended (Ok s) → IsHandedOn status flush
handed_on flush (Ok t) s status (inl f) = inl f.0
handed_on flush (Ok t) s status (inr f) = absurd (ok_err s stop.OutOfMemory f.1)
handed_on flush (Err t) s status f = absurd (ok_err s t f.0)

-- it was, or memory ran out in that, where a stop was told
pub handed_on_told : (flush : Flush) (ended : Result ℕ Stop) (s : Stop) (capacity : Option ℕ) (old new : Option (List ℕ)) (status : ℕ)
    → IsFlushed flush ended (Err s) → TellsStop s capacity old new status → IsHandedOn status flush
handed_on_told flush (Ok t) s capacity old new status (inl f) told = absurd (ok_err t s (sym f.1))
handed_on_told flush (Ok t) s capacity old new status (inr f) told = inr (f.0, told_status s capacity old new status told)
handed_on_told flush (Err t) s capacity old new status (f, inl g) told = inl g
handed_on_told flush (Err t) s capacity old new status (f, inr g) told = inr (g, told_status s capacity old new status told)
