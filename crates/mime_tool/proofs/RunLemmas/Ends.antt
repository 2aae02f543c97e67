-- How the parts of a command come to its end.
use Rattle.std.proofs.Common.{◌≡◌, ◌∙◌, ℕ, List, [], ◌∷◌, ◌++◌, inl, inr, Ok, Err, Result, append_assoc}
use Rattle.std.proofs.Common.{append-nil, max, nat_le, refl, sym, ap, subst}
use Rattle.mime_tool.specs.Desk.{EndsOverFiles}
use Rattle.mime_tool.specs.Finish.{IsCut, IsPart, Sinks, Writes, WritesFront}
use Rattle.mime_tool.specs.Run.{IsEach, Run, joined, said, silent, stopped}
use Rattle.mime_tool.specs.Stop.{message}
use Rattle.mime_tool.specs.declared.stop.Stop.{Stop}
use Rattle.mime_tool.specs.declared.stop.Stop.TheVariants as stop
use Rattle.mime_tool.proofs.DeskLemmas.Sinks.{front-append, front_all, front_whole, wrote-append, wrote_kept, wrote_nothing, wrote_unknown}
use Rattle.mime_tool.proofs.RunLemmas.Runs.{both_go_on, each-append, each_one, each_stopped, joined-stopped, said-status, said-stopped}

-- ---- both sinks

-- nothing is written
pub writes_nothing : (s : Sinks) → Writes s s silent
writes_nothing s = (wrote_nothing s.out, wrote_nothing s.err)

-- sinks that are the same hold what they held
pub writes_same : (a b : Sinks) → b ≡ a → Writes a b silent
writes_same a b same = subst (λ (s : Sinks). Writes a s silent) (sym same) (writes_nothing a)

-- a run after another
pub writes-append : (a b c : Sinks) (x y : Run) → Writes a b x → Writes b c y → Writes a c (joined x y)
writes-append a b c x y p q = (wrote-append a.out b.out c.out x.out y.out p.0 q.0, wrote-append a.err b.err c.err x.err y.err p.1 q.1)

-- a front of a run after another
pub writes-front : (a b c : Sinks) (x y : Run) → Writes a b x → WritesFront b c y → WritesFront a c (joined x y)
writes-front a b c x y p q = (front-append a.out b.out c.out x.out y.out p.0 q.0, front-append a.err b.err c.err x.err y.err p.1 q.1)

-- a run, and then nothing
pub writes_kept : (a b c : Sinks) (x : Run) → Writes a b x → Writes b c silent → Writes a c x
writes_kept a b c x p q = (wrote_kept a.out b.out c.out x.out p.0 q.0, wrote_kept a.err b.err c.err x.err p.1 q.1)

-- all of a run is a front of it
pub writes_all : (a b : Sinks) (x : Run) → Writes a b x → WritesFront a b x
writes_all a b x p = (front_all a.out b.out x.out p.0, front_all a.err b.err x.err p.1)

-- a run over all the files is a part
pub part_all : (P : List (List ℕ) → Run → Type 0) (files : List (List ℕ)) (run : Run) → P files run → IsPart P files run
part_all P files run p = record { front = files; rest = []; split = sym (append-nil files); is_run = p }

-- a run over no file is a part
pub part_none : (P : List (List ℕ) → Run → Type 0) (files : List (List ℕ)) (run : Run) → P [] run → IsPart P files run
part_none P files run p = record { front = []; rest = files; split = refl; is_run = p }

-- memory ran out at the end of a run, or in the middle of it
pub cut_all : (P : List (List ℕ) → Run → Type 0) (files : List (List ℕ)) (a b : Sinks) (run : Run) → P files run → WritesFront a b run
    → IsCut P files a b
cut_all P files a b run p w = inr (run, part_all P files run p, w)

-- ---- files after what was said of the data

-- memory ran out after that
cut_said : (P Q : List (List ℕ) → Run → Type 0) (files : List (List ℕ)) (text : List ℕ) (a b c : Sinks)
    → ((fs : List (List ℕ)) (run : Run) → P fs run → Q fs (joined (said text) run)) → (run : Run) × P [] run
    → Writes a b (said text) → IsCut P files b c → IsCut Q files a c
cut_said P Q files text a b c more none w (inl p) =
    inr (
      joined (said text) none.0,
      part_none Q files (joined (said text) none.0) (more [] none.0 none.1),
      writes-front a b c (said text) none.0 w
          (front_whole b.out c.out [] none.0.out p.0, front_whole b.err c.err [] none.0.err p.1),
    )
cut_said P Q files text a b c more none w (inr p) = inr (
  joined (said text) p.0,
  record { front = p.1.front; rest = p.1.rest; split = p.1.split; is_run = more p.1.front p.0 p.1.is_run },
  writes-front a b c (said text) p.0 w p.2,
)

-- the files are answered after that
pub ends_said : (P Q : List (List ℕ) → Run → Type 0) (files : List (List ℕ)) (text : List ℕ) (a b c : Sinks) (r : Result ℕ Stop)
    → ((fs : List (List ℕ)) (run : Run) → P fs run → Q fs (joined (said text) run)) → (run : Run) × P [] run
    → Writes a b (said text) → EndsOverFiles P files b c r → EndsOverFiles Q files a c r
ends_said P Q files text a b c (Ok status) more none w p = (
  joined (said text) p.0,
  more files p.0 p.1,
  ap (nat_le 3) (said-status text p.0) ∙ p.2,
  p.3
      ∙ sym (said-status text p.0),
  writes-append a b c (said text) p.0 w p.4,
)
ends_said P Q files text a b c (Err stop.OutOfMemory) more none w p = cut_said P Q files text a b c more none w p
ends_said P Q files text a b c (Err stop.CannotWrite) more none w p = wrote_unknown a.out b.out [] w.0 p
ends_said P Q files text a b c (Err (stop.Refused m)) more none w p = (
  joined (said text) p.0,
  subst (Q files) (said-stopped text (message (stop.Refused m)) p.0)
      (more files (stopped (message (stop.Refused m)) p.0) p.1),
  writes-append a b c (said text) p.0 w p.2,
)

-- ---- one file

-- a run over one file is one over each of it
pub ends_one : (P : List ℕ → Run → Type 0) (file : List ℕ) (a b : Sinks) (r : Result ℕ Stop) → EndsOverFiles (λ _. P file) [] a b r
    → EndsOverFiles (IsEach P) (file ∷ []) a b r
ends_one P file a b (Ok status) p = (p.0, each_one P file p.0 p.1, p.2, p.3, p.4)
ends_one P file a b (Err stop.OutOfMemory) (inl p) = inl p
ends_one P file a b (Err stop.OutOfMemory) (inr p) =
    inr (p.0, part_all (IsEach P) (file ∷ []) p.0 (each_one P file p.0 p.1.is_run), p.2)
ends_one P file a b (Err stop.CannotWrite) p = p
ends_one P file a b (Err (stop.Refused m)) p = (p.0, each_one P file (stopped (message (stop.Refused m)) p.0) p.1, p.2)

-- ---- a file after others

-- the file is answered
pub ends_more : (P : List ℕ → Run → Type 0) (xs : List (List ℕ)) (file : List ℕ) (a b c : Sinks) (s t : ℕ) → EndsOverFiles (IsEach P) xs a b (Ok s)
    → EndsOverFiles (λ _. P file) [] b c (Ok t)
    → EndsOverFiles (IsEach P) (xs ++ file ∷ []) a c (Ok (max s t))
ends_more P xs file a b c s t p q = (
  joined p.0 q.0,
  each-append P xs (file ∷ []) p.0 q.0 p.1 p.2 (each_one P file q.0 q.1),
  both_go_on p.0 q.0 p.2 q.2,
  rw (p.3, q.3)
      refl,
  writes-append a b c p.0 q.0 p.4 q.4,
)

-- memory runs out at the file
cut_at : (P : List ℕ → Run → Type 0) (xs : List (List ℕ)) (file : List ℕ) (ys : List (List ℕ)) (a b c : Sinks) (s : ℕ)
    → EndsOverFiles (IsEach P) xs a b (Ok s) → IsCut (λ _. P file) [] b c
    → IsCut (IsEach P) (xs ++ (file ∷ ys)) a c
cut_at P xs file ys a b c s p (inl q) =
    inr (p.0, record { front = xs; rest = file ∷ ys; split = refl; is_run = p.1 }, writes_all a c p.0 (writes_kept a b c p.0 p.4 q))
cut_at P xs file ys a b c s p (inr q) = inr (
  joined p.0 q.0,
  record {
    front = xs ++ file ∷ [];
    rest = ys;
    split = sym (append_assoc xs (file ∷ []) ys);
    is_run = each-append P xs (file ∷ []) p.0 q.0 p.1 p.2 (each_one P file q.0 q.1.is_run);
  },
  writes-front a b c p.0 q.0 p.4 q.2,
)

-- the command stops at the file
pub ends_stop : (P : List ℕ → Run → Type 0) (xs : List (List ℕ)) (file : List ℕ) (ys : List (List ℕ)) (a b c : Sinks) (s : ℕ) (e : Stop)
    → EndsOverFiles (IsEach P) xs a b (Ok s) → EndsOverFiles (λ _. P file) [] b c (Err e)
    → EndsOverFiles (IsEach P) (xs ++ (file ∷ ys)) a c (Err e)
ends_stop P xs file ys a b c s stop.OutOfMemory p q = cut_at P xs file ys a b c s p q
ends_stop P xs file ys a b c s stop.CannotWrite p q = wrote_unknown a.out b.out p.0.out p.4.0 q
ends_stop P xs file ys a b c s (stop.Refused m) p q =
    let stops_at = stopped (message (stop.Refused m)) q.0 in (
      joined p.0 q.0,
      subst (IsEach P (xs ++ (file ∷ ys))) (joined-stopped (message (stop.Refused m)) p.0 q.0 p.2)
          (each_stopped P xs file ys p.0 stops_at p.1 p.2 q.1 refl),
      writes-append a b c p.0 q.0 p.4 q.2,
    )
