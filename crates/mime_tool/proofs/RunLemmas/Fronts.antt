-- How a part of a command comes to its end that goes before another.
use Rattle.std.proofs.Common.{◌≡◌, ◌∙◌, ℕ, true, false, List, [], ◌++◌, ap, inl, inr, max, Ok, Err, refl, Result, subst, arith}
use Rattle.mime_tool.specs.Desk.{EndsOverFiles}
use Rattle.mime_tool.specs.Finish.{Sinks, Writes, WritesFront}
use Rattle.mime_tool.specs.Run.{Run, joined, silent, stopped, stops}
use Rattle.mime_tool.specs.Stop.{message}
use Rattle.mime_tool.specs.declared.stop.Stop.{Stop}
use Rattle.mime_tool.specs.declared.stop.Stop.TheVariants as stop
use Rattle.mime_tool.proofs.DeskLemmas.Sinks.{wrote_unknown}
use Rattle.mime_tool.proofs.RunLemmas.Ends.{writes-append, writes-front, writes_all, writes_kept}
use Rattle.mime_tool.proofs.RunLemmas.Runs.{both_go_on, joined-stopped, silent-joined}

-- the status is at least this
abbrev pub raised : ℕ → Result ℕ Stop → Result ℕ Stop
raised status (Ok s) = Ok (max status s)
raised status (Err e) = Err e

-- a run P goes before the runs Q over files, and together they are the runs W, over files that front makes of them
pub record IsFront (P : Run → Type 0) (Q W : List (List ℕ) → Run → Type 0) (front : List (List ℕ) → List (List ℕ)) : Type 0 where
  pub alone : (a : Run) → P a → W (front []) a
  pub more : (files : List (List ℕ)) (a b : Run) → P a → stops a ≡ false → Q files b → W (front files) (joined a b)
  pub stopping : (files : List (List ℕ)) (a : Run) → P a → stops a ≡ true → W (front files) a
  pub parts : (xs ys : List (List ℕ)) → (rest : List (List ℕ)) × (front (xs ++ ys) ≡ front xs ++ rest)

module _ (P : Run → Type 0) (Q W : List (List ℕ) → Run → Type 0) (front : List (List ℕ) → List (List ℕ)) (f : IsFront P Q W front) where
  -- both are done, as far as the second is
  pub ends_followed : (files : List (List ℕ)) (a b c : Sinks) (status : ℕ) (r : Result ℕ Stop) → EndsOverFiles (λ _. P) [] a b (Ok status)
      → EndsOverFiles Q files b c r → EndsOverFiles W (front files) a c (raised status r)
  ends_followed files a b c status (Ok s) p q = (
    joined p.0 q.0,
    f.more files p.0 q.0 p.1 p.2 q.1,
    both_go_on p.0 q.0 p.2 q.2,
    rw (p.3, q.3) refl,
    writes-append a b c p.0 q.0 p.4 q.4,
  )
  ends_followed files a b c status (Err stop.OutOfMemory) p (inl q) =
      let part = f.parts [] files in
      inr (
        p.0,
        record { front = front []; rest = part.0; split = part.1; is_run = f.alone p.0 p.1 },
        writes_all a c p.0 (writes_kept a b c p.0 p.4 q),
      )
  ends_followed files a b c status (Err stop.OutOfMemory) p (inr q) =
      let part = f.parts q.1.front q.1.rest in
      inr (
        joined p.0 q.0,
        record {
          front = front q.1.front;
          rest = part.0;
          split = ap front q.1.split ∙ part.1;
          is_run = f.more q.1.front p.0 q.0 p.1 p.2 q.1.is_run;
        },
        writes-front a b c p.0 q.0 p.4 q.2,
      )
  ends_followed files a b c status (Err stop.CannotWrite) p q = wrote_unknown a.out b.out p.0.out p.4.0 q
  ends_followed files a b c status (Err (stop.Refused m)) p q =
      let text = message (stop.Refused m) in (
        joined p.0 q.0,
        subst (W (front files)) (joined-stopped text p.0 q.0 p.2) (f.more files p.0 (stopped text q.0) p.1 p.2 q.1),
        writes-append a b c p.0 q.0 p.4 q.2,
      )

  -- the first isn't
  pub ends_first : (files : List (List ℕ)) (a b : Sinks) (e : Stop) → EndsOverFiles (λ _. P) [] a b (Err e) → EndsOverFiles W (front files) a b (Err e)
  ends_first files a b stop.OutOfMemory (inl p) = inl p
  ends_first files a b stop.OutOfMemory (inr p) =
      let part = f.parts [] files in
      inr (p.0, record { front = front []; rest = part.0; split = part.1; is_run = f.alone p.0 p.1.is_run }, p.2)
  ends_first files a b stop.CannotWrite p = p
  ends_first files a b (stop.Refused m) p =
      (p.0, f.stopping files (stopped (message (stop.Refused m)) p.0) p.1 refl, p.2)

-- nothing is written before
pub ends_after_nothing : (P : List (List ℕ) → Run → Type 0) (files : List (List ℕ)) (a b c : Sinks) (r : Result ℕ Stop) → Writes a b silent
    → EndsOverFiles P files b c r → EndsOverFiles P files a c r
ends_after_nothing P files a b c (Ok s) w p =
    (p.0, p.1, p.2, p.3, subst (Writes a c) (silent-joined p.0) (writes-append a b c silent p.0 w p.4))
ends_after_nothing P files a b c (Err stop.OutOfMemory) w (inl p) = inl (writes_kept a b c silent w p)
ends_after_nothing P files a b c (Err stop.OutOfMemory) w (inr p) =
    inr (p.0, p.1, subst (WritesFront a c) (silent-joined p.0) (writes-front a b c silent p.0 w p.2))
ends_after_nothing P files a b c (Err stop.CannotWrite) w p = wrote_unknown a.out b.out [] w.0 p
ends_after_nothing P files a b c (Err (stop.Refused m)) w p =
    (p.0, p.1, subst (Writes a c) (silent-joined p.0) (writes-append a b c silent p.0 w p.2))

-- a status that is raised twice
pub raised-raised : (s t : ℕ) (r : Result ℕ Stop) → raised s (raised t r) ≡ raised (max s t) r
raised-raised s t (Ok u) = ap Ok (max_assoc s t u)
  where
    max_assoc : (a b c : ℕ) → max a (max b c) ≡ max (max a b) c
    max_assoc a b c = omega arith
raised-raised s t (Err e) = refl
