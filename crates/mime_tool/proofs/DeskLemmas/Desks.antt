-- What parts of a command do to the sinks.
use Rattle.std.proofs.Common.{◌≡◌, ◌+◌, ◌<◌, ℕ, List, [], ◌++◌, Ok, Err, Result, length, take, drop, get_or, refl, subst}
use Rattle.std.specs.List.{flat_map}
use Rattle.mime_tool.specs.Desk.{Does, EndsOverFiles}
use Rattle.mime_tool.specs.Finish.{Sinks}
use Rattle.mime_tool.specs.Run.{Run, joined, printed, said}
use Rattle.mime_tool.specs.declared.stop.Stop.{Stop}
use Rattle.mime_tool.specs.declared.stop.Stop.TheVariants as stop
use Rattle.mime_tool.proofs.DeskLemmas.Sinks.{flat_map-split, front_longer, front_nothing, wrote_unknown}
use Rattle.mime_tool.proofs.RunLemmas.Ends.{cut_all, writes-append, writes-front}

-- memory ran out before anything was written
pub does_nothing : (X : Type 0) (run : Run) (s : Sinks) → Does {X = X} run s s (Err stop.OutOfMemory)
does_nothing X run s = (front_nothing s.out run.out, front_nothing s.err run.err)

-- a run after another
does_more : {X : Type 0} (a b c : Sinks) (u : Unit {0}) (x y : Run) (r : Result X Stop) → Does {X = Unit {0}} x a b (Ok u)
    → Does y b c r → Does (joined x y) a c r
does_more a b c u x y (Ok _) p q = writes-append a b c x y p q
does_more a b c u x y (Err stop.OutOfMemory) p q = writes-front a b c x y p q
does_more a b c u x y (Err stop.CannotWrite) p q = wrote_unknown a.out b.out x.out p.0 q
does_more a b c u x y (Err (stop.Refused m)) p q = q

-- a run that was not done, with more to come
does_no_more : (X : Type 0) (a b : Sinks) (x y : Run) (e : Stop) → Does {X = X} x a b (Err e)
    → Does {X = X} (joined x y) a b (Err e)
does_no_more X a b x y stop.OutOfMemory p = (front_longer a.out b.out x.out y.out p.0, front_longer a.err b.err x.err y.err p.1)
does_no_more X a b x y stop.CannotWrite p = p
does_no_more X a b x y (stop.Refused m) p = p

module _ {X : Type 0} (Y : Type 0) (tell : List ℕ → Run) (parts : (x y : List ℕ) → joined (tell x) (tell y) ≡ tell (x ++ y)) where
  -- of texts that are told one after another, the one at an index was not told
  cut_at : (f : X → List ℕ) (xs : List X) (i : ℕ) (d : X) (a b c : Sinks) (u : Unit {0}) (e : Stop) → i < length xs
      → Does {X = Unit {0}} (tell (flat_map f (take i xs))) a b (Ok u) → Does {X = Y} (tell (f (get_or xs i d))) b c (Err e)
      → Does {X = Y} (tell (flat_map f xs)) a c (Err e)
  cut_at f xs i d a b c u e lt before here =
      let first = flat_map f (take i xs) in
      let at = f (get_or xs i d) in
      let rest = flat_map f (drop (i + 1) xs) in
      let told = does_no_more Y b c (tell at) (tell rest) e here in
      let all = does_more {X = Y} a b c u (tell first) (tell (at ++ rest)) (Err e) before
      (subst (λ (run : Run). Does {X = Y} run b c (Err e)) (parts at rest) told) in
      subst (λ (bs : List ℕ). Does {X = Y} (tell bs) a c (Err e)) (flat_map-split f xs i d lt)
      (subst (λ (run : Run). Does {X = Y} run a c (Err e)) (parts first (at ++ rest)) all)

-- the message at an index was not said
pub says_cut_at : {X : Type 0} (Y : Type 0) (f : X → List ℕ) (xs : List X) (i : ℕ) (d : X) (a b c : Sinks) (u : Unit {0})
    (e : Stop)
    → i < length xs
    → Does {X = Unit {0}} (said (flat_map f (take i xs))) a b (Ok u) → Does {X = Y} (said (f (get_or xs i d))) b c (Err e)
    → Does {X = Y} (said (flat_map f xs)) a c (Err e)
says_cut_at Y f xs i d a b c u e lt before here = cut_at Y said (λ x y. refl) f xs i d a b c u e lt before here

-- the line of the item x, which is that at an index, was not printed
pub prints_cut_at : {X : Type 0} (Y : Type 0) (f : X → List ℕ) (xs : List X) (i : ℕ) (x : X) (a b c : Sinks) (u : Unit {0})
    (e : Stop)
    → i < length xs → x ≡ get_or xs i x
    → Does {X = Unit {0}} (printed (flat_map f (take i xs))) a b (Ok u) → Does {X = Y} (printed (f x)) b c (Err e)
    → Does {X = Y} (printed (flat_map f xs)) a c (Err e)
prints_cut_at Y f xs i x a b c u e lt is before here =
    cut_at Y printed (λ x y. refl) f xs i x a b c u e lt before (subst (λ y. Does {X = Y} (printed (f y)) b c (Err e)) is here)

-- ---- a run that is known

-- it isn't done
pub ends_undone : (X : Type 0) (P : Run → Type 0) (run : Run) (a b : Sinks) (s : Stop) → P run → Does {X = X} run a b (Err s)
    → EndsOverFiles (λ _. P) [] a b (Err s)
ends_undone X P run a b stop.OutOfMemory is p = cut_all (λ _. P) [] a b run is p
ends_undone X P run a b stop.CannotWrite is p = p
ends_undone X P run a b (stop.Refused m) is p = absurd p

-- a run whose message isn't said; the message doesn't depend on the status
pub other_unsaid : (X : Type 0) (P : Run → Type 0) (status : ℕ) (text : List ℕ) (a b : Sinks) (s : Stop)
    → P (record { status = status; out = []; err = text }) → Does {X = X} (said text) a b (Err s) → EndsOverFiles (λ _. P) [] a b (Err s)
other_unsaid X P status text a b stop.OutOfMemory is p = cut_all (λ _. P) [] a b
    (record { status = status; out = []; err = text }) is p
other_unsaid X P status text a b stop.CannotWrite is p = p
other_unsaid X P status text a b (stop.Refused m) is p = absurd p

-- a run whose line isn't printed; nor does the line
pub other_unprinted : (X : Type 0) (P : Run → Type 0) (status : ℕ) (text : List ℕ) (a b : Sinks) (s : Stop)
    → P (record { status = status; out = text; err = [] }) → Does {X = X} (printed text) a b (Err s)
    → EndsOverFiles (λ _. P) [] a b (Err s)
other_unprinted X P status text a b stop.OutOfMemory is p = cut_all (λ _. P) [] a b
    (record { status = status; out = text; err = [] }) is p
other_unprinted X P status text a b stop.CannotWrite is p = p
other_unprinted X P status text a b (stop.Refused m) is p = absurd p
