-- What is said of directories without a text file, and of a file that is kept.
use Rattle.std.proofs.Common.{◌≡◌, ◌∙◌, ◌<◌, ◌≤◌, ℕ, Bool, true, false, List, [], ◌∷◌, ◌++◌, Bor, Option, Some, None, Result, Ok, Err}
use Rattle.std.proofs.Common.{ap, arith, codes, get_or, length, refl, subst, sym}
use Rattle.std.specs.List.{flat_map, join_by}
use Rattle.clap.specs.Walk.{texts}
use Rattle.mime_tool.specs.Desk.{Does, State, Works}
use Rattle.mime_tool.specs.Directories.{FirstPasses, IsKept, IsKeptWhere, IsMissing, IsMissingFrom}
use Rattle.mime_tool.specs.Directories.{globs2_beside, no_directories, why_missing}
use Rattle.mime_tool.specs.Files.{IsThere, Stored, bytes, closed, dangling, folder, nothing, special, unknown, unreadable}
use Rattle.mime_tool.specs.Loading.{Loads}
use Rattle.mime_tool.specs.Run.{not_replaced, refusal, said}
use Rattle.mime_tool.specs.Stop.{IsRefusal}
use Rattle.mime_tool.specs.declared.stop.Stop.{Stop}
use Rattle.mime_tool.specs.declared.stop.Stop.TheVariants as stop
use Rattle.mime_tool.proofs.DirectoryLemmas.Passing.{can_be_first}
use Rattle.mime_tool.proofs.RunLemmas.Ends.{writes_nothing}
use Rattle.mime_tool.proofs.RunLemmas.Loads.{CanBe, can_give, works_nothing}

-- a step over a desk that gives nothing
abbrev pub Steps : (Option (Unit {0}) → List ℕ → Type 0) → State → State → Result (Unit {0}) Stop → Type 0
Steps IsStep a b r = Works (Loads {X = Unit {0}} (λ done. done) IsStep) a b r

-- ---- each step can be done

-- something is at a path, or nothing
pub can_be_there : (stored : Stored) → (there : Bool) × IsThere stored there
can_be_there nothing = (false, refl)
can_be_there dangling = (false, refl)
can_be_there folder = (true, refl)
can_be_there (special kind) = (true, refl)
can_be_there closed = (true, refl)
can_be_there unreadable = (true, refl)
can_be_there (bytes bs) = (true, refl)
can_be_there unknown = (true, tt)

-- of directories without a text file something is said
pub can_be_missing_from : (stored : List ℕ → Stored) (first : List ℕ) (dirs : List (List ℕ)) → CanBe (IsMissingFrom stored first dirs)
can_be_missing_from stored first dirs =
    let one = can_be_first (λ d. IsThere (stored (globs2_beside d))) (λ d. can_be_there (stored (globs2_beside d))) dirs in
    (Some tt, refusal (join_by (λ d. d) (codes ":") dirs) (why_missing first one.0), (refl, (one.0, one.1, refl)))

-- the same where there may be none
pub can_be_missing : (stored : List ℕ → Stored) (dirs : List (List ℕ)) → CanBe (IsMissing stored dirs)
can_be_missing stored [] = (Some tt, no_directories, (refl, refl))
can_be_missing stored (dir ∷ dirs) = can_be_missing_from stored dir (dir ∷ dirs)

-- a file is kept, or not
kept_where : (file : List ℕ) (there : Bool) → CanBe (IsKeptWhere there file)
kept_where file true = (None, not_replaced file, (refl, refl))
kept_where file false = can_give (Unit {0}) tt

-- the same of what is stored
pub can_be_kept : (stored : List ℕ → Stored) (kept : Option (List ℕ)) → CanBe (IsKept stored kept)
can_be_kept stored None = can_give (Unit {0}) tt
can_be_kept stored (Some file) =
    let there = can_be_there (stored file) in
    let step = kept_where file there.0 in
    (step.0, step.1, (there.0, there.1, step.2))

-- ---- directories without a text file

-- what is said joins the texts
pub join_texts : (dirs : List (Bor (List ℕ))) → join_by (λ (dir : Bor (List ℕ)). dir.now) (codes ":") dirs ≡ join_by (λ dir. dir) (codes ":") (texts dirs)
join_texts [] = refl
join_texts (dir ∷ dirs) = ap (λ (t : List ℕ). dir.now ++ t) (rest dirs)
  where
    rest : (dirs : List (Bor (List ℕ)))
        → flat_map (λ (dir : Bor (List ℕ)). codes ":" ++ dir.now) dirs ≡ flat_map (λ (dir : List ℕ). codes ":" ++ dir) (texts dirs)
    rest [] = refl
    rest (dir ∷ dirs) = ap (λ (t : List ℕ). (codes ":" ++ dir.now) ++ t) (rest dirs)

-- a message is said, or not
steps_said : (IsStep : Option (Unit {0}) → List ℕ → Type 0) (message : List ℕ) (a b : State) (r : Result (Unit {0}) Stop)
    → IsStep (Some tt) message → Works (Does (said message)) a b r → Steps IsStep a b r
steps_said IsStep message a b r is p =
    record { same_files = p.same_files; same_setting = p.same_setting; sinks = by_result r p.sinks }
  where
    by_result : (r : Result (Unit {0}) Stop) → Does (said message) a.sinks b.sinks r → Loads (λ done. done) IsStep a.sinks b.sinks r
    by_result (Ok u) q = (message, is, q)
    by_result (Err stop.OutOfMemory) q = (Some tt, message, is, q)
    by_result (Err stop.CannotWrite) q = q
    by_result (Err (stop.Refused m)) q = absurd q

-- that there is no directory
pub none_said : (dirs : List (Bor (List ℕ))) (a b : State) (r : Result (Unit {0}) Stop) → length dirs < 1
    → Works (Does (said no_directories)) a b r → Steps (IsMissing a.stored (texts dirs)) a b r
none_said [] a b r none p = steps_said (IsMissing a.stored []) no_directories a b r (refl, refl) p
none_said (dir ∷ dirs) a b r none p = let bad : ⊥ = omega (arith, none) in absurd bad

-- that none of some has a text file
pub some_said : (dirs : List (Bor (List ℕ))) (d : Bor (List ℕ)) (a b : State) (r : Result (Unit {0}) Stop) → 1 ≤ length dirs
    → Steps (IsMissingFrom a.stored (get_or dirs 0 d).now (texts dirs)) a b r → Steps (IsMissing a.stored (texts dirs)) a b r
some_said [] d a b r some p = let bad : ⊥ = omega (arith, some) in absurd bad
some_said (dir ∷ dirs) d a b r some p = p

-- that none of them has a text file, over a desk that is as it was
pub missing_said : (first : List ℕ) (dirs : List (Bor (List ℕ))) (one : Option (List ℕ)) (text why : List ℕ) (a b c : State)
    (r : Result (Unit {0}) Stop) → b ≡ a → FirstPasses (λ d. IsThere (a.stored (globs2_beside d))) (texts dirs) one
    → text ≡ join_by (λ (dir : Bor (List ℕ)). dir.now) (codes ":") dirs → why ≡ why_missing first one
    → Works (Does (said (refusal text why))) b c r → Steps (IsMissingFrom a.stored first (texts dirs)) a c r
missing_said first dirs one text why a b c r same is all reason p =
    steps_said (IsMissingFrom a.stored first (texts dirs)) (refusal text why) a c r
    (refl, (one, is, rw (all ∙ join_texts dirs, reason) refl))
    (subst (λ (d : State). Works (Does (said (refusal text why))) d c r) same p)

-- memory ran out before
pub missing_nothing : (first : List ℕ) (dirs : List (List ℕ)) (a b : State) → b ≡ a
    → Steps (IsMissingFrom a.stored first dirs) a b (Err stop.OutOfMemory)
missing_nothing first dirs a b same = subst (λ (c : State). Steps (IsMissingFrom a.stored first dirs) a c (Err stop.OutOfMemory)) (sym same)
    (works_nothing (Unit {0}) (Unit {0}) (λ done. done) (IsMissingFrom a.stored first dirs) a (can_be_missing_from a.stored first dirs))

-- ---- a file that is kept

-- none is
pub none_kept : (a : State) → Steps (IsKept a.stored None) a a (Ok tt)
none_kept a = record { same_files = refl; same_setting = refl; sinks = ([], (refl, refl), writes_nothing a.sinks) }

-- memory ran out
pub kept_nothing : (kept : Option (List ℕ)) (a b : State) → b ≡ a → Steps (IsKept a.stored kept) a b (Err stop.OutOfMemory)
kept_nothing kept a b same = subst (λ (c : State). Steps (IsKept a.stored kept) a c (Err stop.OutOfMemory)) (sym same)
    (works_nothing (Unit {0}) (Unit {0}) (λ done. done) (IsKept a.stored kept) a (can_be_kept a.stored kept))

-- it is there, and that stops
pub kept_there : (file : List ℕ) (a b : State) (s : Stop) → b ≡ a → IsThere (a.stored file) true → IsRefusal (not_replaced file) s
    → Steps (IsKept a.stored (Some file)) a b (Err s)
kept_there file a b stop.OutOfMemory same there p = kept_nothing (Some file) a b same
kept_there file a b stop.CannotWrite same there p = absurd p
kept_there file a b (stop.Refused m) same there p =
    subst (λ (c : State). Steps (IsKept a.stored (Some file)) a c (Err (stop.Refused m))) (sym same)
    (record { same_files = refl; same_setting = refl; sinks = ([], (true, there, (refl, p)), writes_nothing a.sinks) })

-- it isn't
pub not_there : (file : List ℕ) (a b : State) → b ≡ a → IsThere (a.stored file) false → Steps (IsKept a.stored (Some file)) a b (Ok tt)
not_there file a b same there = subst (λ (c : State). Steps (IsKept a.stored (Some file)) a c (Ok tt)) (sym same)
    (record { same_files = refl; same_setting = refl; sinks = ([], (false, there, (refl, refl)), writes_nothing a.sinks) })
