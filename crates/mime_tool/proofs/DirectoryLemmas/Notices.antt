-- What is noticed of directories before they are read.
use Rattle.std.proofs.Common.{◌≡◌, ℕ, Bool, true, false, List, [], Option, Some, Result, Ok, Err, refl, subst, sym}
use Rattle.mime_tool.specs.Desk.{State}
use Rattle.mime_tool.specs.Directories.{HasFile, HaveTextFile, IsKept, IsMissing, IsMissingOver, IsNoticed, path_of, text_names}
use Rattle.mime_tool.specs.Files.{IsThere, Stored}
use Rattle.mime_tool.specs.Loading.{Loads}
use Rattle.mime_tool.specs.declared.stop.Stop.{Stop}
use Rattle.mime_tool.specs.declared.stop.Stop.TheVariants as stop
use Rattle.mime_tool.proofs.DirectoryLemmas.Missing.{Steps, can_be_kept, can_be_missing, can_be_there}
use Rattle.mime_tool.proofs.DirectoryLemmas.Passing.{can_pass}
use Rattle.mime_tool.proofs.RunLemmas.Ends.{writes_nothing}
use Rattle.mime_tool.proofs.RunLemmas.Loads.{CanBe, can_then, works_nothing, works_stop, works_then}

-- it can be told whether a directory has one of the files
can_have_file : (stored : List ℕ → Stored) (names : List (List ℕ)) (dir : List ℕ) → (one : Bool) × HasFile stored names dir one
can_have_file stored names dir =
    can_pass (λ name. IsThere (stored (path_of dir name))) (λ name. can_be_there (stored (path_of dir name))) names

-- it is said, and then a file is kept or not
pub missing_over : (kept : Option (List ℕ)) (dirs : List (List ℕ)) (a b c : State) (u : Unit {0}) (r : Result (Unit {0}) Stop)
    → Steps (IsMissing a.stored dirs) a b (Ok u) → Steps (IsKept b.stored kept) b c r → Steps (IsMissingOver a.stored kept dirs) a c r
unfolding IsMissingOver
missing_over kept dirs a b c u r p q =
    works_then (Unit {0}) (Unit {0}) (Unit {0}) (Unit {0}) (λ done. done) (λ done. done) (IsMissing a.stored dirs)
    (λ stored _. IsKept stored kept) a b c u r p q

-- it isn't said
pub missing_unsaid : (kept : Option (List ℕ)) (dirs : List (List ℕ)) (a b : State) (s : Stop)
    → Steps (IsMissing a.stored dirs) a b (Err s) → Steps (IsMissingOver a.stored kept dirs) a b (Err s)
unfolding IsMissingOver
missing_unsaid kept dirs a b s p =
    works_stop (Unit {0}) (Unit {0}) (Unit {0}) (Unit {0}) (λ done. done) (λ done. done) (IsMissing a.stored dirs)
    (λ _. IsKept a.stored kept) a b s p (λ _. can_be_kept a.stored kept)

-- both one after another
can_be_over : (stored : List ℕ → Stored) (kept : Option (List ℕ)) (dirs : List (List ℕ)) → CanBe (IsMissingOver stored kept dirs)
unfolding IsMissingOver
can_be_over stored kept dirs =
    can_then (Unit {0}) (Unit {0}) (IsMissing stored dirs) (λ _. IsKept stored kept) (can_be_missing stored dirs)
    (λ _. can_be_kept stored kept)

-- something is noticed of directories, or nothing
pub can_be_noticed : (stored : List ℕ → Stored) (kept : Option (List ℕ)) (dirs : List (List ℕ)) → CanBe (IsNoticed stored kept dirs)
can_be_noticed stored kept dirs = by_one (can_pass (HasFile stored text_names) (can_have_file stored text_names) dirs)
  where
    by_one : (one : Bool) × HaveTextFile stored dirs one → CanBe (IsNoticed stored kept dirs)
    by_one (true, have) = (Some tt, [], (true, have, (refl, refl)))
    by_one (false, have) = let over = can_be_over stored kept dirs in (over.0, over.1, (false, have, over.2))

-- ---- what is noticed

-- nothing, where one has a text file
pub noticed_one : (kept : Option (List ℕ)) (dirs : List (List ℕ)) (a b : State) → b ≡ a → HaveTextFile a.stored dirs true
    → Steps (IsNoticed a.stored kept dirs) a b (Ok tt)
noticed_one kept dirs a b same have = subst (λ (c : State). Steps (IsNoticed a.stored kept dirs) a c (Ok tt)) (sym same)
    (record { same_files = refl; same_setting = refl; sinks = ([], (true, have, (refl, refl)), writes_nothing a.sinks) })

-- memory ran out
pub noticed_nothing : (kept : Option (List ℕ)) (dirs : List (List ℕ)) (a b : State) → b ≡ a
    → Steps (IsNoticed a.stored kept dirs) a b (Err stop.OutOfMemory)
noticed_nothing kept dirs a b same = subst (λ (c : State). Steps (IsNoticed a.stored kept dirs) a c (Err stop.OutOfMemory)) (sym same)
    (works_nothing (Unit {0}) (Unit {0}) (λ done. done) (IsNoticed a.stored kept dirs) a (can_be_noticed a.stored kept dirs))

-- that none has one
pub noticed_none : (kept : Option (List ℕ)) (dirs : List (List ℕ)) (a b c : State) (r : Result (Unit {0}) Stop) → b ≡ a
    → HaveTextFile a.stored dirs false → Steps (IsMissingOver b.stored kept dirs) b c r → Steps (IsNoticed a.stored kept dirs) a c r
noticed_none kept dirs a b c r same have p = from_start (subst (λ (d : State). Steps (IsMissingOver d.stored kept dirs) d c r) same p)
  where
    by_result : (r : Result (Unit {0}) Stop) → Loads (λ done. done) (IsMissingOver a.stored kept dirs) a.sinks c.sinks r
        → Loads (λ done. done) (IsNoticed a.stored kept dirs) a.sinks c.sinks r
    by_result (Ok u) q = (q.0, (false, have, q.1), q.2)
    by_result (Err stop.OutOfMemory) q = (q.0, q.1, (false, have, q.2), q.3)
    by_result (Err stop.CannotWrite) q = q
    by_result (Err (stop.Refused m)) q = (q.0, (false, have, q.1), q.2)

    from_start : Steps (IsMissingOver a.stored kept dirs) a c r → Steps (IsNoticed a.stored kept dirs) a c r
    from_start q = record { same_files = q.same_files; same_setting = q.same_setting; sinks = by_result r q.sinks }
