-- The directories of a loop, as they are read.
use Rattle.std.proofs.Common.{◌≡◌, ◌∙◌, ℕ, List, [], ◌∷◌, ◌++◌, Option, Some, None, Result, Ok, Err, Vec, append_assoc, ap, refl}
use Rattle.std.proofs.Common.{string_bytes}
use Rattle.std.proofs.Common.{◌+◌, ◌<◌, Bor, drop, get_or, length, subst, sym, take}
use Rattle.std.proofs.lemmas.List.{map-append}
use Rattle.std.specs.declared.alloc.Global.{Global}
use Rattle.clap.specs.Walk.{texts}
use Rattle.mime_text.specs.Merging.{PlainDir, plain_dir, plain_dirs}
use Rattle.mime_text.specs.declared.merging.DirFiles.{DirFiles}
use Rattle.mime_tool.specs.Desk.{State, Works}
use Rattle.mime_tool.specs.Directories.{AreDirectories, IsDirectory}
use Rattle.mime_tool.specs.Files.{Stored}
use Rattle.mime_tool.specs.Finish.{Sinks}
use Rattle.mime_tool.specs.Loading.{◌>>=◌, Gives, Loads}
use Rattle.mime_tool.specs.declared.stop.Stop.{Stop}
use Rattle.mime_tool.specs.declared.stop.Stop.TheVariants as stop
use Rattle.mime_tool.proofs.DirectoryLemmas.DirectoryLists.{can_be_directories, directories_after, one_directory}
use Rattle.mime_tool.proofs.RunLemmas.Ends.{writes_nothing}
use Rattle.mime_tool.proofs.RunLemmas.Loads.{can_give, can_then, works_nothing, works_stop, works_then}
use Rattle.mime_tool.proofs.RunLemmas.Texts.{texts-more, texts-split}
use Rattle.mime_tool.proofs.DeskLemmas.Sinks.{front-append, wrote-append, wrote_unknown}

-- the plain values of directories
abbrev pub plain_of : Vec DirFiles Global → List PlainDir
plain_of dirs = plain_dirs dirs.items

-- directories that were read, or not
abbrev pub ReadsDirectories : List (List ℕ) → State → State → Result (Vec DirFiles Global) Stop → Type 0
ReadsDirectories dirs a b r = Works (Loads plain_of (AreDirectories a.stored dirs)) a b r

-- none is read
pub reads_none : (a : State) (dirs : Vec DirFiles Global) → dirs.items ≡ [] → ReadsDirectories [] a a (Ok dirs)
unfolding AreDirectories
reads_none a dirs none = record {
  same_files = refl;
  same_setting = refl;
  sinks = ([], (ap (λ (ds : List DirFiles). Some (plain_dirs ds)) none, refl), writes_nothing a.sinks);
}

-- one more is read
pub reads_more : (xs : List (List ℕ)) (dir : List ℕ) (a b c : State) (dirs more : Vec DirFiles Global) (d : DirFiles)
    → more.items ≡ dirs.items ++ d ∷ [] → ReadsDirectories xs a b (Ok dirs) → Works (Loads plain_dir (IsDirectory b.stored dir)) b c (Ok d)
    → ReadsDirectories (xs ++ dir ∷ []) a c (Ok more)
reads_more xs dir a b c dirs more d are p q =
    let here = subst (λ (stored : List ℕ → Stored). IsDirectory stored dir (Some (plain_dir d)) q.sinks.0) p.same_files q.sinks.1 in
    let all = ap plain_dirs are ∙ map-append plain_dir dirs.items (d ∷ []) in
    record {
      same_files = q.same_files ∙ p.same_files;
      same_setting = q.same_setting ∙ p.same_setting;
      sinks = (
        p.sinks.0 ++ q.sinks.0,
        subst (λ (ds : List PlainDir). AreDirectories a.stored (xs ++ dir ∷ []) (Some ds) (p.sinks.0 ++ q.sinks.0)) (sym all)
            (directories_after a.stored xs (dir ∷ []) (plain_of dirs) (Some (plain_dir d ∷ [])) p.sinks.0 q.sinks.0 p.sinks.1
            (one_directory a.stored dir (plain_dir d) q.sinks.0 here)),
        (
          wrote-append a.sinks.out b.sinks.out c.sinks.out [] [] p.sinks.2.0 q.sinks.2.0,
          wrote-append a.sinks.err b.sinks.err c.sinks.err p.sinks.0 q.sinks.0 p.sinks.2.1 q.sinks.2.1,
        ),
      );
    }

-- others are not, after these
stops_after : (stored : List ℕ → Stored) (xs ys : List (List ℕ)) (a b c : Sinks) (dirs : Vec DirFiles Global) (s : Stop)
    → Loads plain_of (AreDirectories stored xs) a b (Ok dirs) → Loads plain_of (AreDirectories stored ys) b c (Err s)
    → Loads plain_of (AreDirectories stored (xs ++ ys)) a c (Err s)
stops_after stored xs ys a b c dirs stop.OutOfMemory p q = (
  _,
  p.0 ++ q.1,
  directories_after stored xs ys (plain_of dirs) q.0 p.0 q.1 p.1 q.2,
  (front-append a.out b.out c.out [] [] p.2.0 q.3.0, front-append a.err b.err c.err p.0 q.1 p.2.1 q.3.1),
)
stops_after stored xs ys a b c dirs stop.CannotWrite p q = wrote_unknown a.out b.out [] p.2.0 q
stops_after stored xs ys a b c dirs (stop.Refused m) p q = (
  p.0 ++ q.0,
  subst (λ (bs : List ℕ). AreDirectories stored (xs ++ ys) None bs) (sym (append_assoc p.0 q.0 (string_bytes m)))
      (directories_after stored xs ys (plain_of dirs) None p.0 (q.0 ++ string_bytes m) p.1 q.1),
  (wrote-append a.out b.out c.out [] [] p.2.0 q.2.0, wrote-append a.err b.err c.err p.0 q.0 p.2.1 q.2.1),
)

-- a stop after directories that were read is one of all of them
works_after : (xs ys : List (List ℕ)) (a b c : State) (dirs : Vec DirFiles Global) (s : Stop) → ReadsDirectories xs a b (Ok dirs)
    → ReadsDirectories ys b c (Err s) → ReadsDirectories (xs ++ ys) a c (Err s)
works_after xs ys a b c dirs s p q = record {
  same_files = q.same_files ∙ p.same_files;
  same_setting = q.same_setting ∙ p.same_setting;
  sinks = stops_after a.stored xs ys a.sinks b.sinks c.sinks dirs s p.sinks
      (subst (λ (stored : List ℕ → Stored). Loads plain_of (AreDirectories stored ys) b.sinks c.sinks (Err s)) p.same_files q.sinks);
}

-- what comes after the first of directories
abbrev After : List (List ℕ) → (List ℕ → Stored) → PlainDir → Option (List PlainDir) → List ℕ → Type 0
After dirs stored first = AreDirectories stored dirs >>= λ others. Gives (first ∷ others)

-- the first is not read
first_unread : (dir : List ℕ) (ys : List (List ℕ)) (b c : State) (s : Stop)
    → Works (Loads plain_dir (IsDirectory b.stored dir)) b c (Err s) → ReadsDirectories (dir ∷ ys) b c (Err s)
unfolding AreDirectories
first_unread dir ys b c s q =
    works_stop DirFiles PlainDir (Vec DirFiles Global) (List PlainDir) plain_dir plain_of (IsDirectory b.stored dir) (After ys b.stored)
    b c s q (λ first.
    can_then (List PlainDir) (List PlainDir) (AreDirectories b.stored ys) _ (can_be_directories b.stored ys)
    (λ others. can_give (List PlainDir) (first ∷ others)))

-- one is not read
pub reads_stop : (xs : List (List ℕ)) (dir : List ℕ) (ys : List (List ℕ)) (a b c : State) (dirs : Vec DirFiles Global) (s : Stop)
    → ReadsDirectories xs a b (Ok dirs) → Works (Loads plain_dir (IsDirectory b.stored dir)) b c (Err s)
    → ReadsDirectories (xs ++ (dir ∷ ys)) a c (Err s)
reads_stop xs dir ys a b c dirs s p q = works_after xs (dir ∷ ys) a b c dirs s p (first_unread dir ys b c s q)

-- the first is read, and then memory runs out
first_full : (dir : List ℕ) (ys : List (List ℕ)) (b c : State) (d : DirFiles)
    → Works (Loads plain_dir (IsDirectory b.stored dir)) b c (Ok d) → ReadsDirectories (dir ∷ ys) b c (Err stop.OutOfMemory)
unfolding AreDirectories
first_full dir ys b c d q =
    works_then DirFiles PlainDir (Vec DirFiles Global) (List PlainDir) plain_dir plain_of (IsDirectory b.stored dir) (After ys)
    b c c d (Err stop.OutOfMemory) q
    (works_nothing (Vec DirFiles Global) (List PlainDir) plain_of (After ys c.stored (plain_dir d)) c
    (can_then (List PlainDir) (List PlainDir) (AreDirectories c.stored ys) _ (can_be_directories c.stored ys)
    (λ others. can_give (List PlainDir) (plain_dir d ∷ others))))

-- one is read, and then memory runs out
pub reads_full : (xs : List (List ℕ)) (dir : List ℕ) (ys : List (List ℕ)) (a b c : State) (dirs : Vec DirFiles Global) (d : DirFiles)
    → ReadsDirectories xs a b (Ok dirs) → Works (Loads plain_dir (IsDirectory b.stored dir)) b c (Ok d)
    → ReadsDirectories (xs ++ (dir ∷ ys)) a c (Err stop.OutOfMemory)
reads_full xs dir ys a b c dirs d p q = works_after xs (dir ∷ ys) a b c dirs stop.OutOfMemory p (first_full dir ys b c d q)

-- ---- by the index of a loop

-- with the directory at this place one more is read
pub reads_more_at : (names : List (Bor (List ℕ))) (i : ℕ) (n : Bor (List ℕ)) → i < length names → (a b c : State)
    (dirs more : Vec DirFiles Global) (d : DirFiles) → more.items ≡ dirs.items ++ d ∷ []
    → ReadsDirectories (texts (take i names)) a b (Ok dirs)
    → Works (Loads plain_dir (IsDirectory b.stored (get_or names i n).now)) b c (Ok d)
    → ReadsDirectories (texts (take (i + 1) names)) a c (Ok more)
reads_more_at names i n lt a b c dirs more d are p q =
    subst (λ (ds : List (List ℕ)). ReadsDirectories ds a c (Ok more)) (sym (texts-more names i n lt))
    (reads_more (texts (take i names)) (get_or names i n).now a b c dirs more d are p q)

-- a stop at this directory is one of all up to it
pub reads_stop_at : (names : List (Bor (List ℕ))) (i : ℕ) (n : Bor (List ℕ)) → i < length names → (a b c : State)
    (dirs : Vec DirFiles Global) (s : Stop) → ReadsDirectories (texts (take i names)) a b (Ok dirs)
    → Works (Loads plain_dir (IsDirectory b.stored (get_or names i n).now)) b c (Err s) → ReadsDirectories (texts names) a c (Err s)
reads_stop_at names i n lt a b c dirs s p q =
    subst (λ (ds : List (List ℕ)). ReadsDirectories ds a c (Err s)) (sym (texts-split names i n lt))
    (reads_stop (texts (take i names)) (get_or names i n).now (texts (drop (i + 1) names)) a b c dirs s p q)

-- so is want of memory for what it gives
pub reads_full_at : (names : List (Bor (List ℕ))) (i : ℕ) (n : Bor (List ℕ)) → i < length names → (a b c : State)
    (dirs : Vec DirFiles Global) (d : DirFiles) → ReadsDirectories (texts (take i names)) a b (Ok dirs)
    → Works (Loads plain_dir (IsDirectory b.stored (get_or names i n).now)) b c (Ok d)
    → ReadsDirectories (texts names) a c (Err stop.OutOfMemory)
reads_full_at names i n lt a b c dirs d p q =
    subst (λ (ds : List (List ℕ)). ReadsDirectories ds a c (Err stop.OutOfMemory)) (sym (texts-split names i n lt))
    (reads_full (texts (take i names)) (get_or names i n).now (texts (drop (i + 1) names)) a b c dirs d p q)
