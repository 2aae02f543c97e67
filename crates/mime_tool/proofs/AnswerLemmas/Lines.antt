-- From what a file comes to, to its line.
use Rattle.std.proofs.Common.{◌≡◌, ◌∙◌, ℕ, Bool, true, false, List, [], ◌∷◌, ap, inl, None, Ok, Option, Err, Result, Some, refl, subst, sym}
use Rattle.mime_base.specs.Database.{PlainDatabase}
use Rattle.mime_request.specs.Request.{PlainSubjects, of_files, of_input, of_list}
use Rattle.mime_request.specs.declared.request.Options.{Options}
use Rattle.mime_request.specs.declared.request.Output.{Output}
use Rattle.mime_tool.specs.Desk.{EndsOverFiles}
use Rattle.mime_lookup.specs.Content.{Health, broken, sound, untold}
use Rattle.mime_tool.specs.Files.{Stored}
use Rattle.mime_tool.specs.Finish.{Sinks}
use Rattle.mime_tool.specs.Line.{IsAskedKind, IsLineOf, IsTypeLine, PlainLookup, asked_order, with_inode}
use Rattle.mime_tool.specs.LineSteps.{ComesTo, GivesLine, LooksUpFile, lookup_in, plain_lookup, run_of}
use Rattle.mime_tool.specs.Output.{written}
use Rattle.mime_tool.specs.Plain.{AreTypeLines, lookup_over}
use Rattle.mime_tool.specs.Process.{given_by}
use Rattle.mime_tool.specs.Run.{IsEach, Run, silent}
use Rattle.mime_tool.specs.Subjects.{list_at}
use Rattle.mime_tool.specs.declared.line.Outcome.{Outcome}
use Rattle.mime_tool.specs.declared.line.lookup.Data.{Data}
use Rattle.mime_tool.specs.declared.line.lookup.Data.TheVariants as data_of
use Rattle.mime_tool.specs.declared.line.lookup.Lookup.{Lookup}
use Rattle.mime_tool.specs.declared.stop.Stop.{Stop}
use Rattle.mime_tool.specs.declared.stop.Stop.TheVariants as stop
use Rattle.mime_tool.proofs.RunLemmas.Ends.{ends_one, writes_same}
use Rattle.mime_tool.proofs.RunLemmas.ListedRuns.{none_listed}
use Rattle.mime_tool.proofs.RunLemmas.Programs.{ends_weaker}

-- where nothing is looked up there is a run
pub no_lines : (subjects : PlainSubjects) (stored : List ℕ → Stored) (input : Stored) (options : Options) (database : PlainDatabase)
    → (run : Run) × AreTypeLines subjects stored input options database [] run
no_lines (of_files files) stored input options database = (silent, refl)
no_lines (of_input name) stored input options database = (silent, refl)
no_lines (of_list path) stored input options database =
    let lookup = with_inode options.inode (lookup_over options.name_only options.output (asked_order options) database) in
    none_listed (IsTypeLine lookup stored) path (list_at path stored input) 1

-- it came to nothing: its data are refused, or memory ran out
pub comes_undone : (lookup : PlainLookup) (stored : List ℕ → Stored) (file : List ℕ) (a b : Sinks) (s : Stop)
    → ComesTo lookup (stored file) file a b (Err s) → EndsOverFiles (λ _. IsTypeLine lookup stored file) [] a b (Err s)
comes_undone lookup stored file a b stop.OutOfMemory p = inl (writes_same a b p.0)
comes_undone lookup stored file a b stop.CannotWrite p = absurd p.1
comes_undone lookup stored file a b (stop.Refused m) p = (silent, p.1, writes_same a b p.0)

-- how answers over data are printed
output_in : (by : Data) (lookup : Lookup) → (lookup_in by lookup).output ≡ lookup.output
output_in (data_of.Database database) lookup = refl
output_in (data_of.Indexed index) lookup = refl
output_in (data_of.Magic magic) lookup = refl
output_in (data_of.Cache path bytes cost) lookup = refl
output_in (data_of.Opened path cache cost) lookup = refl

-- what it came to is written
pub comes_written : (lookup : Lookup) (stored : List ℕ → Stored) (file : List ℕ) (o : Outcome) (a b c : Sinks) (r : Result ℕ Stop)
    → ComesTo (plain_lookup lookup) (stored file) file a b (Ok o)
    → EndsOverFiles (λ _ run. run ≡ run_of lookup.output (written lookup.output file) o) [] b c r
    → EndsOverFiles (λ _. IsTypeLine (plain_lookup lookup) stored file) [] a c r
comes_written lookup stored file o a b c r p q =
    let it = plain_lookup lookup in
    subst (λ s. EndsOverFiles (λ _. IsTypeLine it stored file) [] s c r) p.0
    (ends_weaker (λ _ run. run ≡ run_of lookup.output (written lookup.output file) o) (λ _. IsTypeLine it stored file) [] b c r
    (λ _ run is. subst (IsTypeLine it stored file) (ap (λ (output : Output). run_of output (written output file) o)
    (output_in lookup.by lookup) ∙ sym is) p.1) q)

-- ---- kinds

-- what is looked up has no kind, or none that is asked for
looked_up : (lookup : PlainLookup) (stored : Stored) (file : List ℕ) (r : Result Outcome Stop) → IsAskedKind lookup.inode stored None
    → LooksUpFile lookup stored file r → GivesLine (IsLineOf lookup stored file) lookup.output file r
looked_up lookup stored file (Ok o) none p = (None, none, p)
looked_up lookup stored file (Err stop.OutOfMemory) none p = tt
looked_up lookup stored file (Err stop.CannotWrite) none p = p
looked_up lookup stored file (Err (stop.Refused m)) none p = (None, none, p)

-- what a reader gives is no other kind of thing
pub no_kind : (inode : Bool) (left : Option (List ℕ)) (state : Health) → IsAskedKind inode (given_by left state) None
no_kind false left state = refl
no_kind true None state = tt
no_kind true (Some []) sound = refl
no_kind true (Some []) broken = refl
no_kind true (Some []) untold = tt
no_kind true (Some (b ∷ bs)) sound = refl
no_kind true (Some (b ∷ bs)) broken = tt
no_kind true (Some (b ∷ bs)) untold = tt

-- ---- one name

module _ (contents : List ℕ → Stored) (name : List ℕ) (a : Sinks) where
  -- a name that came to nothing is all that was looked up
  pub one_undone : (lookup : PlainLookup) (s : Stop) → IsAskedKind lookup.inode (contents name) None
      → LooksUpFile lookup (contents name) name (Err s) → EndsOverFiles (IsEach (IsTypeLine lookup contents)) (name ∷ []) a a (Err s)
  one_undone lookup s none p = ends_one (IsTypeLine lookup contents) name a a (Err s)
      (comes_undone lookup contents name a a s (refl, looked_up lookup (contents name) name (Err s) none p))

  -- so is one that came to something
  pub one_written : (lookup : Lookup) (o : Outcome) (c : Sinks) (r : Result ℕ Stop) → IsAskedKind lookup.inode (contents name) None
      → LooksUpFile (plain_lookup lookup) (contents name) name (Ok o)
      → EndsOverFiles (λ _ run. run ≡ run_of lookup.output (written lookup.output name) o) [] a c r
      → EndsOverFiles (IsEach (IsTypeLine (plain_lookup lookup) contents)) (name ∷ []) a c r
  one_written lookup o c r none p q = ends_one (IsTypeLine (plain_lookup lookup) contents) name a c r
      (comes_written lookup contents name o a a c r (refl, looked_up (plain_lookup lookup) (contents name) name (Ok o) none p) q)
