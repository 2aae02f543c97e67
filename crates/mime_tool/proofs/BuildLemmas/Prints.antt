-- A cache that `build` prints.
use Rattle.std.proofs.Common.{◌∙◌, ℕ, Bool, true, List, [], inl, inr, None, Option, Result, Ok, Err, Vec, ap, refl}
use Rattle.std.specs.declared.alloc.Global.{Global}
use Rattle.mime_base.specs.Database.{PlainDatabase, plain_database}
use Rattle.mime_base.specs.declared.database.Database.{Database}
use Rattle.mime_request.specs.Request.{PlainDirectories}
use Rattle.mime_tool.specs.Build.{BuildsWhere, GivesCache, IsPrintOver, IsPrinted, no_terminal, written_of}
use Rattle.mime_tool.specs.Desk.{Does, EndsOverFiles, State, Works}
use Rattle.mime_tool.specs.Directories.{IsCommand, IsDatabaseOf}
use Rattle.mime_tool.specs.Environment.{PlainEnvironment}
use Rattle.mime_tool.specs.Loading.{Loads}
use Rattle.mime_tool.specs.Run.{Run, cut_short, printed, silent, stopped}
use Rattle.mime_tool.specs.Stop.{IsRefusal}
use Rattle.mime_tool.specs.declared.stop.Stop.{Stop}
use Rattle.mime_tool.specs.declared.stop.Stop.TheVariants as stop
use Rattle.mime_tool.proofs.DeskLemmas.Desks.{ends_undone}
use Rattle.mime_tool.proofs.RunLemmas.Commands.{command_over, command_unloaded}
use Rattle.mime_tool.proofs.RunLemmas.Ends.{writes_nothing}

-- the run over a database of which the cache is printed
abbrev pub Prints : PlainDatabase → State → State → Result ℕ Stop → Type 0
Prints database a b r = Works (EndsOverFiles (λ _. IsPrintOver database) []) a b r

-- a cache is printed, and no more is done
abbrev pub is_over : (database : PlainDatabase) (cache : Vec ℕ Global) → GivesCache database (Ok cache)
    → IsPrintOver database (printed cache.items)
is_over database cache p = inr (inl (p.1, (cache.items, p.0, refl)))

-- there is no cache
pub prints_uncached : (database : PlainDatabase) (a : State) (s : Stop) → GivesCache database (Err s) → Prints database a a (Err s)
prints_uncached database a s p = record { same_files = refl; same_setting = refl; sinks = by_stop s p }
  where
    by_stop : (s : Stop) → GivesCache database (Err s) → EndsOverFiles (λ _. IsPrintOver database) [] a.sinks a.sinks (Err s)
    by_stop stop.OutOfMemory p = inl (writes_nothing a.sinks)
    by_stop stop.CannotWrite p = absurd p
    by_stop (stop.Refused m) p = (silent, inl (p.1, ap (λ (t : List ℕ). stopped t silent) p.0), writes_nothing a.sinks)

-- it isn't printed
pub prints_unprinted : (database : PlainDatabase) (cache : Vec ℕ Global) (a b : State) (s : Stop) → GivesCache database (Ok cache)
    → Works (Does {X = Unit {0}} (printed cache.items)) a b (Err s) → Prints database a b (Err s)
prints_unprinted database cache a b s given p = record {
  same_files = p.same_files;
  same_setting = p.same_setting;
  sinks = ends_undone (Unit {0}) (IsPrintOver database) (printed cache.items) a.sinks b.sinks s (is_over database cache given) p.sinks;
}

-- it is
pub prints_printed : (database : PlainDatabase) (cache : Vec ℕ Global) (a b : State) (u : Unit {0}) → GivesCache database (Ok cache)
    → Works (Does {X = Unit {0}} (printed cache.items)) a b (Ok u) → Prints database a b (Ok 0)
prints_printed database cache a b u given p = record {
  same_files = p.same_files;
  same_setting = p.same_setting;
  sinks = (printed cache.items, is_over database cache given, refl, refl, p.sinks);
}

-- memory ran out before
pub prints_untold : (database : PlainDatabase) (a : State) → Prints database a a (Err stop.OutOfMemory)
prints_untold database a = record { same_files = refl; same_setting = refl; sinks = inl (writes_nothing a.sinks) }

module _ (e : Option PlainEnvironment) (dirs : PlainDirectories) (drop_twins : Bool) where
  -- the run of `build` to what is no terminal
  abbrev pub PrintsMade : State → State → Result ℕ Stop → Type 0
  PrintsMade a b r = Works (EndsOverFiles (IsCommand a.stored None e dirs (λ d _. IsPrintOver (written_of drop_twins d))) []) a b r

  -- some run is that over a database
  can_be_cut : (d : PlainDatabase) → (run : Run) × IsPrintOver (written_of drop_twins d) run
  can_be_cut d = (cut_short, inr (inr refl))

  -- the database isn't loaded
  pub prints_unloaded : (a b : State) (s : Stop) → Works (Loads plain_database (IsDatabaseOf a.stored None e dirs)) a b (Err s)
      → PrintsMade a b (Err s)
  prints_unloaded a b s p = record {
    same_files = p.same_files;
    same_setting = p.same_setting;
    sinks = command_unloaded Database plain_database a.stored None e dirs (λ d _. IsPrintOver (written_of drop_twins d)) [] a.sinks b.sinks s
        can_be_cut p.sinks;
  }

  -- it is
  pub prints_loaded : (a b c : State) (database : Database) (r : Result ℕ Stop)
      → Works (Loads plain_database (IsDatabaseOf a.stored None e dirs)) a b (Ok database)
      → Prints (written_of drop_twins (plain_database database)) b c r → PrintsMade a c r
  prints_loaded a b c database r p q = record {
    same_files = q.same_files ∙ p.same_files;
    same_setting = q.same_setting ∙ p.same_setting;
    sinks = command_over Database plain_database a.stored None e dirs (λ d _. IsPrintOver (written_of drop_twins d)) [] database
        a.sinks b.sinks c.sinks r (can_be_cut (plain_database database)) p.sinks q.sinks;
  }

  -- nothing is printed to a terminal
  pub prints_no_terminal : (a : State) (s : Stop) → IsRefusal no_terminal s
      → Works (EndsOverFiles (IsPrinted true a.stored e dirs drop_twins) []) a a (Err s)
  prints_no_terminal a s p = record { same_files = refl; same_setting = refl; sinks = by_stop s p }
    where
      by_stop : (s : Stop) → IsRefusal no_terminal s → EndsOverFiles (IsPrinted true a.stored e dirs drop_twins) [] a.sinks a.sinks (Err s)
      by_stop stop.OutOfMemory p = inl (writes_nothing a.sinks)
      by_stop stop.CannotWrite p = absurd p
      by_stop (stop.Refused m) p = (silent, ap (λ (t : List ℕ). stopped t silent) p, writes_nothing a.sinks)

  -- what is printed is the run of `build`
  pub builds_printed : (t : Bool) (file : List ℕ) (a b : State) (r : Result ℕ Stop)
      → Works (EndsOverFiles (IsPrinted t a.stored e dirs drop_twins) []) a b r → BuildsWhere true e t dirs drop_twins file a b r
  builds_printed t file a b r p = record { same_setting = p.same_setting; sinks = p.sinks; leaves = p.same_files }
