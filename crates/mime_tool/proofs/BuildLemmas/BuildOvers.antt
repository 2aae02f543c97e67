-- What `build` stores of a database.
use Rattle.std.proofs.Common.{ℕ, List, inl, inr, Ok, Err, Vec, ap, codes, refl}
use Rattle.std.specs.declared.alloc.Global.{Global}
use Rattle.mime_base.specs.Database.{PlainDatabase}
use Rattle.mime_tool.specs.Build.{BuildsOver, GivesCache, IsBuildOver, IsBuilt, temp_of, writing_of}
use Rattle.mime_tool.specs.Desk.{ReplacesFile, State}
use Rattle.mime_tool.specs.Files.{Stored, Untouched, Writing}
use Rattle.mime_tool.specs.Run.{Run, cut_short, silent, stopped}
use Rattle.mime_tool.specs.declared.stop.Stop.{Stop}
use Rattle.mime_tool.specs.declared.stop.Stop.TheVariants as stop
use Rattle.mime_tool.proofs.RunLemmas.Ends.{writes_nothing, writes_same}

-- nothing is touched
pub untouched_same : (temp : List ℕ) (stored : List ℕ → Stored) → Untouched temp stored stored
untouched_same temp stored p other = refl

-- where the file is as it was some run is that of a database
pub can_be_over : (file : List ℕ) (writing : Writing) (old new : List ℕ → Stored) (database : PlainDatabase)
    → Untouched (temp_of file) old new → (run : Run) × IsBuildOver file writing old new database run
can_be_over file writing old new database untouched = (cut_short, inr (inr (inr (untouched, refl))))

-- ---- over a database

-- memory ran out before it was stored
pub builds_untold : (database : PlainDatabase) (file : List ℕ) (a : State) → BuildsOver database file a a (Err stop.OutOfMemory)
builds_untold database file a = record {
  same_setting = refl;
  can_be = can_be_over file (writing_of a.setting.writes file) a.stored a.stored database (untouched_same (temp_of file) a.stored);
  sinks = inl (writes_nothing a.sinks);
  leaves = untouched_same (temp_of file) a.stored;
}

-- there is no cache
pub builds_uncached : (database : PlainDatabase) (file : List ℕ) (a : State) (s : Stop) → GivesCache database (Err s)
    → BuildsOver database file a a (Err s)
builds_uncached database file a stop.OutOfMemory p = builds_untold database file a
builds_uncached database file a stop.CannotWrite p = absurd p
builds_uncached database file a (stop.Refused m) p = record {
  same_setting = refl;
  can_be = can_be_over file (writing_of a.setting.writes file) a.stored a.stored database (untouched_same (temp_of file) a.stored);
  sinks = (silent, inl (p.1, refl, ap (λ (t : List ℕ). stopped t silent) p.0), writes_nothing a.sinks);
  leaves = untouched_same (temp_of file) a.stored;
}

-- it isn't stored
pub builds_unstored : (database : PlainDatabase) (file : List ℕ) (cache : Vec ℕ Global) (a b : State) (s : Stop)
    → GivesCache database (Ok cache) → ReplacesFile file (codes ".new") cache.items a b (Err s) → BuildsOver database file a b (Err s)
builds_unstored database file cache a b stop.OutOfMemory c p = record {
  same_setting = p.same_setting;
  can_be = can_be_over file (writing_of a.setting.writes file) a.stored b.stored database p.files;
  sinks = inl (writes_same a.sinks b.sinks p.same_sinks);
  leaves = p.files;
}
builds_unstored database file cache a b stop.CannotWrite c p = absurd p.files
builds_unstored database file cache a b (stop.Refused m) c p = record {
  same_setting = p.same_setting;
  can_be = can_be_over file (writing_of a.setting.writes file) a.stored b.stored database p.files.0;
  sinks = (
    silent,
    inr (inl (c.1, p.files.1, p.files.0, ap (λ (t : List ℕ). stopped t silent) p.files.2)),
    writes_same a.sinks b.sinks p.same_sinks,
  );
  leaves = p.files.0;
}

-- it is
pub builds_stored : (database : PlainDatabase) (file : List ℕ) (cache : Vec ℕ Global) (a b : State) (u : Unit {0})
    → GivesCache database (Ok cache) → ReplacesFile file (codes ".new") cache.items a b (Ok u) → BuildsOver database file a b (Ok 0)
builds_stored database file cache a b u c p =
    let built : IsBuilt file a.stored b.stored database = (c.1, (cache.items, c.0, p.files.0)) in
    let over : IsBuildOver file (writing_of a.setting.writes file) a.stored b.stored database silent =
    inr (inr (inl (built, p.files.1, refl))) in
    record {
      same_setting = p.same_setting;
      can_be = (silent, over);
      sinks = (silent, over, refl, refl, writes_same a.sinks b.sinks p.same_sinks);
      leaves = built;
    }
