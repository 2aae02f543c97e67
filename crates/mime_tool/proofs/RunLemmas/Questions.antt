-- From what a question is answered from, read, and a run by it, to the run of a command.
use Rattle.std.proofs.Common.{◌≡◌, ℕ, List, [], inl, inr, None, Option, Result, Ok, Err, subst, sym}
use Rattle.mime_base.specs.Database.{PlainDatabase, plain_database}
use Rattle.mime_base.specs.declared.database.Database.{Database}
use Rattle.mime_request.specs.Request.{PlainDirectories, PlainSource, cache_of, made_of}
use Rattle.mime_tool.specs.Cache.{IsAnsweredOr}
use Rattle.mime_tool.specs.Desk.{EndsOverFiles}
use Rattle.mime_tool.specs.Environment.{PlainEnvironment}
use Rattle.mime_tool.specs.Files.{Stored}
use Rattle.mime_tool.specs.Finish.{Sinks}
use Rattle.mime_tool.specs.Run.{Run}
use Rattle.mime_tool.specs.Sources.{GivesByData, IsByData, IsFittingCommand, IsOverFitting, IsQuestion, LoadsFitting, ReadsData}
use Rattle.mime_tool.specs.declared.sources.SourceData.{SourceData}
use Rattle.mime_tool.specs.declared.sources.SourceData.TheVariants as data_of
use Rattle.mime_tool.specs.declared.stop.Stop.{Stop}
use Rattle.mime_view.specs.declared.fault.CacheFault.{CacheFault}
use Rattle.mime_tool.proofs.CacheLemmas.Caches.{cache_read, cache_refused, cache_unread}
use Rattle.mime_tool.proofs.RunLemmas.Commands.{Over, command_over, command_unloaded}
use Rattle.mime_tool.proofs.RunLemmas.Ends.{writes_nothing}
use Rattle.mime_tool.proofs.RunLemmas.Programs.{ends_weaker}
use Rattle.mime_tool.proofs.RunLemmas.SourceCommands.{OverSource, ends_fitting, fitting_cut, unfitting}

module _ (stored : List ℕ → Stored) (e : Option PlainEnvironment) where
  module _ (dirs : PlainDirectories) (IsOver : Over) (files : List (List ℕ)) where
    -- what a run is over a database that has to fit
    abbrev over_fitting : Over
    over_fitting database = IsOverFitting (IsOver database) database

    -- the database isn't loaded, or doesn't fit
    pub fitting_unloaded : (a b : Sinks) (s : Stop) → LoadsFitting stored e dirs a b (Err s)
        → EndsOverFiles (IsFittingCommand stored e dirs IsOver) files a b (Err s)
    fitting_unloaded a b s (inl p) =
        command_unloaded Database plain_database stored None e dirs over_fitting files a b s (λ d. fitting_cut (IsOver d) d) p
    fitting_unloaded a b s (inr p) =
        let d = plain_database p.0 in
        command_over Database plain_database stored None e dirs over_fitting files p.0 a b b (Err s) (fitting_cut (IsOver d) d) p.1
        (unfitting (Unit {0}) (λ _. Unit {0}) (IsOver d) d files b s p.2)

    -- it is, and a run over it comes to its end
    pub fitting_over : (database : Database) (a b c : Sinks) (r : Result ℕ Stop) → LoadsFitting stored e dirs a b (Ok database)
        → EndsOverFiles (IsOver (plain_database database)) files b c r → EndsOverFiles (IsFittingCommand stored e dirs IsOver) files a c r
    fitting_over database a b c r p q =
        let d = plain_database database in
        command_over Database plain_database stored None e dirs over_fitting files database a b c r (fitting_cut (IsOver d) d) p.0
        (ends_fitting (IsOver d) d files b c r p.1 q)

  module _ (IsByCache : OverSource) (IsByDatabase : Over) (files : List (List ℕ)) where
    -- nothing is read
    pub data_unread : (source : PlainSource) (a b : Sinks) (s : Stop) → ReadsData stored e source a b (Err s)
        → EndsOverFiles (IsQuestion stored e source IsByCache IsByDatabase) files a b (Err s)
    data_unread (cache_of path) a b s p = cache_unread stored path (IsByCache path) files a b s p
    data_unread (made_of dirs) a b s p = fitting_unloaded dirs IsByDatabase files a b s p

    -- a cache or a database is, and a run by it comes to its end
    pub data_read : (source : PlainSource) (given : SourceData) (a b c : Sinks) (r : Result ℕ Stop)
        → ReadsData stored e source a b (Ok given)
        → EndsOverFiles (IsByData IsByCache IsByDatabase given) files b c r
        → EndsOverFiles (IsQuestion stored e source IsByCache IsByDatabase) files a c r
    data_read (cache_of path) (data_of.Cache at bytes) a b c r p q =
        cache_read stored path (IsByCache path) files bytes a b c r p.1
        (subst (λ (path : List ℕ). EndsOverFiles (IsByCache path bytes.items) files b c r) p.0 q)
    data_read (cache_of path) (data_of.Database database) a b c r p q = absurd p
    data_read (made_of dirs) (data_of.Cache at bytes) a b c r p q = absurd p
    data_read (made_of dirs) (data_of.Database database) a b c r p q = fitting_over dirs IsByDatabase files database a b c r p q

-- nothing is given by what was read
pub data_unasked : (X : Type 0) (IsRefusedFor : List ℕ → CacheFault → Type 0) (IsGivenBy : List ℕ → X → Type 0)
    (IsGivenOf : PlainDatabase → X → Type 0) (IsAnswered : List ℕ → Run → Type 0) (IsByDatabase : Over) (given : SourceData) (a : Sinks)
    (s : Stop) → GivesByData IsRefusedFor IsGivenBy IsGivenOf given (Err s)
    → EndsOverFiles (IsByData (λ path cache _. IsAnsweredOr path (IsRefusedFor cache) (IsAnswered cache)) IsByDatabase given) [] a a (Err s)
data_unasked X IsRefusedFor IsGivenBy IsGivenOf IsAnswered IsByDatabase (data_of.Cache path bytes) a s p =
    cache_refused X path.now (IsRefusedFor bytes.items) (IsGivenBy bytes.items) (IsAnswered bytes.items) a s p
data_unasked X IsRefusedFor IsGivenBy IsGivenOf IsAnswered IsByDatabase (data_of.Database database) a s p =
    subst (λ (s : Stop). EndsOverFiles (IsByDatabase (plain_database database)) [] a a (Err s)) (sym p) (inl (writes_nothing a))

-- a run that shows what is given is the run by what was read
pub data_asked : (IsByCache : OverSource) (IsByDatabase : Over) (given : SourceData) (shown : Run) (a b : Sinks) (r : Result ℕ Stop)
    → ((files : List (List ℕ)) → IsByData IsByCache IsByDatabase given files shown) → EndsOverFiles (λ _ run. run ≡ shown) [] a b r
    → EndsOverFiles (IsByData IsByCache IsByDatabase given) [] a b r
data_asked IsByCache IsByDatabase given shown a b r is q =
    ends_weaker (λ _ run. run ≡ shown) (IsByData IsByCache IsByDatabase given) [] a b r
    (λ files run same. subst (IsByData IsByCache IsByDatabase given files) (sym same) (is files)) q
