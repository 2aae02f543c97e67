use Rattle.std.proofs.Common.{[], refl}
use Rattle.std.proofs.lemmas.Result.{err_from_is_err_and}
use Rattle.std.specs.Bool.{⊤}
use Rattle.mime_tool.specs.Check.{IsCheckOver, IsChecked, IsTold, RefusesToOpen}
use Rattle.mime_tool.proofs.CacheLemmas.Caches.{cache_refused}
use Rattle.mime_tool.proofs.CheckLemmas.Checks.{few_lists, told_checked}
use Rattle.mime_tool.proofs.RunLemmas.Programs.{ends_weaker}
use Rattle.mime_tool.proofs.check.check_cache.Goals as goal

pub returns-in_err-open : goal.returns-in_err-open
returns-in_err-open g c =
    let e = err_from_is_err_and c.from_residual.result c.from_residual.ensures.1 in
    let cache = c.args.cache.now in
    rw (e.1, e.2) (record {
      same_files = refl;
      same_setting = refl;
      sinks = cache_refused (Unit {0}) c.args.path.now (RefusesToOpen cache) (λ _. ⊤) (IsChecked c.args.path.now cache) _ _
          c.in_err-open.ensures;
    })

pub tell-requires : goal.tell-requires
tell-requires g c = record { few = few_lists c.args.cache.now c.lists_of-read.result c.lists_of-read.ensures }

pub returns : goal.returns
returns g c =
    let told = c.tell.ensures in
    let path = c.args.path.now in
    let cache = c.args.cache.now in
    let read = c.lists_of-read.result in
    record {
      same_files = told.same_files;
      same_setting = told.same_setting;
      sinks = ends_weaker (λ _. IsTold path read) (IsCheckOver path cache) [] _ _ _
          (λ files run is. told_checked path cache read files run c.lists_of-read.ensures is) told.sinks;
    }
