use Rattle.std.proofs.Common.{Vec, map, refl}
use Rattle.std.proofs.lemmas.Result.{err_from_is_err_and}
use Rattle.std.specs.List.{flat_map}
use Rattle.std.specs.declared.alloc.Global.{Global}
use Rattle.mime_view.specs.Listing.{plain_listed}
use Rattle.mime_view.specs.declared.rules.listing.Listed.{Listed}
use Rattle.mime_tool.specs.Cache.{IsAnsweredOr}
use Rattle.mime_tool.specs.List.{AreRuleLines, AreRulesOf, RefusesRules, rule_line}
use Rattle.mime_tool.specs.Run.{printed}
use Rattle.mime_tool.proofs.CacheLemmas.Caches.{cache_refused}
use Rattle.mime_tool.proofs.DeskLemmas.Desks.{ends_undone}
use Rattle.mime_tool.proofs.CacheLemmas.ListedRules.{lines_answer}
use Rattle.mime_tool.proofs.list.list_cache.Goals as goal

pub returns-in_err-rules : goal.returns-in_err-rules
returns-in_err-rules g c =
    let e = err_from_is_err_and c.from_residual.result c.from_residual.ensures.1 in
    let cache = c.args.cache.now in
    rw (e.1, e.2) (record {
      same_files = refl;
      same_setting = refl;
      sinks = cache_refused (Vec Listed Global) c.args.path.now (RefusesRules cache)
          (λ rules. AreRulesOf cache (map plain_listed rules.items)) (AreRuleLines cache) _ _ c.in_err-rules.ensures;
    })

pub returns-in_err-print_rules : goal.returns-in_err-print_rules
returns-in_err-print_rules g c =
    let e = err_from_is_err_and c.from_residual-in_err-print_rules.result c.from_residual-in_err-print_rules.ensures.1 in
    let put = rw c.as_slice.ensures.value at c.in_err-print_rules.ensures in
    let path = c.args.path.now in
    let cache = c.args.cache.now in
    let rules = c.in_ok-rules.rules.items in
    rw (e.1, e.2) (record {
      same_files = put.same_files;
      same_setting = put.same_setting;
      sinks = ends_undone (Unit {0}) (IsAnsweredOr path (RefusesRules cache) (AreRuleLines cache))
          (printed (flat_map (λ rule. rule_line (plain_listed rule)) rules)) _ _ _
          (lines_answer path cache rules c.in_ok-rules.ensures)
          put.sinks;
    })

pub returns : goal.returns
returns g c =
    let put = rw c.as_slice.ensures.value at c.in_ok-print_rules.ensures in
    let rules = c.in_ok-rules.rules.items in
    record {
      same_files = put.same_files;
      same_setting = put.same_setting;
      sinks = (
        printed (flat_map (λ rule. rule_line (plain_listed rule)) rules),
        lines_answer c.args.path.now c.args.cache.now rules c.in_ok-rules.ensures,
        refl,
        refl,
        put.sinks,
      );
    }
