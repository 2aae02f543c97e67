-- The three lists of rules stand where the numbers of the header say.
use Rattle.std.proofs.Common.{◌≡◌, ℕ, List, get_or, ap, ◌∙◌}
use Rattle.mime_base.specs.declared.database.rule.GlobRule.{GlobRule}
use Rattle.mime_view.specs.NameHits.{RulesAt, SpellsRules, lists_of}
use Rattle.mime_view.specs.declared.name.RuleLists.{RuleLists}
use Rattle.mime_view.proofs.ListLemmas.Headers.{header_read}

-- by the header, on bytes that are the cache's
pub rules_named : (c d : List ℕ) (lists : RuleLists) (rules : List GlobRule) → d ≡ c → lists ≡ lists_of c → SpellsRules c rules
    → RulesAt d lists rules
rules_named c d lists rules same are spells =
    let offsets = spells.offsets in
    let read = header_read c offsets spells.header in
    let at_literals : lists.literals ≡ offsets.literals =
    ap (λ (at : RuleLists). at.literals) are ∙ ap (λ (ns : List ℕ). get_or ns 3 0) read in
    let at_tree : lists.tree ≡ offsets.tree = ap (λ (at : RuleLists). at.tree) are ∙ ap (λ (ns : List ℕ). get_or ns 4 0) read in
    let at_globs : lists.globs ≡ offsets.globs = ap (λ (at : RuleLists). at.globs) are ∙ ap (λ (ns : List ℕ). get_or ns 5 0) read in
    record {
      literals = rw (same, at_literals) spells.literals;
      tree = rw (same, at_tree) spells.tree;
      globs = rw (same, at_globs) spells.globs;
    }
