use Rattle.std.proofs.Common.{◌≡◌, ℕ, List, get_or, map, arith, ap, subst, ◌∙◌}
use Rattle.std.specs.Prelude.{All}
use Rattle.std.proofs.lemmas.Result.{IfOk-weaker, MatchResult-weaker}
use Rattle.mime_base.specs.Cache.Bytes.{field}
use Rattle.mime_base.specs.Format.Stored.{glob_rules}
use Rattle.mime_view.specs.Listing.{IsListed, plain_listed}
use Rattle.mime_view.specs.Listing.Sources.{IsRuleOf}
use Rattle.mime_view.specs.Listing.Walks.{LieRules}
use Rattle.mime_view.proofs.ListingLemmas.RuleLists.{all_read, are_listed, listing_fault}
use Rattle.mime_view.proofs.cache.Cache.rules.Goals as goal

pub returns-clause-gives : goal.returns-clause-gives
returns-clause-gives c = λ rules spells fit.
    let is3 : c.from-literals.result ≡ field c.self.inside.counted 0 3 =
    c.from-literals.ensures ∙ ap (λ (ns : List ℕ). get_or ns 3 0) c.self.invariant.0 in
    let is4 : c.from-tree.result ≡ field c.self.inside.counted 0 4 =
    c.from-tree.ensures ∙ ap (λ (ns : List ℕ). get_or ns 4 0) c.self.invariant.0 in
    let is5 : c.from-globs.result ≡ field c.self.inside.counted 0 5 =
    c.from-globs.ensures ∙ ap (λ (ns : List ℕ). get_or ns 5 0) c.self.invariant.0 in
    let read = all_read c.args.self.now c.self.inside.counted c.from-literals.result c.from-tree.result c.from-globs.result
    spells.offsets rules c.self.view_is is3 is4 is5 spells.header fit spells.literals spells.tree spells.globs in
    let listed =
    c.list_rules-rules.ensures.answer read.first (glob_rules rules) read.roots read.literals_read read.tree_reads read.globs_read in
    record {
      answer =
          IfOk-weaker c.list_rules-rules.result _ _
          (λ listed is. are_listed c.self.inside.counted c.from-literals.result c.from-tree.result c.from-globs.result rules
          (map plain_listed listed.items) read is) listed.answer;
      need = λ enough. listed.need (omega (arith, read.count, read.size, enough));
      most = omega (arith, read.count, read.size, listed.most);
    }

pub returns-clause-text : goal.returns-clause-text
returns-clause-text c =
    MatchResult-weaker c.list_rules-rules.result c.list_rules-rules.ensures.listed
    (λ listed texts. subst (λ (bytes : List ℕ). All (IsListed bytes) (map plain_listed listed.items)) c.self.view_is texts) (λ e fault. tt)

pub returns-clause-fault : goal.returns-clause-fault
returns-clause-fault c =
    let is3 : c.from-literals.result ≡ field c.self.inside.counted 0 3 =
    c.from-literals.ensures ∙ ap (λ (ns : List ℕ). get_or ns 3 0) c.self.invariant.0 in
    let is4 : c.from-tree.result ≡ field c.self.inside.counted 0 4 =
    c.from-tree.ensures ∙ ap (λ (ns : List ℕ). get_or ns 4 0) c.self.invariant.0 in
    let is5 : c.from-globs.result ≡ field c.self.inside.counted 0 5 =
    c.from-globs.ensures ∙ ap (λ (ns : List ℕ). get_or ns 5 0) c.self.invariant.0 in
    MatchResult-weaker c.list_rules-rules.result c.list_rules-rules.ensures.listed (λ listed texts. tt)
    (λ e fault. listing_fault c.args.self.now c.self.inside.counted _ _ _ _ e c.self.view_is is3 is4 is5 fault)

pub returns-clause-sources : goal.returns-clause-sources
returns-clause-sources c =
    let is3 : c.from-literals.result ≡ field c.self.inside.counted 0 3 =
    c.from-literals.ensures ∙ ap (λ (ns : List ℕ). get_or ns 3 0) c.self.invariant.0 in
    let is4 : c.from-tree.result ≡ field c.self.inside.counted 0 4 =
    c.from-tree.ensures ∙ ap (λ (ns : List ℕ). get_or ns 4 0) c.self.invariant.0 in
    let is5 : c.from-globs.result ≡ field c.self.inside.counted 0 5 =
    c.from-globs.ensures ∙ ap (λ (ns : List ℕ). get_or ns 5 0) c.self.invariant.0 in
    IfOk-weaker c.list_rules-rules.result _ _
    (λ listed all. subst (λ (bytes : List ℕ). All (IsRuleOf bytes) (map plain_listed listed.items)) c.self.view_is
    (rw (is3, is4, is5) at all.rules)) c.list_rules-rules.ensures.lists

pub returns-clause-inside : goal.returns-clause-inside
returns-clause-inside c =
    let is3 : c.from-literals.result ≡ field c.self.inside.counted 0 3 =
    c.from-literals.ensures ∙ ap (λ (ns : List ℕ). get_or ns 3 0) c.self.invariant.0 in
    let is4 : c.from-tree.result ≡ field c.self.inside.counted 0 4 =
    c.from-tree.ensures ∙ ap (λ (ns : List ℕ). get_or ns 4 0) c.self.invariant.0 in
    let is5 : c.from-globs.result ≡ field c.self.inside.counted 0 5 =
    c.from-globs.ensures ∙ ap (λ (ns : List ℕ). get_or ns 5 0) c.self.invariant.0 in
    IfOk-weaker c.list_rules-rules.result _ _
    (λ listed all. subst (λ (bytes : List ℕ). LieRules bytes (field bytes 0 3) (field bytes 0 4) (field bytes 0 5)) c.self.view_is
    (rw (is3, is4, is5) at all.lie)) c.list_rules-rules.ensures.lists
