-- From what the reader of caches says of rules to what `list` says.
use Rattle.std.proofs.Common.{◌≡◌, ◌+◌, ◌/◌, ◌≤◌, ℕ, All, IfErr, IfOk, List, Result, Ok, Err, Vec, ap, inl, inr, length, map}
use Rattle.std.proofs.Common.{subst, sym}
use Rattle.std.proofs.lemmas.List.Folds.{flat_map-map}
use Rattle.std.specs.List.{flat_map}
use Rattle.std.specs.declared.alloc.Global.{Global}
use Rattle.mime_base.specs.Database.{PlainDatabase}
use Rattle.mime_base.specs.Format.Packed.{Packed}
use Rattle.mime_base.specs.Format.Spells.{Spells}
use Rattle.mime_base.specs.Format.Stored.{glob_rules, literal_rules}
use Rattle.mime_base.specs.Format.SuffixTree.{tree_size}
use Rattle.mime_base.specs.declared.database.rule.GlobRule.{GlobRule}
use Rattle.mime_base.specs.Database.Limits.{KeepsLimits}
use Rattle.mime_view.specs.Listing.{IsListed, IsListing, plain_listed}
use Rattle.mime_view.specs.Listing.Faults.{IsListingFault}
use Rattle.mime_view.specs.NameHits.{SpellsRules}
use Rattle.mime_view.specs.Spending.{Gives}
use Rattle.mime_view.specs.declared.fault.CacheFault.{CacheFault}
use Rattle.mime_view.specs.declared.fault.CacheFault.TheVariants.{OutOfMemory}
use Rattle.mime_view.specs.declared.rules.listing.Listed.{Listed}
use Rattle.mime_view.specs.declared.spending.Spending.{Spending}
use Rattle.mime_tool.specs.Cache.{IsAnsweredOr}
use Rattle.mime_tool.specs.List.{AreRuleLines, AreRulesOf, HasListedRules, IsUnlisted, RefusesRules, rule_line}
use Rattle.mime_tool.specs.Run.{printed}
use Rattle.mime_tool.proofs.CacheLemmas.Headers.{packed_records}

-- the rules of a cache that spells a database stand in its lists
abbrev pub rules_at : (c : List ℕ) (b : PlainDatabase) → Spells c b → SpellsRules c b.rules
rules_at c b s = record { offsets = s.offsets; header = s.header; literals = s.literals; tree = s.tree; globs = s.globs }

-- what the reader of caches gives of its rules
abbrev pub Lists : List ℕ → Spending → Spending → Result (Vec Listed Global) CacheFault → Type 0
Lists c old new r = (rules : List GlobRule) → SpellsRules c rules → All KeepsLimits rules →
    Gives (λ listed. IsListing rules (map plain_listed listed.items))
    (length (literal_rules rules) + tree_size rules + length (glob_rules rules)) old new r

-- the rules that it gives are those of the cache
pub rules_found : (c : List ℕ) (old new : Spending) (r : Result (Vec Listed Global) CacheFault) → Lists c old new r
    → IfOk r (λ listed. All (IsListed c) (map plain_listed listed.items))
    → IfOk r (λ listed. AreRulesOf c (map plain_listed listed.items))
rules_found c old new (Ok v) given texts =
    record { spelled = λ b asked s. (given b.rules (rules_at c b s) asked).answer; texts = texts }
rules_found c old new (Err f) given texts = tt

-- a fault of the reader is one of the cache
pub rules_faulty : (c : List ℕ) (left : ℕ) (r : Result (Vec Listed Global) CacheFault) → IfErr r (IsListingFault c left)
    → IfErr r (IsUnlisted c)
rules_faulty c left (Ok v) p = tt
rules_faulty c left (Err f) p = inr (left, p)

-- a packed cache has records for all its rules
pub rules_needed : (c : List ℕ) (old new : Spending) (r : Result (Vec Listed Global) CacheFault) → old.budget.records ≡ length c / 4
    → Lists c old new r → (b : PlainDatabase) → HasListedRules b → Spells c b → Packed c b → IfErr r (λ e. e ≡ OutOfMemory)
rules_needed c old new r is given b asked s packed =
    (given b.rules (rules_at c b s) asked).need
    (subst (λ (n : ℕ). length (literal_rules b.rules) + tree_size b.rules + length (glob_rules b.rules) ≤ n) (sym is)
    (packed_records c b packed))

-- the lines of the rules are an answer of `list`
pub lines_answer : (path cache : List ℕ) (rules : List Listed) → AreRulesOf cache (map plain_listed rules)
    → IsAnsweredOr path (RefusesRules cache) (AreRuleLines cache)
    (printed (flat_map (λ rule. rule_line (plain_listed rule)) rules))
lines_answer path cache rules are = inl
    (map plain_listed rules, are, sym (ap printed (flat_map-map rule_line plain_listed rules)))
