-- A glob list that stands in a cache is read entry by entry.
use Rattle.std.proofs.Common.{◌≡◌, ℕ, ◌+◌, ◌*◌, ◌<◌, ◌≤◌, false, List, [], ◌∷◌, ◌++◌, length, get_or, take, sym, ap, ◌∙◌, arith}
use Rattle.std.specs.Prelude.{Result, Ok}
use Rattle.std.specs.List.{All}
use Rattle.std.proofs.Math.Numerals.{suc-eq-add-one}
use Rattle.std.proofs.Math.Seq.{take-suc}
use Rattle.std.proofs.lemmas.List.Elements.{All-filter, filter-append}
use Rattle.mime_base.specs.Cache.Bytes.{Stands, field, fields}
use Rattle.mime_base.specs.Cache.Texts.{text_at}
use Rattle.mime_base.specs.Format.Records.{CardsAt}
use Rattle.mime_base.specs.Format.Rules.{GlobsAt, IsRule}
use Rattle.mime_base.specs.Format.Stored.{glob_rules, is_in_globs, stored_text, weight_and_flags}
use Rattle.mime_base.specs.Kept.{FitsRank, hits}
use Rattle.mime_base.specs.Matching.Matches.{rule_matches}
use Rattle.mime_base.specs.declared.database.rule.GlobRule.{GlobRule}
use Rattle.mime_view.specs.Globs.{ReadsGlob}
use Rattle.mime_view.specs.Steps.{FindsRules}
use Rattle.mime_view.specs.declared.fault.CacheFault.{CacheFault}
use Rattle.mime_view.specs.declared.query.Progress.{Progress}
use Rattle.mime_view.proofs.ListLemmas.Records.{count_read, list_inside, numbers_read, record_at, text_read}
use Rattle.mime_view.proofs.HitsLemmas.Steps.{finds_then, finds_within}

-- what is read where no rule is
abbrev no_rule : GlobRule
no_rule = record { weight = 0; kind = []; pattern = []; cased = false }

-- the rule i of the list
abbrev pub glob : List GlobRule → ℕ → GlobRule
glob rules i = get_or (glob_rules rules) i no_rule

-- the numbers of a rule take 12 bytes
rule_size : (c : List ℕ) (rule : GlobRule) (numbers : List ℕ) → IsRule (Stands c) rule numbers → 4 * length numbers ≡ 12
rule_size c rule numbers (text, kind, are, stored, its) = ap (λ (ns : List ℕ). 4 * length ns) are

-- a rule that stands is read as an entry
entry_read : (c : List ℕ) (at : ℕ) (rule : GlobRule) → (numbers : List ℕ) × CardsAt (Stands c) at numbers × IsRule (Stands c) rule numbers
    → ReadsGlob c at rule
entry_read c at rule (numbers, here, (text, kind, are, stored, its)) =
    let read = numbers_read c at (text ∷ kind ∷ weight_and_flags rule ∷ []) (rw are at here) in
    let number : (i : ℕ) → get_or (fields c at 3) i 0 ≡ get_or (text ∷ kind ∷ weight_and_flags rule ∷ []) i 0 =
    λ i. ap (λ (ns : List ℕ). get_or ns i 0) read in
    record {
      text = ap (text_at c) (number 0) ∙ text_read c text (stored_text rule) stored;
      kind = ap (text_at c) (number 1) ∙ text_read c kind rule.kind its;
      flags = number 2;
    }

module _ (c : List ℕ) (at : ℕ) (rules : List GlobRule) (stand : GlobsAt (Stands c) at rules) where
  -- how many entries it has
  pub globs_count : field c at 0 ≡ length (glob_rules rules)
  globs_count = count_read c 12 (IsRule (Stands c)) at (glob_rules rules) stand

  -- where it ends
  pub globs_inside : at + 4 + 12 * length (glob_rules rules) ≤ length c
  globs_inside = list_inside c 12 (IsRule (Stands c)) at (glob_rules rules) (rule_size c) stand

  -- what stands at its entry i
  pub glob_read : (i : ℕ) → i < length (glob_rules rules) → ReadsGlob c (at + 4 + 12 * i) (glob rules i)
  glob_read i l =
      entry_read c (at + 4 + 12 * i) (glob rules i)
      (record_at c 12 (IsRule (Stands c)) (at + 4) (glob_rules rules) i no_rule l stand.records)

-- its rules have ranks where all have
pub glob_fits : (rules : List GlobRule) (i : ℕ) → All FitsRank rules → i < length (glob_rules rules) → FitsRank (glob rules i)
glob_fits rules i fits l = All-filter is_in_globs FitsRank rules fits i no_rule l

-- what is found with one entry more
pub finds_next : {c : List ℕ} (name : List ℕ) (rules : List GlobRule) {i : ℕ} {old mid new : Progress} {x : Unit {0}} {r : Result (Unit {0}) CacheFault}
    → i < length (glob_rules rules) → FindsRules c (All FitsRank rules) (hits (take i (glob_rules rules)) name) i old mid (Ok x)
    → FindsRules c (FitsRank (glob rules i)) (hits (glob rules i ∷ []) name) 1 mid new r
    → FindsRules c (All FitsRank rules) (hits (take (i + 1) (glob_rules rules)) name) (i + 1) old new r
finds_next name rules {i = i} l before here =
    let more : take (i + 1) (glob_rules rules) ≡ take i (glob_rules rules) ++ glob rules i ∷ [] =
    ap (λ (n : ℕ). take n (glob_rules rules)) (sym (suc-eq-add-one i)) ∙ take-suc (glob_rules rules) i no_rule l in
    let parts = filter-append (λ (rule : GlobRule). rule_matches rule.pattern rule.cased name) (take i (glob_rules rules))
    (glob rules i ∷ []) in
    rw (ap (λ (xs : List GlobRule). hits xs name) more ∙ parts)
    (finds_then {n = 1} before (finds_within (λ fits. glob_fits rules i fits l) here (omega arith)) (omega arith))
