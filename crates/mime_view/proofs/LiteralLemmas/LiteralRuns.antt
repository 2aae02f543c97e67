-- A run of entries of the literal list, visited one after another.
use Rattle.std.proofs.Common.{◌≡◌, ℕ, ◌+◌, ◌*◌, ◌<◌, ◌≤◌, Bool, true, false, List, [], ◌∷◌, ◌++◌, length, filter}
use Rattle.std.proofs.Common.{sym, ap, subst, ◌∙◌, arith}
use Rattle.std.specs.Prelude.{Result, Ok, Err, IsErrAnd, bytes_eq}
use Rattle.std.specs.List.{All}
use Rattle.std.proofs.Math.Nat.{mul-le-mul_left}
use Rattle.std.proofs.lemmas.List.Elements.{All-head, All-tail, filter-append}
use Rattle.mime_base.specs.Format.Stored.{stored_text}
use Rattle.mime_base.specs.declared.database.rule.GlobRule.{GlobRule}
use Rattle.mime_view.specs.Hits.{takes_rule, visits}
use Rattle.mime_view.specs.Literals.{AreRun, IsLiteral, ReadsRule, ReadsRules, of_text, run_visits, taken}
use Rattle.mime_view.specs.Steps.{FindsRules}
use Rattle.mime_view.specs.declared.fault.CacheFault.{CacheFault}
use Rattle.mime_view.specs.declared.hits.Case.{Case}
use Rattle.mime_view.specs.declared.query.Progress.{Progress}
use Rattle.mime_view.proofs.HitsLemmas.Steps.{finds_err, finds_none, finds_then, finds_within}

-- what a visit of an entry finds
abbrev Visits : (X : Type 0) → List ℕ → Case → List ℕ → GlobRule → Progress → Progress → Result X CacheFault → Type 0
Visits X c case key rule now new result = FindsRules c (IsLiteral rule) (taken case key (rule ∷ [])) (visits case) now new result

-- what a scan of these rules finds, where all of a run are literal
abbrev Scans : List ℕ → Case → List ℕ → List GlobRule → List GlobRule → Progress → Progress → Result (Unit {0}) CacheFault → Type 0
Scans c case key run rules old new result =
    FindsRules c (All IsLiteral run) (taken case key rules) (visits case * run_visits key rules) old new result

-- what is left of a run from the place i on: whatever a scan of that finds, the scan of the whole run does
pub record RunLeft (c : List ℕ) (first count : ℕ) (case : Case) (key : List ℕ) (rules : List GlobRule) (old : Progress) (i : ℕ)
    (now : Progress) : Type 0 where
  pub left : List GlobRule
  pub size : length left + i ≡ count
  pub reads : ReadsRules c (first + 12 * i) left
  pub run : AreRun key left
  pub literal : All IsLiteral rules → All IsLiteral left
  pub whole : (new : Progress) (result : Result (Unit {0}) CacheFault) → Scans c case key rules left now new result
      → Scans c case key rules rules old new result

-- the next entry of a run, and what is left after it
pub record RunNext (c : List ℕ) (first count : ℕ) (case : Case) (key : List ℕ) (rules : List GlobRule) (old : Progress) (i : ℕ)
    (now : Progress) : Type 0 where
  pub rule : GlobRule
  pub reads : ReadsRule c (first + 12 * i) rule
  pub later : (new : Progress) → bytes_eq (stored_text rule) key ≡ true → Visits Bool c case key rule now new (Ok true)
      → RunLeft c first count case key rules old (i + 1) new
  pub ends : (new : Progress) → bytes_eq (stored_text rule) key ≡ false → Visits Bool c case key rule now new (Ok false)
      → Scans c case key rules rules old new (Ok tt)
  pub stops : (new : Progress) (e : CacheFault) (result : Result (Unit {0}) CacheFault) → IsErrAnd result (λ y. y ≡ e)
      → Visits Bool c case key rule now new (Err e) → Scans c case key rules rules old new result

-- one rule of a text and others
taken-cons : (case : Case) (key : List ℕ) (rule : GlobRule) (rules : List GlobRule)
    → taken case key (rule ∷ rules) ≡ taken case key (rule ∷ []) ++ taken case key rules
taken-cons case key rule rules =
    ap (filter (λ other. takes_rule case other.cased)) (filter-append (λ other. bytes_eq (stored_text other) key) (rule ∷ []) rules)
    ∙ filter-append (λ other. takes_rule case other.cased) (of_text key (rule ∷ [])) (of_text key rules)

module _ {c : List ℕ} {first count : ℕ} {case : Case} {key : List ℕ} {rules : List GlobRule} {old : Progress} {i : ℕ} {now : Progress}
    (is : RunLeft c first count case key rules old i now) where
  -- while some are left there is a next one
  pub next : i < count → RunNext c first count case key rules old i now
  next within = by_left is.left is.size is.reads is.run is.literal is.whole
    where
      by_left : (left : List GlobRule) → length left + i ≡ count → ReadsRules c (first + 12 * i) left → AreRun key left
          → (All IsLiteral rules → All IsLiteral left)
          → ((new : Progress) (result : Result (Unit {0}) CacheFault) → Scans c case key rules left now new result
          → Scans c case key rules rules old new result) → RunNext c first count case key rules old i now
      by_left [] size reads run literal whole = absurd (omega arith)
      by_left (rule ∷ rest) size reads run literal whole =
          let one : visits case * 1 ≤ visits case * run_visits key (rule ∷ rest) = mul-le-mul_left (visits case) (omega arith) in
          record {
            rule = rule;
            reads = reads.0;
            later = λ new same visit.
                let n : 1 + run_visits key rest ≤ run_visits key (rule ∷ rest) = rw same (omega arith) in
                let m : visits case * (1 + run_visits key rest) ≤ visits case * run_visits key (rule ∷ rest) =
                mul-le-mul_left (visits case) n in
                record {
                  left = rest;
                  size = omega arith;
                  reads = let at : first + 12 * (i + 1) ≡ first + 12 * i + 12 = omega arith in rw at reads.1;
                  run = run.1;
                  literal = λ ok. All-tail IsLiteral rule rest (literal ok);
                  whole = λ last result scan. whole last result
                      (subst (λ (xs : List GlobRule). FindsRules c (All IsLiteral rules) xs (visits case * run_visits key (rule ∷ rest))
                      now last result) (sym (taken-cons case key rule rest))
                      (finds_then {m = visits case} (finds_within (λ ok. All-head IsLiteral rule rest (literal ok)) visit (omega arith))
                      scan (omega (arith, m))));
                };
            ends = λ new other visit.
                let none : of_text key rest ≡ [] = run.0 other in
                whole new (Ok tt)
                (subst (λ (xs : List GlobRule). FindsRules c (All IsLiteral rules) xs (visits case * run_visits key (rule ∷ rest)) now new (Ok tt))
                (sym (taken-cons case key rule rest))
                (finds_then {m = visits case} {n = 0} (finds_within (λ ok. All-head IsLiteral rule rest (literal ok)) visit (omega arith))
                (rw none (finds_none {n = 0} new)) (omega (arith, one))));
            stops = λ new e result err visit. whole new result (finds_err result err visit (omega (arith, one)));
          }

  -- where none is left, all was found
  pub ended : count ≤ i → Scans c case key rules rules old now (Ok tt)
  ended past = by_left is.left is.size is.whole
    where
      by_left : (left : List GlobRule) → length left + i ≡ count
          → ((new : Progress) (result : Result (Unit {0}) CacheFault) → Scans c case key rules left now new result
          → Scans c case key rules rules old new result) → Scans c case key rules rules old now (Ok tt)
      by_left [] size whole = whole now (Ok tt) (finds_none now)
      by_left (rule ∷ rest) size whole = absurd (omega arith)
