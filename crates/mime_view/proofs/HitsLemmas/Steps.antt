-- What steps of a search do one after another.
use Rattle.std.proofs.Common.{◌≡◌, ℕ, ◌+◌, ◌*◌, ◌≤◌, List, [], ◌++◌, inl, refl, ◌∙◌, arith}
use Rattle.std.specs.Prelude.{Result, Ok, Err, IsErrAnd}
use Rattle.std.proofs.lemmas.Result.{err_from_is_err_and, on_ok_weaker}
use Rattle.mime_base.specs.declared.database.rule.GlobRule.{GlobRule}
use Rattle.mime_base.specs.declared.meter.Meter.{Meter}
use Rattle.mime_view.specs.Spending.{per_record}
use Rattle.mime_view.specs.Steps.{FindsRules, Part, Searches}
use Rattle.mime_view.specs.declared.fault.CacheFault.{CacheFault}
use Rattle.mime_view.specs.declared.query.Progress.{Progress}
use Rattle.mime_view.proofs.CostLemmas.Costs.{spends_none, spends_then, spends_within}
use Rattle.mime_view.proofs.HitsLemmas.AddedHits.{adds_then}
use Rattle.mime_view.proofs.HitsLemmas.Gathering.{offers_append, offers_none}

-- no step finds nothing
pub finds_none : {c : List ℕ} {fits : Type 0} {n : ℕ} (at : Progress) → FindsRules {X = Unit {0}} c fits [] n at at (Ok tt)
finds_none {c} at = record {
  answer = λ ok. offers_none c at.hits;
  need = λ enough. tt;
  most = omega arith;
}

-- and takes nothing
pub searches_none : {part : Part} {each : ℕ} (at : Progress) → Searches {X = Unit {0}} part each 0 at at (Ok tt)
searches_none {each = each} at = record {
  fault = tt;
  asked = refl;
  few = omega arith;
  added = λ place held. inl held;
  cost = spends_none (per_record each) at.spending;
}

-- what a step finds after another
pub finds_then : {X Y : Type 0} {c : List ℕ} {fits : Type 0} {xs ys : List GlobRule} {m n k : ℕ} {old mid new : Progress} {x : X}
    {r : Result Y CacheFault} → FindsRules c fits xs m old mid (Ok x) → FindsRules c fits ys n mid new r → m + n ≤ k
    → FindsRules c fits (xs ++ ys) k old new r
finds_then {c = c} {xs = xs} {ys = ys} {old = old} {mid = mid} {new = new} {r = r} first second l = record {
  answer = λ ok. on_ok_weaker r (offers_append c xs ys old.hits mid.hits new.hits (first.answer ok)) (second.answer ok);
  need = λ enough. second.need (omega (arith, l, enough, first.most));
  most = omega (arith, l, first.most, second.most);
}

-- and takes
pub searches_then : {X Y : Type 0} {part : Part} {each m n k : ℕ} {old mid new : Progress} {x : X}
    {r : Result Y CacheFault} → Searches part each m old mid (Ok x) → Searches part each n mid new r → m + n ≤ k
    → Searches part each k old new r
searches_then {part = part} {each = each} {m = m} {n = n} {k = k} {old = old} {mid = mid} {new = new} {r = r} first second l = record {
  fault = second.fault;
  asked = on_ok_weaker r (λ stays. stays ∙ first.asked) second.asked;
  few = on_ok_weaker r (λ fewer. omega (arith, fewer, first.few)) second.few;
  added = on_ok_weaker r (adds_then part.Kind old.hits.offers mid.hits.offers new.hits.offers first.added) second.added;
  cost = spends_within (per_record each) (m + n) (256 * m + 256 * n) k (256 * k) old.spending new.spending l (omega (arith, l))
      (spends_then (per_record each) m (256 * m) n (256 * n) old.spending mid.spending new.spending first.cost second.cost);
}

-- what goes on with another value
pub searches_ok : {X Y : Type 0} {part : Part} {each m : ℕ} {old new : Progress} {x : X} {y : Y}
    → Searches part each m old new (Ok x) → Searches part each m old new (Ok y)
searches_ok step = record {
  fault = tt;
  asked = step.asked;
  few = step.few;
  added = step.added;
  cost = step.cost;
}

-- more may be asked of the rules, and more said to be visited
pub finds_within : {X : Type 0} {c : List ℕ} {fits more : Type 0} {xs : List GlobRule} {m n : ℕ} {old new : Progress}
    {r : Result X CacheFault} → (more → fits) → FindsRules c fits xs m old new r → m ≤ n → FindsRules c more xs n old new r
finds_within stronger step l = record {
  answer = λ ok. step.answer (stronger ok);
  need = λ enough. step.need (omega (arith, l, enough));
  most = omega (arith, l, step.most);
}

-- a stop that is passed on offers nothing
pub finds_err : {X Y : Type 0} {c : List ℕ} {fits more : Type 0} {xs ys : List GlobRule} {m n : ℕ} {old new : Progress} {e : CacheFault}
    (r : Result Y CacheFault) → IsErrAnd r (λ y. y ≡ e) → FindsRules {X = X} c fits xs m old new (Err e) → m ≤ n
    → FindsRules c more ys n old new r
finds_err r is step l =
    let p = err_from_is_err_and r is in
    rw (p.1, p.2) record {
      answer = λ ok. tt;
      need = λ enough. step.need (omega (arith, l, enough));
      most = omega (arith, l, step.most);
    }

-- and takes what it took
pub searches_err : {X Y : Type 0} {part : Part} {each m : ℕ} {old new : Progress} {e : CacheFault} (r : Result Y CacheFault)
    → IsErrAnd r (λ y. y ≡ e) → Searches {X = X} part each m old new (Err e) → Searches part each m old new r
searches_err r is step =
    let p = err_from_is_err_and r is in
    rw (p.1, p.2) record {
      fault = step.fault;
      asked = tt;
      few = tt;
      added = tt;
      cost = step.cost;
    }

-- what was read before a step finds nothing
pub finds_metered : {X : Type 0} {c : List ℕ} {fits : Type 0} {xs : List GlobRule} {n : ℕ} {old new : Progress} {r : Result X CacheFault}
    (meter : Meter) → FindsRules c fits xs n (record { hits = old.hits; spending = record { meter = meter; budget = old.spending.budget } }) new r
    → FindsRules c fits xs n old new r
finds_metered meter step = record { answer = step.answer; need = step.need; most = step.most }
