-- What a lookup did with its reader, by how it went on after its first step.
use Rattle.std.proofs.Common.{◌≡◌, ℕ, ◌+◌, Bool, true, false, List, [], Option, None, Some, Result, Ok, Err}
use Rattle.std.proofs.Common.{refl, sym, subst, ap, ◌∙◌, arith}
use Rattle.std.specs.Prelude.{IfErr, IsErrAnd}
use Rattle.mime_lookup.specs.Content.{Advances, Health, Interrupts, MayBe, Tally}
use Rattle.mime_lookup.specs.Reads.{AsksUnless, Reads}
use Rattle.mime_lookup.specs.declared.stopped.Cause.{Cause}
use Rattle.mime_lookup.specs.declared.stopped.Cause.TheVariants.{Read}

-- there is something that the content may be
pub some_content : {R : Type 0} (reader : Option R) → (content : Option (List ℕ)) × MayBe reader content
some_content None = (None, refl)
some_content (Some reader) = (Some [], ([], refl))

-- no read was interrupted
interrupts-none : (tally : Option Tally) → Interrupts tally tally 0
interrupts-none None = tt
interrupts-none (Some tally) =
    let same : tally.interrupted ≡ tally.interrupted + 0 = omega arith in
    ap (λ (n : ℕ). record tally { interrupted = n }) same

-- no byte was taken
advances-none : (known : Option (List ℕ)) (read : ℕ) → read ≡ 0 → Advances known known read
advances-none None read none = ([], tt, sym none)
advances-none (Some bytes) read none = ([], refl, sym none)

module _ {R : Type 0} (remaining : R → Option (List ℕ)) (tally : R → Option Tally) (health : R → Health) (limit : ℕ) where
  -- an answer by the globs alone
  pub reads_nothing : {X : Type 0} (content : Option R) (read : ℕ) (x : X) → read ≡ 0 →
      Reads remaining tally health limit content content read (Ok x)
  reads_nothing None read x none = record {
    gives_up = tt;
    goes = tt;
    fails = tt;
    advances = none;
    within = omega (arith, none);
  }
  reads_nothing (Some reader) read x none = record {
    gives_up = tt;
    goes = (0, omega arith, interrupts-none (tally reader));
    fails = tt;
    advances = advances-none (remaining reader) read none;
    within = omega (arith, none);
  }

  -- a step stopped, and its error is passed on
  pub reads_stopped : {X Y : Type 0} (before after : Option R) (read : ℕ) (cause : Cause) (result : Result Y Cause) →
      IsErrAnd result (λ passed. passed ≡ cause) → Reads {X = X} remaining tally health limit before after read (Err cause) →
      Reads remaining tally health limit before after read result
  reads_stopped before after read cause (Ok y) same step = absurd same
  reads_stopped {X} {Y} before after read cause (Err passed) same step =
      subst (λ e. Reads {X = Y} remaining tally health limit before after read (Err e)) (sym same) (record {
        gives_up = step.gives_up;
        goes = tt;
        fails = step.fails;
        advances = step.advances;
        within = step.within;
      })

  -- a step before any reading stopped for another cause
  pub no_read : {X : Type 0} (content : Option R) (read : ℕ) (cause : Cause) (result : Result X Cause) →
      IsErrAnd result (λ passed. passed ≡ cause) → (cause ≡ Read → ⊥) → read ≡ 0 →
      Reads remaining tally health limit content content read result
  no_read content read cause (Ok x) same other none = absurd same
  no_read {X} content read cause (Err passed) same other none =
      subst (λ e. Reads {X = X} remaining tally health limit content content read (Err e)) (sym same) (of_content content)
    where
      of_content : (content : Option R) → Reads {X = X} remaining tally health limit content content read (Err cause)
      of_content None = record {
        gives_up = λ is. absurd (other is);
        goes = tt;
        fails = λ is. absurd (other is);
        advances = none;
        within = omega (arith, none);
      }
      of_content (Some reader) = record {
        gives_up = λ is. absurd (other is);
        goes = tt;
        fails = λ is. absurd (other is);
        advances = advances-none (remaining reader) read none;
        within = omega (arith, none);
      }

  -- after the reading there is an answer, or another cause
  pub reads_onward : {X Y : Type 0} (before after : Option R) (read : ℕ) (x : X) →
      Reads remaining tally health limit before after read (Ok x) → (result : Result Y Cause) → IfErr result (λ cause. cause ≡ Read → ⊥) →
      Reads remaining tally health limit before after read result
  reads_onward before after read x is (Ok y) other =
      record { gives_up = tt; goes = is.goes; fails = tt; advances = is.advances; within = is.within }
  reads_onward before after read x is (Err cause) other = record {
    gives_up = λ same. absurd (other same);
    goes = tt;
    fails = λ same. absurd (other same);
    advances = is.advances;
    within = is.within;
  }

-- The same of what was asked.
module _ {R : Type 0} (health : R → Health) (suffice : Bool) where
  -- an answer by the globs alone
  pub asks_nothing : {X : Type 0} (content : Option R) (x : X) → suffice ≡ true → AsksUnless health suffice content content (Ok x)
  asks_nothing None x enough = record { answers = tt; asked = tt }
  asks_nothing (Some reader) x enough = record { answers = λ _. enough; asked = tt }

  -- a step that did not ask the globs stopped, and its error is passed on
  pub asks_stopped : {X Y : Type 0} (before after : Option R) (cause : Cause) (result : Result Y Cause) → suffice ≡ false →
      IsErrAnd result (λ passed. passed ≡ cause) → AsksUnless {X = X} health false before after (Err cause) →
      AsksUnless health suffice before after result
  asks_stopped before after cause (Ok y) is same step = absurd same
  asks_stopped before after cause (Err passed) is same step = record { answers = tt; asked = λ _. is }

  -- a step stopped for another cause
  pub not_asked : {X : Type 0} (before after : Option R) (cause : Cause) (result : Result X Cause) →
      IsErrAnd result (λ passed. passed ≡ cause) → (cause ≡ Read → ⊥) → AsksUnless health suffice before after result
  not_asked before after cause (Ok x) same other = absurd same
  not_asked before after cause (Err passed) same other = record { answers = tt; asked = λ is. absurd (other (sym same ∙ is)) }

  -- an answer after the reading
  pub asks_left : {X Y : Type 0} (before after : Option R) (x : X) (y : Y) → suffice ≡ false →
      AsksUnless health false before after (Ok x) → AsksUnless health suffice before after (Ok y)
  asks_left before after x y is step = record { answers = rw is step.answers; asked = tt }
