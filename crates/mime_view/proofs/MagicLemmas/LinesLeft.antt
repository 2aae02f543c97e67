-- What lines answer that stand one after another in a cache, from those that are left.
use Rattle.std.proofs.Common.{◌≡◌, ℕ, ◌+◌, ◌*◌, ◌<◌, ◌≤◌, Bool, true, false, refl, sym, arith}
use Rattle.std.specs.Prelude.{Result, Ok, Err}
use Rattle.std.specs.Result.{IsErrAnd}
use Rattle.std.proofs.lemmas.Result.{err_from_is_err_and}
use Rattle.mime_base.specs.Format.Magic.{width}
use Rattle.mime_base.specs.Magic.{Forest, PlainLine, bare, line}
use Rattle.mime_view.specs.Magic.{AnswersLines, ReadsLines}
use Rattle.mime_view.specs.declared.fault.CacheFault.{CacheFault}
use Rattle.mime_view.specs.declared.magic.MagicQuery.{MagicQuery}
use Rattle.mime_view.specs.declared.spending.Spending.{Spending}
use Rattle.mime_view.proofs.MagicLemmas.ComparedBytes.{lines_compared-none}
use Rattle.mime_view.proofs.MagicLemmas.LineRows.{lines_holds_here, lines_stops_here, lines_then, some_holds-bare}

-- What is left of the lines from the i-th on: whatever these answer from now on, all answer from the start.
pub record Left (query : MagicQuery) (levels first count : ℕ) (lines : Forest) (old : Spending) (i : ℕ) (now : Spending) : Type 0 where
  pub left : Forest
  pub size : width left + i ≡ count
  pub reads : ReadsLines query.counted.now (first + 32 * i) left
  pub whole : (new : Spending) (result : Result Bool CacheFault) → AnswersLines query levels left now new result
      → AnswersLines query levels lines old new result

-- The next line: either it answers for all, or those after it are left.
pub record Next (query : MagicQuery) (levels first count : ℕ) (lines : Forest) (old : Spending) (i : ℕ) (now : Spending) : Type 0 where
  pub own : PlainLine
  pub children : Forest
  pub reads : ReadsLines query.counted.now (first + 32 * i) (line own children bare)
  pub later : (new : Spending) → AnswersLines query levels (line own children bare) now new (Ok false)
      → Left query levels first count lines old (i + 1) new
  pub holds : (new : Spending) → AnswersLines query levels (line own children bare) now new (Ok true)
      → AnswersLines query levels lines old new (Ok true)
  pub stops : (new : Spending) (e : CacheFault) (result : Result Bool CacheFault) → IsErrAnd result (λ y. y ≡ e)
      → AnswersLines query levels (line own children bare) now new (Err e) → AnswersLines query levels lines old new result

module _ {query : MagicQuery} {levels first count : ℕ} {lines : Forest} {old : Spending} {i : ℕ} {now : Spending}
    (is : Left query levels first count lines old i now) where
  -- while some are left there is a next one
  pub next : i < count → Next query levels first count lines old i now
  next within = by_left is.left is.size is.reads is.whole
    where
      by_left : (left : Forest) → width left + i ≡ count → ReadsLines query.counted.now (first + 32 * i) left
          → ((new : Spending) (result : Result Bool CacheFault) → AnswersLines query levels left now new result
          → AnswersLines query levels lines old new result) → Next query levels first count lines old i now
      by_left bare size reads whole = absurd (omega arith)
      by_left (line own children rest) size reads whole = record {
        own = own;
        children = children;
        reads = (reads.0, reads.1, reads.2, reads.3, tt);
        later = λ new passes. record {
          left = rest;
          size = omega arith;
          reads = let at : first + 32 * (i + 1) ≡ first + 32 * i + 32 = omega arith in rw at reads.4;
          whole = λ last result later. whole last result (lines_then query levels own children rest now new last result passes later);
        };
        holds = λ new here. whole new (Ok true) (lines_holds_here query levels own children rest now new here);
        stops = λ new e result err here.
            let p = err_from_is_err_and result err in
            rw (p.1, p.2) (whole new (Err e) (lines_stops_here query levels own children rest now new e here));
      }

  -- where none is left, none holds
  pub ended : count ≤ i → AnswersLines query levels lines old now (Ok false)
  ended past = by_left is.left is.size is.whole
    where
      by_left : (left : Forest) → width left + i ≡ count
          → ((new : Spending) (result : Result Bool CacheFault) → AnswersLines query levels left now new result
          → AnswersLines query levels lines old new result) → AnswersLines query levels lines old now (Ok false)
      by_left bare size whole = whole now (Ok false) record {
        answer = sym (some_holds-bare query.content query.host);
        need = λ allowed records bytes. refl;
        takes = record { most_records = omega arith; most_value_bytes = omega arith };
        counted = let nothing = lines_compared-none bare query.content query.host refl in omega (arith, nothing);
      }
      by_left (line own children rest) size whole = absurd (omega arith)
