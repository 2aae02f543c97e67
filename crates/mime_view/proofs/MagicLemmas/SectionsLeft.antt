-- What sections answer that stand one after another in a cache, from those that are left.
use Rattle.std.proofs.Common.{◌≡◌, ℕ, ◌+◌, ◌*◌, ◌<◌, ◌≤◌, List, [], ◌∷◌, length, None, Some, refl, sym, arith}
use Rattle.std.specs.Prelude.{Result, Ok, Err}
use Rattle.std.specs.Borrow.{Bor}
use Rattle.std.specs.Result.{IsErrAnd}
use Rattle.std.proofs.lemmas.Result.{err_from_is_err_and}
use Rattle.mime_base.specs.Magic.{PlainSection}
use Rattle.mime_view.specs.Magic.{AnswersSections, ReadsSection, ReadsSections}
use Rattle.mime_view.specs.declared.fault.CacheFault.{CacheFault}
use Rattle.mime_view.specs.declared.magic.MagicQuery.{MagicQuery}
use Rattle.mime_view.specs.declared.spending.Spending.{Spending}
use Rattle.mime_view.proofs.MagicLemmas.ComparedBytes.{sections_compared-none}
use Rattle.mime_view.proofs.MagicLemmas.SectionRows.{Found, first_magic-none, sections_found_here, sections_stops_here, sections_then}

-- What is left of the sections from the i-th on: whatever these answer from now on, all answer from the start.
pub record Left (query : MagicQuery) (first count : ℕ) (sections : List PlainSection) (old : Spending) (i : ℕ) (now : Spending) : Type 0 where
  pub left : List PlainSection
  pub size : length left + i ≡ count
  pub reads : ReadsSections query.counted.now (first + 16 * i) left
  pub whole : (new : Spending) (result : Result Found CacheFault) → AnswersSections query left now new result
      → AnswersSections query sections old new result

-- The next section: either it answers for all, or those after it are left.
pub record Next (query : MagicQuery) (first count : ℕ) (sections : List PlainSection) (old : Spending) (i : ℕ) (now : Spending) : Type 0 where
  pub section : PlainSection
  pub reads : ReadsSection query.counted.now (first + 16 * i) section
  pub later : (new : Spending) → AnswersSections query (section ∷ []) now new (Ok None)
      → Left query first count sections old (i + 1) new
  pub found : (new : Spending) (pair : Bor (List ℕ) × ℕ) → AnswersSections query (section ∷ []) now new (Ok (Some pair))
      → AnswersSections query sections old new (Ok (Some pair))
  pub stops : (new : Spending) (e : CacheFault) (result : Result Found CacheFault) → IsErrAnd result (λ y. y ≡ e)
      → AnswersSections query (section ∷ []) now new (Err e) → AnswersSections query sections old new result

module _ {query : MagicQuery} {first count : ℕ} {sections : List PlainSection} {old : Spending} {i : ℕ} {now : Spending}
    (is : Left query first count sections old i now) where
  -- while some are left there is a next one
  pub next : i < count → Next query first count sections old i now
  next within = by_left is.left is.size is.reads is.whole
    where
      by_left : (left : List PlainSection) → length left + i ≡ count → ReadsSections query.counted.now (first + 16 * i) left
          → ((new : Spending) (result : Result Found CacheFault) → AnswersSections query left now new result
          → AnswersSections query sections old new result) → Next query first count sections old i now
      by_left [] size reads whole = absurd (omega arith)
      by_left (section ∷ rest) size reads whole = record {
        section = section;
        reads = reads.0;
        later = λ new passes. record {
          left = rest;
          size = omega arith;
          reads = let at : first + 16 * (i + 1) ≡ first + 16 * i + 16 = omega arith in rw at reads.1;
          whole = λ last result later. whole last result (sections_then query section rest now new last result passes later);
        };
        found = λ new pair here. whole new (Ok (Some pair)) (sections_found_here query section rest now new pair here);
        stops = λ new e result err here.
            let p = err_from_is_err_and result err in
            rw (p.1, p.2) (whole new (Err e) (sections_stops_here query section rest now new e here));
      }

  -- where none is left, none gives a type
  pub ended : count ≤ i → AnswersSections query sections old now (Ok None)
  ended past = by_left is.left is.size is.whole
    where
      by_left : (left : List PlainSection) → length left + i ≡ count
          → ((new : Spending) (result : Result Found CacheFault) → AnswersSections query left now new result
          → AnswersSections query sections old new result) → AnswersSections query sections old now (Ok None)
      by_left [] size whole = whole now (Ok None) record {
        answer = sym (first_magic-none query.content query.host);
        need = λ allowed records bytes. refl;
        takes = record { most_records = omega arith; most_value_bytes = omega arith };
        counted = let nothing = sections_compared-none query.content query.host in omega (arith, nothing);
      }
      by_left (section ∷ rest) size whole = absurd (omega arith)
