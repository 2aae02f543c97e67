-- What a lookup in two halves reads, by where it ends.
use Rattle.std.proofs.Common.{◌≡◌, ◌∙◌, ℕ, max, List, Option, Result, Ok, Err, arith, sym, true≢false}
use Rattle.std.specs.Prelude.{IsErrAnd}
use denote.Bor.{Bor}
use Rattle.mime_base.specs.Database.{PlainDatabase}
use Rattle.mime_lookup.specs.Bounds.{stated_extent}
use Rattle.mime_lookup.specs.Cached.{cause_of}
use Rattle.mime_lookup.specs.Content.{Health, Tally, known_content}
use Rattle.mime_lookup.specs.Fronts.{ReadsFront, TakesFront}
use Rattle.mime_lookup.specs.Halves.{Decides}
use Rattle.mime_lookup.specs.LookUps.{ReadsLookUp}
use Rattle.mime_lookup.specs.Spelling.{SpellsGlobs}
use Rattle.mime_lookup.specs.declared.cached.by_name.NameDecision.TheVariants.{Decided, Left}
use Rattle.mime_lookup.specs.declared.cached.by_name.Candidates.{Candidates}
use Rattle.mime_lookup.specs.declared.order.Order.{Order}
use Rattle.mime_lookup.specs.declared.stopped.Cause.{Cause}
use Rattle.mime_lookup.specs.declared.stopped.Cause.TheVariants.{Read}
use Rattle.mime_lookup.proofs.LookUpLemmas.LookUps.{none_read, read_front}
use Rattle.mime_lookup.proofs.ContentLemmas.Reads.{asks_left, asks_nothing, asks_stopped, no_read, not_asked, reads_nothing, reads_onward}
use Rattle.mime_lookup.proofs.ContentLemmas.Reads.{reads_stopped}
use Rattle.mime_lookup.proofs.LookUpLemmas.SpelledParts.{spelled_globs, spelled_magic}
use Rattle.mime_lookup.proofs.StopLemmas.StepStops.{no_read_fault, not_ok, passed_on}
use Rattle.mime_view.specs.declared.fault.CacheFault.{CacheFault}

module _ {R : Type 0} (remaining : R → Option (List ℕ)) (tally : R → Option Tally) (health : R → Health) (c name : List ℕ)
    (order : Order)
  where
    -- a fault before the reading
    pub reads_early : {X : Type 0} (content : Option R) (read : ℕ) (e : CacheFault) (result : Result X Cause)
        → IsErrAnd result (λ passed. passed ≡ cause_of e) → read ≡ 0
        → ReadsLookUp remaining tally health c name order content content read result
    reads_early content read e result passed none = record {
      reader = no_read remaining tally health (max 128 (stated_extent c)) content read (cause_of e) result passed (no_read_fault e) none;
      asks = λ b globs. not_asked health _ content content (cause_of e) result passed (no_read_fault e);
      unread = λ b globs suffice. none;
      head = λ some. absurd (omega (arith, some, none));
      exact = λ b within spells. not_ok _ _ result passed;
    }

    -- and after it
    pub reads_late : {X Y : Type 0} (candidates : Candidates)
        (gives : (b : PlainDatabase) → SpellsGlobs c b → Decides b name order (Left candidates)) (before after : Option R) (read : ℕ)
        (x : X) (e : CacheFault) (result : Result Y Cause)
        → IsErrAnd result (λ passed. passed ≡ cause_of e) → TakesFront remaining tally health c before after read (Ok x)
        → ReadsLookUp remaining tally health c name order before after read result
    reads_late candidates gives before after read x e result passed is = record {
      reader = reads_onward remaining tally health (max 128 (stated_extent c)) before after read x is.uses.reader result
          (passed_on (λ cause. cause ≡ Read → ⊥) (cause_of e) result passed (no_read_fault e));
      asks = λ b globs. not_asked health _ before after (cause_of e) result passed (no_read_fault e);
      unread = λ b globs suffice. absurd (true≢false (sym suffice ∙ (gives b globs).0));
      head = is.head;
      exact = λ b within spells. not_ok _ _ result passed;
    }

    -- the name gave a type
    pub reads_decided : (content : Option R) (read : ℕ) (kind : Bor (List ℕ)) → read ≡ 0
        → ((b : PlainDatabase) → SpellsGlobs c b → Decides b name order (Decided kind))
        → ReadsLookUp remaining tally health c name order content content read (Ok kind)
    reads_decided content read kind none gives = record {
      reader = reads_nothing remaining tally health (max 128 (stated_extent c)) content read kind none;
      asks = λ b globs. asks_nothing health _ content kind (gives b globs).0;
      unread = λ b globs suffice. none;
      head = λ some. absurd (omega (arith, some, none));
      exact = λ b within spells.
          none_read b name order (known_content remaining content) read none (gives b (spelled_globs c b within spells)).0;
    }

    module _ (candidates : Candidates) (gives : (b : PlainDatabase) → SpellsGlobs c b → Decides b name order (Left candidates)) where
      -- the content was not read
      pub reads_refused : {X Y : Type 0} (before after : Option R) (read : ℕ) (stop : Cause) (result : Result Y Cause)
          → IsErrAnd result (λ passed. passed ≡ stop)
          → TakesFront {X = X} remaining tally health c before after read (Err stop)
          → ReadsLookUp remaining tally health c name order before after read result
      reads_refused before after read stop result passed is = record {
        reader = reads_stopped remaining tally health (max 128 (stated_extent c)) before after read stop result passed is.uses.reader;
        asks = λ b globs. asks_stopped health _ before after stop result (gives b globs).0 passed is.uses.asks;
        unread = λ b globs suffice. absurd (true≢false (sym suffice ∙ (gives b globs).0));
        head = is.head;
        exact = λ b within spells. not_ok _ _ result passed;
      }

      -- the front gave a type
      pub reads_chosen : {X Y : Type 0} (before after : Option R) (read : ℕ) (x : X) (front : Option (List ℕ)) (y : Y)
          → TakesFront remaining tally health c before after read (Ok x) → ReadsFront remaining c before read front
          → ReadsLookUp remaining tally health c name order before after read (Ok y)
      reads_chosen before after read x front y is reads = record {
        reader = reads_onward remaining tally health (max 128 (stated_extent c)) before after read x is.uses.reader (Ok y) tt;
        asks = λ b globs. asks_left health _ before after x y (gives b globs).0 is.uses.asks;
        unread = λ b globs suffice. absurd (true≢false (sym suffice ∙ (gives b globs).0));
        head = is.head;
        exact = λ b within spells.
            read_front remaining c name before order candidates b (gives b (spelled_globs c b within spells)) read front reads
            (spelled_magic c b within spells);
      }
