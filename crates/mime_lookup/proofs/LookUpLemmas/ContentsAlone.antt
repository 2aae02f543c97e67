-- What a content is sniffed as by itself, or why it isn't, from what the steps give.
use Rattle.std.proofs.Common.{◌≡◌, ◌∙◌, ◌⊎◌, List, ℕ, Option, Result, Ok, Err, ap, inl, inr, refl, sym}
use Rattle.std.specs.Prelude.{IfErr}
use denote.Bor.{Bor}
use Rattle.mime_base.specs.declared.magic.host.Host.{Host}
use Rattle.mime_base.specs.declared.meter.Meter.{Meter}
use Rattle.mime_lookup.specs.Bounds.{KeepsBounds}
use Rattle.mime_lookup.specs.Cached.{cause_of}
use Rattle.mime_lookup.specs.ContentAlone.{IsSniffing, LooksAtFront, SniffsAs, told_content}
use Rattle.mime_lookup.specs.LookUps.{ShowsFault}
use Rattle.mime_lookup.specs.Spelling.{SpellsMagic}
use Rattle.mime_lookup.specs.Spent.{UsesUp}
use Rattle.mime_lookup.specs.StepFaults.{IsSniffingFault}
use Rattle.mime_lookup.specs.Steps.{IsPacked, Stops}
use Rattle.mime_lookup.specs.declared.stopped.Cause.TheVariants as cause
use Rattle.mime_lookup.proofs.StopLemmas.NoMemory.{cause_of-other, other-not_memory, sniffing-other}
use Rattle.mime_lookup.proofs.StopLemmas.OpenFaults.{cause_of-open_fault}
use Rattle.mime_view.specs.declared.fault.CacheFault.{CacheFault}

-- a fault that is not that memory was refused never is that cause, and no read fails
never : {P : Type 0} (e : CacheFault) → cause_of e ≡ cause.Cache e → (cause_of e ≡ cause.OutOfMemory) ⊎ (P × ⊥) → ⊥
never e other (inl memory) =
    let both : cause.Cache e ≡ cause.OutOfMemory = sym other ∙ memory in
    cc
never e other (inr read) = read.1

-- all that is promised, of what the steps give
pub sniffing : (c content : List ℕ) (host : Host) (found : Result (Bor (List ℕ) × Option ℕ) CacheFault) (read : ℕ) (meter : Meter)
    → SniffsAs c content host found → ShowsFault (λ e. e) c (IsSniffingFault c content host) found
    → IfErr found (λ e. Stops (UsesUp c ⊥ meter.nodes) (λ b. SpellsMagic c b × IsPacked c b) (λ _. ⊥) (cause_of e))
    → LooksAtFront c content read found → KeepsBounds 0 c read meter → IsSniffing c content host (told_content found read meter)
sniffing c content host (Ok found) read meter answers faults stops looks bounds = record {
  answer = answers.answer;
  kind = answers.kind;
  opened = faults.opened;
  refused = λ e opens. absurd (faults.refused e opens);
  need = λ b magic packed small. refl;
  fault = tt;
  spent = tt;
  read = looks.exact;
  within = record { looked = looks.looked; head = looks.head; bounds = bounds };
}
sniffing c content host (Err e) read meter answers faults stops looks bounds =
    let other = sniffing-other c content host e faults.fault in
    record {
      answer = λ b magic. tt;
      kind = tt;
      opened = tt;
      refused = λ x opens. ap cause_of (faults.refused x opens) ∙ cause_of-open_fault c x opens;
      need = λ b magic packed small.
          absurd (never e (cause_of-other e other) (stops.need b (magic, record { small = small; packed = packed })));
      fault = (e, cause_of-other e other, other-not_memory e other, faults.fault);
      spent = stops.spent;
      read = tt;
      within = record { looked = looks.looked; head = looks.head; bounds = bounds };
    }
