-- What a lookup says of a reader, where the reader is bytes.
use Rattle.std.proofs.Common.{◌≡◌, List, ℕ, Option, None, Some, Result, Ok, Err, refl}
use Rattle.std.specs.Prelude.{◌≢◌, IfErr}
use denote.Bor.{Bor}
use Rattle.mime_lookup.specs.Content.{OfReader, sound}
use Rattle.mime_lookup.specs.LookUps.{cause_in}
use Rattle.mime_lookup.specs.declared.answer.Answer.{Answer}
use Rattle.mime_lookup.specs.declared.stopped.Cause.TheVariants as cause
use Rattle.mime_lookup.specs.declared.stopped.Stopped.{Stopped}

-- bytes are no reader whose reads fail
unread : (before after : Option (Bor (List ℕ))) → OfReader (λ (b a : Bor (List ℕ)). sound ≢ sound) ⊥ before after → ⊥
unread None None is = is
unread None (Some after) is = is
unread (Some before) None is = is
unread (Some before) (Some after) is = is refl

-- so no read of them fails
pub never_read : (before after : Option (Bor (List ℕ))) (result : Result Answer Stopped) → IfErr (cause_in result)
    (λ stop. stop ≡ cause.Read → OfReader (λ (b a : Bor (List ℕ)). sound ≢ sound) ⊥ before after) →
    IfErr result (λ stopped. stopped.cause ≢ cause.Read)
never_read before after (Ok answer) is = tt
never_read before after (Err stopped) is = λ read. unread before after (is read)
