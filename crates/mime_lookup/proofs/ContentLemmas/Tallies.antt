-- Tallies after reads, one after another.
use Rattle.std.proofs.Common.{◌≡◌, ℕ, ◌+◌, Option, None, Some, ap, ◌∙◌, arith}
use Rattle.mime_lookup.specs.Content.{Interrupts, Tally}

-- that many were interrupted, and then that many
pub interrupts-trans : (a b c : Option Tally) (m n all : ℕ) → all ≡ m + n → Interrupts a b m → Interrupts b c n → Interrupts a c all
interrupts-trans None b c m n all is first second = tt
interrupts-trans (Some a) None c m n all is first second = absurd first
interrupts-trans (Some a) (Some b) None m n all is first second = absurd second
interrupts-trans (Some a) (Some b) (Some c) m n all is first second =
    let sum : a.interrupted + m + n ≡ a.interrupted + all = omega arith in
    second
    ∙ ap (λ (t : Tally). record t { interrupted = t.interrupted + n }) first
    ∙ ap (λ (k : ℕ). record a { interrupted = k }) sum
