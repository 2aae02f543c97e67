-- An indent that has a fault by the table fails so.
use Rattle.std.proofs.Common.{◌≡◌, ℕ, ◌<◌, ◌≤◌, true, eqb, ltb, List, [], ◌∷◌, length, Ok, Err, ap, ◌∙◌, arith}
use Rattle.std.specs.Prelude.{◌≢◌}
use Rattle.std.proofs.lemmas.Bool.{lt-ltb, le-ltb, ne_eqb, cond-true, cond-false}
use Rattle.mime_text.specs.declared.magic.fault.Fault.{Fault}
use Rattle.mime_text.specs.declared.magic.fault.MagicFaultKind.TheVariants.{BadIndent, TooDeep}
use Rattle.mime_text.specs.Magic.Reading.{◌>>=◌, fault_at, is_digit, number_at, byte_at, indent_at, line_at}
use Rattle.mime_text.specs.Magic.Text.{IsNumber}
use Rattle.mime_text.specs.Magic.FaultTable.{IsEnded, IsIndented}
use Rattle.mime_text.proofs.MagicLemmas.PartsOnly.{indent_only, digit_range}
use Rattle.mime_text.proofs.FaultLemmas.FaultSteps.{bind_fails, bind_to}
use Rattle.mime_text.proofs.FaultLemmas.FaultNumbers.{number_ended}
use Rattle.mime_text.proofs.FaultLemmas.FaultStarts.{StartsDigit}

-- digits at the front are an indent
digits_indent : (b : ℕ) (bytes : List ℕ) → is_digit b ≡ true
    → indent_at (b ∷ bytes)
    ≡ (number_at (b ∷ bytes) >>= λ n. byte_at 62 (fault_at BadIndent (length (b ∷ bytes))) n.1 >>= λ rest. Ok (n.0, rest))
unfolding indent_at
digits_indent b bytes digit = let r = digit_range b digit in cond-false (eqb b 62) _ _ (ne_eqb b 62 (λ e. absurd (omega (arith, r.1, e))))

-- a number at the front that fails
pub front_number : (limit : ℕ) (line : List ℕ) (f : Fault) → StartsDigit line → number_at line ≡ Err f → line_at limit line ≡ Err f
unfolding line_at
front_number limit [] f starts e = absurd starts
front_number limit (b ∷ bytes) f starts e =
    bind_fails (indent_at (b ∷ bytes)) _ f (digits_indent b bytes starts ∙ bind_fails (number_at (b ∷ bytes)) _ f e)

-- a number at the front with another byte after it than `>`
pub front_unmarked : (limit : ℕ) (line text : List ℕ) (n next : ℕ) → StartsDigit line → IsNumber text n → IsEnded text next line
    → next ≢ 62 → line_at limit line ≡ Err (fault_at BadIndent (length line))
unfolding line_at byte_at
front_unmarked limit [] text n next starts is ended other = absurd starts
front_unmarked limit (b ∷ bytes) text n next starts is ended other =
    let wrong : Fault = fault_at BadIndent (length (b ∷ bytes)) in
    bind_fails (indent_at (b ∷ bytes)) _ wrong
    (digits_indent b bytes starts ∙ bind_to (number_at (b ∷ bytes)) (n, next ∷ ended.after) _ (Err wrong)
    (number_ended (b ∷ bytes) text n next is ended)
    (bind_fails (byte_at 62 wrong (next ∷ ended.after)) _ wrong (cond-false (eqb next 62) _ _ (ne_eqb next 62 other))))

-- an indent above the limit
pub front_far : (limit depth : ℕ) (line : List ℕ) → IsIndented depth line → limit < depth
    → line_at limit line ≡ Err (fault_at BadIndent (length line))
unfolding line_at
front_far limit depth line i far =
    bind_to (indent_at line) (depth, i.after) _ _ (ap indent_at i.whole ∙ indent_only i.indent depth i.after i.indent_is)
    (cond-true (ltb limit depth) _ _ (lt-ltb _ _ far))

-- an indent of 64
pub front_deep : (limit : ℕ) (line : List ℕ) → IsIndented 64 line → 64 ≤ limit → line_at limit line ≡ Err (fault_at TooDeep (length line))
unfolding line_at
front_deep limit line i near =
    bind_to (indent_at line) (64, i.after) _ _ (ap indent_at i.whole ∙ indent_only i.indent 64 i.after i.indent_is)
    (cond-false (ltb limit 64) _ _ (le-ltb _ _ near))
