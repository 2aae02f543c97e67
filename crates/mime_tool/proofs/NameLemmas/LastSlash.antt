-- What stands after the last slash of a path.
use Rattle.std.proofs.Common.{◌≡◌, ◌∙◌, ◌==◌, ◌+◌, ◌-◌, ◌<◌, ℕ, not, List, None, Some, ap, arith, drop, get_or, length, take, take_all}
use Rattle.std.specs.List.{suffix_len}
use Rattle.std.proofs.lemmas.Bool.{false_from_ne_true}
use Rattle.std.proofs.lemmas.List.{length-drop}
use Rattle.std.proofs.lemmas.List.Sums.{suffix_len_is}
use Rattle.memchr.specs.Find.{IsLastByte, is_byte}
use Rattle.mime_tool.specs.Line.{base_name}

-- after a slash that is the last
pub name_found : (file : List ℕ) (slash : ℕ) → IsLastByte (is_byte 47) file (Some slash) →
    take (length file - (slash + 1)) (drop (slash + 1) file) ≡ base_name file
name_found file slash found =
    let high : slash < length file = found.0.high in
    let here : slash + 1 - 1 ≡ slash = omega arith in
    let size : suffix_len (λ b. not (b == 47)) file ≡ length file - (slash + 1) =
    suffix_len_is (λ b. not (b == 47)) file (slash + 1) 0 (omega (arith, high))
    (λ k after within. ap not (false_from_ne_true _ (λ is. found.0.after k (omega (arith, after)) within is)))
    (λ some. ap (λ n. not (get_or file n 0 == 47)) here ∙ ap not found.1) in
    let start : slash + 1 ≡ length file - suffix_len (λ b. not (b == 47)) file = omega (arith, high, size) in
    take_all (length file - (slash + 1)) (drop (slash + 1) file) (omega (arith, length-drop (slash + 1) file)) ∙ ap (λ n. drop n file) start

-- all of it where there is none
pub name_whole : (file : List ℕ) → IsLastByte (is_byte 47) file None → file ≡ base_name file
name_whole file none =
    let size : suffix_len (λ b. not (b == 47)) file ≡ length file - 0 =
    suffix_len_is (λ b. not (b == 47)) file 0 0 (omega arith)
    (λ k after within. ap not (false_from_ne_true _ (λ is. none k (omega arith) within is)))
    (λ some. absurd (omega (arith, some))) in
    let start : 0 ≡ length file - suffix_len (λ b. not (b == 47)) file = omega (arith, size) in
    ap (λ n. drop n file) start
