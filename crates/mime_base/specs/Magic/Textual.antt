-- Whether a content looks like text.
use Rattle.std.specs.Prelude.{◌≡◌, refl, ℕ, Bool, true, false, not, ◌&&◌, ◌==◌, nat_lt, List, [], ◌∷◌, ◌++◌, take, replicate}
use Rattle.std.specs.List.{list_any}

-- below 32, and no tab (9), newline (10) or carriage return (13)
abbrev pub is_control : ℕ → Bool
is_control b = nat_lt b 32 && not (b == 9) && not (b == 10) && not (b == 13)

-- no control byte is among the first 128
unfoldable pub looks_textual : List ℕ → Bool
looks_textual content = not (list_any is_control (take 128 content))

zero_at_127 : looks_textual (replicate 127 97 ++ 0 ∷ []) ≡ false
unfolding looks_textual
zero_at_127 = refl

zero_at_128 : looks_textual (replicate 128 97 ++ 0 ∷ []) ≡ true
unfolding looks_textual
zero_at_128 = refl

line_ends : looks_textual (9 ∷ 10 ∷ 13 ∷ 32 ∷ 255 ∷ []) ≡ true
unfolding looks_textual
line_ends = refl
