-- Patterns of rules: each is lent by itself, or stands in a text.
use Rattle.std.specs.Prelude.{ℕ, ◌+◌, ◌≤◌, ⊤, List, length, take, drop}
use Rattle.mime_names.specs.declared.pattern_text.PatternText.{PatternText}
use Rattle.mime_names.specs.declared.pattern_text.PatternText.TheVariants.{Lent, Stored}

-- a pattern's bytes, where those that stand in a text stand in this one
abbrev pub pattern_in : List ℕ → PatternText → List ℕ
pattern_in patterns (Lent pattern) = pattern.now
pattern_in patterns (Stored start size) = take size (drop start patterns)

-- one that stands in the text ends within it
abbrev pub IsWithin : List ℕ → PatternText → Type 0
IsWithin patterns (Lent pattern) = ⊤
IsWithin patterns (Stored start size) = start + size ≤ length patterns
