-- What the lines of a line file spell, whatever an entry of the file is.
use Rattle.std.specs.Prelude.{ℕ, Bool, true, false, if◌then◌else◌, Option, Some, None, List}
use Rattle.std.specs.List.{filter_map}
use Rattle.mime_text.specs.declared.lines.file.Line.{Line}
use Rattle.mime_text.specs.declared.lines.file.Line.TheVariants.{Spelled, Passed, Malformed}
use Rattle.mime_text.specs.Lines.{is_passed, lines}

module _ {Entry : Type 0} where
  -- a line that is not skipped spells an entry, or is malformed
  abbrev pub spelled_or_malformed : Option Entry → Line Entry
  spelled_or_malformed None = Malformed
  spelled_or_malformed (Some entry) = Spelled entry

  -- what one whole line spells, by the entry that a line of its file spells
  abbrev pub line_by : (List ℕ → Option Entry) → List ℕ → Line Entry
  line_by entry_of line = if is_passed line then Passed else spelled_or_malformed (entry_of line)

  -- the entry that a line spells
  abbrev pub as_entry : Line Entry → Option Entry
  as_entry (Spelled entry) = Some entry
  as_entry _ = None

  -- whether a line is malformed
  abbrev pub is_malformed : Line Entry → Bool
  is_malformed Malformed = true
  is_malformed _ = false

  -- the entries of a text, in the order of their lines
  unfoldable pub entries_by : (List ℕ → Option Entry) → List ℕ → List Entry
  entries_by entry_of text = filter_map (λ line. as_entry (line_by entry_of line)) (lines text)
