use Rattle.std.proofs.Common.{◌≡◌, ◌+◌, ◌++◌, length}
use Rattle.std.specs.List.{filter_map}
use Rattle.mime_text.specs.Lines.{lines, numbers, skipped_of}
use Rattle.mime_text.specs.Lines.File.{as_entry, entries_by, is_malformed, line_by}
use Rattle.mime_text.proofs.lines.file.read_lines.Given as goal

-- what was added, and what the lines that are left add
abbrev pub invariant-loop-line : goal.invariant-loop-line
invariant-loop-line g l =
    let entry_of = g.T.LineEntry.entry_of in
    record {
      entries : l.file.entries.items ++ filter_map (λ line. as_entry (line_by entry_of line)) l.line-iterator ≡ entries_by entry_of l.bytes;
      skipped : l.file.skipped.items ++ numbers (λ line. is_malformed (line_by entry_of line)) (l.number + 1) l.line-iterator
          ≡ skipped_of (λ line. is_malformed (line_by entry_of line)) l.bytes;
      counted : l.number + length l.line-iterator ≡ length (lines l.bytes);
    }
