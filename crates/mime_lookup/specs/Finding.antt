-- What is found in a content, before its alias step.
use Rattle.std.specs.Prelude.{ℕ, nat_le, Bool, true, false, List, Option, None, Some, codes}
use Rattle.mime_base.specs.Database.{PlainDatabase}
use Rattle.mime_base.specs.Database.Subclass.{resolved}
use Rattle.mime_base.specs.Magic.Holds.{first_magic}
use Rattle.mime_base.specs.declared.magic.host.Host.{Host}
use Rattle.mime_lookup.specs.Sniffing.{sniffed_by_bytes}

-- the type and the priority of a section of magic, or a fixed type
pub data PlainFinding : Type 0 where
  by_magic : List ℕ → ℕ → PlainFinding
  fixed : List ℕ → PlainFinding

-- by the first section that holds, else by the bytes alone
abbrev pub found_by : Option (List ℕ × ℕ) → List ℕ → PlainFinding
found_by None content = fixed (sniffed_by_bytes content)
found_by (Some section) content = by_magic section.0 section.1

-- what is found in a content
abbrev pub found_in : PlainDatabase → Option (List ℕ) → Host → PlainFinding
found_in b None host = fixed (codes "application/octet-stream")
found_in b (Some content) host = found_by (first_magic b.sections content host) content

-- its type, after one alias step; a fixed type is not resolved
abbrev pub resolved_finding : List (List ℕ × List ℕ) → PlainFinding → List ℕ
resolved_finding aliases (by_magic kind priority) = resolved aliases kind
resolved_finding aliases (fixed kind) = kind

-- whether a section gave it
abbrev pub is_by_magic : PlainFinding → Bool
is_by_magic (by_magic kind priority) = true
is_by_magic (fixed kind) = false

-- whether a section of a priority of 80 or more gave it
abbrev pub is_high : PlainFinding → Bool
is_high (by_magic kind priority) = nat_le 80 priority
is_high (fixed kind) = false

-- the priority of the section that gave it, if one did
abbrev pub priority_of : PlainFinding → Option ℕ
priority_of (by_magic kind priority) = Some priority
priority_of (fixed kind) = None
