use Rattle.std.proofs.Common.{ℕ, ◌<◌, ◌≤◌, length, get_or}
use Rattle.mime_base.specs.declared.magic.Section.{Section}
use Rattle.mime_lookup.proofs.short_types.sections_are_short.Given as goal

abbrev pub invariant-loop-section : goal.invariant-loop-section
invariant-loop-section l = (k : ℕ) (d : Section) → k < l.section-index → length (get_or l.sections k d).kind ≤ 255
