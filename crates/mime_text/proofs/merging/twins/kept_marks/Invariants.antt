use Rattle.std.proofs.Common.{◌≡◌, map, take}
use Rattle.mime_text.specs.Merging.TwinKeys.{is_kept}
use Rattle.mime_text.proofs.merging.twins.kept_marks.Given as goal

-- the marks so far
abbrev pub invariant-loop-rule : goal.invariant-loop-rule
invariant-loop-rule l = l.kept.items ≡ map (is_kept l.cased) (take l.rule-index l.rules)
