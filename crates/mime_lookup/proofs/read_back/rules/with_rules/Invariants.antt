use Rattle.std.proofs.Common.{take}
use Rattle.mime_load.specs.Lent.{plain_rules}
use Rattle.mime_lookup.specs.ReadBack.{AddsRules}
use Rattle.mime_lookup.proofs.read_back.rules.with_rules.Given as goal

abbrev pub invariant-loop-rule : goal.invariant-loop-rule
invariant-loop-rule l = AddsRules l.targets (plain_rules (take l.rule-index l.listed)) l.initial.rules l.rules
