-- Rules whose texts are lent, as plain values.
use Rattle.mime_base.specs.declared.database.lent.LentRule.{LentRule}
use Rattle.mime_base.specs.declared.database.rule.GlobRule.{GlobRule}

-- the plain value of a rule whose texts are lent
abbrev pub plain_rule : LentRule → GlobRule
plain_rule rule = record { weight = rule.weight; kind = rule.kind.now; pattern = rule.pattern.now; cased = rule.cased }
