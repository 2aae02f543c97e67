use Rattle.std.proofs.Common.{ap, ◌∙◌, arith}
use Rattle.mime_names.specs.Index.{PlainIndex}
use Rattle.mime_names.specs.Near.{is_mostly_general}
use Rattle.mime_names.proofs.GeneralLemmas.{mostly-given}
use Rattle.mime_names.proofs.index.NameIndex.is_mostly_general.Goals as goal

pub returns : goal.returns
returns c =
    mostly-given c.self.inside.patterns.items c.self.inside.rules.items c.len.result c.self.inside.general c.self.invariant.own
    (omega (arith, c.len.ensures, c.self.inside.rules.ok.0)) c.self.invariant.counted
    ∙ ap (λ (index : PlainIndex). is_mostly_general index.given) c.self.view_is
