use Rattle.std.proofs.Common.{List, ℕ, length, ◌<◌, arith}
use Rattle.std.proofs.lemmas.Bool.{eqb-false}
use Rattle.std.proofs.lemmas.Result.{IfOk-weaker}
use denote.Bor.{Bor}
use Rattle.mime_base.specs.Database.{pairs_of}
use Rattle.mime_lookup.proofs.OrderLemmas.Choices.{chooses-from_first}
use Rattle.mime_lookup.proofs.checking.choose.Goals as goal

pub returns-clause-chosen : goal.returns-clause-chosen
returns-clause-chosen g c =
    let some : 0 < length c.args.kinds.now = grind (arith, eqb-false) in
    IfOk-weaker c.first_of.result _ _
    (λ kind first. chooses-from_first (pairs_of (g.A.Asked.plain c.args.database.now))
    (λ (text : Bor (List ℕ)). text.now) c.args.sniffed.now c.args.kinds.now kind.now _ some first)
    c.first_of.ensures.first
