use Rattle.std.proofs.Common.{subst}
use Rattle.mime_base.specs.Database.{plain_database}
use Rattle.mime_base.specs.declared.database.Database.{Database}
use Rattle.mime_lookup.specs.IconsReadBack.{AreIconsIn}
use Rattle.mime_lookup.proofs.indexed.icons.icon_of_indexed.Goals as goal

pub returns-clause-answer : goal.returns-clause-answer
returns-clause-answer c =
    let are : AreIconsIn c.args.icons.now c.icons.inside.index =
    subst (λ (database : Database). AreIconsIn database c.icons.inside.index) c.icons.view_is c.icons.invariant in
    rw c.bytes.ensures.text at (c.in_ok-icon.ensures (plain_database c.args.icons.now) are.are)
