use Rattle.std.proofs.Common.{arith, refl}
use Rattle.mime_load.proofs.SetEntries.{sets_below}
use Rattle.mime_load.proofs.lines.set_below.Goals as goal

pub returns : goal.returns
returns c =
    sets_below c.args.place c.args.lines.now.items _ c.index_mut.result.now _ c.index_mut.ensures.value refl refl
    (omega (arith, c.len.ensures, c.args.lines.now.ok.0))
