use Rattle.std.proofs.Common.{arith, ◌∙◌}
use Rattle.mime_store.proofs.BytesLemmas.Lists.{patch_stands, written_back}
use Rattle.mime_store.proofs.bytes.patch.Goals as goal

pub returns-clause-after : goal.returns-clause-after
returns-clause-after c =
    written_back _ c.args.out.now.items c.overwrite.new.out c.args.out.now.ok.0
    (omega (arith, c.overwrite.auto.out, c.deref_mut.ensures.len)) ∙ (rw c.deref_mut.ensures.value at c.overwrite.ensures.after)

pub returns-clause-stand : goal.returns-clause-stand
returns-clause-stand c =
    patch_stands _ _ c.args.numbers.now c.overwrite.ensures.are
    (written_back _ c.args.out.now.items c.overwrite.new.out c.args.out.now.ok.0
    (omega (arith, c.overwrite.auto.out, c.deref_mut.ensures.len)) ∙ c.overwrite.ensures.after)
