use Rattle.std.proofs.Common.{◌≡◌}
use Rattle.std.proofs.lemmas.Result.{IfErr-weaker}
use Rattle.mime_load.specs.declared.part.LoadFault.TheVariants as load
use Rattle.mime_load.proofs.UnreadLemmas.{memory_alone}
use Rattle.mime_load.proofs.reading_back.read_back.Goals as goal

pub returns-clause-written : goal.returns-clause-written
returns-clause-written c = λ b limits spelled packed.
    IfErr-weaker c.lists_of-result.result _ (λ e. e ≡ load.OutOfMemory) (memory_alone c.args.counted.now b limits spelled packed)
    c.lists_of-result.ensures.first
