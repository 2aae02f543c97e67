use Rattle.std.proofs.Common.{◌∙◌, ℕ, List, ⊎_elim, subst, sym}
use Rattle.mime_c.specs.Merge.{IsCacheOfDirs}
use Rattle.mime_c.specs.OpenDirectories.{open_now, refused}
use Rattle.mime_c.specs.declared.merge.MergeFault.TheVariants.{OutOfMemory}
use Rattle.mime_c.proofs.database.directories.open_directories.Goals as goal

pub returns-in-Ok-clause-opened : goal.returns-in-Ok-clause-opened
returns-in-Ok-clause-opened c =
    let made = subst (λ (cache : List ℕ). IsCacheOfDirs c.args.directories.now cache) (sym c.leak.ensures.value) c.in-Ok.ensures in
    ⊎_elim (λ is. open_now c.leak.result.now made is.0 is.1 is.2) (λ is. refused OutOfMemory tt is.0 is.1) c.open_made.ensures.opened

pub returns-in-Err-clause-opened : goal.returns-in-Err-clause-opened
returns-in-Err-clause-opened c =
    refused c.in-Err.fault c.in-Err.ensures c.not_open.ensures.opened (c.not_open.ensures.report ∙ c.merge_fault_report.ensures)
