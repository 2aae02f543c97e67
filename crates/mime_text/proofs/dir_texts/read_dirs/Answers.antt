use Rattle.std.proofs.Common.{◌<◌, arith, length}
use Rattle.std.proofs.lemmas.Result.{err_from_is_err_and}
use Rattle.mime_text.specs.Merging.{plain_dirs}
use Rattle.mime_text.proofs.SaidDirs.{fault_at, say_more}
use Rattle.mime_text.proofs.dir_texts.read_dirs.Goals as goal

pub returns-in_err-read-clause-fault : goal.returns-in_err-read-clause-fault
returns-in_err-read-clause-fault c =
    let within : c.loop-number.number < length c.args.dirs.now = omega arith in
    let e = err_from_is_err_and c.from_residual.result c.from_residual.ensures.1 in
    rw (e.1, e.2) (fault_at c.args.dirs.now c.loop-number.number _ (plain_dirs c.loop-number.files.items) _ within
    c.loop-number.invariant c.in_err-read.ensures.fault)

pub loop-number-preserved : goal.loop-number-preserved
loop-number-preserved c =
    let within : c.loop-number.number < length c.args.dirs.now = omega arith in
    say_more c.args.dirs.now c.loop-number.number _ within c.loop-number.files.items _ c.in_ok-read.read
    c.in_ok-push.ensures.items c.loop-number.invariant c.in_ok-read.ensures.says
