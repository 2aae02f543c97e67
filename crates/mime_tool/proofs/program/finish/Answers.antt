use Rattle.std.proofs.Common.{Option, map, subst, ℕ}
use Rattle.mime_tool.specs.Process.{known_process}
use Rattle.mime_tool.specs.Finish.{Sinks}
use Rattle.mime_tool.specs.Heard.{IsReply, heard_names}
use Rattle.mime_tool.specs.Stop.{TellsStop}
use Rattle.mime_tool.specs.Words.{heard}
use Rattle.mime_tool.proofs.RunLemmas.Endings.{ends_known, finishes_done, finishes_told, handed_on, handed_on_told}
use Rattle.mime_tool.proofs.program.finish.Goals as goal

pub returns-in-Ok-clause-answers : goal.returns-in-Ok-clause-answers
returns-in-Ok-clause-answers g c = λ known.
    let v = known_process g.I.Read.remaining g.I.Content.health c.args.process in
    let writes = g.F.Files.writes c.args.files.now in
    let stored = g.F.Files.tells c.args.files.now in
    let after = g.F.Files.tells c.perform-ended.new.files in
    let m = heard c.args.raws.now (map g.S.AsStr.text c.args.words.now) in
    let a : Sinks = record { out = g.O.Sink.holds c.args.out.now; err = g.E.Sink.holds c.args.err.now } in
    let b : Sinks = record { out = g.O.Sink.holds c.perform-ended.new.out; err = g.E.Sink.holds c.perform-ended.new.err } in
    let ended = c.perform-ended.result in
    let flushed = c.in-Ok.ensures.flushed
    (ends_known (IsReply v writes stored after m) (heard_names v stored m) a b ended c.perform-ended.ensures.ended known) in
    finishes_done (IsReply v writes stored after m) (heard_names v stored m) (g.E.Sink.capacity c.args.err.now) a b (g.O.Sink.holds c.flush_after.new.out)
    (g.O.Sink.flushed c.flush_after.new.out) ended c.in-Ok.status c.perform-ended.ensures.ended c.in-Ok.ensures.kept flushed

pub returns-in-Ok-clause-flushed : goal.returns-in-Ok-clause-flushed
returns-in-Ok-clause-flushed g c = λ known.
    let v = known_process g.I.Read.remaining g.I.Content.health c.args.process in
    let writes = g.F.Files.writes c.args.files.now in
    let stored = g.F.Files.tells c.args.files.now in
    let after = g.F.Files.tells c.perform-ended.new.files in
    let m = heard c.args.raws.now (map g.S.AsStr.text c.args.words.now) in
    let a : Sinks = record { out = g.O.Sink.holds c.args.out.now; err = g.E.Sink.holds c.args.err.now } in
    let b : Sinks = record { out = g.O.Sink.holds c.perform-ended.new.out; err = g.E.Sink.holds c.perform-ended.new.err } in
    let ended = c.perform-ended.result in
    let flushed = c.in-Ok.ensures.flushed
    (ends_known (IsReply v writes stored after m) (heard_names v stored m) a b ended c.perform-ended.ensures.ended known) in
    handed_on (g.O.Sink.flushed c.flush_after.new.out) ended c.in-Ok.status c.in-Ok.status flushed

pub returns-in-Err-clause-answers : goal.returns-in-Err-clause-answers
returns-in-Err-clause-answers g c = λ known.
    let v = known_process g.I.Read.remaining g.I.Content.health c.args.process in
    let writes = g.F.Files.writes c.args.files.now in
    let stored = g.F.Files.tells c.args.files.now in
    let after = g.F.Files.tells c.perform-ended.new.files in
    let m = heard c.args.raws.now (map g.S.AsStr.text c.args.words.now) in
    let a : Sinks = record { out = g.O.Sink.holds c.args.out.now; err = g.E.Sink.holds c.args.err.now } in
    let b : Sinks = record { out = g.O.Sink.holds c.perform-ended.new.out; err = g.E.Sink.holds c.perform-ended.new.err } in
    let o = g.O.Sink.holds c.flush_after.new.out in
    let ended = c.perform-ended.result in
    let flushed = c.in-Err.ensures.flushed
    (ends_known (IsReply v writes stored after m) (heard_names v stored m) a b ended c.perform-ended.ensures.ended known) in
    let e = g.E.Sink.holds c.tell.new.err in
    let told = subst (λ (capacity : Option ℕ). TellsStop c.in-Err.stop capacity b.err e c.tell.result)
    c.perform-ended.ensures.capacity c.tell.ensures in
    finishes_told (IsReply v writes stored after m) (heard_names v stored m) (g.E.Sink.capacity c.args.err.now) a b o e
    (g.O.Sink.flushed c.flush_after.new.out) ended c.in-Err.stop c.tell.result c.perform-ended.ensures.ended known
    c.in-Err.ensures.kept flushed told

pub returns-in-Err-clause-flushed : goal.returns-in-Err-clause-flushed
returns-in-Err-clause-flushed g c = λ known.
    let v = known_process g.I.Read.remaining g.I.Content.health c.args.process in
    let writes = g.F.Files.writes c.args.files.now in
    let stored = g.F.Files.tells c.args.files.now in
    let after = g.F.Files.tells c.perform-ended.new.files in
    let m = heard c.args.raws.now (map g.S.AsStr.text c.args.words.now) in
    let a : Sinks = record { out = g.O.Sink.holds c.args.out.now; err = g.E.Sink.holds c.args.err.now } in
    let b : Sinks = record { out = g.O.Sink.holds c.perform-ended.new.out; err = g.E.Sink.holds c.perform-ended.new.err } in
    let ended = c.perform-ended.result in
    let flushed = c.in-Err.ensures.flushed
    (ends_known (IsReply v writes stored after m) (heard_names v stored m) a b ended c.perform-ended.ensures.ended known) in
    handed_on_told (g.O.Sink.flushed c.flush_after.new.out) ended c.in-Err.stop _ b.err
    (g.E.Sink.holds c.tell.new.err) c.tell.result flushed
    c.tell.ensures
