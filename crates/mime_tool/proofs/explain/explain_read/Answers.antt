use Rattle.std.proofs.Common.{◌≡◌, Err, inl, inr, subst}
use Rattle.clap.specs.Walk.{texts}
use Rattle.mime_load.specs.Lent.{plain_lists}
use Rattle.mime_tool.specs.Check.{IsNoDatabase, ReadsBack, no_database}
use Rattle.mime_tool.specs.Explain.{IsExplainedBack, IsExplainedOrNot}
use Rattle.mime_tool.specs.Run.{refusal, unanswered}
use Rattle.mime_tool.specs.Words.{names_of}
use Rattle.mime_tool.proofs.ExplainLemmas.Runs.{ends_files}
use Rattle.mime_tool.proofs.RunLemmas.Programs.{ends_weaker}
use Rattle.mime_tool.proofs.explain.explain_read.Goals as goal

pub returns-in-Ok : goal.returns-in-Ok
returns-in-Ok g c =
    let told = c.explain_lists.ensures in
    let stored = (g.D.Desk.state c.args.desk.now).stored in
    let b = plain_lists c.in-Ok.lists in
    record {
      same_files = told.same_files;
      same_setting = told.same_setting;
      sinks = ends_weaker (IsExplainedBack stored c.args.options b) (IsExplainedOrNot stored c.args.options c.args.path.now c.args.bytes.now)
          (names_of c.args.raws.now (texts c.args.files.now)) _ _ _ (λ fs run is. inl (b, rw c.in-Ok.is at c.requires.back, is)) told.sinks;
    }

pub returns-in-Err-NoDatabase : goal.returns-in-Err-NoDatabase
returns-in-Err-NoDatabase g c =
    let told = c.refuse.ensures in
    let stored = (g.D.Desk.state c.args.desk.now).stored in
    let path = c.args.path.now in
    let part = c.in-Err-NoDatabase.part in
    let names = names_of c.args.raws.now (texts c.args.files.now) in
    let no : IsNoDatabase c.args.bytes.now part =
    subst (λ f. ReadsBack c.args.bytes.now (Err f)) (rw c.in-Err-NoDatabase.is at c.in-Err-NoDatabase.field-0-is)
    (rw c.in-Err-NoDatabase.is at c.requires.back) in
    record {
      same_files = told.same_files;
      same_setting = told.same_setting;
      sinks = ends_weaker (λ _ run. run ≡ unanswered (refusal path (no_database part)))
          (IsExplainedOrNot stored c.args.options path c.args.bytes.now) names _ _ _ (λ fs run is. inr (part, no, is))
          (ends_files (λ run. run ≡ unanswered (refusal path (no_database part))) names _ _ _ told.sinks);
    }
