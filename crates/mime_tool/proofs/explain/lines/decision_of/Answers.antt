use Rattle.std.proofs.Common.{◌∙◌, ap}
use Rattle.mime_lookup.specs.Choice.{candidates, kept}
use Rattle.mime_tool.specs.ExplainSteps.{bytes_of, database_of, kinds_of}
use Rattle.mime_tool.proofs.ExplainLemmas.Matching.{kinds-plain}
use Rattle.mime_tool.proofs.ExplainLemmas.Sections.{is_some-bytes}
use Rattle.mime_tool.proofs.explain.lines.decision_of.Goals as goal

pub returns : goal.returns
unfolding kept candidates
returns c = λ name matches.
    let it = c.args.explaining in
    let b = database_of it in
    c.decide.ensures name (bytes_of c.args.front) (record {
      kept = ap kinds_of c.as_slice-3.ensures.value
          ∙ (rw (c.as_slice.ensures.value, c.as_slice-aliases.ensures.value) at c.in_ok-kept.ensures ∙ kinds-plain b.aliases _ _ matches.0);
      candidates = ap kinds_of c.as_slice-4.ensures.value
          ∙ (rw (c.as_slice-2.ensures.value, c.as_slice-aliases.ensures.value) at c.in_ok-candidates.ensures ∙ kinds-plain b.aliases _ _ matches.1);
      priority = rw c.requires.section at c.priority_of.ensures;
      sniffed = c.sniffed_as.ensures.sniffed;
      is_read = c.is_some.ensures ∙ is_some-bytes c.args.front;
    })
