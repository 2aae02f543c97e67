use Rattle.mime_tool.proofs.AnswerLemmas.VisibleChoices.{chooses_alike, reads_alike, suffices_alike}
use Rattle.mime_tool.proofs.from_texts.visible_chooses_alike.Goals as goal

pub returns-clause-chooses : goal.returns-clause-chooses
returns-clause-chooses c = chooses_alike

pub returns-clause-suffices : goal.returns-clause-suffices
returns-clause-suffices c = suffices_alike

pub returns-clause-reads : goal.returns-clause-reads
returns-clause-reads c = reads_alike
