use Rattle.mime_store.specs.SuffixTree.{ending_path}
use Rattle.mime_store.proofs.ending.Ending.length.Goals as goal

pub returns-clause-length : goal.returns-clause-length
unfolding ending_path
returns-clause-length c = c.path_length.ensures.length
