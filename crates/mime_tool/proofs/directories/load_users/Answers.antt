use Rattle.std.proofs.Common.{option_map}
use Rattle.mime_tool.proofs.RunLemmas.Commands.{users_unknown}
use Rattle.mime_tool.proofs.directories.load_users.Goals as goal

pub returns-in-None : goal.returns-in-None
returns-in-None g c = rw c.in-None.is (users_unknown _ (option_map (λ s. s.now) c.args.kept) _ c.not_text.ensures)
