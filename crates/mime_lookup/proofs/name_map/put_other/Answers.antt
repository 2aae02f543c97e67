use Rattle.std.proofs.lemmas.Map.Text.{hash_map_updates_str}
use Rattle.mime_lookup.proofs.name_map.put_other.Goals as goal

pub returns-clause-updates : goal.returns-clause-updates
returns-clause-updates g c = hash_map_updates_str c.args.name.now c.args.others.now c.insert.new.self _ c.in_ok-old.ensures.updates
