use Rattle.mime_base.proofs.CacheLemmas.Standing.{Stands-appended, Stands-inside, Stands-more}
use Rattle.mime_base.proofs.cache.byte_laws.appended_stands.Goals as goal

pub returns : goal.returns
returns c = record { appended = Stands-appended; stays = Stands-more; inside = Stands-inside }
