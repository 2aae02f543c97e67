use Rattle.std.proofs.Common.{refl}
use Rattle.mime_request.proofs.MeaningLemmas.DirectoryParts.{parts-append, parts-path}
use Rattle.mime_request.proofs.spelling.directories.parts_of_directories.Goals as goal

pub returns : goal.returns
returns c = record { none = refl; one = parts-path; more = parts-append }
