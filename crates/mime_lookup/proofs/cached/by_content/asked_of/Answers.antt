use Rattle.std.proofs.Common.{List, ℕ, sym}
use Rattle.std.proofs.lemmas.List.{take-map}
use denote.Bor.{Bor}
use Rattle.mime_lookup.proofs.cached.by_content.asked_of.Goals as goal

pub returns-in-Fixed : goal.returns-in-Fixed
returns-in-Fixed c = rw c.in-Fixed.is (sym (take-map (λ (text : Bor (List ℕ)). text.now) c.args.asked c.args.kinds.now))
