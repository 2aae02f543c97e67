use Rattle.std.proofs.Common.{◌-◌, length}
use Rattle.mime_text.proofs.merging.hidden.+least_weight.Given as goal

-- how many bytes are left
abbrev pub decreases-least_weight : goal.decreases-least_weight
decreases-least_weight l = length l.text.now - l.place
