-- The arguments and the commands of a command, added in turn.
use Rattle.std.proofs.Common.{◌≡◌, ◌∙◌, ◌||◌, Bool, true, false, ap}
use Rattle.clap.specs.Simple.{App, with_rule, with_subcommand}
use Rattle.clap.specs.Walk.{Rule}

-- one more argument
pub with_one_more : (a b c : App) (r s : Rule) → c ≡ with_rule b r → b ≡ a → r ≡ s → c ≡ with_rule a s
with_one_more a b c r s added before is = added ∙ (ap (λ (x : App). with_rule x r) before ∙ ap (with_rule a) is)

-- one more command
pub with_one_command : (a b c s t : App) → c ≡ with_subcommand b s.top → b ≡ a → s ≡ t → c ≡ with_subcommand a t.top
with_one_command a b c s t added before is =
    added ∙ (ap (λ (x : App). with_subcommand x s.top) before ∙ ap (λ (x : App). with_subcommand a x.top) is)

-- an argument that isn't global makes nothing global
pub no_more_globals : (old added new : Bool) → new ≡ (old || added) → added ≡ false → new ≡ old
no_more_globals true added new is none = is
no_more_globals false added new is none = is ∙ none
