-- The walk of `mimelook` over a command and the words after it.
use Rattle.std.proofs.Common.{◌≡◌, ◌∙◌, true, false, List, [], ◌∷◌, ◌++◌, Some, is_some, ap, refl, append_assoc, append-nil}
use Rattle.clap.specs.Walk.{Names, Text, Walk, finished, idle, nothing_held, rows_after, walk, walk_from}
use Rattle.clap.specs.Simple.{Shape, built, entered, names_of, subcommand_of}
use Rattle.clap.specs.Faults.{entered_fault, fault_of, level_fault}
use Rattle.clap.specs.Kinds.{Kinds}
use Rattle.clap.proofs.OnLiterals.{clap_on_literals}
use Rattle.mime_request.specs.CommandLine.{mimelook}
use Rattle.mime_request.specs.Request.{Meaning, meaning_by, meaning_of, subcommand_meaning}
use Rattle.mime_request.proofs.CommandLemmas.Shapes.{Met, build_met, cache_met, check_over, explain_over, icon_over, is_a_over}
use Rattle.mime_request.proofs.CommandLemmas.Shapes.{list_over, name_of, plain_met, shape_of, type_over}
use Rattle.mime_request.proofs.WalkLemmas.Walks.{Steps, Leads, end_fault, ends, goes, no_level_fault, walk_leads}

-- what the program takes before a command
abbrev top : Shape
top = (built mimelook).top

-- the names of the commands
abbrev commands : Names
commands = names_of (built mimelook)

-- the command of this name was met, and these words after it
abbrev at_command : Text → List Text → Walk
at_command name words = record {
  held = nothing_held;
  waiting = idle;
  position = 1;
  is_trailing = false;
  stopped = Some (name, words);
}

-- the name of a command is met
meets : (m : Met) → Steps top commands (walk_from nothing_held) (name_of m) (at_command (name_of m) [])
unfolding clap_on_literals
meets build_met = record { no_fault = refl; moves = refl }
meets plain_met = record { no_fault = refl; moves = refl }
meets (cache_met list_over) = record { no_fault = refl; moves = refl }
meets (cache_met check_over) = record { no_fault = refl; moves = refl }
meets (cache_met explain_over) = record { no_fault = refl; moves = refl }
meets (cache_met is_a_over) = record { no_fault = refl; moves = refl }
meets (cache_met icon_over) = record { no_fault = refl; moves = refl }
meets (cache_met type_over) = record { no_fault = refl; moves = refl }

-- a word after a command is the command's
passes_on : (name : Text) (before : List Text) (word : Text)
    → Steps top commands (at_command name before) word (at_command name (before ++ word ∷ []))
unfolding clap_on_literals
passes_on name before word = record { no_fault = refl; moves = refl }

-- so are all that follow
passes_all : (name : Text) (before words : List Text)
    → Leads top commands (at_command name before) words (at_command name (before ++ words))
passes_all name before [] = rw (append-nil before) (ends (at_command name before))
passes_all name before (word ∷ words) =
    let rest : Leads top commands (at_command name (before ++ word ∷ [])) words (at_command name (before ++ word ∷ words)) =
    rw (append_assoc before (word ∷ []) words) at (passes_all name (before ++ word ∷ []) words) in
    goes _ _ _ word words (passes_on name before word) rest

-- a command's name and its words lead to that command with these words
over_command : (m : Met) (words : List Text)
    → Leads top commands (walk_from nothing_held) (name_of m ∷ words) (at_command (name_of m) words)
over_command m words = goes _ _ _ _ words (meets m) (passes_all (name_of m) [] words)

-- the same of the walk itself
command_walk : (m : Met) (words : List Text)
    → walk top.rules commands nothing_held (name_of m ∷ words) ≡ at_command (name_of m) words
command_walk m words = walk_leads top commands (at_command (name_of m) words) (name_of m ∷ words) (over_command m words)

-- the command's rows are those of its own words
enters : (m : Met) (words : List Text)
    → entered (built mimelook) (Some (name_of m, words)) ≡ Some (name_of m, rows_after (shape_of m).rules [] words)
unfolding clap_on_literals
enters build_met words = refl
enters plain_met words = refl
enters (cache_met list_over) words = refl
enters (cache_met check_over) words = refl
enters (cache_met explain_over) words = refl
enters (cache_met is_a_over) words = refl
enters (cache_met icon_over) words = refl
enters (cache_met type_over) words = refl

-- the fault of a command is that of its own words
command_fault : (m : Met) (words : List Text)
    → entered_fault (built mimelook) (Some (name_of m, words)) ≡ level_fault (shape_of m) [] nothing_held words false []
unfolding clap_on_literals
command_fault build_met words = refl
command_fault plain_met words = refl
command_fault (cache_met list_over) words = refl
command_fault (cache_met check_over) words = refl
command_fault (cache_met explain_over) words = refl
command_fault (cache_met is_a_over) words = refl
command_fault (cache_met icon_over) words = refl
command_fault (cache_met type_over) words = refl

-- the command is entered
is_entered : (m : Met) (words : List Text) → is_some (entered (built mimelook) (Some (name_of m, words))) ≡ true
is_entered m words = ap is_some (enters m words)

-- with a command the program's own words lack nothing
ends_well : (name : Text) (words : List Text) → end_fault top true (at_command name words).held ≡ []
unfolding clap_on_literals
ends_well name words = refl

-- the fault of a walk that ends so
abbrev fault_at : List Text → Walk → Kinds
fault_at words w =
    level_fault top commands nothing_held words (is_some (entered (built mimelook) w.stopped))
    (entered_fault (built mimelook) w.stopped)

-- words that the command takes are no fault
fault_of-met : (m : Met) (words : List Text) → level_fault (shape_of m) [] nothing_held words false [] ≡ []
    → fault_of mimelook (name_of m ∷ words) ≡ []
fault_of-met m words fits =
    let below = entered_fault (built mimelook) (Some (name_of m, words)) in
    let taken : level_fault top commands nothing_held (name_of m ∷ words) true below ≡ [] =
    no_level_fault top commands (at_command (name_of m) words) (name_of m ∷ words) true _ (over_command m words)
    (command_fault m words ∙ fits) (ends_well (name_of m) words) in
    ap (fault_at (name_of m ∷ words)) (command_walk m words)
    ∙ ap (λ t. level_fault top commands nothing_held (name_of m ∷ words) t below) (is_entered m words) ∙ taken

-- what is found is the command and its rows
subcommand_of-met : (m : Met) (words : List Text)
    → subcommand_of mimelook (name_of m ∷ words) ≡ Some (name_of m, rows_after (shape_of m).rules [] words)
subcommand_of-met m words = ap (λ (w : Walk). entered (built mimelook) w.stopped) (command_walk m words) ∙ enters m words

-- a command whose walk ends well means what its rows mean
pub meaning_of-met : (m : Met) (words : List Text) (end : Walk) (x : Meaning)
    → Leads (shape_of m) [] (walk_from nothing_held) words end → end_fault (shape_of m) false end.held ≡ []
    → subcommand_meaning (Some (name_of m, finished (shape_of m).rules end.held)) ≡ x → meaning_of (name_of m ∷ words) ≡ x
unfolding meaning_of
meaning_of-met m words end x way fits is =
    let taken = no_level_fault (shape_of m) [] end words false [] way refl fits in
    let last = ap (λ (w : Walk). subcommand_meaning (Some (name_of m, finished (shape_of m).rules w.held)))
    (walk_leads (shape_of m) [] end words way) in
    ap (λ ks. meaning_by ks (subcommand_of mimelook (name_of m ∷ words))) (fault_of-met m words taken)
    ∙ (ap subcommand_meaning (subcommand_of-met m words) ∙ (last ∙ is))
