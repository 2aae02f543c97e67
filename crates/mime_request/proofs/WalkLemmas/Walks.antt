-- Walks of clap over the words of one command, step by step.
use Rattle.std.proofs.Common.{◌≡◌, ◌∙◌, ℕ, Bool, true, false, List, [], ◌∷◌, Option, Some, None, ap, fold, refl}
use Rattle.clap.specs.Walk.{Held, Names, Row, Rule, Text, Waiting, Walk, finished, idle, nothing_held, option, settled, used}
use Rattle.clap.specs.Walk.{walk, walk_from, walked}
use Rattle.clap.specs.Simple.{Shape, filled, with_index}
use Rattle.clap.specs.Faults.{check_fault, defaults_fault, level_fault, settle_fault, turn_fault, walk_fault}
use Rattle.clap.specs.Kinds.{Kinds, or_else}

-- before the positional of this number, where this is pending and waits
abbrev pub at_position : ℕ → List Row → Option (Text × List Text) → Waiting → Walk
at_position position rows pending waiting = record {
  held = record { rows = rows; pending = pending; skip = 0 };
  waiting = waiting;
  position = position;
  is_trailing = false;
  stopped = None;
}

-- between two options, or before the first positional
abbrev pub between : List Row → Option (Text × List Text) → Waiting → Walk
between = at_position 1

-- before the value of an option, and after it
abbrev pub before_value : Text → List Row → Walk
before_value id rows = between rows (Some (id, [])) (option id)

-- where the words stand after an option's value
abbrev pub after_value : Text → List Row → Text → Walk
after_value id rows value = between rows (Some (id, value ∷ [])) idle

-- the rows after a flag, if it is given
abbrev pub flag_used : Bool → Rule → List Row → List Row
flag_used true rule rows = used (with_index 1 (filled rule)) [] rows
flag_used false rule rows = rows

-- the word leads a command's walk on without a fault
pub record Steps (s : Shape) (names : Names) (here : Walk) (word : Text) (next : Walk) : Type 0 where
  pub no_fault : turn_fault s names here word ≡ []
  pub moves : walked s.rules names here word ≡ next

-- so do the words
pub data Leads (s : Shape) (names : Names) : Walk → List Text → Walk → Type 0 where
  ends : (here : Walk) → Leads s names here [] here
  goes : (here next end : Walk) (word : Text) (words : List Text) → Steps s names here word next → Leads s names next words end
      → Leads s names here (word ∷ words) end

-- words that lead somewhere are walked to there
fold_leads : (s : Shape) (names : Names) (here end : Walk) (words : List Text) → Leads s names here words end
    → fold (walked s.rules names) here words ≡ end
fold_leads s names here _ [] (ends _) = refl
fold_leads s names here end (word ∷ words) (goes _ next _ _ _ step rest) =
    ap (λ (w : Walk). fold (walked s.rules names) w words) step.moves ∙ fold_leads s names next end words rest

-- the same from the start
pub walk_leads : (s : Shape) (names : Names) (end : Walk) (words : List Text) → Leads s names (walk_from nothing_held) words end
    → walk s.rules names nothing_held words ≡ end
walk_leads s names end words way = fold_leads s names (walk_from nothing_held) end words way

-- words that lead somewhere have no fault on the way
no_walk_fault : (s : Shape) (names : Names) (here end : Walk) (words : List Text) → Leads s names here words end
    → walk_fault s names here words ≡ []
unfolding walk_fault
no_walk_fault s names here _ [] (ends _) = refl
no_walk_fault s names here end (word ∷ words) (goes _ next _ _ _ step rest) =
    rw (step.no_fault, step.moves) (no_walk_fault s names next end words rest)

-- where neither has a fault, both together have none
pub neither_fault : (a b : Kinds) → a ≡ [] → b ≡ [] → or_else a b ≡ []
neither_fault a b p q = rw p q

-- what may fail after the last word
abbrev pub end_fault : Shape → Bool → Held → Kinds
end_fault s has_command held = or_else (settle_fault s.rules s.args_override_self held)
    (or_else (defaults_fault (settled s.rules held).rows s.rules) (check_fault s (finished s.rules held) has_command))

-- where words lead to an end without a fault, and nothing below has one, there is none
pub no_level_fault : (s : Shape) (names : Names) (end : Walk) (words : List Text) (has_command : Bool) (below : Kinds)
    → Leads s names (walk_from nothing_held) words end → below ≡ []
    → end_fault s has_command end.held ≡ [] → level_fault s names nothing_held words has_command below ≡ []
no_level_fault s names end words has_command below way none fits =
    neither_fault _ _ (no_walk_fault s names (walk_from nothing_held) end words way)
    (neither_fault _ _ none (ap (λ (w : Walk). end_fault s has_command w.held) (walk_leads s names end words way) ∙ fits))
