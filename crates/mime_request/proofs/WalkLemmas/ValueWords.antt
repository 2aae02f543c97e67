-- A word that is the value of an option, or of a positional.
use Rattle.std.proofs.Common.{◌≡◌, ℕ, false, List, [], ◌∷◌, Option, Some, nat_lt, refl}
use Rattle.clap.specs.Walk.{Row, Rule, Text, arg_by_id, arg_by_index, idle, most_values, pending_count, to_positional}
use Rattle.clap.specs.Faults.{positional_fault}
use Rattle.clap.specs.Simple.{Shape}
use Rattle.clap.proofs.OnLiterals.{clap_on_literals}
use Rattle.mime_request.proofs.WalkLemmas.PlainWords.{IsPlainWord}
use Rattle.mime_request.proofs.WalkLemmas.Walks.{Steps, after_value, at_position, before_value}

-- the option that waits takes the word, and no more than that
pub value_taken : (s : Shape) (id : Text) (a : Rule) (rows : List Row) (word : Text) → arg_by_id s.rules id ≡ Some a
    → nat_lt (pending_count a (Some (id, word ∷ []))) (most_values a) ≡ false → IsPlainWord word
    → Steps s [] (before_value id rows) word (after_value id rows word)
unfolding clap_on_literals
value_taken s id a rows word is one h = record {
  no_fault = rw (h.no_dashes, h.no_long, h.no_short) refl;
  moves = rw (h.no_dashes, h.no_long, h.no_short, is, one) refl;
}

-- the positional whose turn it is takes the word, once what is pending is settled
pub positional_takes : (s : Shape) (a : Rule) (position : ℕ) (rows : List Row) (pending : Option (Text × List Text)) (word : Text)
    → arg_by_index s.rules position ≡ Some a
    → positional_fault s.rules s.args_override_self a (at_position position rows pending idle).held ≡ [] → IsPlainWord word
    → Steps s [] (at_position position rows pending idle) word
    (to_positional s.rules (Some a) word (at_position position rows pending idle) (at_position position rows pending idle).held)
unfolding clap_on_literals
positional_takes s a position rows pending word is free h = record {
  no_fault = rw (h.no_dashes, h.no_long, h.no_short, is) free;
  moves = rw (h.no_dashes, h.no_long, h.no_short, is) refl;
}
