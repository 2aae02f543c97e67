-- Worked rows of the types at some places, which compute.
use Rattle.std.specs.Prelude.{◌≡◌, ℕ, false, refl, List, [], ◌∷◌}
use Rattle.std.specs.Borrow.{Bor}
use Rattle.mime_base.specs.declared.kept.class.Class.TheVariants.{Literal}
use Rattle.mime_names.specs.Leading.{kinds_at}
use Rattle.mime_names.specs.declared.indexed_rule.IndexedRule.{IndexedRule}
use Rattle.mime_names.specs.declared.pattern_text.PatternText.TheVariants.{Stored}

module _ (own : Bor (List ℕ)) (a b : Bor (List ℕ)) where
  -- a rule that gives a type
  abbrev rule : Bor (List ℕ) → IndexedRule
  rule kind = record { kind = kind; own_kind = own; pattern = Stored 0 0; rank = 0; weight = 50; cased = false; class = Literal; repeats = false }

  -- each place gives its rule's type, in the order of the places
  in_order : kinds_at (rule a ∷ rule b ∷ rule a ∷ []) (1 ∷ 0 ∷ []) ≡ b ∷ a ∷ []
  in_order = refl

  -- a place past the rules gives none
  past_rules : kinds_at (rule a ∷ rule b ∷ []) (2 ∷ 1 ∷ []) ≡ b ∷ []
  past_rules = refl

  -- no places give none
  no_places : kinds_at (rule a ∷ rule b ∷ []) [] ≡ []
  no_places = refl
