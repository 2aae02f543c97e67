-- The targets of pairs, kept by their names.
use Rattle.std.specs.Prelude.{◌≡◌, ℕ, List, Option, option_map}
use Rattle.std.specs.Borrow.{Bor}
use Rattle.mime_lookup.specs.NameMap.{value_in}
use Rattle.mime_lookup.specs.declared.name_map.NameMap.{NameMap}
use Rattle.mime_view.specs.Pairs.{looked_up}

-- the target that a map has for a name
abbrev pub named_in : NameMap (Bor (List ℕ)) → List ℕ → Option (List ℕ)
named_in targets name = option_map (λ target. target.now) (value_in targets name)

-- a map has for each name the target of the first pair of the name
abbrev pub AreNamed : List (List ℕ × List ℕ) → NameMap (Bor (List ℕ)) → Type 0
AreNamed pairs targets = (name : List ℕ) → looked_up pairs name ≡ named_in targets name
