-- A loop over the rules of a suffix tree, one after the other.
use Rattle.std.proofs.Common.{◌≡◌, ℕ, ◌+◌, ◌<◌, List, [], ◌∷◌, ◌++◌, length, take, sym, ap, ◌∙◌}
use Rattle.std.specs.Prelude.{Some}
use Rattle.std.specs.List.{slice_get}
use Rattle.std.proofs.lemmas.List.{take_more}
use Rattle.std.proofs.lemmas.Option.{get_or_from_slice_get, slice_get_within}
use Rattle.mime_base.specs.declared.database.rule.GlobRule.{GlobRule}

-- while there is a rule, there is one more to go
pub more_left : (rules : List GlobRule) (place : ℕ) (rule : GlobRule) → Some rule ≡ slice_get rules place → place < length rules
more_left rules place rule is = slice_get_within rules place rule (sym is)

-- one rule more
pub one_taken : (rules : List GlobRule) (place : ℕ) (rule : GlobRule) → Some rule ≡ slice_get rules place
    → take (place + 1) rules ≡ take place rules ++ rule ∷ []
one_taken rules place rule is =
    take_more rules place rule (more_left rules place rule is)
    ∙ ap (λ last. take place rules ++ last ∷ []) (get_or_from_slice_get rules place rule rule (sym is))
