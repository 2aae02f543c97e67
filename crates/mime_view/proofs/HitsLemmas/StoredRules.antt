-- The stored text of a rule has the matches and the rank of its pattern; its weight and flags read back.
use Rattle.std.proofs.Common.{◌≡◌, ℕ, ◌+◌, ◌<◌, ◌%◌, ◌/◌, ◌==◌, Bool, true, false}
use Rattle.std.proofs.Common.{cond, List, [], ◌∷◌, length, refl, ap, ap₂, arith}
use Rattle.std.proofs.lemmas.Bool.Decides.{nat_tests}
use Rattle.std.proofs.lemmas.List.{length-map}
use Rattle.mime_base.specs.Format.Stored.{stored_text, weight_and_flags}
use Rattle.mime_base.specs.Kept.{rank, rank_of_rule}
use Rattle.mime_base.specs.Kept.Classes.{class_of}
use Rattle.mime_base.specs.Matching.Folding.{compared, compared_byte}
use Rattle.mime_base.specs.Matching.Matches.{matches, rule_matches}
use Rattle.mime_base.specs.declared.database.rule.GlobRule.{GlobRule}
use Rattle.mime_base.specs.Matching.Elements.{elements}
use Rattle.mime_base.proofs.KeptLemmas.ByText.{class_of-compared}

-- a byte that was compared is compared as it is
compared_byte-again : (cased : Bool) (b : ℕ) → compared_byte cased (compared_byte cased b) ≡ compared_byte cased b
compared_byte-again true b = refl
compared_byte-again false b = grind (arith, nat_tests)

-- what is folded stays
compared-again : (cased : Bool) (text : List ℕ) → compared cased (compared cased text) ≡ compared cased text
compared-again cased [] = refl
compared-again cased (b ∷ text) = ap₂ (λ (x : ℕ) (xs : List ℕ). x ∷ xs) (compared_byte-again cased b) (compared-again cased text)

-- a name matches the stored text where it matches the pattern
pub rule_matches-stored : (rule : GlobRule) (name : List ℕ)
    → rule_matches (stored_text rule) rule.cased name ≡ rule_matches rule.pattern rule.cased name
unfolding rule_matches
rule_matches-stored rule name =
    ap (λ text. matches (elements text) (compared rule.cased name)) (compared-again rule.cased rule.pattern)

-- the flag reads back
pub cased-stored : (rule : GlobRule) → rule.weight < 256 → (weight_and_flags rule / 256 % 2 == 1) ≡ rule.cased
cased-stored rule light = by_flag rule.cased
  where
    by_flag : (cased : Bool) → (cond cased (rule.weight + 256) rule.weight / 256 % 2 == 1) ≡ cased
    by_flag true = grind (arith, nat_tests)
    by_flag false = grind (arith, nat_tests)

-- the weight reads back
pub weight-stored : (rule : GlobRule) → rule.weight < 256 → weight_and_flags rule % 256 ≡ rule.weight
weight-stored rule light = by_flag rule.cased
  where
    by_flag : (cased : Bool) → cond cased (rule.weight + 256) rule.weight % 256 ≡ rule.weight
    by_flag true = omega arith
    by_flag false = omega arith

-- the rank of a hit is that of its rule
pub rank-stored : (rule : GlobRule) → rule.weight < 256
    → rank (class_of (stored_text rule)) (weight_and_flags rule % 256) (length (stored_text rule))
    (weight_and_flags rule / 256 % 2 == 1) ≡ rank_of_rule rule
rank-stored rule light =
    rw (
      class_of-compared rule.cased rule.pattern,
      weight-stored rule light,
      length-map rule.pattern (compared_byte rule.cased),
      cased-stored rule light,
    ) refl
