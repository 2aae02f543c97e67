-- Ranks of texts are above those of all other rules, so where a text matches no other rule is kept.
use Rattle.std.proofs.Common.{◌≡◌, ℕ, ◌<◌, ◌≤◌, Bool, true, false, cond, List, length, arith}
use Rattle.std.specs.List.{All, filter}
use Rattle.std.proofs.lemmas.List.Elements.{All-weaker}
use Rattle.mime_base.specs.Kept.{FitsRank, of_greatest, rank, rank_of_rule}
use Rattle.mime_base.specs.Kept.Classes.{class_of}
use Rattle.mime_base.specs.declared.database.rule.GlobRule.{GlobRule}
use Rattle.mime_base.specs.declared.kept.class.Class.{Class}
use Rattle.mime_base.specs.declared.kept.class.Class.TheVariants.{Literal, Suffix, Full}
use Rattle.mime_names.specs.Rules.{is_text_rule, of_texts}
use Rattle.mime_names.proofs.PartLemmas.{Parts, of_greatest-part}

-- a flag is at most 1
flag : (b : Bool) → cond b 1 0 ≤ 1
flag true = omega arith
flag false = omega arith

-- ranks of texts are above those of others
rank-parts : (class : Class) (weight length : ℕ) (cased : Bool) → weight < 256 → length < 65536 →
    (of_texts class ≡ true → 33554432 ≤ rank class weight length cased) × (of_texts class ≡ false → rank class weight length cased < 33554432)
unfolding rank
rank-parts Literal weight length cased light short = ((λ is. omega arith), (λ is. absurd cc))
rank-parts Suffix weight length cased light short = ((λ is. omega arith), (λ is. absurd cc))
rank-parts Full weight length cased light short = ((λ is. absurd cc), (λ is. omega (arith, light, short, flag cased)))

-- of hits of which some are texts, those of the greatest rank are those among these
pub greatest-texts : (hits : List GlobRule) → All FitsRank hits → 0 < length (filter is_text_rule hits) →
    of_greatest rank_of_rule hits ≡ of_greatest rank_of_rule (filter is_text_rule hits)
greatest-texts hits fits some =
    of_greatest-part rank_of_rule is_text_rule 33554432 (omega arith) hits
    (All-weaker FitsRank (Parts rank_of_rule is_text_rule 33554432 (omega arith))
    (λ rule is. rank-parts (class_of rule.pattern) rule.weight (length rule.pattern) rule.cased is.0 is.1) hits fits) some
