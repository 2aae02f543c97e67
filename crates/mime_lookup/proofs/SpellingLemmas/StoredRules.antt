-- A rule as a cache stores it: with its stored text for its pattern. It matches, ranks and is named like the rule itself.
use Rattle.std.proofs.Common.{◌≡◌, ℕ, ◌<◌, ◌/◌, ◌%◌, ◌==◌, Bool, List, sym, ap, ap₂, ◌∙◌}
use Rattle.std.proofs.lemmas.List.{length-map}
use Rattle.mime_base.specs.Format.Stored.{stored_text, weight_and_flags}
use Rattle.mime_base.specs.Kept.{rank, rank_of_rule}
use Rattle.mime_base.specs.Matching.Folding.{compared_byte}
use Rattle.mime_base.specs.declared.database.rule.GlobRule.{GlobRule}
use Rattle.mime_base.proofs.KeptLemmas.ByText.{class_of-compared}
use Rattle.mime_view.proofs.HitsLemmas.StoredRules.{cased-stored, weight-stored}

-- the rule whose pattern is as it is stored
abbrev pub as_stored : GlobRule → GlobRule
as_stored rule = record { weight = rule.weight; kind = rule.kind; pattern = stored_text rule; cased = rule.cased }

-- it has the rank of the rule
pub rank-as_stored : (rule : GlobRule) → rank_of_rule (as_stored rule) ≡ rank_of_rule rule
rank-as_stored rule =
    ap₂ (λ class size. rank class rule.weight size rule.cased) (class_of-compared rule.cased rule.pattern)
    (length-map rule.pattern (compared_byte rule.cased))

-- what a record and a text say of a rule
pub record IsAlike (one other : GlobRule) : Type 0 where
  pub text : stored_text one ≡ stored_text other
  pub kind : one.kind ≡ other.kind
  pub flags : weight_and_flags one ≡ weight_and_flags other

-- rules of which these are the same are stored as one
pub same_stored : (one other : GlobRule) → one.weight < 256 → other.weight < 256 → IsAlike one other → as_stored one ≡ as_stored other
same_stored one other light light' alike =
    let weight : one.weight ≡ other.weight =
    sym (weight-stored one light) ∙ ap (λ n. n % 256) alike.flags ∙ weight-stored other light' in
    let cased : one.cased ≡ other.cased =
    sym (cased-stored one light) ∙ ap (λ n. n / 256 % 2 == 1) alike.flags ∙ cased-stored other light' in
    stored_by weight alike.kind alike.text cased
  where
    rule_of : ℕ → List ℕ → List ℕ → Bool → GlobRule
    rule_of weight kind pattern cased = record { weight = weight; kind = kind; pattern = pattern; cased = cased }

    stored_by : one.weight ≡ other.weight → one.kind ≡ other.kind → stored_text one ≡ stored_text other → one.cased ≡ other.cased
        → as_stored one ≡ as_stored other
    stored_by weight kind text cased =
        ap (λ w. rule_of w one.kind (stored_text one) one.cased) weight
        ∙ ap (λ k. rule_of other.weight k (stored_text one) one.cased) kind
        ∙ ap (λ t. rule_of other.weight other.kind t one.cased) text
        ∙ ap (λ b. rule_of other.weight other.kind (stored_text other) b) cased
