-- Whatever name a hidden rule matches, a case-sensitive rule matches too and is preferred to it, so the hidden one is not kept.
use Rattle.std.proofs.Common.{◌≡◌, ℕ, suc, ◌+◌, ◌*◌, ◌<◌, ◌≤◌, nat_le, bytes_eq, true, false, not, ◌&&◌}
use Rattle.std.proofs.Common.{List}
use Rattle.std.proofs.Common.{length, sym, ap, ap₂, ◌∙◌, arith}
use Rattle.std.specs.List.{filter, list_any}
use Rattle.std.proofs.Math.Nat.{mul-le-mul_right}
use Rattle.std.proofs.lemmas.Bool.{and_parts, leb-true, not-true, not-false}
use Rattle.std.proofs.lemmas.List.{length-map}
use Rattle.std.proofs.lemmas.List.Elements.{All-contains, All-filter, All-weaker, filter_passes}
use Rattle.std.proofs.lemmas.List.Sums.{AllPass-from_list_all}
use Rattle.std.proofs.lemmas.Slice.Eq.{bytes_eq-Decides}
use Rattle.mime_base.specs.Kept.{earliness, greatest, hits, kept_rules, preferred}
use Rattle.mime_base.specs.Kept.Classes.{class_of}
use Rattle.mime_base.specs.Kept.Hidden.{is_by_text, is_cased_twin, is_hidden, spellings, visible, VisibleIsEnough}
use Rattle.mime_base.specs.Matching.Folding.{compared, compared_byte}
use Rattle.mime_base.specs.Matching.Matches.{rule_matches}
use Rattle.mime_base.specs.declared.database.rule.GlobRule.{GlobRule}
use Rattle.mime_base.proofs.KeptLemmas.{by_case, of_greatest-by_case}
use Rattle.mime_base.proofs.KeptLemmas.Lesser.{All-greatest, filter-swap, greatest-any, of_greatest-filter}
use Rattle.mime_base.proofs.KeptLemmas.Spellings.{fold-spellings}
use Rattle.mime_base.proofs.KeptLemmas.ByText.{class_of-compared, spelling}

-- a case-sensitive rule with a spelling of a rule's pattern, and at least its weight, is preferred to it
twin-preferred : (heavy long : ℕ) (rule twin : GlobRule) → compared false twin.pattern ≡ compared false rule.pattern →
    rule.cased ≡ false → twin.cased ≡ true → rule.weight ≤ twin.weight → by_case heavy long rule < by_case heavy long twin
twin-preferred heavy long rule twin alike uncased cased heavier =
    let class : earliness (class_of twin.pattern) ≡ earliness (class_of rule.pattern) =
    ap earliness (sym (class_of-compared false twin.pattern) ∙ ap class_of alike ∙ class_of-compared false rule.pattern) in
    let size : length twin.pattern ≡ length rule.pattern =
    sym (length-map twin.pattern (compared_byte false)) ∙ ap length alike ∙ length-map rule.pattern (compared_byte false) in
    let first = earliness (class_of rule.pattern) * heavy in
    let grows : (first + rule.weight) * long ≤ (first + twin.weight) * long = mul-le-mul_right long (omega arith) in
    rw (class, size, uncased, cased) (omega (arith, grows))

module _ (rules : List GlobRule) (name : List ℕ) (heavy long : ℕ) where
  -- what is preferred to a hidden rule that matches is a hit
  hidden-less : (rule : GlobRule) → rule_matches rule.pattern rule.cased name ≡ true → not (is_hidden rules rule) ≡ false →
      by_case heavy long rule < greatest (by_case heavy long) (hits rules name)
  unfolding is_hidden
  hidden-less rule found hides =
      let parts = and_parts (not rule.cased && is_by_text (class_of rule.pattern)) _ (not-false _ hides) in
      let plain = and_parts (not rule.cased) (is_by_text (class_of rule.pattern)) parts.0 in
      let uncased : rule.cased ≡ false = not-true rule.cased plain.0 in
      let spelled = spelling rule.pattern name plain.1 (ap (λ cased. rule_matches rule.pattern cased name) (sym uncased) ∙ found) in
      let twins = All-contains (λ text. list_any (is_cased_twin rule.weight text) rules ≡ true) (spellings (compared false rule.pattern))
      spelled.0 (AllPass-from_list_all _ _ parts.1) (fold-spellings rule.pattern spelled.0 spelled.1) in
      greatest-any (by_case heavy long) (by_case heavy long rule) (λ twin. rule_matches twin.pattern twin.cased name)
      (is_cased_twin rule.weight spelled.0) (λ twin is. twin-told rule twin spelled.0 spelled.1 spelled.2 uncased is) rules twins
    where
      twin-told : (rule twin : GlobRule) (text : List ℕ) → compared false text ≡ compared false rule.pattern →
          rule_matches text true name ≡ true → rule.cased ≡ false → is_cased_twin rule.weight text twin ≡ true →
          (rule_matches twin.pattern twin.cased name ≡ true) × (by_case heavy long rule < by_case heavy long twin)
      twin-told rule twin text alike found uncased is =
          let parts = and_parts (twin.cased && bytes_eq twin.pattern text) (nat_le rule.weight twin.weight) is in
          let both = and_parts twin.cased (bytes_eq twin.pattern text) parts.0 in
          let same : twin.pattern ≡ text = (bytes_eq-Decides twin.pattern text).0 both.1 in (
            ap₂ (λ pattern cased. rule_matches pattern cased name) same both.0 ∙ found,
            twin-preferred heavy long rule twin (ap (compared false) same ∙ alike) uncased both.0 (leb-true _ _ parts.1),
          )

-- what is preferred of the visible hits is what is preferred of all
visible-preferred : (rules : List GlobRule) (name : List ℕ) →
    preferred (filter (λ rule. not (is_hidden rules rule)) (hits rules name)) ≡ preferred (hits rules name)
visible-preferred rules name =
    let all = hits rules name in
    let shown = filter (λ rule. not (is_hidden rules rule)) all in
    let heavy = suc (greatest (λ rule. rule.weight) all) in
    let long = suc (greatest (λ rule. length rule.pattern) all) in
    let light = All-greatest (λ rule. rule.weight) all in
    let short = All-greatest (λ rule. length rule.pattern) all in
    let less = All-weaker (λ rule. rule_matches rule.pattern rule.cased name ≡ true)
    (λ rule. not (is_hidden rules rule) ≡ false → by_case heavy long rule < greatest (by_case heavy long) all)
    (hidden-less rules name heavy long) all (filter_passes (λ rule. rule_matches rule.pattern rule.cased name) rules) in
    sym (of_greatest-by_case heavy long shown
    (All-filter (λ rule. not (is_hidden rules rule)) (λ rule. rule.weight < heavy) all light)
    (All-filter (λ rule. not (is_hidden rules rule)) (λ rule. length rule.pattern < long) all short))
    ∙ of_greatest-filter (by_case heavy long) (λ rule. not (is_hidden rules rule)) all less
    ∙ of_greatest-by_case heavy long all light short

-- so the same rules are kept
pub kept_rules-visible : VisibleIsEnough
unfolding kept_rules visible
kept_rules-visible rules name =
    ap preferred (filter-swap (λ rule. rule_matches rule.pattern rule.cased name) (λ rule. not (is_hidden rules rule)) rules)
    ∙ visible-preferred rules name
