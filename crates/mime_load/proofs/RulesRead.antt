-- Rules that stand are read: what their records say.
use Rattle.std.proofs.Common.{◌≡◌, ℕ, ◌+◌, ◌*◌, ◌≤◌, List, [], ◌∷◌, length, get_or, ap, sym, subst, ◌∙◌, arith}
use Rattle.mime_base.specs.Cache.Bytes.{Stands}
use Rattle.mime_base.specs.Format.Records.{CardsAt, TextAt}
use Rattle.mime_base.specs.Format.Rules.{IsRule}
use Rattle.mime_base.specs.Format.Stored.{stored_text, weight_and_flags}
use Rattle.mime_base.specs.declared.database.rule.GlobRule.{GlobRule}
use Rattle.mime_load.specs.Parts.{RecordAt}
use Rattle.mime_load.proofs.NextRecords.{same_text}
use Rattle.mime_load.proofs.SameLemmas.{numbers_inside, same_numbers}

-- a rule has three numbers
pub rule_long : (c : List ℕ) (rule : GlobRule) (numbers : List ℕ) → IsRule (Stands c) rule numbers → 4 * length numbers ≡ 12
rule_long c rule numbers is = omega (arith, ap (λ (ns : List ℕ). length ns) is.2)

-- its record lies in the cache
pub rule_inside : (c : List ℕ) (at : ℕ) (rule : GlobRule) → RecordAt (Stands c) (IsRule (Stands c)) at rule → at + 12 ≤ length c
rule_inside c at rule stands =
    omega (arith, numbers_inside c at stands.numbers stands.cards, rule_long c rule stands.numbers stands.is)

-- What is read of the record of a rule.
pub record ReadsRule (c numbers : List ℕ) (rule : GlobRule) : Type 0 where
  pub text : TextAt (Stands c) (get_or numbers 0 0) (stored_text rule)
  pub kind : TextAt (Stands c) (get_or numbers 1 0) rule.kind
  pub flags : get_or numbers 2 0 ≡ weight_and_flags rule

-- it is read
pub rule_read : (c : List ℕ) (at : ℕ) (numbers : List ℕ) (rule : GlobRule) → length numbers ≡ 3 → CardsAt (Stands c) at numbers
    → RecordAt (Stands c) (IsRule (Stands c)) at rule → ReadsRule c numbers rule
rule_read c at numbers rule long cards stands =
    let size : length numbers ≡ length stands.numbers = long ∙ sym (ap (λ (ns : List ℕ). length ns) stands.is.2) in
    let e : numbers ≡ stands.is.0 ∷ stands.is.1 ∷ weight_and_flags rule ∷ [] =
    same_numbers c at numbers stands.numbers size cards stands.cards ∙ stands.is.2 in
    record {
      text = subst (λ (k : ℕ). TextAt (Stands c) k (stored_text rule)) (sym (ap (λ (ns : List ℕ). get_or ns 0 0) e)) stands.is.3;
      kind = subst (λ (k : ℕ). TextAt (Stands c) k rule.kind) (sym (ap (λ (ns : List ℕ). get_or ns 1 0) e)) stands.is.4;
      flags = ap (λ (ns : List ℕ). get_or ns 2 0) e;
    }

-- the stored text is determined by the bytes
pub same_stored : (c : List ℕ) (at : ℕ) (one other : GlobRule) → RecordAt (Stands c) (IsRule (Stands c)) at one
    → RecordAt (Stands c) (IsRule (Stands c)) at other → stored_text one ≡ stored_text other
same_stored c at one other first second =
    let read = rule_read c at first.numbers other (ap (λ (ns : List ℕ). length ns) first.is.2) first.cards second in
    same_text c first.is.0 (get_or first.numbers 0 0) (stored_text one) (stored_text other)
    (sym (ap (λ (ns : List ℕ). get_or ns 0 0) first.is.2)) first.is.3 read.text
