-- Entries of a literal list or a glob list that stand, and the order of their texts.
use Rattle.std.proofs.Common.{◌≡◌, ℕ, ◌+◌, ◌-◌, ◌*◌, ◌<◌, true, false, List, [], ◌∷◌, length, get_or, refl, ap, ap₂, sym, subst, ◌∙◌, arith, true≢false}
use Rattle.std.specs.List.{All}
use Rattle.std.proofs.lemmas.List.{get_or-map, length-map}
use Rattle.std.specs.List.Sorted.{IsSortedBy}
use Rattle.std.proofs.lemmas.List.Elements.{All-filter, filter_passes}
use Rattle.std.proofs.lemmas.List.Sorted.{All-permutation, length_permutation}
use Rattle.mime_base.specs.Cache.Bytes.{Stands}
use Rattle.mime_base.specs.Database.Lent.{plain_rule}
use Rattle.mime_base.specs.Database.Limits.{KeepsLimits}
use Rattle.mime_base.specs.Format.Records.{CardsAt, ListAt, RecordsAt}
use Rattle.mime_base.specs.Format.Rules.{IsRule}
use Rattle.mime_base.specs.Format.Sorted.{text_lt}
use Rattle.mime_base.specs.Format.Stored.{glob_rules, is_in_globs, is_in_literals, literal_rules, stored_text}
use Rattle.mime_base.specs.declared.database.lent.LentRule.{LentRule}
use Rattle.mime_base.specs.declared.database.rule.GlobRule.{GlobRule}
use Rattle.mime_load.specs.Lent.{plain_rules}
use Rattle.mime_load.specs.Parts.{IsGlobList, IsStoredLiteral, IsLiteralList, RecordAt}
use Rattle.mime_load.proofs.RecordLemmas.{record_at}
use Rattle.mime_load.proofs.RuleLists.{all_kept, stored_before}
use Rattle.mime_load.proofs.SameLemmas.{same_numbers}
use Rattle.mime_load.proofs.RulesRead.{same_stored}

-- a list's count that was read
pub same_count : (c : List ℕ) (at count : ℕ) (entries : List GlobRule) → CardsAt (Stands c) at (count ∷ [])
    → ListAt (Stands c) 12 (IsRule (Stands c)) at entries → count ≡ length entries
same_count c at count entries head list =
    ap (λ (ns : List ℕ). get_or ns 0 0) (same_numbers c at (count ∷ []) (length entries ∷ []) refl head list.count)

-- a rule of no text
abbrev pub no_rule : GlobRule
no_rule = record { weight = 0; kind = []; pattern = []; cased = false }

-- The rule at a place of a list that stands.
pub record EntryThere (c : List ℕ) (there : ℕ) (entries : List GlobRule) (i : ℕ) : Type 0 where
  pub within : i < length entries
  pub stands : RecordAt (Stands c) (IsRule (Stands c)) there (get_or entries i no_rule)

-- it stands there
pub entry_there : (c : List ℕ) (at count i there : ℕ) (entries : List GlobRule) → CardsAt (Stands c) at (count ∷ [])
    → ListAt (Stands c) 12 (IsRule (Stands c)) at entries → i < count → at + 4 + 12 * i ≡ there → EntryThere c there entries i
entry_there c at count i there entries head list low place =
    let within : i < length entries = omega (arith, low, same_count c at count entries head list) in
    record {
      within = within;
      stands = record_at (Stands c) 12 (IsRule (Stands c)) (at + 4) i there entries no_rule within place list.records;
    }

module _ (c : List ℕ) (at : ℕ) (rules : List GlobRule) (list : IsLiteralList c at rules) where
  -- the entries of a literal list are as many as its rules
  pub literals_count : length list.stand.entries ≡ length rules
  literals_count =
      length_permutation (literal_rules rules) list.stand.entries list.stand.sorted.permuted
      ∙ ap (λ (xs : List GlobRule). length xs) (all_kept is_in_literals rules list.literals)

  -- each is a literal
  pub entries_literal : All (λ rule. is_in_literals rule ≡ true) list.stand.entries
  entries_literal =
      All-permutation (λ rule. is_in_literals rule ≡ true) (literal_rules rules) list.stand.entries list.stand.sorted.permuted
      (filter_passes is_in_literals rules)

  -- each keeps its limits
  pub entries_limits : All KeepsLimits list.stand.entries
  entries_limits =
      All-permutation KeepsLimits (literal_rules rules) list.stand.entries list.stand.sorted.permuted
      (All-filter is_in_literals KeepsLimits rules list.limits)

-- literal lists at one offset have as many rules
pub same_literals_count : (c : List ℕ) (at : ℕ) (rules others : List GlobRule) → IsLiteralList c at rules → IsLiteralList c at others
    → length rules ≡ length others
same_literals_count c at rules others one other =
    sym (literals_count c at rules one)
    ∙ same_count c at (length one.stand.entries) other.stand.entries one.stand.stand.count other.stand.stand
    ∙ literals_count c at others other

-- so have glob lists
pub same_globs_count : (c : List ℕ) (at : ℕ) (rules others : List GlobRule) → IsGlobList c at rules → IsGlobList c at others
    → length rules ≡ length others
same_globs_count c at rules others one other =
    sym (ap (λ (xs : List GlobRule). length xs) (all_kept is_in_globs rules one.globs))
    ∙ same_count c at (length (glob_rules rules)) (glob_rules others) one.stand.count other.stand
    ∙ ap (λ (xs : List GlobRule). length xs) (all_kept is_in_globs others other.globs)

-- rules that were read, and the next of a sorted list: it is not before the last of them
module _ (c : List ℕ) (at : ℕ) (entries : List GlobRule) (list : ListAt (Stands c) 12 (IsRule (Stands c)) at entries)
    (sorted : IsSortedBy stored_before entries) (items : List LentRule) (rule : LentRule)
    (stand : RecordsAt (Stands c) 12 (IsRule (Stands c)) (at + 4) (plain_rules items)) (fit : All IsStoredLiteral (plain_rules items))
    (some : 0 < length items) (within : length items < length entries) where
  -- the last of them is the entry before the next
  last_text : (get_or items (length items - 1) rule).pattern.now ≡ stored_text (get_or entries (length items - 1) no_rule)
  last_text =
      let size = length-map items plain_rule in
      let low : length items - 1 < length (plain_rules items) = omega (arith, size, some) in
      let here : get_or (plain_rules items) (length items - 1) no_rule ≡ plain_rule (get_or items (length items - 1) rule) =
      get_or-map plain_rule items (length items - 1) rule no_rule (omega (arith, some)) in
      let read = record_at (Stands c) 12 (IsRule (Stands c)) (at + 4) (length items - 1) (at + 4 + 12 * (length items - 1))
      (plain_rules items)
      no_rule low refl stand in
      let entry = record_at (Stands c) 12 (IsRule (Stands c)) (at + 4) (length items - 1) (at + 4 + 12 * (length items - 1)) entries
      no_rule (omega (arith, some, within)) refl list.records in
      ap (λ (r : GlobRule). r.pattern) (sym here)
      ∙ sym (fit (length items - 1) no_rule low).0
      ∙ same_stored c (at + 4 + 12 * (length items - 1)) (get_or (plain_rules items) (length items - 1) no_rule)
      (get_or entries (length items - 1) no_rule) read entry

  -- so the next is not before it
  pub rules_rise : stored_text (plain_rule rule) ≡ rule.pattern.now
      → stored_text (plain_rule rule) ≡ stored_text (get_or entries (length items) no_rule)
      → text_lt rule.pattern.now (get_or items (length items - 1) rule).pattern.now ≡ true → ⊥
  rules_rise stored same falls =
      let next : get_or entries (length items - 1 + 1) no_rule ≡ get_or entries (length items) no_rule =
      ap (λ (k : ℕ). get_or entries k no_rule) (omega (arith, some)) in
      let order : text_lt (stored_text (get_or entries (length items) no_rule)) (stored_text (get_or entries (length items - 1) no_rule))
      ≡ false =
      subst (λ (r : GlobRule). text_lt (stored_text r) (stored_text (get_or entries (length items - 1) no_rule)) ≡ false) next
      (sorted (length items - 1) no_rule (omega arith) (omega (arith, some, within))) in
      let less : text_lt (stored_text (get_or entries (length items) no_rule)) (stored_text (get_or entries (length items - 1) no_rule))
      ≡ true =
      ap₂ text_lt (sym same ∙ stored) (sym last_text) ∙ falls in
      true≢false (sym less ∙ order)
