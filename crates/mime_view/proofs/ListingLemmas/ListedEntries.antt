-- The literal list and the glob list of a cache that spells some rules are read entry by entry.
use Rattle.std.proofs.Common.{◌≡◌, ℕ, ◌+◌, ◌*◌, ◌<◌, List, [], ◌∷◌, length, get_or, ap, ◌∙◌}
use Rattle.std.specs.List.{All}
use Rattle.std.proofs.lemmas.List.Elements.{All-head, All-tail}
use Rattle.mime_base.specs.Cache.Bytes.{Stands, field, fields}
use Rattle.mime_base.specs.Cache.Texts.{text_at}
use Rattle.mime_base.specs.Database.Limits.{KeepsLimits}
use Rattle.mime_base.specs.Format.Records.{CardsAt, ListAt, RecordsAt}
use Rattle.mime_base.specs.Format.Rules.{IsRule}
use Rattle.mime_base.specs.Format.Stored.{stored_text, weight_and_flags}
use Rattle.mime_base.specs.declared.database.rule.GlobRule.{GlobRule}
use Rattle.mime_view.specs.Listing.Reads.{ReadsEntries, ReadsEntry, ReadsListedRules}
use Rattle.mime_view.proofs.ListLemmas.Records.{count_read, list_inside, numbers_read, text_read}

-- a rule that stands is read as an entry
entry_read : (c : List ℕ) (at : ℕ) (rule : GlobRule) (numbers : List ℕ) → rule.weight < 256 → CardsAt (Stands c) at numbers
    → IsRule (Stands c) rule numbers → ReadsEntry c at rule
entry_read c at rule numbers weight here (text, kind, are, stored, named) =
    let read = numbers_read c at (text ∷ kind ∷ weight_and_flags rule ∷ []) (rw are at here) in
    let number : (i : ℕ) → get_or (fields c at 3) i 0 ≡ get_or (text ∷ kind ∷ weight_and_flags rule ∷ []) i 0 =
    λ i. ap (λ (ns : List ℕ). get_or ns i 0) read in
    let at_text : field c at 0 ≡ text = number 0 in
    let at_kind : field c at 1 ≡ kind = number 1 in
    record {
      text = ap (text_at c) at_text ∙ text_read c text (stored_text rule) stored;
      kind = ap (text_at c) at_kind ∙ text_read c kind rule.kind named;
      flags = number 2;
      weight = weight;
    }

-- and so are rules that stand side by side
entries_read : (c : List ℕ) (at : ℕ) (rules : List GlobRule) → All KeepsLimits rules
    → RecordsAt (Stands c) 12 (IsRule (Stands c)) at rules → ReadsEntries c at rules
entries_read c at [] fit stand = tt
entries_read c at (rule ∷ rules) fit (numbers, here, is, rest) =
    let fits = All-head KeepsLimits rule rules fit in
    (entry_read c at rule numbers fits.0 here is, entries_read c (at + 12) rules (All-tail KeepsLimits rule rules fit) rest)

-- the numbers of a rule take 12 bytes
entry_size : (c : List ℕ) (rule : GlobRule) (numbers : List ℕ) → IsRule (Stands c) rule numbers → 4 * length numbers ≡ 12
entry_size c rule numbers (text, kind, are, stored, named) = ap (λ (ns : List ℕ). 4 * length ns) are

-- a list of rules that stands is read
pub rules_read : (c : List ℕ) (at : ℕ) (rules : List GlobRule) → All KeepsLimits rules → ListAt (Stands c) 12 (IsRule (Stands c)) at rules
    → ReadsListedRules c at rules
rules_read c at rules fit stand = record {
  count = count_read c 12 (IsRule (Stands c)) at rules stand;
  inside = list_inside c 12 (IsRule (Stands c)) at rules (entry_size c) stand;
  entries = entries_read c (at + 4) rules fit stand.records;
}
