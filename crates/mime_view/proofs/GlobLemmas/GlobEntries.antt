-- An entry of the glob list: what it states of its rule, what is kept of it, and what it costs.
use Rattle.std.proofs.Common.{◌≡◌, ℕ, ◌+◌, ◌*◌, ◌<◌, ◌≤◌, ◌%◌, ◌/◌, ◌==◌, Bool, true}
use Rattle.std.proofs.Common.{false, List, [], ◌∷◌, length, get_or, Ok, refl, sym, ap, ◌∙◌, arith}
use Rattle.std.proofs.Math.Nat.{mul-le-mul_left, mul-le-mul_right}
use Rattle.mime_base.specs.Cache.Bytes.{fields}
use Rattle.mime_base.specs.Cache.Texts.{text_at}
use Rattle.mime_base.specs.Format.Stored.{stored_text}
use Rattle.mime_base.specs.Kept.{FitsRank, hits, rank, rank_of_rule}
use Rattle.mime_base.specs.Kept.Classes.{class_of}
use Rattle.mime_base.specs.Matching.Matches.{rule_matches}
use Rattle.mime_base.specs.Meter.{raised}
use Rattle.mime_base.specs.declared.database.rule.GlobRule.{GlobRule}
use Rattle.mime_base.specs.declared.kept.class.Class.{Class}
use Rattle.mime_base.proofs.CacheLemmas.TextsStand.{text_at-read}
use Rattle.mime_view.specs.Globs.{ReadsGlob}
use Rattle.mime_view.specs.Gathered.{Offers, PlainHits}
use Rattle.mime_view.specs.Spending.{Spends, per_record}
use Rattle.mime_view.specs.declared.spending.Spending.{Spending}
use Rattle.mime_view.proofs.HitsLemmas.Gathering.{offers_none}
use Rattle.mime_view.proofs.HitsLemmas.StoredRules.{rank-stored, cased-stored, rule_matches-stored}

-- a text of a cache has less than 256 bytes
pub text_short : (c : List ℕ) (at : ℕ) (text : List ℕ) → text_at c at ≡ Ok text → length text < 256
text_short c at text e = (text_at-read c at text e).0.short

-- a pattern, its class, the offset of a type, weight and flags, as they are of a rule
pub record States (c name : List ℕ) (rule : GlobRule) (pattern : List ℕ) (class : Class) (kind flags : ℕ) : Type 0 where
  pub its_rank : rank class (flags % 256) (length pattern) (flags / 256 % 2 == 1) ≡ rank_of_rule rule
  pub its_kind : text_at c kind ≡ Ok rule.kind
  pub its_matches : rule_matches pattern (flags / 256 % 2 == 1) name ≡ rule_matches rule.pattern rule.cased name

-- what an entry states is so of its rule
pub entry_states : (c : List ℕ) (at : ℕ) (name : List ℕ) (rule : GlobRule) (pattern : List ℕ) (class : Class) (numbers : List ℕ)
    (place : ℕ) → numbers ≡ fields c at 3 → place ≡ get_or numbers 0 0 → text_at c place ≡ Ok pattern → class ≡ class_of pattern
    → FitsRank rule → ReadsGlob c at rule → States c name rule pattern class (get_or numbers 1 0) (get_or numbers 2 0)
entry_states c at name rule pattern class numbers place are here text is fits reads =
    let number : (i : ℕ) → get_or numbers i 0 ≡ get_or (fields c at 3) i 0 = λ i. ap (λ (ns : List ℕ). get_or ns i 0) are in
    let stored : pattern ≡ stored_text rule = let e = sym text ∙ ap (text_at c) (here ∙ number 0) ∙ reads.text in cc in
    let flags : get_or numbers 2 0 ≡ _ = number 2 ∙ reads.flags in
    record {
      its_rank = rw (is, stored, flags) (rank-stored rule fits.0);
      its_kind = ap (text_at c) (number 1) ∙ reads.kind;
      its_matches = rw (stored, flags, cased-stored rule fits.0) (rule_matches-stored rule name);
    }

module _ (c name : List ℕ) (rule : GlobRule) where
  -- a rule that matches is offered
  pub offers_match : (old new : PlainHits) → rule_matches rule.pattern rule.cased name ≡ true → Offers c (rule ∷ []) old new
      → Offers c (hits (rule ∷ []) name) old new
  offers_match old new is offered = rw is offered

  -- one that doesn't is not
  pub offers_other : (held : PlainHits) → rule_matches rule.pattern rule.cased name ≡ false → Offers c (hits (rule ∷ []) name) held held
  offers_other held is = rw is (offers_none c held)

  -- nor need one be that would not be held
  pub offers_either : (held : PlainHits) → Offers c (rule ∷ []) held held → Offers c (hits (rule ∷ []) name) held held
  offers_either held unwanted = by_match (rule_matches rule.pattern rule.cased name) refl
    where
      by_match : (is : Bool) → rule_matches rule.pattern rule.cased name ≡ is → Offers c (hits (rule ∷ []) name) held held
      by_match true is = offers_match held held is unwanted
      by_match false is = offers_other held is

-- a record, the text of a cache, and its tests against a name
pub entry_spends : (n p mid : ℕ) (old new : Spending) → new.budget.records + 1 ≡ old.budget.records
    → new.budget.value_bytes ≡ old.budget.value_bytes → old.meter.nodes ≤ new.meter.nodes
    → new.meter.nodes ≡ raised old.meter.nodes 1 → old.meter.bytes ≤ mid → mid ≤ old.meter.bytes + 256 → mid ≤ new.meter.bytes
    → new.meter.bytes ≤ mid + (p + 1) * (n + 1) → p < 256 → Spends (per_record (256 * (n + 2))) 0 0 old new
entry_spends n p mid old new taken value_bytes rises nodes text_rises text rise tests short =
    let each : ℕ = 256 * (n + 2) in
    let most : (p + 1) * (n + 1) ≤ 256 * (n + 1) = mul-le-mul_right (n + 1) (omega arith) in
    let m : each * (new.budget.records + 1) ≤ each * old.budget.records = mul-le-mul_left each (omega arith) in
    record {
      records = omega arith;
      value_bytes = omega arith;
      untouched = λ free. value_bytes;
      rises = rises;
      bytes_rise = omega arith;
      most_nodes = omega arith;
      most_bytes = omega arith;
      fair = omega arith;
    }
