-- Entries of the literal list or of the glob list that stand one after another in a cache.
use Rattle.std.proofs.Common.{◌≡◌, ℕ, ◌+◌, ◌*◌, ◌<◌, ◌≤◌, List, [], ◌∷◌, ◌++◌, length, append_assoc, refl, sym, ◌∙◌, arith}
use Rattle.std.specs.Prelude.{map}
use Rattle.std.proofs.lemmas.List.{append-nil}
use Rattle.mime_base.specs.declared.database.rule.GlobRule.{GlobRule}
use Rattle.mime_view.specs.Listing.{PlainListed, listed_rule}
use Rattle.mime_view.specs.Listing.Reads.{ReadsEntries, ReadsEntry, ReadsListedRules}

-- what is left of the entries from the i-th on; `old` was listed before all of them, `now` before these
pub record Left (c : List ℕ) (first count : ℕ) (rules : List GlobRule) (old : List PlainListed) (i : ℕ)
    (now : List PlainListed) : Type 0 where
  pub rest : List GlobRule
  pub size : length rest + i ≡ count
  pub reads : ReadsEntries c (first + 12 * i) rest
  pub listed : now ++ map listed_rule rest ≡ old ++ map listed_rule rules

-- the next entry, and what is left after it
pub record Next (c : List ℕ) (first count : ℕ) (rules : List GlobRule) (old : List PlainListed) (i : ℕ)
    (now : List PlainListed) : Type 0 where
  pub rule : GlobRule
  pub reads : ReadsEntry c (first + 12 * i) rule
  pub later : (new : List PlainListed) → new ≡ now ++ listed_rule rule ∷ [] → Left c first count rules old (i + 1) new

-- of some entries that are left, the first is the next one
next_of : (c : List ℕ) (first count : ℕ) (rules : List GlobRule) (old : List PlainListed) (i : ℕ) (now : List PlainListed)
    (rest : List GlobRule) → i < count → length rest + i ≡ count → ReadsEntries c (first + 12 * i) rest
    → now ++ map listed_rule rest ≡ old ++ map listed_rule rules → Next c first count rules old i now
next_of c first count rules old i now [] l size reads listed = absurd (omega arith)
next_of c first count rules old i now (rule ∷ rest) l size reads listed = record {
  rule = rule;
  reads = reads.0;
  later = λ new is. record {
    rest = rest;
    size = omega arith;
    reads = let e : first + 12 * (i + 1) ≡ first + 12 * i + 12 = omega arith in rw e reads.1;
    listed = rw is (append_assoc now (listed_rule rule ∷ []) (map listed_rule rest) ∙ listed);
  };
}

-- while some are left there is a next one
pub next : (c : List ℕ) (first count : ℕ) (rules : List GlobRule) (old : List PlainListed) (i : ℕ) (now : List PlainListed) → i < count
    → Left c first count rules old i now → Next c first count rules old i now
next c first count rules old i now l left = next_of c first count rules old i now left.rest l left.size left.reads left.listed

-- where no entry is left, no rule is added
nothing : (rest : List GlobRule) (now : List PlainListed) → length rest ≡ 0 → now ++ map listed_rule rest ≡ now
nothing [] now none = append-nil now
nothing (rule ∷ rest) now none = absurd (omega arith)

-- after the last entry all are listed
pub none_left : (c : List ℕ) (first count : ℕ) (rules : List GlobRule) (old : List PlainListed) (i : ℕ) (now : List PlainListed)
    → count ≤ i → Left c first count rules old i now → now ≡ old ++ map listed_rule rules
none_left c first count rules old i now l left =
    let size = left.size in
    sym (nothing left.rest now (omega arith)) ∙ left.listed

-- at first all are left
pub all_left : (c : List ℕ) (at first count : ℕ) (rules : List GlobRule) (now : List PlainListed) → first ≡ at + 4 → count ≡ length rules
    → ReadsListedRules c at rules → Left c first count rules now 0 now
all_left c at first count rules now is size reads = record {
  rest = rules;
  size = omega arith;
  reads = let e : first + 12 * 0 ≡ at + 4 = omega arith in rw e reads.entries;
  listed = refl;
}
