-- Before a line is named or listed none has an owner.
use Rattle.std.proofs.Common.{◌≡◌, ℕ, ◌+◌, ◌*◌, ◌≤◌, inl, inr, List, length, get_or, replicate, ap, ◌∙◌, arith}
use Rattle.std.proofs.lemmas.Bool.{cases_lt}
use Rattle.std.proofs.lemmas.List.{get_or-replicate, get_or_past, length-replicate}
use Rattle.mime_lookup.specs.Tables.{OwnsLines}
use Rattle.mime_lookup.specs.declared.indexed.tables.Tables.{Tables}

-- no line has been named or listed
pub owns-none : (tables : Tables) (lines : ℕ) → length tables.places.items ≤ lines → ((slot : ℕ) → get_or tables.firsts.items slot 0 ≡ 0) →
    length tables.nexts.items ≡ lines → length tables.others.items ≡ 0 → OwnsLines tables (λ _. 0) lines lines
owns-none tables lines few zeros size none = record {
  few = few;
  named = λ t b line below is. absurd (omega (arith, is, zeros (t * 256 + b)));
  next = λ line after low owned is. absurd (omega (arith, is, get_or_past tables.nexts.items line 0 (omega (arith, size, low))));
  others = record {
    own = λ i within. absurd (omega (arith, within, none));
    inside = λ i within. absurd (omega (arith, within, none));
    falls = λ i within. absurd (omega (arith, within, none));
  };
  late = λ i within. absurd (omega (arith, within, none));
}

-- a list of zeros has no other number
pub only_zeros : (xs : List ℕ) (n : ℕ) → xs ≡ replicate n 0 → (slot : ℕ) → get_or xs slot 0 ≡ 0
only_zeros xs n are slot = elim (cases_lt slot n) [
  | inl inside ↦ ap (λ (ys : List ℕ). get_or ys slot 0) are ∙ get_or-replicate n slot 0 0 inside
  | inr past ↦ get_or_past xs slot 0 (omega (arith, past, ap (λ (ys : List ℕ). length ys) are, length-replicate {A = ℕ} n 0))
]
