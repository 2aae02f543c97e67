-- Rules of the suffix tree whose patterns lie in one text, to which others are added.
use Rattle.std.proofs.Common.{◌≡◌, ℕ, suc, List, [], ◌∷◌, ◌++◌, length, take, take_all, drop, map, reverse, refl, sym, ap, ap₂, ◌∙◌, arith}
use Rattle.std.specs.List.{All}
use Rattle.std.proofs.lemmas.List.{drop-append-le, length-append, length-drop, map-append, reverse-append, take-append-le}
use Rattle.std.proofs.lemmas.List.Elements.{All-push, All-weaker}
use Rattle.std.proofs.Math.Seq.{drop-append_seam}
use Rattle.mime_base.specs.declared.database.rule.GlobRule.{GlobRule}
use Rattle.mime_load.specs.Leaves.{LiesIn, entry_pattern, plain_entry}
use Rattle.mime_load.specs.declared.leaf.LeafEntry.{LeafEntry}

-- a rule with a pattern
abbrev with_pattern : LeafEntry → List ℕ → GlobRule
with_pattern entry pattern = record { weight = entry.weight; kind = entry.kind.now; pattern = pattern; cased = entry.cased }

-- the rules in the other order
pub entries_reversed : (patterns : List ℕ) (entries : List LeafEntry) →
    map (plain_entry patterns) (reverse entries) ≡ reverse (map (plain_entry patterns) entries)
entries_reversed patterns [] = refl
entries_reversed patterns (entry ∷ rest) =
    ap (map (plain_entry patterns)) (reverse-append (entry ∷ []) rest)
    ∙ map-append (plain_entry patterns) (reverse rest) (entry ∷ [])
    ∙ ap (λ (xs : List GlobRule). xs ++ plain_entry patterns entry ∷ []) (entries_reversed patterns rest)
    ∙ sym (reverse-append (plain_entry patterns entry ∷ []) (map (plain_entry patterns) rest))

module _ (old more : List ℕ) where
  -- a pattern is where it was
  pattern-grows : (entry : LeafEntry) → LiesIn old entry → entry_pattern (old ++ more) entry ≡ entry_pattern old entry
  pattern-grows entry within =
      ap (take entry.length) (drop-append-le entry.start old more (omega (arith, within)))
      ∙ take-append-le entry.length (drop entry.start old) more (omega (arith, within, length-drop entry.start old))

  -- and lies there
  lies-grows : (entry : LeafEntry) → LiesIn old entry → LiesIn (old ++ more) entry
  lies-grows entry within = omega (arith, within, length-append old more)

  -- the rules are what they were
  rules-grow : (entries : List LeafEntry) → All (LiesIn old) entries → map (plain_entry (old ++ more)) entries ≡ map (plain_entry old) entries
  rules-grow [] own = refl
  rules-grow (entry ∷ rest) own =
      ap₂ (λ x xs. x ∷ xs) (ap (with_pattern entry) (pattern-grows entry (own 0 entry (omega arith))))
      (rules-grow rest (λ k other within. own (suc k) other (omega (arith, within))))

  -- each pattern lies there, that of one rule more too
  pub lie-more : (entries : List LeafEntry) (entry : LeafEntry) → All (LiesIn old) entries → entry.start ≡ length old
      → entry.length ≡ length more → All (LiesIn (old ++ more)) (entries ++ entry ∷ [])
  lie-more entries entry own last long =
      All-push (LiesIn (old ++ more)) entries entry
      (All-weaker (LiesIn old) (LiesIn (old ++ more)) lies-grows entries own)
      (omega (arith, last, long, length-append old more))

  -- the pattern that comes last
  pattern-last : (entry : LeafEntry) → entry.start ≡ length old → entry.length ≡ length more → entry_pattern (old ++ more) entry ≡ more
  pattern-last entry last long =
      ap (λ n. take entry.length (drop n (old ++ more))) last
      ∙ ap (take entry.length) (drop-append_seam old more)
      ∙ take_all entry.length more (omega (arith, long))

  -- one rule more
  pub rules-more : (entries : List LeafEntry) (entry : LeafEntry) (rule : GlobRule) → All (LiesIn old) entries → entry.start ≡ length old
      → entry.length ≡ length more → with_pattern entry more ≡ rule
      → map (plain_entry (old ++ more)) (entries ++ entry ∷ []) ≡ map (plain_entry old) entries ++ rule ∷ []
  rules-more entries entry rule own last long is =
      map-append (plain_entry (old ++ more)) entries (entry ∷ [])
      ∙ ap₂ (λ front rule. front ++ rule ∷ []) (rules-grow entries own) (ap (with_pattern entry) (pattern-last entry last long) ∙ is)
