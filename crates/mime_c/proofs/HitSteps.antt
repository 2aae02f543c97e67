-- The rules of a name that a cache's own budget gives, and how C gets them.
use Rattle.std.proofs.Common.{◌≡◌, ℕ, ◌+◌, ◌-◌, ◌/◌, ◌<◌, ◌≤◌, List, ◌++◌, length, map, take, drop, get_or, Result, Ok, Err}
use Rattle.std.proofs.Common.{Bool, true, false, ltb, refl, ap, ◌∙◌, inl, arith}
use Rattle.std.specs.Prelude.{All, IfErr, IfOk}
use Rattle.std.proofs.lemmas.Bool.{ltb-false, ltb-true}
use Rattle.std.proofs.lemmas.List.{get_or-append_right, get_or-drop, get_or-map, get_or-take, get_or_append_left}
use Rattle.std.proofs.lemmas.List.{length-append, length-drop, length-map, length-take, length-take-le}
use Rattle.mime_base.specs.declared.database.rule.GlobRule.{GlobRule}
use Rattle.mime_c.specs.Hits.{GivenHit, IsHits, given, given_hits, one_if}
use Rattle.mime_view.specs.NameHits.{GivesHits, GivesTexts, IsHitsFault, SpellsRules, lists_of}
use Rattle.mime_lookup.specs.Cached.{IsCacheText}
use Rattle.mime_view.specs.RuleHits.{AreRuleHits, gives_types, types_alone}
use Rattle.mime_view.specs.declared.budget.Budget.{Budget}
use Rattle.mime_view.specs.declared.fault.CacheFault.{CacheFault}
use Rattle.mime_view.specs.declared.rule_hits.RuleHit.{RuleHit}
use Rattle.mime_view.specs.declared.rule_hits.RuleHits.{RuleHits}
use Rattle.mime_view.specs.declared.spending.Spending.{Spending}

-- items, of which the first are written in one way and the others in another
module _ {X Y : Type 0} (first other : X → Y) (n : ℕ) (items : List X) where
  -- all of them
  abbrev written : List Y
  written = map first (take n items) ++ map other (drop n items)

  -- as many as there are
  length-written : length written ≡ length items
  length-written =
      omega (
        arith,
        length-append (map first (take n items)) (map other (drop n items)),
        length-map (take n items) first,
        length-map (drop n items) other,
        length-take n items,
        length-drop n items,
      )

  -- one of the first
  written-first : (i : ℕ) (d : Y) (e : X) → i < length items → i < n → get_or written i d ≡ first (get_or items i e)
  written-first i d e here less =
      let inside : i < length (take n items) = omega (arith, length-take n items, here, less) in
      let among : i < length (map first (take n items)) = omega (arith, length-map (take n items) first, inside) in
      get_or_append_left (map first (take n items)) (map other (drop n items)) d i among
      ∙ get_or-map first (take n items) i e d inside ∙ ap first (get_or-take n items i e less)

  -- one of the others
  written-other : (i : ℕ) (d : Y) (e : X) → i < length items → n ≤ i → get_or written i d ≡ other (get_or items i e)
  written-other i d e here above =
      let front : length (map first (take n items)) ≡ n = length-map (take n items) first ∙ length-take-le n items (omega (arith, here, above)) in
      let inside : i - n < length (drop n items) = omega (arith, length-drop n items, here, above) in
      let place : n + (i - n) ≡ i = omega (arith, above) in
      get_or-append_right (map first (take n items)) (map other (drop n items)) n i d front above
      ∙ get_or-map other (drop n items) (i - n) e d inside
      ∙ ap other (get_or-drop n items (i - n) e ∙ ap (λ (k : ℕ). get_or items k e) place)

-- there is one for each rule
pub length-given_hits : (found : RuleHits) → length (given_hits found) ≡ length found.rules.items
length-given_hits found = length-written (given 1) (given 0) found.kept found.rules.items

-- what C gets of a rule at its place
pub given-at : (found : RuleHits) (i : ℕ) (d : GivenHit) (e : RuleHit) → i < length found.rules.items →
    get_or (given_hits found) i d ≡ given (one_if (ltb i found.kept)) (get_or found.rules.items i e)
given-at found i d e here = by_test (ltb i found.kept) refl
  where
    by_test : (is_kept : Bool) → ltb i found.kept ≡ is_kept →
        get_or (given_hits found) i d ≡ given (one_if is_kept) (get_or found.rules.items i e)
    by_test true is = written-first (given 1) (given 0) found.kept found.rules.items i d e here (ltb-true i found.kept is)
    by_test false is = written-other (given 1) (given 0) found.kept found.rules.items i d e here (ltb-false i found.kept is)

-- what the reader gives of a name is what is promised
pub is_hits : (c name : List ℕ) (old new : Spending) (result : Result RuleHits CacheFault) → old.budget.records ≡ length c / 4 →
    ((rules : List GlobRule) → SpellsRules c rules → GivesHits AreRuleHits name rules old.budget new.budget result) →
    GivesTexts c old new (gives_types result) → IfErr result (IsHitsFault c (lists_of c) name new.budget) →
    IsHits c name result
is_hits c name old new (Ok hits) records gives texts fault = record {
  answer = λ b spells fits. (gives b.rules spells).answer fits;
  need = λ b spells fits packed. tt;
  texts = texts.text;
  count = omega (arith, texts.count, records, length-map hits.rules.items (λ (rule : RuleHit). rule.kind.now));
  front = omega (arith, texts.front, length-map hits.rules.items (λ (rule : RuleHit). rule.kind.now));
  fault = tt;
}
is_hits c name old new (Err e) records gives texts fault = record {
  answer = λ b spells fits. tt;
  need = λ b spells fits packed. (gives b.rules spells).need fits (inl (omega (arith, packed.records, records)));
  texts = tt;
  count = tt;
  front = tt;
  fault = (new.budget, fault);
}

-- what a database that is open gives of a name is promised too
pub is_open_hits : (c name : List ℕ) (old new : Budget) (result : Result RuleHits CacheFault) → old.records ≡ length c / 4 →
    ((rules : List GlobRule) → SpellsRules c rules → GivesHits AreRuleHits name rules old new result) →
    IfOk result (λ hits. All (IsCacheText c) (types_alone hits).kinds) → IfOk result (λ hits. length hits.rules.items ≤ old.records) →
    IfOk result (λ hits. hits.kept ≤ length hits.rules.items) → IfErr result (IsHitsFault c (lists_of c) name new) →
    IsHits c name result
is_open_hits c name old new (Ok hits) records gives texts count front fault = record {
  answer = λ b spells fits. (gives b.rules spells).answer fits;
  need = λ b spells fits packed. tt;
  texts = texts;
  count = omega (arith, count, records);
  front = front;
  fault = tt;
}
is_open_hits c name old new (Err e) records gives texts count front fault = record {
  answer = λ b spells fits. tt;
  need = λ b spells fits packed. (gives b.rules spells).need fits (inl (omega (arith, packed.records, records)));
  texts = tt;
  count = tt;
  front = tt;
  fault = (new, fault);
}
