-- Entries of a parent list that were read one after another.
use Rattle.std.proofs.Common.{◌≡◌, ℕ, ◌+◌, ◌*◌, Bool, true, false, List, [], ◌∷◌, ◌++◌, get_or, map, sym, ap, refl, ◌∙◌, arith, true≢false, append_assoc, ◌<◌}
use Rattle.std.specs.List.{flat_map}
use Rattle.std.proofs.lemmas.Grind.{flat_map-append}
use Rattle.std.proofs.Math.Seq.{get_or-append_seam}
use Rattle.std.proofs.lemmas.List.{append-nil, length-map, length_push, map-append}
use Rattle.std.proofs.lemmas.List.Elements.{All-nil, All-push}
use Rattle.std.proofs.lemmas.List.Quantifiers.{all_pairs_push}
use Rattle.mime_base.specs.Cache.Bytes.{Stands}
use Rattle.mime_base.specs.Format.Parents.{IsName}
use Rattle.mime_base.specs.Format.Records.{CardsAt}
use Rattle.mime_base.specs.Format.Runs.{IsRun, PlainRun, second_text}
use Rattle.mime_base.specs.Format.Sorted.{text_lt}
use Rattle.mime_base.proofs.FormatLemmas.RunKinds.{of_kind-push}
use Rattle.mime_base.proofs.FormatLemmas.TextOrder.{text_order}
use Rattle.mime_load.specs.ParentLists.{Adding, AddsParents, Entries, IsBefore, IsParentEntry, IsGood}
use Rattle.mime_load.specs.Parts.{RecordAt}
use Rattle.mime_load.proofs.RecordLemmas.{list_said, records_more}

-- pairs of texts
abbrev pub Pairs : Type 0
Pairs = List (List ℕ × List ℕ)

-- all pairs of runs
abbrev pub flat : List PlainRun → Pairs
flat runs = flat_map (λ (run : PlainRun). run.1) runs

-- no entries
pub entries_none : (c : List ℕ) (first : ℕ) (previous : List ℕ) → Entries c first 0 previous []
entries_none c first previous = record {
  runs = [];
  flat = refl;
  size = refl;
  good = All-nil IsGood;
  before = λ i j d l within. absurd (omega arith);
  last = All-nil (λ (run : PlainRun). (kind : List ℕ) → text_lt previous kind ≡ true → text_lt run.0 kind ≡ true);
  previous_is = λ d some. absurd (omega arith);
  stand = tt;
}

-- one more entry
pub entries_more : (c : List ℕ) (first i : ℕ) (previous kind : List ℕ) (before after : Pairs) → Entries c first i previous before
    → (0 < i → text_lt previous kind ≡ true) → IsParentEntry c (first + 8 * i) kind before after → Entries c first (i + 1) kind after
entries_more c first i previous kind before after e rises one =
    let added = one.adds.added in
    let run : PlainRun = (kind, one.adds.added) in
    record {
      runs = e.runs ++ run ∷ [];
      flat = one.adds.whole ∙ ap (λ (ps : Pairs). ps ++ one.adds.added) e.flat
          ∙ ap (λ (ps : Pairs). flat e.runs ++ ps) (sym (append-nil one.adds.added))
          ∙ sym (flat_map-append (λ (r : PlainRun). r.1) e.runs (run ∷ []));
      size = omega (arith, length_push e.runs run, e.size);
      good = All-push IsGood e.runs run e.good (record { some = one.adds.some; of_kind = one.adds.of_kind });
      before = all_pairs_push IsBefore e.runs run e.before (λ k d within. e.last k d within kind (rises (omega (arith, e.size, within))));
      last = All-push (λ (r : PlainRun). (next : List ℕ) → text_lt kind next ≡ true → text_lt r.0 next ≡ true) e.runs run
          (λ k d within next later. e.last k d within next (through previous kind next (rises (omega (arith, e.size, within))) later))
          (λ next later. later);
      previous_is = λ d some. ap (λ (k : ℕ). (get_or (e.runs ++ run ∷ []) k d).0) (omega (arith, length_push e.runs run))
          ∙ ap (λ (r : PlainRun). r.0) (get_or-append_seam e.runs run [] d);
      stand = records_more (Stands c) 8 (IsRun (Stands c)) first (first + 8 * i) e.runs run e.stand (ap (λ (n : ℕ). first + 8 * n) e.size)
          (record {
            numbers = one.kind_at ∷ one.list ∷ [];
            cards = one.cards;
            is = (one.kind_at, one.list, refl, one.text, one.adds.stand);
          });
    }
  where
    through : (a b d : List ℕ) → text_lt a b ≡ true → text_lt b d ≡ true → text_lt a d ≡ true
    through a b d less then = by (text_lt a d) refl
      where
        by : (test : Bool) → text_lt a d ≡ test → text_lt a d ≡ true
        by true is = is
        by false is = absurd (true≢false (sym less ∙ text_order.chain a d b is (text_order.one_way b d then)))

-- no parent was added
pub adding_none : (c : List ℕ) (first : ℕ) (kind : List ℕ) (before : Pairs) → Adding c first 0 kind before before
adding_none c first kind before =
    record { added = []; whole = sym (append-nil before); size = refl; of_kind = tt; stand = tt }

-- one more parent was added
pub adding_more : (c : List ℕ) (first i at : ℕ) (kind target : List ℕ) (before mid after : Pairs) → Adding c first i kind before mid
    → after ≡ mid ++ (kind, target) ∷ [] → at ≡ first + 4 * i → RecordAt (Stands c) (IsName (Stands c)) at target
    → Adding c first (i + 1) kind before after
adding_more c first i at kind target before mid after a is place one =
    let pair : List ℕ × List ℕ = (kind, target) in
    record {
      added = a.added ++ pair ∷ [];
      whole = is ∙ ap (λ (ps : Pairs). ps ++ pair ∷ []) a.whole ∙ append_assoc before a.added (pair ∷ []);
      size = omega (arith, length_push a.added pair, a.size);
      of_kind = of_kind-push kind a.added pair a.of_kind refl;
      stand =
          rw (map-append second_text a.added (pair ∷ []))
          (records_more (Stands c) 4 (IsName (Stands c)) first at (map second_text a.added) target a.stand
          (omega (arith, length-map a.added second_text, a.size, place)) one);
    }

-- all parents of a type were added
pub adding_whole : (c : List ℕ) (at count i : ℕ) (kind : List ℕ) (before after : Pairs) → Adding c (at + 4) i kind before after
    → CardsAt (Stands c) at (count ∷ []) → i ≡ count → 0 < count → AddsParents c at kind before after
adding_whole c at count i kind before after a head all some = record {
  added = a.added;
  whole = a.whole;
  some = omega (arith, a.size, all, some);
  of_kind = a.of_kind;
  stand = list_said (Stands c) 4 (IsName (Stands c)) at count (map second_text a.added) head
      (length-map a.added second_text ∙ a.size ∙ all) a.stand;
}
