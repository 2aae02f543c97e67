-- The forest by runs of deeper entries.
use Rattle.std.proofs.Common.{◌≡◌, ℕ, ◌<◌, true, false, cond, ltb, List, [], ◌∷◌, refl, sym, ap, ◌∙◌, arith, inl, inr}
use Rattle.std.proofs.lemmas.Bool.{cases_Bool, lt-ltb, le-ltb, cond-true, cond-false, ltb-true, ltb-false}
use Rattle.mime_text.specs.Magic.Entries.{PlainRole, kept, ignored, marker, PlainEntry}
use Rattle.mime_base.specs.Magic.{Forest, PlainMatchlet, forest_of}
use Rattle.mime_text.specs.Magic.Forest.{PlainRoot, and_matchlet, deeper, others, kept_matchlets, root_over, roots_of, matchlet_of, forest}
use Rattle.mime_text.specs.Magic.Forest.{run, after_run, with_children, IsByRuns}

-- the deeper ones among the deeper
deeper_deeper : (d e : ℕ) (ts : List PlainRoot) → d < e → deeper e (deeper d ts) ≡ deeper e ts
deeper_deeper d e [] lt = refl
deeper_deeper d e (t ∷ ts) lt =
    elim (cases_Bool (ltb d t.indent)) [
      | inl yes_d ↦ ap (deeper e) (cond-true (ltb d t.indent) (t ∷ deeper d ts) [] yes_d)
          ∙ ap (λ (x : List PlainRoot). cond (ltb e t.indent) (t ∷ x) []) (deeper_deeper d e ts lt)
      | inr no_d ↦
          let no_e : ltb e t.indent ≡ false = le-ltb e t.indent (omega (arith, ltb-false _ _ no_d)) in
          ap (deeper e) (cond-false (ltb d t.indent) (t ∷ deeper d ts) [] no_d)
          ∙ sym (cond-false (ltb e t.indent) (t ∷ deeper e ts) [] no_e)
    ]

-- the deeper ones after the deeper
others_deeper : (d e : ℕ) (ts : List PlainRoot) → d < e → others e (deeper d ts) ≡ deeper d (others e ts)
others_deeper d e [] lt = refl
others_deeper d e (t ∷ ts) lt =
    elim (cases_Bool (ltb d t.indent)) [
      | inl yes_d ↦
          let one : others e (deeper d (t ∷ ts)) ≡ cond (ltb e t.indent) (others e (deeper d ts)) (t ∷ deeper d ts) =
          ap (others e) (cond-true (ltb d t.indent) (t ∷ deeper d ts) [] yes_d) in
          elim (cases_Bool (ltb e t.indent)) [
            | inl yes_e ↦ one ∙ cond-true (ltb e t.indent) _ _ yes_e ∙ others_deeper d e ts lt
                ∙ ap (deeper d) (sym (cond-true (ltb e t.indent) (others e ts) (t ∷ ts) yes_e))
            | inr no_e ↦ one ∙ cond-false (ltb e t.indent) _ _ no_e ∙ sym (cond-true (ltb d t.indent) (t ∷ deeper d ts) [] yes_d)
                ∙ ap (deeper d) (sym (cond-false (ltb e t.indent) (others e ts) (t ∷ ts) no_e))
          ]
      | inr no_d ↦
          let no_e : ltb e t.indent ≡ false = le-ltb e t.indent (omega (arith, ltb-false _ _ no_d)) in
          ap (others e) (cond-false (ltb d t.indent) (t ∷ deeper d ts) [] no_d)
          ∙ sym (cond-false (ltb d t.indent) (t ∷ deeper d ts) [] no_d)
          ∙ ap (deeper d) (sym (cond-false (ltb e t.indent) (others e ts) (t ∷ ts) no_e))
    ]

-- what is after both runs
others_others : (d e : ℕ) (ts : List PlainRoot) → d < e → others d (others e ts) ≡ others d ts
others_others d e [] lt = refl
others_others d e (t ∷ ts) lt =
    elim (cases_Bool (ltb e t.indent)) [
      | inl yes_e ↦
          let yes_d : ltb d t.indent ≡ true = lt-ltb d t.indent (omega (arith, ltb-true _ _ yes_e)) in
          ap (others d) (cond-true (ltb e t.indent) (others e ts) (t ∷ ts) yes_e) ∙ others_others d e ts lt
          ∙ sym (cond-true (ltb d t.indent) (others d ts) (t ∷ ts) yes_d)
      | inr no_e ↦ ap (others d) (cond-false (ltb e t.indent) (others e ts) (t ∷ ts) no_e)
    ]

-- the roots of a run
roots_of_run : (d : ℕ) (is : List PlainEntry) → roots_of (run d is) ≡ deeper d (roots_of is)
unfolding roots_of
roots_of_run d [] = refl
roots_of_run d (i ∷ is) =
    elim (cases_Bool (ltb d i.indent)) [
      | inl deep ↦
          let so : roots_of (run d (i ∷ is)) ≡ roots_of (i ∷ run d is) = ap roots_of (cond-true (ltb d i.indent) (i ∷ run d is) [] deep) in
          let made : List PlainRoot → List PlainRoot = λ ts. root_over i ts ∷ others i.indent ts in
          let in_run : roots_of (i ∷ run d is) ≡ made (deeper d (roots_of is)) = ap made (roots_of_run d is) in
          let lt : d < i.indent = ltb-true _ _ deep in
          let first : made (deeper d (roots_of is)) ≡ root_over i (roots_of is) ∷ deeper d (others i.indent (roots_of is)) =
          ap (λ (x : List PlainRoot). record {
            indent = i.indent;
            matchlet = matchlet_of i.role (forest_of (kept_matchlets x));
          } ∷ others i.indent (deeper d (roots_of is))) (deeper_deeper d i.indent (roots_of is) lt)
          ∙ ap (λ (x : List PlainRoot). root_over i (roots_of is) ∷ x) (others_deeper d i.indent (roots_of is) lt) in
          so ∙ in_run ∙ first ∙ sym (cond-true (ltb d i.indent) _ _ deep)
      | inr off ↦ ap roots_of (cond-false (ltb d i.indent) (i ∷ run d is) [] off) ∙ sym (cond-false (ltb d i.indent) _ _ off)
    ]

-- the roots after a run
roots_after_run : (d : ℕ) (is : List PlainEntry) → roots_of (after_run d is) ≡ others d (roots_of is)
unfolding roots_of
roots_after_run d [] = refl
roots_after_run d (i ∷ is) =
    elim (cases_Bool (ltb d i.indent)) [
      | inl deep ↦ ap roots_of (cond-true (ltb d i.indent) (after_run d is) (i ∷ is) deep) ∙ roots_after_run d is
          ∙ sym (others_others d i.indent (roots_of is) (ltb-true _ _ deep)) ∙ sym (cond-true (ltb d i.indent) _ _ deep)
      | inr off ↦ ap roots_of (cond-false (ltb d i.indent) (after_run d is) (i ∷ is) off) ∙ sym (cond-false (ltb d i.indent) _ _ off)
    ]

-- a line before matchlets
matchlets_with : (role : PlainRole) (children : Forest) (gs : List PlainMatchlet)
    → forest_of (and_matchlet (matchlet_of role children) gs) ≡ with_children role children (forest_of gs)
matchlets_with (kept own) children gs = refl
matchlets_with ignored children gs = refl
matchlets_with marker children gs = refl

-- the forest is the one that the runs of deeper entries make
pub forest_by_runs : IsByRuns forest
unfolding forest roots_of
forest_by_runs = record {
  none = refl;
  some = λ i is.
      matchlets_with i.role (forest_of (kept_matchlets (deeper i.indent (roots_of is)))) (kept_matchlets (others i.indent (roots_of is)))
      ∙ ap (λ (x : List PlainRoot). with_children i.role (forest_of (kept_matchlets x))
      (forest_of (kept_matchlets (others i.indent (roots_of is))))) (sym (roots_of_run i.indent is))
      ∙ ap (λ (x : List PlainRoot). with_children i.role (forest_of (kept_matchlets (roots_of (run i.indent is))))
      (forest_of (kept_matchlets x))) (sym (roots_after_run i.indent is));
}
