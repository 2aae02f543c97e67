-- A line that fails has that fault by the table.
use Rattle.std.proofs.Common.{◌≡◌, ℕ, ◌+◌, ◌≤◌, false, true, eqb, ltb, leb, List, [], ◌∷◌, ◌++◌, length, Ok, Err, refl, sym, ap, subst, ◌∙◌}
use Rattle.std.proofs.Common.{append_assoc, arith, inl, inr}
use Rattle.std.proofs.lemmas.Bool.{ltb-true, ltb-false, leb-true, leb-false, eqb-true, eqb-false, or_from, both_ways}
use Rattle.mime_base.specs.Magic.{PlainLine}
use Rattle.mime_text.specs.declared.magic.fault.Fault.{Fault}
use Rattle.mime_text.specs.declared.magic.fault.MagicFaultKind.TheVariants.{Truncated, BadNumber, BadIndent, TooDeep}
use Rattle.mime_text.specs.Magic.Reading.{fault_at, is_digit, starts_line, indent_at, row_at, body_at, end_at, line_at}
use Rattle.mime_text.specs.Magic.FaultTable.{IsToIndent, IsToEnd, IsIndented, in_indent, before_end, before_newline, large_indent}
use Rattle.mime_text.specs.Magic.FaultTable.{large_sum, no_mark, too_far}
use Rattle.mime_text.proofs.MagicLemmas.Steps.{chosen}
use Rattle.mime_text.proofs.MagicLemmas.PartsFound.{indent_found}
use Rattle.mime_text.proofs.MagicLemmas.BodyFound.{body_found}
use Rattle.mime_text.proofs.FaultLemmas.FaultSteps.{fault_is, bind_err, guard_err, places_end, places_first}
use Rattle.mime_text.proofs.FaultLemmas.FaultNumbers.{number_fails}
use Rattle.mime_text.proofs.FaultLemmas.FaultMarks.{indent_fails}
use Rattle.mime_text.proofs.FaultLemmas.FaultOptions.{row_fails}
use Rattle.mime_text.proofs.FaultLemmas.FaultFronts.{grown, ends_at_mask}
use Rattle.mime_text.proofs.FaultLemmas.FaultKinds.{LineFails, cut}
use Rattle.mime_text.proofs.FaultLemmas.FaultBodies.{body_fails}

-- an end that fails
end_fails : (limit : ℕ) (line before tail : List ℕ) (x : PlainLine × List ℕ) (f : Fault) → line ≡ before ++ tail
    → IsToIndent limit before → body_at tail ≡ Ok x → (rest : List ℕ) → x.1 ≡ rest → end_at (length line) x.0 rest ≡ Err f
    → LineFails limit line f
unfolding end_at
end_fails limit line before tail x f is i e [] none g =
    let m = ends_at_mask limit line before tail x is i e none in
    subst (λ (k : Fault). LineFails limit line k) (fault_is (fault_at Truncated 0) f g)
    (record { kind = Truncated; at = length line; is = (before_end m.0 m.1, refl); places = places_end line (length line) refl })
end_fails limit line before tail x f is i e (b ∷ rest) some g =
    let t = body_found tail x e in
    let whole : line ≡ (before ++ t.text) ++ b ∷ rest =
    grown line before tail t.text (b ∷ rest) is (t.parts ∙ ap (λ (r : List ℕ). t.text ++ r) some) in
    let end : IsToEnd limit x.0 b (before ++ t.text) =
    record { before = before; body = t.text; whole = refl; before_is = i; body_is = t.is b rest some } in
    elim (chosen (eqb b 10) _ _ _ g) [
      | inl h ↦
          let newline : b ≡ 10 = eqb-true b 10 h.0 in
          elim (guard_err (leb 4294967296 (x.0.start + x.0.range + length x.0.value)) (fault_at BadNumber (length line)) f _ h.1) [
            | inl s ↦ subst (λ (k : Fault). LineFails limit line k) s.1 (record {
              kind = BadNumber;
              at = 0;
              is = large_sum (before ++ t.text) rest x.0 (whole ∙ ap (λ (k : ℕ). (before ++ t.text) ++ k ∷ rest) newline)
                  (subst (λ (k : ℕ). IsToEnd limit x.0 k (before ++ t.text)) newline end) (leb-true _ _ s.0) refl;
              places = places_first BadNumber line 0 refl;
            })
            | inr s ↦ let no = s.1 in absurd cc
          ]
      | inr h ↦ elim (bind_err (row_at rest) _ f h.1) [
        | inl r ↦
            let k =
            row_fails rest f r in cut limit line f k.0 (before_newline (before ++ t.text) rest x.0 b whole end (eqb-false b 10 h.0) k.1)
        | inr r ↦ let no = r.2 in absurd cc
      ]
    ]

-- an indent that fails
indent_fault : (limit b : ℕ) (bytes : List ℕ) (f : Fault) → starts_line b ≡ true → indent_at (b ∷ bytes) ≡ Err f
    → LineFails limit (b ∷ bytes) f
indent_fault limit b bytes f starts e =
    let line : List ℕ = b ∷ bytes in
    let t = indent_fails b bytes f e in
    elim t.1 [
      | inl n ↦ elim (number_fails line f n) [
        | inl c ↦ cut limit line f c.0 (in_indent (omega arith) c.1)
        | inr c ↦ elim c.1.bad [
          | inl none ↦
              let at : b ∷ bytes ≡ c.1.next ∷ c.1.ended.after =
              c.1.ended.whole ∙ ap (λ (d : List ℕ). d ++ c.1.next ∷ c.1.ended.after) none in
              let same : b ≡ c.1.next = cc in
              let off : is_digit b ≡ false = ap is_digit same ∙ c.1.ended.ends in
              absurd (both_ways (starts_line b) (or_from (eqb b 62) (is_digit b) t.0 off) starts)
          | inr large ↦
              subst (λ (g : Fault). LineFails limit line g) (sym c.0)
              (record {
                kind = BadNumber;
                at = 0;
                is = large_indent c.1.digits c.1.next c.1.ended c.1.digits_are large refl;
                places = places_first BadNumber line 0 refl;
              })
        ]
      ]
      | inr u ↦
          subst (λ (g : Fault). LineFails limit line g) u.0
          (record {
            kind = BadIndent;
            at = 0;
            is = no_mark u.1.text u.1.n u.1.next u.1.is u.1.ended u.1.other refl;
            places = places_first BadIndent line 0 refl;
          })
    ]

-- a line that fails
pub line_fails : (limit b : ℕ) (bytes : List ℕ) (f : Fault) → limit ≤ 64 → starts_line b ≡ true → line_at limit (b ∷ bytes) ≡ Err f
    → LineFails limit (b ∷ bytes) f
unfolding line_at
line_fails limit b bytes f low starts e =
    let line : List ℕ = b ∷ bytes in
    elim (bind_err (indent_at line) _ f e) [
      | inl h ↦ indent_fault limit b bytes f starts h
      | inr a ↦
          let i = indent_found line a.0 a.1 in
          let indented : IsIndented a.0.0 line = record { indent = i.0; after = a.0.1; whole = i.1; indent_is = i.2 } in
          elim (guard_err (ltb limit a.0.0) (fault_at BadIndent (length line)) f _ a.2) [
            | inl h ↦
                subst (λ (g : Fault). LineFails limit line g) h.1
                (record {
                  kind = BadIndent;
                  at = 0;
                  is = too_far a.0.0 indented (ltb-true _ _ h.0) refl;
                  places = places_first BadIndent line 0 refl;
                })
            | inr h ↦ elim (guard_err (leb 64 a.0.0) (fault_at TooDeep (length line)) f _ h.1) [
              | inl g ↦
                  let deep : 64 ≤ a.0.0 = leb-true _ _ g.0 in
                  let near : a.0.0 ≤ limit = ltb-false _ _ h.0 in
                  let all : a.0.0 ≡ 64 = omega arith in
                  subst (λ (k : Fault). LineFails limit line k) g.1
                  (record {
                    kind = TooDeep;
                    at = 0;
                    is = (subst (λ (n : ℕ). IsIndented n line) all indented, omega arith, refl);
                    places = places_first TooDeep line 0 refl;
                  })
              | inr g ↦
                  let front : List ℕ = i.0 ++ 62 ∷ [] in
                  let is : line ≡ front ++ a.0.1 = i.1 ∙ sym (append_assoc i.0 (62 ∷ []) a.0.1) in
                  let opens : IsToIndent limit front =
                  record {
                    indent = i.0;
                    depth = a.0.0;
                    whole = refl;
                    indent_is = i.2;
                    allowed = ltb-false _ _ h.0;
                    shallow = leb-false _ _ g.0;
                  } in
                  elim (bind_err (body_at a.0.1) _ f g.1) [
                    | inl k ↦ body_fails limit line front a.0.1 f is opens k
                    | inr k ↦ elim (bind_err (end_at (length line) k.0.0 k.0.1) _ f k.2) [
                      | inl m ↦ end_fails limit line front a.0.1 k.0 f is opens k.1 k.0.1 refl m
                      | inr m ↦ let no = m.2 in absurd cc
                    ]
                  ]
            ]
          ]
    ]
