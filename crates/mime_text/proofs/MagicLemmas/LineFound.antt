-- The end of a line, and a whole line, against the grammar: what is read is spelled so.
use Rattle.std.proofs.Common.{◌≡◌, ℕ, ◌+◌, ◌<◌, eqb, ltb, leb, cond, List, [], ◌∷◌, ◌++◌, length, length-append, Ok, Err, refl, sym, ap}
use Rattle.std.proofs.Common.{subst, ◌∙◌, append_assoc, arith, inl, inr}
use Rattle.std.proofs.lemmas.Bool.{ltb-false, eqb-true, eqb-false, leb-false}
use Rattle.mime_text.specs.declared.magic.fault.MagicFaultKind.TheVariants.{BadNumber, BadIndent, TooDeep}
use Rattle.mime_base.specs.Magic.{PlainLine}
use Rattle.mime_text.specs.Magic.Entries.{PlainRole, kept, ignored, PlainEntry}
use Rattle.mime_text.specs.Magic.Reading.{◌>>=◌, fault_at, indent_at, row_at, end_at, body_at, line_at}
use Rattle.mime_text.specs.Magic.Text.{IsEnd, IsLine}
use Rattle.mime_text.proofs.MagicLemmas.Steps.{bind_ok, guard_off, chosen, ok_is}
use Rattle.mime_text.proofs.MagicLemmas.Prefixes.{row_found}
use Rattle.mime_text.proofs.MagicLemmas.PartsFound.{indent_found}
use Rattle.mime_text.proofs.MagicLemmas.BodyFound.{body_found}

-- the text of an end, and what comes after it
pub record Ended (own : PlainLine) (bytes : List ℕ) (role : PlainRole) (rest : List ℕ) : Type 0 where
  pub first : ℕ
  pub end : List ℕ
  pub parts : bytes ≡ first ∷ (end ++ rest)
  pub is : IsEnd own first end role

-- an end that is read is spelled so
pub end_found : (left : ℕ) (own : PlainLine) (bytes : List ℕ) (x : PlainRole × List ℕ) → end_at left own bytes ≡ Ok x
    → Ended own bytes x.0 x.1
unfolding end_at
end_found left own [] x e = absurd cc
end_found left own (b ∷ bytes) x e =
    elim (chosen (eqb b 10)
    (cond (leb 4294967296 (own.start + own.range + length own.value)) (Err (fault_at BadNumber left)) (Ok (kept own, bytes)))
    (row_at bytes >>= λ row. Ok (ignored, row.1)) (Ok x) e) [
      | inl h ↦
          let wrong = fault_at BadNumber left in
          let g = guard_off (leb 4294967296 (own.start + own.range + length own.value)) wrong (Ok (kept own, bytes)) x h.1 in
          subst (λ (y : PlainRole × List ℕ). Ended own (b ∷ bytes) y.0 y.1) (ok_is (kept own, bytes) x g.1) (record {
            first = b;
            end = [];
            parts = refl;
            is = (refl, eqb-true b 10 h.0, refl, leb-false _ _ g.0);
          })
      | inr h ↦
          let a = bind_ok (row_at bytes) (λ row. Ok (ignored, row.1)) x h.1 in
          let s = row_found bytes a.0 a.1 in
          subst (λ (y : PlainRole × List ℕ). Ended own (b ∷ bytes) y.0 y.1) (ok_is (ignored, a.0.1) x a.2)
          (record {
            first = b;
            end = a.0.0 ++ 10 ∷ [];
            parts = ap (λ (t : List ℕ). b ∷ t) (s.0 ∙ sym (append_assoc a.0.0 (10 ∷ []) a.0.1));
            is = (eqb-false b 10 h.0, (a.0.0, refl, s.1));
          })
    ]

-- what comes after a line moves into its grouping
pub regroup_line : (indent body end rest : List ℕ) (first : ℕ)
    → (indent ++ (62 ∷ (body ++ first ∷ end))) ++ rest ≡ indent ++ (62 ∷ (body ++ (first ∷ (end ++ rest))))
regroup_line indent body end rest first = simp append_assoc

-- the text of a line, and what comes after it
pub record Lined (limit : ℕ) (bytes : List ℕ) (line : PlainEntry) (rest : List ℕ) : Type 0 where
  pub text : List ℕ
  pub parts : bytes ≡ text ++ rest
  pub some : 0 < length text
  pub is : IsLine limit text line

-- a line that is read is spelled so
pub line_found : (limit : ℕ) (bytes : List ℕ) (x : PlainEntry × List ℕ) → line_at limit bytes ≡ Ok x → Lined limit bytes x.0 x.1
unfolding line_at
line_found limit bytes x e =
    let a = bind_ok (indent_at bytes) _ x e in
    let g = guard_off (ltb limit a.0.0) (fault_at BadIndent (length bytes)) _ x a.2 in
    let k = guard_off (leb 64 a.0.0) (fault_at TooDeep (length bytes)) _ x g.1 in
    let b = bind_ok (body_at a.0.1) _ x k.1 in
    let c = bind_ok (end_at (length bytes) b.0.0 b.0.1) (λ role. Ok (record { indent = a.0.0; role = role.0 }, role.1)) x b.2 in
    let indent = indent_found bytes a.0 a.1 in
    let body = body_found a.0.1 b.0 b.1 in
    let end = end_found (length bytes) b.0.0 b.0.1 c.0 c.1 in
    let text : List ℕ = indent.0 ++ (62 ∷ (body.text ++ end.first ∷ end.end)) in
    let regroup = regroup_line indent.0 body.text end.end c.0.1 end.first in
    subst (λ (y : PlainEntry × List ℕ). Lined limit bytes y.0 y.1) (ok_is (record { indent = a.0.0; role = c.0.0 }, c.0.1) x c.2) (record {
      text = text;
      parts = indent.1 ∙ ap (λ (t : List ℕ). indent.0 ++ 62 ∷ t) (body.parts ∙ ap (λ (t : List ℕ). body.text ++ t) end.parts) ∙ sym regroup;
      some = omega (arith, length-append indent.0 (62 ∷ (body.text ++ end.first ∷ end.end)));
      is = record {
        indent = indent.0;
        rest = body.text ++ end.first ∷ end.end;
        whole = refl;
        indent_is = indent.2;
        allowed = ltb-false _ _ g.0;
        shallow = leb-false _ _ k.0;
        rest_is = record {
          body = body.text;
          own = b.0.0;
          first = end.first;
          end = end.end;
          whole = refl;
          body_is = body.is end.first (end.end ++ c.0.1) end.parts;
          end_is = end.is;
        };
      };
    })
