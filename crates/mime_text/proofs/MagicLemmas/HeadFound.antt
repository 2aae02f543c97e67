-- The head of a section against the grammar: what is read is spelled so.
use Rattle.std.proofs.Common.{◌≡◌, ℕ, suc, ◌-◌, ◌<◌, ◌&&◌, true, eqb, List, [], ◌∷◌, ◌++◌, length, take, get_or, Result, Ok, Err, sym, ap}
use Rattle.std.proofs.Common.{subst, ◌∙◌, append_assoc, arith}
use Rattle.std.proofs.lemmas.Bool.{eqb-true, and_parts}
use Rattle.mime_text.specs.declared.magic.fault.Fault.{Fault}
use Rattle.mime_text.specs.declared.magic.fault.MagicFaultKind.TheVariants.{BadSection}
use Rattle.mime_text.specs.Magic.Reading.{fault_at, number_at, byte_at, row_at, kind_of, head_of, instead, head_at}
use Rattle.mime_base.specs.Names.{is_type_name}
use Rattle.mime_text.proofs.MagicLemmas.Prefixes.{row_found}
use Rattle.mime_text.specs.Magic.Text.{IsNumber}
use Rattle.mime_text.proofs.MagicLemmas.Steps.{bind_ok, guard_on, ok_is}
use Rattle.mime_text.proofs.MagicLemmas.Numbers.{number_found}
use Rattle.mime_text.proofs.MagicLemmas.PartsFound.{byte_found}

-- a list that ends in a byte
ends_in : (bytes : List ℕ) (b : ℕ) → get_or bytes (length bytes - 1) 0 ≡ b → 0 < b → bytes ≡ take (length bytes - 1) bytes ++ b ∷ []
ends_in [] b is some = absurd (omega (arith, is))
ends_in (x ∷ []) b is some = ap (λ (k : ℕ). k ∷ []) is
ends_in (x ∷ y ∷ bytes) b is some =
    let k : length (x ∷ y ∷ bytes) - 1 ≡ suc (length (y ∷ bytes) - 1) = omega arith in
    let next : get_or (y ∷ bytes) (length (y ∷ bytes) - 1) 0 ≡ b = sym (ap (λ (m : ℕ). get_or (x ∷ y ∷ bytes) m 0) k) ∙ is in
    ap (λ (t : List ℕ). x ∷ t) (ends_in (y ∷ bytes) b next some) ∙ sym (ap (λ (m : ℕ). take m (x ∷ y ∷ bytes) ++ b ∷ []) k)

-- a type and its bracket that are read are spelled so
pub kind_found : (wrong : Fault) (bytes kind : List ℕ) → kind_of wrong bytes ≡ Ok kind
    → (bytes ≡ kind ++ 93 ∷ []) × (is_type_name kind ≡ true)
unfolding kind_of
kind_found wrong bytes kind e =
    let g = guard_on (eqb (get_or bytes (length bytes - 1) 0) 93 && is_type_name (take (length bytes - 1) bytes)) wrong
    (Ok (take (length bytes - 1) bytes)) kind e in
    let p = and_parts (eqb (get_or bytes (length bytes - 1) 0) 93) (is_type_name (take (length bytes - 1) bytes)) g.0 in
    subst (λ (k : List ℕ). (bytes ≡ k ++ 93 ∷ []) × (is_type_name k ≡ true)) (ok_is (take (length bytes - 1) bytes) kind g.1)
    (ends_in bytes 93 (eqb-true _ _ p.0) (omega arith), p.1)

-- the text of a head, and what comes after it
pub record Headed (bytes : List ℕ) (priority : ℕ) (kind rest : List ℕ) : Type 0 where
  pub text : List ℕ
  pub parts : bytes ≡ 91 ∷ (text ++ (58 ∷ (kind ++ (93 ∷ 10 ∷ rest))))
  pub priority_is : IsNumber text priority
  pub kind_is : is_type_name kind ≡ true

-- how the row of a head is spelled after its first byte
pub record HeadRow (row : List ℕ) (priority : ℕ) (kind : List ℕ) : Type 0 where
  pub text : List ℕ
  pub parts : row ≡ text ++ (58 ∷ (kind ++ 93 ∷ []))
  pub priority_is : IsNumber text priority
  pub kind_is : is_type_name kind ≡ true

-- such a row that is read is spelled so
pub head_row_found : (wrong : Fault) (row : List ℕ) (x : ℕ × List ℕ) → head_of wrong row ≡ Ok x → HeadRow row x.0 x.1
unfolding head_of
head_row_found wrong row x e =
    let a = bind_ok (number_at row) _ x e in
    let b = bind_ok (byte_at 58 wrong a.0.1) _ x a.2 in
    let c = bind_ok (kind_of wrong b.0) (λ kind. Ok (a.0.0, kind)) x b.2 in
    let n = number_found row a.0 a.1 in
    let colon = byte_found 58 wrong a.0.1 b.0 b.1 in
    let kind = kind_found wrong b.0 c.0 c.1 in
    subst (λ (y : ℕ × List ℕ). HeadRow row y.0 y.1) (ok_is (a.0.0, c.0) x c.2)
    (record {
      text = n.text;
      parts = n.parts ∙ ap (λ (t : List ℕ). n.text ++ t) (colon ∙ ap (λ (t : List ℕ). 58 ∷ t) kind.0);
      priority_is = n.is;
      kind_is = kind.1;
    })

-- what goes well keeps its value
instead_ok : {A : Type 0} (wrong : Fault) (r : Result A Fault) (x : A) → instead wrong r ≡ Ok x → r ≡ Ok x
instead_ok wrong (Ok y) x e = e
instead_ok wrong (Err f) x e = absurd cc

-- the row of a head, and what comes after it, move into one grouping
pub regroup_head : (text kind rest : List ℕ) → (text ++ (58 ∷ (kind ++ 93 ∷ []))) ++ 10 ∷ rest ≡ text ++ (58 ∷ (kind ++ (93 ∷ 10 ∷ rest)))
regroup_head text kind rest = simp append_assoc

-- a head that is read is spelled so
pub head_found : (bytes : List ℕ) (x : (ℕ × List ℕ) × List ℕ) → head_at bytes ≡ Ok x → Headed bytes x.0.0 x.0.1 x.1
unfolding head_at
head_found [] x e = absurd cc
head_found (b ∷ bytes) x e =
    let wrong : Fault = fault_at BadSection (length (b ∷ bytes)) in
    let g = guard_on (eqb b 91) wrong _ x e in
    let a = bind_ok (row_at bytes) _ x g.1 in
    let c = bind_ok (instead wrong (head_of wrong a.0.0)) (λ head. Ok (head, a.0.1)) x a.2 in
    let row = row_found bytes a.0 a.1 in
    let h = head_row_found wrong a.0.0 c.0 (instead_ok wrong (head_of wrong a.0.0) c.0 c.1) in
    let is : b ≡ 91 = eqb-true b 91 g.0 in
    subst (λ (y : (ℕ × List ℕ) × List ℕ). Headed (b ∷ bytes) y.0.0 y.0.1 y.1) (ok_is (c.0, a.0.1) x c.2)
    (record {
      text = h.text;
      parts = ap (λ (k : ℕ). k ∷ bytes) is
          ∙ ap (λ (t : List ℕ). 91 ∷ t) (row.0 ∙ ap (λ (t : List ℕ). t ++ 10 ∷ a.0.1) h.parts ∙ regroup_head h.text c.0.1 a.0.1);
      priority_is = h.priority_is;
      kind_is = h.kind_is;
    })
