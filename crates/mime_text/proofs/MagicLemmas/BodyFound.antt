-- From the start of a line to its range, against the grammar: what is read is spelled so.
use Rattle.std.proofs.Common.{◌≡◌, ℕ, List, ◌∷◌, ◌++◌, length, Ok, refl, sym, ap, subst, ◌∙◌, append_assoc}
use Rattle.mime_base.specs.Magic.{PlainLine, line_from}
use Rattle.mime_text.specs.Magic.Reading.{start_at, sized_at, mask_at, word_at, range_at, body_at}
use Rattle.mime_text.specs.Magic.Text.{AreOptions, IsBody}
use Rattle.mime_text.proofs.MagicLemmas.Steps.{bind_ok, ok_is}
use Rattle.mime_text.proofs.MagicLemmas.PartsFound.{start_found, value_found}
use Rattle.mime_text.proofs.MagicLemmas.OptionsFound.{mask_found, word_found, range_found, PassesMask, Passes, ends_are}

-- what comes after mask, word and range moves into their grouping
pub regroup_options : (m w r tail : List ℕ) → (m ++ (w ++ r)) ++ tail ≡ m ++ (w ++ (r ++ tail))
regroup_options m w r tail = simp append_assoc

-- what comes after a body moves into its grouping
pub regroup_body : (s v options tail : List ℕ) (high low : ℕ)
    → (s ++ (61 ∷ high ∷ low ∷ (v ++ options))) ++ tail ≡ s ++ (61 ∷ high ∷ low ∷ (v ++ (options ++ tail)))
regroup_body s v options tail high low = simp append_assoc

-- the text of a body, and what comes after it
pub record Bodied (bytes : List ℕ) (own : PlainLine) (rest : List ℕ) : Type 0 where
  pub text : List ℕ
  pub parts : bytes ≡ text ++ rest
  pub is : (b : ℕ) (tail : List ℕ) → rest ≡ b ∷ tail → IsBody text own b

-- a body that is read is spelled so
pub body_found : (bytes : List ℕ) (x : PlainLine × List ℕ) → body_at bytes ≡ Ok x → Bodied bytes x.0 x.1
unfolding body_at
body_found bytes x e =
    let a = bind_ok (start_at bytes) _ x e in
    let b = bind_ok (sized_at a.0.1) _ x a.2 in
    let c = bind_ok (mask_at (length b.0.0) b.0.1) _ x b.2 in
    let d = bind_ok (word_at (length b.0.0) c.0.1) _ x c.2 in
    let f = bind_ok (range_at d.0.1) (λ range. Ok (line_from a.0.0 range.0 d.0.0 b.0.0 c.0.0, range.1)) x d.2 in
    let own : PlainLine = line_from a.0.0 f.0.0 d.0.0 b.0.0 c.0.0 in
    let start = start_found bytes a.0 a.1 in
    let value = value_found a.0.1 b.0 b.1 in
    let mask = mask_found (length b.0.0) b.0.1 c.0 c.1 in
    let word = word_found (length b.0.0) c.0.1 d.0 d.1 in
    let range = range_found d.0.1 f.0 f.1 in
    let w1 : d.0.1 ≡ range.text ++ f.0.1 = range.parts in
    let m1 : c.0.1 ≡ word.0.text ++ (range.text ++ f.0.1) = word.0.parts ∙ ap (λ (t : List ℕ). word.0.text ++ t) w1 in
    let options : List ℕ = mask.text ++ (word.0.text ++ range.text) in
    let v1 : b.0.1 ≡ options ++ f.0.1 = mask.parts ∙ ap (λ (t : List ℕ). mask.text ++ t) m1
    ∙ sym (regroup_options mask.text word.0.text range.text f.0.1) in
    let s1 : a.0.1 ≡ value.0 ∷ value.1 ∷ (b.0.0 ++ (options ++ f.0.1)) = value.2
    ∙ ap (λ (t : List ℕ). value.0 ∷ value.1 ∷ (b.0.0 ++ t)) v1 in
    let whole : bytes ≡ start.0 ++ (61 ∷ value.0 ∷ value.1 ∷ (b.0.0 ++ (options ++ f.0.1))) = start.1
    ∙ ap (λ (t : List ℕ). start.0 ++ 61 ∷ t) s1 in
    let options_are : (b : ℕ) (tail : List ℕ) → f.0.1 ≡ b ∷ tail → AreOptions options own b = λ k tail h. record {
      mask = mask.text;
      word = word.0.text;
      range = range.text;
      whole = refl;
      mask_is = mask.is;
      word_is = word.0.is;
      word_fits = word.1;
      range_is = range.is;
      ends = ends_are mask.text word.0.text range.text k tail
          (subst (λ (t : List ℕ). PassesMask mask.text t) (m1 ∙ ap (λ (t : List ℕ). word.0.text ++ (range.text ++ t)) h) mask.passes)
          (subst (λ (t : List ℕ). Passes 126 word.0.text t) (w1 ∙ ap (λ (t : List ℕ). range.text ++ t) h) word.0.passes)
          (subst (λ (t : List ℕ). Passes 43 range.text t) h range.passes);
    } in
    subst (λ (y : PlainLine × List ℕ). Bodied bytes y.0 y.1) (ok_is (own, f.0.1) x f.2)
    (record {
      text = start.0 ++ (61 ∷ value.0 ∷ value.1 ∷ (b.0.0 ++ options));
      parts = whole ∙ sym (regroup_body start.0 b.0.0 options f.0.1 value.0 value.1);
      is = λ k tail h. record {
        start = start.0;
        high = value.0;
        low = value.1;
        options = options;
        whole = refl;
        start_is = start.2;
        size = value.3;
        options_are = options_are k tail h;
      };
    })
