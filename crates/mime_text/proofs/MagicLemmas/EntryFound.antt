-- A marker or a line against the grammar: what is read is spelled so.
use Rattle.std.proofs.Common.{◌≡◌, ℕ, ◌<◌, List, ◌++◌, length, length-append, Option, Some, None, Ok, refl, sym, ap, subst, ◌∙◌}
use Rattle.std.proofs.Common.{append_assoc, arith, inl, inr, ◌⊎◌}
use Rattle.mime_text.specs.Magic.Entries.{marker, PlainEntry}
use Rattle.mime_text.specs.Magic.Reading.{line_at, unsized, short, sized, after_prefix, or_else, marker_at, marked, entry_at}
use Rattle.mime_text.specs.Magic.Text.{IsMarker, BeginsMarker, IsEntry}
use Rattle.mime_text.proofs.MagicLemmas.Steps.{ok_is}
use Rattle.mime_text.proofs.MagicLemmas.Prefixes.{after_prefix_only, after_prefix_found}
use Rattle.mime_text.proofs.MagicLemmas.LineFound.{line_found}

-- one of two searches found it
or_some : (o p : Option (List ℕ)) (x : List ℕ) → or_else o p ≡ Some x → (o ≡ Some x) ⊎ (p ≡ Some x)
or_some (Some y) p x e = inl e
or_some None p x e = inr e

-- neither of two searches found it
or_none : (o p : Option (List ℕ)) → or_else o p ≡ None → (o ≡ None) × (p ≡ None)
or_none (Some y) p e = absurd cc
or_none None p e = (refl, e)

-- a marker that is read is spelled so
pub marker_found : (bytes rest : List ℕ) → marker_at bytes ≡ Some rest
    → (text : List ℕ) × (bytes ≡ text ++ rest) × (0 < length text) × IsMarker text
unfolding marker_at
marker_found bytes rest e =
    elim (or_some (after_prefix unsized bytes) (or_else (after_prefix short bytes) (after_prefix sized bytes)) rest e) [
      | inl a ↦ (unsized, after_prefix_found unsized bytes rest a, omega arith, inl refl)
      | inr b ↦ elim (or_some (after_prefix short bytes) (after_prefix sized bytes) rest b) [
        | inl a ↦ (short, after_prefix_found short bytes rest a, omega arith, inr (inl refl))
        | inr a ↦ (sized, after_prefix_found sized bytes rest a, omega arith, inr (inr refl))
      ]
    ]

-- where a front is not found, the text has it not
not_after : (p text rest : List ℕ) → after_prefix p (text ++ rest) ≡ None → (more : List ℕ) → text ≡ p ++ more → ⊥
not_after p text rest e more is =
    let s : after_prefix p (text ++ rest) ≡ Some (more ++ rest) = ap (λ (t : List ℕ). after_prefix p (t ++ rest)) is
    ∙ ap (after_prefix p) (append_assoc p more rest) ∙ after_prefix_only p (more ++ rest) in
    cc

-- where no marker is found, the text begins with none
no_marker : (text rest : List ℕ) → marker_at (text ++ rest) ≡ None → BeginsMarker text → ⊥
unfolding marker_at
no_marker text rest e (front, more, is, parts) =
    let a = or_none (after_prefix unsized (text ++ rest))
    (or_else (after_prefix short (text ++ rest)) (after_prefix sized (text ++ rest))) e in
    let b = or_none (after_prefix short (text ++ rest)) (after_prefix sized (text ++ rest)) a.1 in
    elim is [
      | inl p ↦ not_after unsized text rest a.0 more (parts ∙ ap (λ (t : List ℕ). t ++ more) p)
      | inr q ↦ elim q [
        | inl p ↦ not_after short text rest b.0 more (parts ∙ ap (λ (t : List ℕ). t ++ more) p)
        | inr p ↦ not_after sized text rest b.1 more (parts ∙ ap (λ (t : List ℕ). t ++ more) p)
      ]
    ]

-- the text of an entry, and what comes after it
pub record Entered (limit : ℕ) (bytes : List ℕ) (line : PlainEntry) (rest : List ℕ) : Type 0 where
  pub text : List ℕ
  pub parts : bytes ≡ text ++ rest
  pub shorter : length rest < length bytes
  pub shallow : line.indent < 64
  pub is : IsEntry limit text line

-- an entry that is read is spelled so
pub entry_found : (limit : ℕ) (bytes : List ℕ) (x : PlainEntry × List ℕ) → entry_at limit bytes ≡ Ok x → Entered limit bytes x.0 x.1
unfolding entry_at
entry_found limit bytes x e =
    let go : (o : Option (List ℕ)) → marker_at bytes ≡ o → marked o (line_at limit bytes) ≡ Ok x → Entered limit bytes x.0 x.1 = λ o.
    elim o as (λ o. marker_at bytes ≡ o → marked o (line_at limit bytes) ≡ Ok x → Entered limit bytes x.0 x.1) [
      | Some rest ↦ λ is h.
          let m = marker_found bytes rest is in
          subst (λ (y : PlainEntry × List ℕ). Entered limit bytes y.0 y.1) (ok_is (record { indent = 0; role = marker }, rest) x h)
          (record {
            text = m.0;
            parts = m.1;
            shorter = omega (arith, ap length m.1, length-append m.0 rest, m.2);
            shallow = omega arith;
            is = inl (m.3, refl);
          })
      | None ↦ λ is h.
          let l = line_found limit bytes x h in
          let none : marker_at (l.text ++ x.1) ≡ None = ap marker_at (sym l.parts) ∙ is in
          record {
            text = l.text;
            parts = l.parts;
            shorter = omega (arith, ap length l.parts, length-append l.text x.1, l.some);
            shallow = l.is.shallow;
            is = inr (no_marker l.text x.1 none, l.is);
          }
    ] in
    go (marker_at bytes) refl e
