-- A deletion marker or a line: what is spelled so is read. A marker that begins within a line ends within it.
use Rattle.std.proofs.Common.{◌≡◌, ℕ, Bool, true, false, eqb, cond, List, [], ◌∷◌, ◌++◌, Option, Some, None, Ok, refl, sym, ap, ◌∙◌}
use Rattle.std.proofs.Common.{append_assoc, inl, inr, eq-eqb}
use Rattle.mime_base.specs.Magic.{PlainLine}
use Rattle.mime_text.specs.Magic.Entries.{PlainRole, kept, ignored, marker, PlainEntry}
use Rattle.mime_text.specs.Magic.Reading.{line_at, unsized, short, sized, after_prefix, or_else, marker_at, marked, entry_at}
use Rattle.mime_text.specs.Magic.Text.{IsEnd, IsLine, IsMarker, BeginsMarker, IsEntry}
use Rattle.mime_text.proofs.MagicLemmas.Prefixes.{after_prefix_found}
use Rattle.mime_text.proofs.MagicLemmas.LineOnly.{line_only}

-- bytes without a newline
clean : List ℕ → Bool
clean [] = true
clean (b ∷ q) = cond (eqb b 10) false (clean q)

-- its first byte is none
clean_on : (b : ℕ) (q : List ℕ) → clean (b ∷ q) ≡ true → (eqb b 10 ≡ false) × (clean q ≡ true)
unfolding clean
clean_on b q e =
    go (eqb b 10) e
  where
    go : (t : Bool) → cond t false (clean q) ≡ true → (t ≡ false) × (clean q ≡ true)
    go true h = absurd cc
    go false h = (refl, h)

-- equal lists begin so
head_is : (a b : ℕ) (x y : List ℕ) → a ∷ x ≡ b ∷ y → (a ≡ b) × (x ≡ y)
head_is a b x y e = (cc, cc)

-- of two lines that begin alike, the one without an inner newline is no longer
within : (q init rest r : List ℕ) → clean q ≡ true → (init ++ 10 ∷ []) ++ rest ≡ (q ++ 10 ∷ []) ++ r
    → (more : List ℕ) × (init ++ 10 ∷ [] ≡ (q ++ 10 ∷ []) ++ more)
within [] [] rest r is e = ([], refl)
within [] (i ∷ init) rest r is e =
    let h = head_is i 10 ((init ++ 10 ∷ []) ++ rest) r e in
    (init ++ 10 ∷ [], ap (λ (k : ℕ). k ∷ (init ++ 10 ∷ [])) h.0)
within (b ∷ q) [] rest r is e =
    let h = head_is 10 b rest ((q ++ 10 ∷ []) ++ r) e in
    let c = clean_on b q is in
    let t : eqb b 10 ≡ true = eq-eqb b 10 (sym h.0) in
    let f : eqb b 10 ≡ false = c.0 in
    absurd cc
within (b ∷ q) (i ∷ init) rest r is e =
    let h = head_is i b ((init ++ 10 ∷ []) ++ rest) ((q ++ 10 ∷ []) ++ r) e in
    let w = within q init rest r (clean_on b q is).1 h.1 in
    (w.0, ap (λ (k : ℕ). k ∷ (init ++ 10 ∷ [])) h.0 ∙ ap (λ (t : List ℕ). b ∷ t) w.1)

-- a front that stands nowhere is not found
none_after : (p text rest : List ℕ) → ((r : List ℕ) → text ++ rest ≡ p ++ r → ⊥) → after_prefix p (text ++ rest) ≡ None
none_after p text rest never =
    go (after_prefix p (text ++ rest)) refl
  where
    go : (o : Option (List ℕ)) → after_prefix p (text ++ rest) ≡ o → o ≡ None
    go (Some r) e = absurd (never r (after_prefix_found p (text ++ rest) r e))
    go None e = refl

-- a line ends in a newline
line_ends : (limit : ℕ) (text : List ℕ) (line : PlainEntry) → IsLine limit text line → (init : List ℕ) × (text ≡ init ++ 10 ∷ [])
line_ends limit text line is =
    let r = is.rest_is in
    let end : (tail : List ℕ) × (r.first ∷ r.end ≡ tail ++ 10 ∷ []) = ends_so r.own r.first r.end line.role r.end_is in
    let rest : is.rest ≡ r.body ++ (end.0 ++ 10 ∷ []) = r.whole ∙ ap (λ (t : List ℕ). r.body ++ t) end.1 in
    let whole : text ≡ is.indent ++ (62 ∷ (r.body ++ (end.0 ++ 10 ∷ []))) = is.whole ∙ ap (λ (t : List ℕ). is.indent ++ 62 ∷ t) rest in
    (is.indent ++ (62 ∷ (r.body ++ end.0)), whole ∙ regroup_end is.indent r.body end.0)
  where
    ends_so : (own : PlainLine) (b : ℕ) (end : List ℕ) (role : PlainRole) → IsEnd own b end role
        → (tail : List ℕ) × (b ∷ end ≡ tail ++ 10 ∷ [])
    ends_so own b end (kept l) is = ([], ap (λ (k : ℕ). k ∷ end) is.1 ∙ ap (λ (t : List ℕ). 10 ∷ t) is.2)
    ends_so own b end ignored is = (b ∷ is.1.0, ap (λ (t : List ℕ). b ∷ t) is.1.1)
    ends_so own b end marker is = absurd is

    regroup_end : (indent body tail : List ℕ) → indent ++ (62 ∷ (body ++ (tail ++ 10 ∷ []))) ≡ (indent ++ (62 ∷ (body ++ tail))) ++ 10 ∷ []
    regroup_end indent body tail = sym (simp append_assoc)

-- a line that begins with no marker begins with none before more bytes
no_front : (q text rest : List ℕ) → clean q ≡ true → IsMarker (q ++ 10 ∷ []) → (init : List ℕ) × (text ≡ init ++ 10 ∷ [])
    → (BeginsMarker text → ⊥) → after_prefix (q ++ 10 ∷ []) (text ++ rest) ≡ None
no_front q text rest is mark ends never = none_after (q ++ 10 ∷ []) text rest (λ r e.
    let w = within q ends.0 rest r is (ap (λ (t : List ℕ). t ++ rest) (sym ends.1) ∙ e) in
    never (q ++ 10 ∷ [], w.0, mark, ends.1 ∙ w.1))

-- so no marker is read there
no_marker_at : (text rest : List ℕ) → (init : List ℕ) × (text ≡ init ++ 10 ∷ []) → (BeginsMarker text → ⊥) → marker_at (text ++ rest) ≡ None
unfolding marker_at clean
no_marker_at text rest ends never =
    let a : after_prefix unsized (text ++ rest) ≡ None =
    no_front (62 ∷ 48 ∷ 61 ∷ 95 ∷ 95 ∷ 78 ∷ 79 ∷ 77 ∷ 65 ∷ 71 ∷ 73 ∷ 67 ∷ 95 ∷ 95 ∷ []) text rest refl (inl refl) ends never in
    let b : after_prefix short (text ++ rest) ≡ None =
    no_front (62 ∷ 48 ∷ 95 ∷ 95 ∷ 78 ∷ 79 ∷ 77 ∷ 65 ∷ 71 ∷ 73 ∷ 67 ∷ 95 ∷ 95 ∷ []) text rest refl (inr (inl refl)) ends never in
    let c : after_prefix sized (text ++ rest) ≡ None =
    no_front (62 ∷ 48 ∷ 61 ∷ 0 ∷ 11 ∷ 95 ∷ 95 ∷ 78 ∷ 79 ∷ 77 ∷ 65 ∷ 71 ∷ 73 ∷ 67 ∷ 95 ∷ 95 ∷ []) text rest refl
    (inr (inr refl)) ends never in
    ap (λ (o : Option (List ℕ)). or_else o (or_else (after_prefix short (text ++ rest)) (after_prefix sized (text ++ rest)))) a
    ∙ ap (λ (o : Option (List ℕ)). or_else o (after_prefix sized (text ++ rest))) b ∙ c

-- a marker
marker_only : (text rest : List ℕ) → IsMarker text → marker_at (text ++ rest) ≡ Some rest
unfolding marker_at after_prefix
marker_only text rest (inl is) = ap (λ (t : List ℕ). marker_at (t ++ rest)) is
marker_only text rest (inr (inl is)) = ap (λ (t : List ℕ). marker_at (t ++ rest)) is
marker_only text rest (inr (inr is)) = ap (λ (t : List ℕ). marker_at (t ++ rest)) is

-- a marker or a line that is spelled so is read
pub entry_only : (limit : ℕ) (text : List ℕ) (line : PlainEntry) (rest : List ℕ) → IsEntry limit text line
    → entry_at limit (text ++ rest) ≡ Ok (line, rest)
unfolding entry_at
entry_only limit text line rest (inl is) =
    ap (λ (o : Option (List ℕ)). marked o (line_at limit (text ++ rest))) (marker_only text rest is.0)
    ∙ ap (λ (l : PlainEntry). Ok (l, rest)) (sym is.1)
entry_only limit text line rest (inr is) =
    ap (λ (o : Option (List ℕ)). marked o (line_at limit (text ++ rest))) (no_marker_at text rest (line_ends limit text line is.1) is.0)
    ∙ line_only limit text line rest is.1
