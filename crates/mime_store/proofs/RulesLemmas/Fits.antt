-- Names of types and icons, and stored texts, are texts that a cache may hold.
use Rattle.std.proofs.Common.{◌≡◌, ℕ, ◌≤◌, Bool, true, List, [], ◌∷◌, ◌++◌, length, refl, sym, ap, ◌∙◌, append_assoc, arith}
use Rattle.std.specs.List.{list_all}
use Rattle.std.proofs.lemmas.Bool.{and_parts, leb-true, lt-ltb, ltb-true}
use Rattle.mime_base.specs.Cache.Texts.{HasNoZero, IsText, ended}
use Rattle.mime_base.specs.Format.Records.{TextAt}
use Rattle.mime_base.specs.Matching.Folding.{compared}
use Rattle.mime_base.specs.Names.{has_inner_slash, is_icon_byte, is_icon_name, is_name_byte, is_pattern, is_type_name}
use Rattle.mime_store.specs.Texts.{NoZero, fits_text, has_no_zero}
use Rattle.mime_store.specs.Written.{Written}
use Rattle.mime_store.proofs.RulesLemmas.Texts.{compared_pattern, has_no_zero-from, not_zero}

-- the test for zero bytes is right
no_zero : (text : List ℕ) → has_no_zero text ≡ true → HasNoZero text
no_zero [] all = tt
no_zero (b ∷ text) all =
    (λ e. absurd (omega (arith, ltb-true 0 b (and_parts _ _ all).0, e)), no_zero text (and_parts _ _ all).1)

-- what the test accepts is a text
is_text_from : (text : List ℕ) → fits_text text ≡ true → IsText text
unfolding fits_text
is_text_from text fits =
    let both = and_parts (has_no_zero text) _ fits in
    record { no_zero = no_zero text both.0; short = ltb-true (length text) 256 both.1 }

-- a text, its zero and zeros were written one after another
pub text_stands : (old one two new text zeros : List ℕ) (at : ℕ) → 40 ≤ length old → at ≡ length old → fits_text text ≡ true
    → one ≡ old ++ text → two ≡ one ++ 0 ∷ [] → new ≡ two ++ zeros → TextAt (Written new) at text
text_stands old one two new text zeros at begun place fits p q r =
    let whole : two ≡ old ++ ended text = q ∙ ap (λ l. l ++ 0 ∷ []) p ∙ append_assoc old text (0 ∷ []) in
    record {
      is_text = is_text_from text fits;
      stand = record {
        stands = record {
          front = old;
          back = zeros;
          place = sym place;
          split = r ∙ ap (λ l. l ++ zeros) whole ∙ append_assoc old (ended text) zeros;
        };
        after = rw place begun;
      };
    }

-- the test accepts short texts without a zero byte
fits : (text : List ℕ) → NoZero text → length text ≤ 255 → fits_text text ≡ true
unfolding fits_text
fits text none short = rw (has_no_zero-from text none, lt-ltb (length text) 256 (omega (arith, short))) refl

-- no byte of a type's name is zero
name_bytes : (name : List ℕ) → list_all is_name_byte name ≡ true → NoZero name
name_bytes [] all = tt
name_bytes (b ∷ name) all =
    let both = and_parts (is_name_byte b) _ all in
    (omega (arith, ltb-true 32 b (and_parts _ _ both.0).0), name_bytes name both.1)

-- the name of a type
pub type_fits : (name : List ℕ) → is_type_name name ≡ true → fits_text name ≡ true
unfolding is_type_name
type_fits name is =
    let all = and_parts _ (has_inner_slash name) is in
    let bytes = and_parts _ (list_all is_name_byte name) all.0 in
    fits name (name_bytes name bytes.1) (leb-true (length name) 255 (and_parts _ _ bytes.0).1)

-- no byte of an icon's name is zero
icon_bytes : (name : List ℕ) → list_all is_icon_byte name ≡ true → NoZero name
icon_bytes [] all = tt
icon_bytes (b ∷ name) all =
    let both = and_parts (is_icon_byte b) _ all in
    (not_zero b (and_parts _ _ both.0).0, icon_bytes name both.1)

-- the name of an icon
pub icon_fits : (name : List ℕ) → is_icon_name name ≡ true → fits_text name ≡ true
unfolding is_icon_name
icon_fits name is =
    let all = and_parts _ (list_all is_icon_byte name) is in
    fits name (icon_bytes name all.1) (leb-true (length name) 255 (and_parts _ _ all.0).1)

-- what is compared of a pattern
pub compared_fits : (cased : Bool) (text : List ℕ) → is_pattern text ≡ true → fits_text (compared cased text) ≡ true
compared_fits cased text is =
    let limits = compared_pattern cased text is in
    fits (compared cased text) limits.2 limits.1
