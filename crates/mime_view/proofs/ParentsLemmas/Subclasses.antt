-- A type that has no place among those that have a parent has none.
use Rattle.std.proofs.Common.{◌≡◌, ℕ, suc, Bool, true, false, List, [], ◌∷◌, Option, None, Some, cond, IsPermutation, refl, sym, ◌∙◌}
use Rattle.std.specs.Prelude.{bytes_eq, option_map}
use Rattle.std.specs.Set.{is_member}
use Rattle.std.proofs.lemmas.Cmp.{nat_list_eq_equiv}
use Rattle.mime_base.specs.Database.Subclass.{parents}
use Rattle.mime_base.specs.Format.Parents.{subclasses}
use Rattle.mime_base.proofs.FormatLemmas.Subclasses.{kinds-has, parents-none}
use Rattle.mime_view.specs.Lists.{place_of}

-- a text without a place is not a member
place_of-lacks : (texts : List (List ℕ)) (text : List ℕ) → place_of texts text ≡ None → is_member bytes_eq texts text ≡ false
place_of-lacks [] text none = refl
place_of-lacks (first ∷ texts) text none = by_first (bytes_eq first text) refl none (place_of-lacks texts text)
  where
    stays : (place : Option ℕ) → option_map suc place ≡ None → place ≡ None
    stays None none = refl
    stays (Some i) none = absurd (cc)

    by_first : (same : Bool) → bytes_eq first text ≡ same → cond same (Some 0) (option_map suc (place_of texts text)) ≡ None
        → (place_of texts text ≡ None → is_member bytes_eq texts text ≡ false) → is_member bytes_eq (first ∷ texts) text ≡ false
    by_first true same none more = absurd (cc)
    by_first false same none more =
        let e = nat_list_eq_equiv.symm text first ∙ same in rw e (more (stays (place_of texts text) none))

-- a type that has no place there has no parent
pub others_have_none : (pairs : List (List ℕ × List ℕ)) (kinds : List (List ℕ)) → IsPermutation (subclasses pairs) kinds → (kind : List ℕ)
    → place_of kinds kind ≡ None → parents pairs kind ≡ []
others_have_none pairs kinds permuted kind none =
    parents-none pairs kind (sym (kinds-has pairs kinds permuted kind) ∙ place_of-lacks kinds kind none)
