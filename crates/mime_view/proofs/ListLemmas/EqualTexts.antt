-- A text whose order against a key is Equal is the key.
use Rattle.std.proofs.Common.{◌≡◌, ℕ, Bool, true, false, List, length, Equal, nat_cmp, refl, sym, ap, ◌∙◌}
use Rattle.std.specs.Prelude.{nat_eq, nat_lt, Ok}
use Rattle.std.specs.Cmp.Lexicographic.{slice_cmp}
use Rattle.std.specs.List.{common_prefix_len}
use Rattle.std.proofs.lemmas.Slice.Eq.{bytes_eq-Decides}
use Rattle.mime_base.specs.Cache.Texts.{before_zero, front, order_at, order_in, shared, text_at, text_in}
use Rattle.mime_base.proofs.CacheLemmas.Prefixes.{common_prefix_len-self}
use Rattle.mime_view.proofs.SearchLemmas.Lookups.{equal_texts}

-- the same of the bytes in which a text has its zero
text_in-equal : (room at : ℕ) (bytes key : List ℕ) → order_in room at bytes key ≡ Ok Equal → text_in room at bytes ≡ Ok key
text_in-equal room at bytes key e = by_reach (nat_lt (shared bytes key) (length bytes)) refl
  where
    by_reach : (reach : Bool) → nat_lt (shared bytes key) (length bytes) ≡ reach → text_in room at bytes ≡ Ok key
    by_reach false is = let refused = rw is at e in absurd (cc)
    by_reach true is =
        let order : slice_cmp nat_cmp (before_zero bytes) key ≡ Equal = let given = rw is at e in cc in
        let same : before_zero bytes ≡ key = (bytes_eq-Decides (before_zero bytes) key).0 (equal_texts (before_zero bytes) key order) in
        let whole : shared bytes key ≡ length key = ap (λ text. common_prefix_len nat_eq text key) same ∙ common_prefix_len-self key in
        let short : nat_lt (length key) (length bytes) ≡ true = ap (λ n. nat_lt n (length bytes)) (sym whole) ∙ is in
        rw same (rw short refl)

-- a text whose order is Equal is the key
pub equal_text : (c : List ℕ) (at : ℕ) (key : List ℕ) → order_at c at key ≡ Ok Equal → text_at c at ≡ Ok key
unfolding order_at text_at
equal_text c at key e = text_in-equal 256 at (front 256 c at) key e
