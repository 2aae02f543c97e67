-- The place that a search finds in a sorted list: as many texts are less than the key as stand before it.
use Rattle.std.proofs.Common.{◌≡◌, ℕ, zero, suc, ◌+◌, ◌-◌, ◌*◌, ◌<◌, true, false, List, [], ◌∷◌}
use Rattle.std.proofs.Common.{length, get_or, Less, Ordering, Equal, Greater, true≢false, refl, sym, ap, ◌∙◌, arith}
use Rattle.std.specs.Prelude.{◌≢◌}
use Rattle.std.specs.Ordering.{is_lt}
use Rattle.std.proofs.lemmas.Bool.{true_from_ne_false}
use Rattle.std.proofs.lemmas.List.Sorted.{sorted_far}
use Rattle.mime_base.specs.Format.Sorted.{text_lt}
use Rattle.mime_base.proofs.FormatLemmas.TextOrder.{text_order}
use Rattle.mime_view.specs.Lists.{AreSorted, HasText, IsPlace, KeysAt, SplitsAt}

-- the key i stands at the record i
pub key_at : (c : List ℕ) (at size : ℕ) (keys : List (List ℕ)) (i : ℕ) → KeysAt c at size keys → i < length keys
    → HasText c at size i (get_or keys i [])
key_at c at size [] i stand l = absurd (omega arith)
key_at c at size (key ∷ keys) zero stand l = let e : at + size * 0 ≡ at = omega arith in rw e stand.0
key_at c at size (key ∷ keys) (suc i) stand l =
    let m : size * suc i ≡ size + size * i = omega arith in
    let e : at + size * suc i ≡ at + size + size * i = omega arith in
    rw e (key_at c (at + size) size keys i stand.1 (omega arith))

-- an order that is no Less is no less
no_less : (o : Ordering) → o ≢ Less → is_lt o ≡ false
no_less Less other = absurd (other refl)
no_less Equal other = refl
no_less Greater other = refl

-- the place of a search among texts that stand and are sorted
pub splits-found : (c : List ℕ) (first size count : ℕ) (key : List ℕ) (place : ℕ) (keys : List (List ℕ)) → length keys ≡ count
    → IsPlace c first size count key place → KeysAt c first size keys → AreSorted keys → SplitsAt keys key place
splits-found c first size count key place keys n is stand sorted =
    let within = is.within in
    let text : ℕ → List ℕ = λ i. get_or keys i [] in
    let last : 0 < place → text_lt (text (place - 1)) key ≡ true =
    λ some. ap is_lt (is.before (place - 1) _ (omega arith) (key_at c first size keys (place - 1) stand (omega arith))) in
    let here : place < count → text_lt (text place) key ≡ false =
    λ l. no_less _ (is.after _ l (key_at c first size keys place stand (omega arith))) in
    record {
      within = omega arith;
      less = λ i l. true_from_ne_false _ (λ no.
          let far = sorted_far text_lt text_order keys sorted i (place - 1) [] (omega arith) (omega arith) in
          true≢false (sym (last (omega arith)) ∙ text_order.chain (text (place - 1)) (text i) key far no));
      not_less = λ i g l.
          let far = sorted_far text_lt text_order keys sorted place i [] g l in
          text_order.chain (text i) (text place) key far (here (omega arith));
    }
