-- Texts that a list of offsets names, read one after another.
use Rattle.std.proofs.Common.{◌≡◌, ◌<◌, ◌≤◌, ℕ, suc, ◌+◌, ◌*◌, List, [], ◌∷◌, ◌++◌, length, inl, inr, refl, sym, ap, ap₂, ◌∙◌, arith}
use Rattle.std.specs.Prelude.{Ok, map}
use Rattle.std.specs.Borrow.{Bor}
use Rattle.std.proofs.lemmas.List.{length-map, map-append}
use Rattle.mime_base.specs.Cache.Bytes.{field}
use Rattle.mime_base.specs.Cache.Texts.{text_at}
use Rattle.mime_view.specs.Lists.{KeysAt}
use Rattle.mime_view.specs.Parents.{IsTextUntaken, IsTextsFault, ReadsTexts}
use Rattle.mime_view.specs.declared.fault.CacheFault.{CacheFault}
use Rattle.mime_view.specs.declared.fault.CacheFault.TheVariants.{OutOfMemory}
use Rattle.mime_view.proofs.SearchLemmas.Places.{key_at}

-- one text more
pub KeysAt-more : (c : List ℕ) (at size : ℕ) (texts : List (List ℕ)) (text : List ℕ) → KeysAt c at size texts
    → text_at c (field c (at + size * length texts) 0) ≡ Ok text → KeysAt c at size (texts ++ text ∷ [])
KeysAt-more c at size [] text stand here = let e : at + size * 0 ≡ at = omega arith in (rw e at here, tt)
KeysAt-more c at size (first ∷ texts) text stand here =
    let m : size * suc (length texts) ≡ size + size * length texts = omega arith in
    let e : at + size * suc (length texts) ≡ at + size + size * length texts = omega arith in
    (stand.0, KeysAt-more c (at + size) size texts text stand.1 (rw e at here))

-- as many texts from the same place are the same
pub KeysAt-same : (c : List ℕ) (at size : ℕ) (left right : List (List ℕ)) → length left ≡ length right
    → KeysAt c at size left → KeysAt c at size right → left ≡ right
KeysAt-same c at size [] [] n l r = refl
KeysAt-same c at size [] (y ∷ ys) n l r = absurd (omega arith)
KeysAt-same c at size (x ∷ xs) [] n l r = absurd (omega arith)
KeysAt-same c at size (x ∷ xs) (y ∷ ys) n l r =
    let first : x ≡ y = let e = sym l.0 ∙ r.0 in cc in
    ap₂ (λ (z : List ℕ) (zs : List (List ℕ)). z ∷ zs) first (KeysAt-same c (at + size) size xs ys (omega arith) l.1 r.1)

-- a list of offsets names one list of texts
pub texts-same : (c : List ℕ) (at : ℕ) (left right : List (List ℕ)) → ReadsTexts c at left → ReadsTexts c at right → left ≡ right
texts-same c at left right l r = KeysAt-same c (at + 4) 4 left right (sym l.count ∙ r.count) l.named r.named

-- one text more at the end of those that were read
pub KeysAt-pushed : (c : List ℕ) (at i : ℕ) (before after : List (Bor (List ℕ))) (text : Bor (List ℕ)) → after ≡ before ++ text ∷ []
    → length before ≡ i → KeysAt c at 4 (map (λ text. text.now) before) → text_at c (field c (at + 4 * i) 0) ≡ Ok text.now
    → KeysAt c at 4 (map (λ text. text.now) after)
KeysAt-pushed c at i before after text pushed size stand here =
    let view : Bor (List ℕ) → List ℕ = λ text. text.now in
    let n : i ≡ length (map view before) = sym size ∙ sym (length-map before view) in
    let all : map view after ≡ map view before ++ text.now ∷ [] = ap (map view) pushed ∙ map-append view before (text ∷ []) in
    rw all (KeysAt-more c at 4 (map view before) text.now stand (rw n at here))

-- where a list of offsets and its texts stand, and there is a record for each, only memory can be short
pub texts_stop : (c : List ℕ) (at before after : ℕ) (texts : List (List ℕ)) (e : CacheFault) → ReadsTexts c at texts → length texts ≤ before
    → IsTextsFault c at before after e → e ≡ OutOfMemory
texts_stop c at before after texts e reads enough (inl list) = absurd (omega (arith, reads.count, reads.inside, list.outside))
texts_stop c at before after texts e reads enough (inr (inl named)) =
    let text = key_at c (at + 4) 4 texts named.i reads.named (omega (arith, named.within, reads.count)) in
    let none = named.text.no_text in
    absurd (cc)
texts_stop c at before after texts e reads enough (inr (inr (inl spent))) = absurd (omega (arith, spent.more, reads.count, enough))
texts_stop c at before after texts e reads enough (inr (inr (inr memory))) = memory

-- one of the texts is not taken, so the list is not
pub text_fault : (c : List ℕ) (at i before mid after : ℕ) (e : CacheFault) → i < field c at 0 → mid + i ≡ before
    → IsTextUntaken c (at + 4 + 4 * i) mid after e → IsTextsFault c at before after e
text_fault c at i before mid after e within taken (inl none) =
    inr (inr (inl (record { more = omega (arith, within, taken, none.1); none_left = none.2; is = none.0 })))
text_fault c at i before mid after e within taken (inr unread) =
    inr (inl (record {
      i = i;
      within = within;
      text = record { fault = unread.fault; no_text = unread.no_text; is = unread.is };
    }))
