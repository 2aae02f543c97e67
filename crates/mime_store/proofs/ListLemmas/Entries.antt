-- Entries of pairs and of rules: what they keep as more is written, and how wide they are.
use Rattle.std.proofs.Common.{◌≡◌, ℕ, ◌+◌, List, ◌++◌, [], ◌∷◌, length, take, filter, get_or, ◌<◌, Bool, true, false, cond}
use Rattle.std.proofs.Common.{refl, sym, ap, ◌∙◌}
use Rattle.std.proofs.lemmas.List.{append-nil, take_more}
use Rattle.mime_base.specs.Format.Pairs.{IsPair}
use Rattle.mime_base.specs.Format.Records.{CardsAt, RecordsAt, Standing, TextAt}
use Rattle.mime_base.specs.Format.Rules.{IsRule}
use Rattle.mime_base.specs.Format.Stored.{stored_text, weight_and_flags}
use Rattle.mime_base.specs.declared.database.rule.GlobRule.{GlobRule}
use Rattle.mime_store.specs.Lists.{IsRow}
use Rattle.mime_store.specs.Written.{Grew, Written}
use Rattle.mime_store.proofs.ListLemmas.Gather.{Keeps, Records, row_is}
use Rattle.mime_store.proofs.BytesLemmas.Written.{Carries, written_more}

-- a text that stands stays as more is written
pub text_carry : (S S' : Standing) → Carries S S' → (at : ℕ) (text : List ℕ) → TextAt S at text → TextAt S' at text
text_carry S S' f at text h = record { is_text = h.is_text; stand = f at _ h.stand }

-- a pair's record stays one as more is written
pub pair_keeps : Keeps IsPair
pair_keeps S S' f pair row h = (h.0, h.1, h.2, text_carry S S' f h.0 pair.0 h.3, text_carry S S' f h.1 pair.1 h.4)

-- a rule's record stays one as more is written
pub rule_keeps : Keeps IsRule
rule_keeps S S' f rule row h = (h.0, h.1, h.2, text_carry S S' f h.0 (stored_text rule) h.3, text_carry S S' f h.1 rule.kind h.4)

-- the row of a rule, whose texts were written one after another
pub rule_row : (mid new : List ℕ) (rule : GlobRule) (text kind flags size : ℕ) → flags ≡ weight_and_flags rule
    → TextAt (Written mid) text (stored_text rule) → Grew mid new size → TextAt (Written new) kind rule.kind
    → IsRow IsRule 3 new rule (text ∷ kind ∷ flags ∷ [])
rule_row mid new rule text kind flags size e one g two =
    let kept = text_carry (Written mid) (Written new) (written_more mid new size g) text (stored_text rule) one in
    row_is IsRule rule_keeps 3 new rule (text ∷ kind ∷ flags ∷ []) refl (text, kind, rw e refl, kept, two)

-- numbers that stand stay as more is written
pub cards_carry : (S S' : Standing) → Carries S S' → (at : ℕ) (numbers : List ℕ) → CardsAt S at numbers → CardsAt S' at numbers
cards_carry S S' f at numbers s = record { small = s.small; stand = f at _ s.stand }

-- records that stand stay as more is written
pub records_carry : {Y : Type 0} (Is : Records Y) → Keeps Is → (S S' : Standing) → Carries S S' → (size at : ℕ) (ys : List Y)
    → RecordsAt S size (Is S) at ys → RecordsAt S' size (Is S') at ys
records_carry Is keeps S S' f size at [] h = tt
records_carry Is keeps S S' f size at (y ∷ ys) h =
    (h.0, cards_carry S S' f at h.0 h.1, keeps S S' f y h.0 h.2, records_carry Is keeps S S' f size (at + size) ys h.3)

-- a test over two lists, one after the other
pub filter-append : {X : Type 0} (test : X → Bool) (xs ys : List X) → filter test (xs ++ ys) ≡ filter test xs ++ filter test ys
filter-append test [] ys = refl
filter-append test (x ∷ xs) ys =
    rw (filter-append test xs ys) (elim (test x) as (λ t.
    cond t (x ∷ (filter test xs ++ filter test ys)) (filter test xs ++ filter test ys)
    ≡ cond t (x ∷ filter test xs) (filter test xs) ++ filter test ys) [ true ↦ refl | false ↦ refl ])

-- one member more that passes a test, and one that does not
pub passed_more : {X : Type 0} (test : X → Bool) (xs : List X) (i : ℕ) (x : X) → i < length xs → x ≡ get_or xs i x
    → test x ≡ true → filter test (take (i + 1) xs) ≡ filter test (take i xs) ++ x ∷ []
passed_more test xs i x lt e is =
    ap (filter test) (take_more xs i x lt) ∙ ap (λ y. filter test (take i xs ++ y ∷ [])) (sym e)
    ∙ filter-append test (take i xs) (x ∷ []) ∙ ap (λ t. filter test (take i xs) ++ cond t (x ∷ []) []) is

-- one member more that does not pass
pub failed_more : {X : Type 0} (test : X → Bool) (xs : List X) (i : ℕ) (x : X) → i < length xs → x ≡ get_or xs i x
    → test x ≡ false → filter test (take (i + 1) xs) ≡ filter test (take i xs)
failed_more test xs i x lt e is =
    ap (filter test) (take_more xs i x lt) ∙ ap (λ y. filter test (take i xs ++ y ∷ [])) (sym e)
    ∙ filter-append test (take i xs) (x ∷ []) ∙ ap (λ t. filter test (take i xs) ++ cond t (x ∷ []) []) is
    ∙ append-nil (filter test (take i xs))
