-- A front that is as long as is wanted gives the type of the whole content.
use Rattle.std.proofs.Common.{◌≡◌, ◌⊎◌, ℕ, ◌≤◌, Bool, true, false, List, [], ◌∷◌, ◌++◌, length, Option, None, Some}
use Rattle.std.proofs.Common.{MatchBool, cond, refl, sym, ap, subst, ◌∙◌, inl, inr, arith, append-nil}
use Rattle.std.specs.List.{All}
use Rattle.mime_base.specs.Database.{PlainDatabase, pairs_of}
use Rattle.mime_base.specs.Database.Subclass.{Pairs}
use Rattle.mime_base.specs.Kept.{FitsRank}
use Rattle.mime_base.specs.Magic.Extent.{extent}
use Rattle.mime_base.specs.declared.magic.host.Host.{Host}
use Rattle.mime_base.proofs.MagicLemmas.Fronts.{first_magic-front}
use Rattle.mime_lookup.specs.CheckingOrder.{Chooses, are_one_type, before_globs, globs_suffice, read_limit}
use Rattle.mime_lookup.specs.Choice.{ChoosesAmong, IsFirst, kept}
use Rattle.mime_lookup.specs.Sniffing.{sniffed}
use Rattle.mime_lookup.specs.declared.order.Order.{Order}
use Rattle.mime_lookup.specs.declared.order.Order.TheVariants.{AllGlobs, ContentOnly, GlobsFirst, MagicFirst}
use Rattle.mime_lookup.specs.Wanted.{IsFrontEnough, wanted_of}
use Rattle.mime_lookup.proofs.OrderLemmas.AllGlobs.{one_candidate_alone, one_candidate_only}
use Rattle.mime_lookup.proofs.SniffLemmas.Sniffs.{front_is_enough}

-- of types that are one type the first is chosen, whatever was sniffed
one_type : (pairs : Pairs) (kinds : List (List ℕ)) (base other answer : List ℕ) → are_one_type kinds ≡ true →
    ChoosesAmong pairs kinds base answer → ChoosesAmong pairs kinds other answer
one_type pairs [] base other answer one chosen = absurd cc
one_type pairs (first ∷ more) base other answer one chosen =
    subst (λ b. MatchBool b (answer ≡ first) (IsFirst pairs other first (first ∷ more) answer)) (sym one)
    (subst (λ b. MatchBool b (answer ≡ first) (IsFirst pairs base first (first ∷ more) answer)) one chosen)

-- where the globs suffice, the content changes nothing
by_globs : (b : PlainDatabase) (name : List ℕ) (host : Host) (order : Order) (content other : Option (List ℕ)) (kind : List ℕ) →
    All FitsRank b.rules → globs_suffice b name order ≡ true → Chooses b name content host order kind → Chooses b name other host order kind
unfolding Chooses globs_suffice before_globs
by_globs b name host GlobsFirst content other kind ranked suffice chosen =
    one_type (pairs_of b) (kept (pairs_of b) b.rules name) (sniffed b content host) (sniffed b other host) kind suffice chosen
by_globs b name host MagicFirst content other kind ranked suffice chosen = absurd cc
by_globs b name host AllGlobs content other kind ranked suffice chosen =
    one_candidate_alone b name host ranked other kind suffice (one_candidate_only b name host ranked content kind suffice chosen)
by_globs b name host ContentOnly content other kind ranked suffice chosen = absurd cc

-- where they don't, a front that is long enough is sniffed as the whole
by_front : (b : PlainDatabase) (name : List ℕ) (host : Host) (order : Order) (content rest kind : List ℕ) → 128 ≤ length content →
    extent b ≤ length content → Chooses b name (Some content) host order kind → Chooses b name (Some (content ++ rest)) host order kind
unfolding Chooses before_globs
by_front b name host GlobsFirst content rest kind least long chosen =
    subst (λ found. ChoosesAmong (pairs_of b) (kept (pairs_of b) b.rules name) found kind)
    (front_is_enough b content rest host (inr (least, long))) chosen
by_front b name host MagicFirst content rest kind least long chosen =
    rw (first_magic-front content rest b.sections host long, ← front_is_enough b content rest host (inr (least, long))) chosen
by_front b name host AllGlobs content rest kind least long chosen =
    rw (first_magic-front content rest b.sections host long, ← front_is_enough b content rest host (inr (least, long))) chosen
by_front b name host ContentOnly content rest kind least long chosen =
    chosen ∙ front_is_enough b content rest host (inr (least, long))

-- where they don't, the whole or that much of it is enough
by_size : (b : PlainDatabase) (name : List ℕ) (host : Host) (order : Order) (content rest kind : List ℕ) (wanted : ℕ) →
    wanted ≡ read_limit b → (rest ≡ []) ⊎ (wanted ≤ length content) → Chooses b name (Some content) host order kind →
    Chooses b name (Some (content ++ rest)) host order kind
unfolding read_limit
by_size b name host order content rest kind wanted is (inl none) chosen =
    subst (λ (bytes : List ℕ). Chooses b name (Some bytes) host order kind)
    (sym (append-nil content) ∙ ap (λ (end : List ℕ). content ++ end) (sym none)) chosen
by_size b name host order content rest kind wanted is (inr most) chosen =
    by_front b name host order content rest kind (omega (arith, is, most)) (omega (arith, is, most)) chosen

-- that much is enough, by whether the globs suffice
enough_by : (b : PlainDatabase) (name : List ℕ) (order : Order) (wanted : ℕ) (suffice : Bool) → All FitsRank b.rules → globs_suffice b name order ≡ suffice →
    wanted ≡ cond suffice 0 (read_limit b) → IsFrontEnough b name order wanted
unfolding read_limit
enough_by b name order wanted true ranked suffice is = record {
  front = λ host content rest kind long. by_globs b name host order (Some content) (Some (content ++ rest)) kind ranked suffice;
  unopened = λ none host content kind. by_globs b name host order None content kind ranked suffice;
}
enough_by b name order wanted false ranked suffice is = record {
  front = λ host content rest kind long. by_size b name host order content rest kind wanted is long;
  unopened = λ none host content kind. absurd (omega (arith, is, none));
}

-- that much is enough
pub enough : (b : PlainDatabase) (name : List ℕ) (order : Order) (wanted : ℕ) → All FitsRank b.rules → wanted ≡ wanted_of b name order →
    IsFrontEnough b name order wanted
enough b name order wanted ranked is = enough_by b name order wanted (globs_suffice b name order) ranked refl is
