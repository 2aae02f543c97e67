-- What a name gives, why it gives nothing, and what it costs, by what is kept of it.
use Rattle.std.proofs.Common.{◌≡◌, ℕ, true, false, List, [], get_or, Result, Ok, Err, Some, refl, sym, subst}
use Rattle.std.specs.Prelude.{IsErrAnd}
use denote.Bor.{Bor}
use Rattle.std.specs.List.{All}
use Rattle.mime_base.specs.Database.{PlainDatabase, pairs_of}
use Rattle.mime_base.specs.Kept.{FitsRank}
use Rattle.mime_lookup.specs.CheckingOrder.{are_one_type, globs_suffice}
use Rattle.mime_lookup.specs.Cached.{asked_count}
use Rattle.mime_lookup.specs.Choice.{candidates, kept}
use Rattle.mime_lookup.specs.Halves.{CostsByName, Decides}
use Rattle.mime_lookup.specs.declared.cached.by_name.NameDecision.{NameDecision}
use Rattle.mime_lookup.specs.declared.cached.by_name.NameDecision.TheVariants.{Decided, Left}
use Rattle.mime_lookup.specs.declared.cached.by_name.Candidates.TheVariants.{Every, Ignored, Kept, Unasked}
use Rattle.mime_lookup.specs.declared.order.Order.{Order}
use Rattle.mime_lookup.specs.declared.order.Order.TheVariants.{AllGlobs, ContentOnly, GlobsFirst, MagicFirst}
use Rattle.mime_lookup.proofs.OrderLemmas.AllGlobs.{one_candidate_alone}
use Rattle.mime_lookup.proofs.OrderLemmas.GlobsFirst.{alone}
use Rattle.mime_view.specs.declared.fault.CacheFault.{CacheFault}
use Rattle.mime_view.specs.declared.spending.Spending.{Spending}

-- the types that are kept are one
pub gives_one : (b : PlainDatabase) (name : List ℕ) (order : Order) (kind : Bor (List ℕ)) → order ≡ GlobsFirst
    → are_one_type (kept (pairs_of b) b.rules name) ≡ true → kind.now ≡ get_or (kept (pairs_of b) b.rules name) 0 []
    → Decides b name order (Decided kind)
unfolding globs_suffice
gives_one b name order kind same one is =
    rw same (one, λ content host. alone b name host (Some content) kind.now one is)

-- they are not
pub gives_others : (b : PlainDatabase) (name : List ℕ) (order : Order) (kinds : List (List ℕ)) → order ≡ GlobsFirst
    → are_one_type (kept (pairs_of b) b.rules name) ≡ false → kinds ≡ kept (pairs_of b) b.rules name
    → Decides b name order (Left (Kept kinds))
unfolding globs_suffice
gives_others b name order kinds same conflict are = rw same (conflict, refl, (conflict, are))

-- the types of all rules that match are one
pub gives_one_of_all : (b : PlainDatabase) (name : List ℕ) (order : Order) (kind : Bor (List ℕ)) → All FitsRank b.rules → order ≡ AllGlobs
    → are_one_type (candidates (pairs_of b) b.rules name) ≡ true → kind.now ≡ get_or (candidates (pairs_of b) b.rules name) 0 []
    → Decides b name order (Decided kind)
unfolding globs_suffice
gives_one_of_all b name order kind ranked same one is =
    rw same (one, λ content host. one_candidate_alone b name host ranked content kind.now one is)

-- they are not
pub gives_every : (b : PlainDatabase) (name : List ℕ) (order : Order) (kinds : List (List ℕ)) (asked : ℕ) → order ≡ AllGlobs
    → are_one_type (candidates (pairs_of b) b.rules name) ≡ false → kinds ≡ candidates (pairs_of b) b.rules name
    → asked ≡ asked_count (kept (pairs_of b) b.rules name) → Decides b name order (Left (Every kinds asked))
unfolding globs_suffice
gives_every b name order kinds asked same conflict are count = rw same (conflict, refl, (conflict, are, count))

-- they are not asked
pub gives_all : (b : PlainDatabase) (name : List ℕ) (order : Order) → order ≡ MagicFirst → Decides b name order (Left Unasked)
unfolding globs_suffice
gives_all b name order same = rw same (refl, refl, tt)

-- they are never asked
pub gives_nothing : (b : PlainDatabase) (name : List ℕ) (order : Order) → order ≡ ContentOnly → Decides b name order (Left Ignored)
unfolding globs_suffice
gives_nothing b name order same = rw same (refl, refl, tt)

-- a fault is passed on
pub costs_passed : (c name : List ℕ) {old new : Spending} (e : CacheFault) (result : Result NameDecision CacheFault)
    → IsErrAnd result (λ passed. passed ≡ e) → CostsByName c name old new (Err e) → CostsByName c name old new result
costs_passed c name e (Ok x) same is = absurd same
costs_passed c name {old} {new} e (Err passed) same is =
    subst (λ (fault : CacheFault). CostsByName c name old new (Err fault)) (sym same) is
