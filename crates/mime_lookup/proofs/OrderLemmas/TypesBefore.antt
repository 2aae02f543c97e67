-- The answer of the checking order, by whether the types of the name that are asked before the content suffice.
use Rattle.std.proofs.Common.{◌≡◌, ℕ, Bool, true, List, [], Option, None, Some, ap, get_or, refl, sym, ◌∙◌}
use Rattle.std.specs.List.{All}
use Rattle.std.specs.Prelude.{IfSome}
use Rattle.mime_base.specs.Database.{PlainDatabase, pairs_of}
use Rattle.mime_base.specs.Kept.{FitsRank}
use Rattle.mime_base.specs.declared.magic.host.Host.{Host}
use Rattle.mime_lookup.specs.CheckingOrder.{Chooses, are_one_type, asked_types, before_globs, globs_suffice}
use Rattle.mime_lookup.specs.CheckingOrder.{types_before}
use Rattle.mime_lookup.specs.Choice.{ChoosesAmong}
use Rattle.mime_lookup.specs.Sniffing.{sniffed}
use Rattle.mime_lookup.specs.declared.order.Order.{Order}
use Rattle.mime_lookup.specs.declared.order.Order.TheVariants.{AllGlobs, ContentOnly, GlobsFirst, MagicFirst}
use Rattle.mime_lookup.proofs.OrderLemmas.AllGlobs.{one_candidate_alone}
use Rattle.mime_lookup.proofs.OrderLemmas.Answering.{one_type_chosen}

module _ (b : PlainDatabase) (name : List ℕ) where
  -- they suffice where they are one type
  pub suffice_before : (order : Order) (kinds : List (List ℕ)) (one : Bool) → kinds ≡ types_before b name order
      → are_one_type kinds ≡ one → globs_suffice b name order ≡ one
  unfolding globs_suffice
  suffice_before GlobsFirst kinds one are is = ap are_one_type (sym are) ∙ is
  suffice_before MagicFirst kinds one are is = ap are_one_type (sym are) ∙ is
  suffice_before AllGlobs kinds one are is = ap are_one_type (sym are) ∙ is
  suffice_before ContentOnly kinds one are is = ap are_one_type (sym are) ∙ is

  module _ (host : Host) (ranked : All FitsRank b.rules) where
    -- then that type is the answer
    one_before : (order : Order) (content : Option (List ℕ)) → are_one_type (types_before b name order) ≡ true
        → Chooses b name content host order (get_or (types_before b name order) 0 [])
    unfolding Chooses before_globs
    one_before GlobsFirst content one =
        one_type_chosen (pairs_of b) (types_before b name GlobsFirst) (sniffed b content host) one
    one_before MagicFirst content one = absurd cc
    one_before AllGlobs content one = one_candidate_alone b name host ranked content _ one refl
    one_before ContentOnly content one = absurd cc

    -- the same whether the content is known or not
    pub by_one_before : (order : Order) (known : Option (Option (List ℕ))) (kinds : List (List ℕ)) (answer : List ℕ)
        → kinds ≡ types_before b name order → are_one_type kinds ≡ true → answer ≡ get_or kinds 0 []
        → IfSome known (λ content. Chooses b name content host order answer)
    by_one_before order None kinds answer are one is = tt
    by_one_before order (Some content) kinds answer are one is =
        rw (is, are) (one_before order content (rw are at one))

  -- what comes before the globs is the answer
  pub by_sniffed : (content : Option (List ℕ)) (host : Host) (order : Order) (found : List ℕ)
      → before_globs b content host order ≡ Some found → Chooses b name content host order found
  unfolding Chooses
  by_sniffed content host order found first = rw first refl

  -- else it is chosen among those that are asked
  pub by_asked_types : (content : Option (List ℕ)) (host : Host) (order : Order) (asked : List (List ℕ))
      (found answer : List ℕ) → before_globs b content host order ≡ None
      → asked ≡ asked_types b name content host order → found ≡ sniffed b content host
      → ChoosesAmong (pairs_of b) asked found answer → Chooses b name content host order answer
  unfolding Chooses
  by_asked_types content host order asked found answer later are same chosen = rw (later, ← are, ← same) chosen
