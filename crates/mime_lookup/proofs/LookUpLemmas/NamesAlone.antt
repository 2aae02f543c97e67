-- A lookup of a name alone, put together from its first half and what the second gives without a front.
use Rattle.std.proofs.Common.{◌≡◌, ℕ, ◌+◌, ◌≤◌, List, Option, refl, arith, inl, inr}
use Rattle.std.specs.Prelude.{None, ⊤}
use Rattle.mime_base.specs.Database.{PlainDatabase}
use Rattle.mime_base.specs.declared.magic.host.Host.{Host}
use Rattle.mime_lookup.specs.Affords.{Affords, rule_records}
use Rattle.mime_lookup.specs.CheckingOrder.{Chooses, GlobsDecide, before_globs}
use Rattle.mime_lookup.specs.Halves.{AffordsRest, Decides, Leaves, order_left, owed_records}
use Rattle.mime_lookup.specs.NameAlone.{SufficesForName}
use Rattle.mime_lookup.specs.Sniffing.{sniffed}
use Rattle.mime_lookup.specs.Steps.{Suffices}
use Rattle.mime_lookup.specs.declared.cached.by_name.Candidates.{Candidates}
use Rattle.mime_lookup.specs.declared.cached.by_name.NameDecision.TheVariants.{Left}
use Rattle.mime_lookup.specs.declared.order.Order.{Order}
use Rattle.mime_lookup.specs.declared.order.Order.TheVariants.{AllGlobs, ContentOnly, GlobsFirst, MagicFirst}
use Rattle.mime_lookup.proofs.LookUpLemmas.LookUps.{decide_for}
use Rattle.mime_view.specs.declared.budget.Budget.{Budget}

-- there is no front
abbrev pub NoFront : Type 0
NoFront = ◌≡◌ {A = Option (List ℕ)} None None

-- without a content the order of the host's bytes changes nothing
pub any_host : (b : PlainDatabase) (name kind : List ℕ) (host other : Host) (order : Order) → Chooses b name None host order kind
    → Chooses b name None other order kind
unfolding Chooses before_globs sniffed
any_host b name kind host other GlobsFirst chosen = chosen
any_host b name kind host other MagicFirst chosen = chosen
any_host b name kind host other AllGlobs chosen = chosen
any_host b name kind host other ContentOnly chosen = chosen

module _ (c name : List ℕ) (order : Order) (candidates : Candidates) (b : PlainDatabase)
    (gives : Decides b name order (Left candidates))
  where
    -- globs that decide without a content do so of what the name leaves, without a front
    pub decides_unseen : GlobsDecide b name order ⊤ → GlobsDecide b name (order_left candidates) NoFront
    decides_unseen decide = rw gives.1 (decide_for b name order ⊤ NoFront (λ none. refl) decide)

    -- and what suffices without a content suffices there
    pub suffices_unseen : Suffices c name order ⊤ b → Suffices c name (order_left candidates) NoFront b
    suffices_unseen (inl whole) = inl whole
    suffices_unseen (inr globs) = inr (globs.0, decides_unseen globs.1)

    -- so does what is left to be taken
    pub affords_unseen : (old kept : Budget) → kept.value_bytes ≡ old.value_bytes
        → old.records + owed_records b candidates ≤ kept.records + rule_records b
        → SufficesForName c name order b × Affords b old
        → Suffices c name (order_left candidates) NoFront b × Leaves b name candidates × AffordsRest b candidates kept
    affords_unseen old kept same takes enough = (
      suffices_unseen enough.0.0,
      gives.2,
      record {
        records = omega (arith, enough.1.records, takes);
        value_bytes = omega (arith, enough.1.value_bytes, same);
      },
    )

    -- the type that comes without a front is the type without a content
    pub chosen_unseen : (kind : List ℕ) (host other : Host) → Chooses b name None host (order_left candidates) kind
        → Chooses b name None other order kind
    chosen_unseen kind host other chosen = any_host b name kind host other order (rw gives.1 at chosen)
