use Rattle.std.proofs.Common.{◌≡◌, ◌<◌, ◌+◌, ◌*◌, ℕ, List, length, inl, inr, arith}
use Rattle.std.proofs.lemmas.Bool.{eqb-false, eqb-true}
use Rattle.std.proofs.lemmas.List.{length-map}
use denote.Bor.{Bor}
use Rattle.mime_base.specs.Database.{pairs_of}
use Rattle.mime_lookup.specs.Ancestry.{kinds_of}
use Rattle.mime_lookup.specs.Cached.{IsCacheText, plain_finding}
use Rattle.mime_lookup.specs.Choosing.{CostsChoice}
use Rattle.mime_lookup.specs.Costs.{LooksAt}
use Rattle.mime_lookup.specs.Finding.{resolved_finding}
use Rattle.mime_lookup.specs.Searching.{search_cost}
use Rattle.mime_lookup.proofs.OrderLemmas.ByContents.{choice_aliases}
use Rattle.mime_lookup.proofs.OrderLemmas.Choices.{chooses-found, chooses-from_found, chooses-one, one_of}
use Rattle.mime_lookup.proofs.OrderLemmas.KeptTypes.{all_item}
use Rattle.mime_lookup.proofs.CostLemmas.Costs.{costs_looks, costs_then, costs_wider}
use Rattle.mime_lookup.proofs.LookUpLemmas.KindTexts.{chosen_kind, kind_short}
use Rattle.mime_lookup.proofs.StopLemmas.StepStops.{passed_on, stops_for}
use Rattle.mime_lookup.proofs.CostLemmas.UsedUp.{choice_spent}
use Rattle.mime_lookup.proofs.cached.by_content.choose.Goals as goal
use Rattle.mime_view.specs.declared.spending.Spending.{Spending}

-- an alias step costs no more than any choice
alias_step : (count : ℕ) {old new : Spending} → LooksAt 29 old new → CostsChoice count old new
alias_step count looks = record {
  alone = λ few. looks;
  cost = costs_wider _ _ (29 + 29 * count) (costs_looks search_cost 0 looks) (omega arith) (omega arith) (omega arith);
}

pub returns-in_err-base-clause-stops : goal.returns-in_err-base-clause-stops
returns-in_err-base-clause-stops c =
    let base = c.in_err-base in
    let left = c.unalias.new.spending.budget in
    passed_on _ base.field-0.0 c.from_residual.result c.from_residual.ensures.1
    (stops_for _ _ _ base.field-0.0
    (λ same. inl (choice_spent c.args.indexed.now left base.field-0.0 (inl base.ensures.fault) same))
    (λ b enough.
    let aliases = choice_aliases c.args.indexed.now (kinds_of c.args.kinds.now) b enough.0 in
    absurd (base.ensures.answer b aliases.0 aliases.1.0 aliases.1.1)))

pub returns-in_err-base-clause-fault : goal.returns-in_err-base-clause-fault
returns-in_err-base-clause-fault c =
    let base = c.in_err-base in
    passed_on _ base.field-0.0 c.from_residual.result c.from_residual.ensures.1 (inr (inl base.ensures.fault))

pub returns-in_err-base-clause-costs : goal.returns-in_err-base-clause-costs
returns-in_err-base-clause-costs c = alias_step (length (kinds_of c.args.kinds.now)) c.in_err-base.ensures.cost

pub returns-then-is_empty-clause-answers : goal.returns-then-is_empty-clause-answers
returns-then-is_empty-clause-answers c = record {
  chosen = λ b enough.
      let none : length c.args.kinds.now ≡ 0 = grind (arith, eqb-true) in
      let aliases = choice_aliases c.args.indexed.now (kinds_of c.args.kinds.now) b enough in
      chooses-found (pairs_of b) c.in_ok-base.base.now (resolved_finding b.aliases (plain_finding c.args.finding)) c.args.kinds.now
      (c.in_ok-base.ensures.answer b aliases.0 aliases.1.0 aliases.1.1) none;
  kind = c.in_ok-base.ensures.kind;
}

pub returns-then-is_empty-clause-costs : goal.returns-then-is_empty-clause-costs
returns-then-is_empty-clause-costs c = alias_step (length (kinds_of c.args.kinds.now)) c.in_ok-base.ensures.cost

pub returns-then-kinds-eq1-clause-answers : goal.returns-then-kinds-eq1-clause-answers
returns-then-kinds-eq1-clause-answers c =
    let one : length c.args.kinds.now ≡ 1 = omega (arith, c.if-kinds-eq1.true) in
    record {
      chosen = λ b enough. chooses-one (pairs_of b) (resolved_finding b.aliases (plain_finding c.args.finding)) c.args.kinds.now _ one;
      kind = inl (all_item (IsCacheText c.args.indexed.now) c.args.kinds.now 0 _ (omega (arith, one)) c.requires.texts);
    }

pub first_of-requires : goal.first_of-requires
first_of-requires c = record { base = omega (arith, kind_short c.args.indexed.now c.in_ok-base.base.now c.in_ok-base.ensures.kind) }

pub returns-in_err-kind-clause-stops : goal.returns-in_err-kind-clause-stops
returns-in_err-kind-clause-stops c =
    let some : 0 < length c.args.kinds.now = grind (arith, eqb-false) in
    let other = c.if-kinds-eq1.false in
    let search = c.in_err-kind in
    let left = c.first_of.new.spending.budget in
    passed_on _ search.field-0.0 c.from_residual-in_err-kind.result c.from_residual-in_err-kind.ensures.1
    (stops_for _ _ _ search.field-0.0
    (λ same. inl (choice_spent c.args.indexed.now left search.field-0.0 (inr search.ensures.fault) same))
    (λ b enough. elim enough.0 [
      | inl pairs ↦ search.ensures.need b pairs (rw c.in_ok-base.ensures.cost.budget enough.1)
      | inr few ↦ absurd (omega (arith, some, other, length-map c.args.kinds.now (λ (text : Bor (List ℕ)). text.now), few.0))
    ]))

pub returns-in_err-kind-clause-costs : goal.returns-in_err-kind-clause-costs
returns-in_err-kind-clause-costs c =
    let some : 0 < length c.args.kinds.now = grind (arith, eqb-false) in
    let other = c.if-kinds-eq1.false in
    let count = length-map c.args.kinds.now (λ (text : Bor (List ℕ)). text.now) in
    record {
      alone = λ few. absurd (omega (arith, some, other, count, few));
      cost = costs_then _ (costs_looks search_cost 0 c.in_ok-base.ensures.cost) c.in_err-kind.ensures.cost (omega (arith, count));
    }

pub returns-clause-answers : goal.returns-clause-answers
returns-clause-answers c =
    let some : 0 < length c.args.kinds.now = grind (arith, eqb-false) in
    let other = c.if-kinds-eq1.false in
    record {
      chosen = λ b enough. elim enough [
        | inl pairs ↦ chooses-from_found (pairs_of b) c.in_ok-base.base.now (resolved_finding b.aliases (plain_finding c.args.finding))
            c.args.kinds.now _ c.in_ok-kind.kind.now (c.in_ok-base.ensures.answer b pairs.offsets pairs.header pairs.aliases) some
            (c.in_ok-kind.ensures.answer b pairs)
        | inr few ↦ absurd (omega (arith, some, other, length-map c.args.kinds.now (λ (text : Bor (List ℕ)). text.now), few.0))
      ];
      kind = chosen_kind c.args.indexed.now c.in_ok-kind.kind.now _ c.requires.texts
          (inr (one_of c.args.kinds.now _ c.in_ok-kind.kind.now some c.in_ok-kind.ensures.one));
    }

pub returns-clause-costs : goal.returns-clause-costs
returns-clause-costs c =
    let some : 0 < length c.args.kinds.now = grind (arith, eqb-false) in
    let other = c.if-kinds-eq1.false in
    let count = length-map c.args.kinds.now (λ (text : Bor (List ℕ)). text.now) in
    record {
      alone = λ few. absurd (omega (arith, some, other, count, few));
      cost = costs_then _ (costs_looks search_cost 0 c.in_ok-base.ensures.cost) c.in_ok-kind.ensures.cost (omega (arith, count));
    }
