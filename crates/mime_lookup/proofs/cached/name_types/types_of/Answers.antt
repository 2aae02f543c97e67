use Rattle.std.proofs.Common.{◌≡◌, ◌∙◌, true, false, inl, length, take, ap, sym, refl, arith}
use Rattle.std.proofs.lemmas.Result.{err_from_is_err_and}
use Rattle.mime_lookup.specs.Ancestry.{kinds_of}
use Rattle.mime_lookup.specs.Cached.{asked_count}
use Rattle.mime_lookup.specs.CheckingOrder.{are_one_type}
use Rattle.mime_lookup.specs.NameTypes.{types_for}
use Rattle.mime_lookup.proofs.OrderLemmas.Answering.{first_text}
use Rattle.mime_lookup.proofs.OrderLemmas.Candidates.{take-types}
use Rattle.mime_lookup.proofs.CostLemmas.Costs.{costs_kinds, owing_none}
use Rattle.mime_lookup.proofs.OrderLemmas.KeptTypes.{texts_count}
use Rattle.mime_lookup.proofs.LookUpLemmas.KindTexts.{first_cache_text, texts_short}
use Rattle.mime_lookup.proofs.StopLemmas.StepStops.{not_given, not_ok, passed_on}
use Rattle.mime_lookup.proofs.cached.name_types.types_of.Goals as goal

pub returns-in_err-hits-clause-gives : goal.returns-in_err-hits-clause-gives
returns-in_err-hits-clause-gives c b globs =
    let passed = c.from_residual.ensures.1 in
    let hits = c.in_err-hits.ensures.gives b globs in
    record {
      given = record {
        answer = not_given _ _ c.from_residual.result passed;
        need = λ enough. passed_on _ _ c.from_residual.result passed (hits.need (inl enough));
        most = hits.within;
      };
      near = not_ok _ _ c.from_residual.result passed;
    }

pub returns-in_err-hits-clause-cost : goal.returns-in_err-hits-clause-cost
returns-in_err-hits-clause-cost c =
    let hits = c.in_err-hits.ensures.cost in
    let p = err_from_is_err_and c.from_residual.result c.from_residual.ensures.1 in
    rw p.1
    (costs_kinds (length c.args.name.now) hits.found 0 _ _ _ hits.paid (omega arith) hits.cost refl refl (omega arith) (omega arith))

pub returns-then-are_one_type-clause-gives : goal.returns-then-are_one_type-clause-gives
returns-then-are_one_type-clause-gives c b globs =
    let items = c.as_slice-types.result.now in
    let hits = c.in_ok-hits.ensures.gives b globs in
    let cost = c.in_ok-hits.ensures.cost in
    let one : are_one_type (kinds_of items) ≡ true = sym c.are_one_type.ensures.answer ∙ c.if-are_one_type.true in
    let same = c.as_slice-types.ensures ∙ hits.answer.types in
    record {
      given = record { answer = rw (← same) (one, first_text items _ one); need = λ enough. tt; most = hits.within };
      near = omega (arith, c.are_one_type.ensures.compares.nodes, cost.cost.most_nodes, cost.given, hits.nearly, hits.answer.few);
    }

pub returns-then-are_one_type-clause-text : goal.returns-then-are_one_type-clause-text
returns-then-are_one_type-clause-text c =
    let items = c.as_slice-types.result.now in
    let one : are_one_type (kinds_of items) ≡ true = sym c.are_one_type.ensures.answer ∙ c.if-are_one_type.true in
    first_cache_text c.args.cache.now items _ one (rw (sym c.as_slice-types.ensures) at c.in_ok-hits.ensures.text)

pub returns-then-are_one_type-clause-cost : goal.returns-then-are_one_type-clause-cost
returns-then-are_one_type-clause-cost c =
    let hits = c.in_ok-hits.ensures.cost in
    let kinds = c.in_ok-hits.hits.kinds in
    let short = texts_short c.args.cache.now kinds c.in_ok-hits.ensures.text in
    let tested = c.are_one_type.ensures.compares in
    let size = texts_count c.as_slice-types.result.now kinds c.as_slice-types.ensures in
    let bytes = (rw (c.as_slice-types.ensures, size) at tested.bytes) short in
    owing_none (costs_kinds (length c.args.name.now) hits.found (length kinds) _ _ _ hits.paid (omega (arith, hits.given)) hits.cost refl
    tested.nodes tested.rises (omega (arith, bytes))).alone

pub count_asked-asked-requires : goal.count_asked-asked-requires
count_asked-asked-requires c = record {
  front = omega (
    arith,
    c.in_ok-hits.ensures.front,
    texts_count c.as_slice-types.result.now c.in_ok-hits.hits.kinds c.as_slice-types.ensures,
  );
  conflict = sym c.are_one_type.ensures.answer ∙ c.if-are_one_type.false;
}

pub returns-clause-gives : goal.returns-clause-gives
returns-clause-gives c b globs =
    let hits = c.in_ok-hits.ensures.gives b globs in
    let cost = c.in_ok-hits.ensures.cost in
    let same = c.as_slice-types.ensures ∙ hits.answer.types in
    let conflict : are_one_type (types_for c.args.which b c.args.name.now) ≡ false =
    ap are_one_type (sym same) ∙ sym c.are_one_type.ensures.answer ∙ c.if-are_one_type.false in
    let asked = c.count_asked-asked.ensures in
    record {
      given = record {
        answer = (
          conflict,
          hits.answer.types,
          asked.count
              ∙ ap (λ kinds. asked_count (take c.in_ok-hits.hits.kept kinds)) same
              ∙ ap (λ n. asked_count (take n (types_for c.args.which b c.args.name.now))) hits.answer.count
              ∙ ap asked_count (take-types b c.args.name.now globs.ranks c.args.which),
        );
        need = λ enough. tt;
        most = hits.within;
      };
      near = omega (arith, asked.compares.nodes, c.are_one_type.ensures.compares.nodes, cost.cost.most_nodes, cost.given, hits.nearly, hits.answer.few);
    }

pub returns-clause-text : goal.returns-clause-text
returns-clause-text c = (
  c.in_ok-hits.ensures.text,
  omega (
    arith,
    c.count_asked-asked.ensures.within,
    texts_count c.as_slice-types.result.now c.in_ok-hits.hits.kinds c.as_slice-types.ensures,
  ),
)

pub returns-clause-cost : goal.returns-clause-cost
returns-clause-cost c =
    let hits = c.in_ok-hits.ensures.cost in
    let kinds = c.in_ok-hits.hits.kinds in
    let short = texts_short c.args.cache.now kinds c.in_ok-hits.ensures.text in
    let tested = c.are_one_type.ensures.compares in
    let asked = c.count_asked-asked.ensures.compares in
    let size = texts_count c.as_slice-types.result.now kinds c.as_slice-types.ensures in
    let bytes = (rw (c.as_slice-types.ensures, size) at tested.bytes) short in
    let more = (rw (c.as_slice-types.ensures, size) at asked.bytes) short in
    costs_kinds (length c.args.name.now) hits.found (length kinds) _ _ _ hits.paid (omega (arith, hits.given)) hits.cost refl
    (asked.nodes ∙ tested.nodes) (omega (arith, tested.rises, asked.rises)) (omega (arith, bytes, more))
