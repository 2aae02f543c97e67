use Rattle.std.proofs.Common.{◌≡◌, ◌<◌, ◌≤◌, ℕ, true, false, List, length, take, ap, sym, ◌∙◌, refl, arith}
use Rattle.std.proofs.lemmas.List.{length-map, length-take-le, take-map}
use Rattle.std.proofs.lemmas.List.Elements.{All-take}
use denote.Bor.{Bor}
use Rattle.mime_lookup.specs.Ancestry.{kinds_of}
use Rattle.mime_base.specs.declared.meter.Meter.{Meter}
use Rattle.mime_lookup.specs.CheckingOrder.{are_one_type}
use Rattle.mime_lookup.specs.Costs.{ComparesTypes}
use Rattle.mime_lookup.proofs.cached.name_types.count_asked.Goals as goal

-- the first of some types are compared, so at most all are
some_compared : (kept : ℕ) (types : List (Bor (List ℕ))) (old new : Meter) → kept ≤ length types
    → ComparesTypes (take kept types) old new → ComparesTypes types old new
some_compared kept types old new fewer compares = record {
  nodes = compares.nodes;
  rises = compares.rises;
  bytes = λ all.
      let front = take-map (λ (text : Bor (List ℕ)). text.now) kept types in
      let short = rw front at (All-take (λ kind. length kind < 256) kept (kinds_of types) all) in
      omega (arith, compares.bytes short, length-take-le kept types fewer, fewer);
}

pub returns-then-are_one_type-clause-count : goal.returns-then-are_one_type-clause-count
returns-then-are_one_type-clause-count c =
    let front = take-map (λ (text : Bor (List ℕ)). text.now) c.args.kept c.args.types.now in
    let one : are_one_type (take c.args.kept (kinds_of c.args.types.now)) ≡ true =
    ap are_one_type front ∙ sym c.are_one_type.ensures.answer ∙ c.if-are_one_type.true in
    rw one refl

pub returns-then-are_one_type-clause-compares : goal.returns-then-are_one_type-clause-compares
returns-then-are_one_type-clause-compares c =
    some_compared c.args.kept c.args.types.now c.args.meter.now c.are_one_type.new.meter c.requires.front c.are_one_type.ensures.compares

pub returns-clause-count : goal.returns-clause-count
returns-clause-count c =
    let front = take-map (λ (text : Bor (List ℕ)). text.now) c.args.kept c.args.types.now in
    let conflict : are_one_type (take c.args.kept (kinds_of c.args.types.now)) ≡ false =
    ap are_one_type front ∙ sym c.are_one_type.ensures.answer ∙ c.if-are_one_type.false in
    let size = length-map c.args.types.now (λ (text : Bor (List ℕ)). text.now) in
    rw conflict (sym (length-take-le c.args.kept (kinds_of c.args.types.now) (omega (arith, size, c.requires.front))))

pub returns-clause-compares : goal.returns-clause-compares
returns-clause-compares c =
    some_compared c.args.kept c.args.types.now c.args.meter.now c.are_one_type.new.meter c.requires.front c.are_one_type.ensures.compares
