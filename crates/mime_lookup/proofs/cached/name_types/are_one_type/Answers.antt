use Rattle.std.proofs.Common.{◌≡◌, ◌↔◌, Bool, true, false, IsTrue, [], ◌<◌, suc, ◌&&◌, All}
use Rattle.std.proofs.Common.{length, ap, sym, subst, ◌∙◌, drop-cons, add-one, refl, bytes_eq, drop, arith}
use Rattle.std.specs.List.{list_all}
use Rattle.std.proofs.lemmas.Bool.{and_left}
use Rattle.std.proofs.lemmas.List.{drop_all}
use Rattle.std.proofs.lemmas.Slice.Eq.{bytes_eq-Decides}
use Rattle.mime_lookup.specs.Ancestry.{kinds_of}
use Rattle.mime_lookup.specs.CheckingOrder.{are_one_type}
use Rattle.mime_lookup.proofs.cached.name_types.are_one_type.Goals as goal

-- two tests of one fact
decided : {P : Type 0} (r s : Bool) → (IsTrue r ↔ P) → (IsTrue s ↔ P) → r ≡ s
decided true true first second = refl
decided true false first second = sym (second.1 (first.0 refl))
decided false true first second = first.1 (second.0 refl)
decided false false first second = refl

pub returns-then-not-same_name-clause-answer : goal.returns-then-not-same_name-clause-answer
returns-then-not-same_name-clause-answer c =
    let from = drop-cons c.in-Some.more.now c.loop-kind.kind-index _ c.loop-kind-test.true in
    sym (ap (λ ks. are_one_type (kinds_of ks)) c.in-Some.ensures.cases.0 ∙ c.loop-kind.invariant.rest
    ∙ ap (λ ks. list_all (bytes_eq c.in-Some.first.now.now) (kinds_of ks)) from
    ∙ and_left _ _ (decided _ _ (bytes_eq-Decides _ _) c.same_name.ensures.same ∙ c.if-not-same_name.true))

pub returns-then-not-same_name-clause-compares : goal.returns-then-not-same_name-clause-compares
returns-then-not-same_name-clause-compares c = record {
  nodes = omega arith;
  rises = omega arith;
  bytes = λ all.
      let is = ap kinds_of c.in-Some.ensures.cases.0 in
      let first : length c.in-Some.first.now.now < 256 = subst (λ ks. All (λ kind. length kind < 256) ks) is all 0 [] (omega arith) in
      let fewer = ap length c.in-Some.ensures.cases.0 in
      let bytes = c.loop-kind.invariant.bytes first in
      omega (arith, c.same_name.ensures.limit, c.same_name.ensures.bytes, c.loop-kind-test.true);
}

pub loop-kind-preserved : goal.loop-kind-preserved
loop-kind-preserved c =
    let from = drop-cons c.in-Some.more.now c.loop-kind.kind-index _ c.loop-kind-test.true in
    record {
      rest = c.loop-kind.invariant.rest
          ∙ ap (λ ks. list_all (bytes_eq c.in-Some.first.now.now) (kinds_of ks)) from
          ∙ ap (λ b. b && list_all (bytes_eq c.in-Some.first.now.now) (kinds_of (drop (suc c.loop-kind.kind-index) c.in-Some.more.now)))
          (decided _ _ (bytes_eq-Decides _ _) c.same_name.ensures.same ∙ c.if-not-same_name.false)
          ∙ rw add-one refl;
      nodes = omega arith;
      rises = omega arith;
      bytes = λ first. let bytes = c.loop-kind.invariant.bytes first in omega (arith, c.same_name.ensures.limit, c.same_name.ensures.bytes);
    }

pub returns-clause-answer : goal.returns-clause-answer
returns-clause-answer c =
    sym (ap (λ ks. are_one_type (kinds_of ks)) c.in-Some.ensures.cases.0 ∙ c.loop-kind.invariant.rest
    ∙ ap (λ ks. list_all (bytes_eq c.in-Some.first.now.now) (kinds_of ks))
    (drop_all c.loop-kind.kind-index c.in-Some.more.now c.loop-kind-test.false))

pub returns-clause-compares : goal.returns-clause-compares
returns-clause-compares c = record {
  nodes = omega arith;
  rises = omega arith;
  bytes = λ all.
      let is = ap kinds_of c.in-Some.ensures.cases.0 in
      let first : length c.in-Some.first.now.now < 256 = subst (λ ks. All (λ kind. length kind < 256) ks) is all 0 [] (omega arith) in
      let fewer = ap length c.in-Some.ensures.cases.0 in
      let bytes = c.loop-kind.invariant.bytes first in
      omega arith;
}
