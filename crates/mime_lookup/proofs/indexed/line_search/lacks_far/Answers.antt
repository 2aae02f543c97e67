use Rattle.std.proofs.Common.{◌≡◌, ℕ, ◌+◌, ◌-◌, inl, inr, length, take, drop, ◌∙◌, arith, length-drop}
use Rattle.std.proofs.lemmas.Bool.{cases_lt, eq-eqb, eqb-true}
use Rattle.std.proofs.lemmas.List.{length-take-le}
use Rattle.mime_lookup.proofs.IndexLemmas.NotedPairs.{slice_byte}
use Rattle.mime_lookup.proofs.indexed.line_search.lacks_far.Goals as goal

pub returns-in-Some-clause-lacks : goal.returns-in-Some-clause-lacks
returns-in-Some-clause-lacks c = λ yes place low high is_first is_second.
    let bytes = c.args.bytes.now in
    let start = c.args.start in
    let from : ℕ = start + c.in-Some.passed in
    let size : length (take (c.args.end - start) (drop start bytes)) ≡ c.args.end - start =
    length-take-le (c.args.end - start) (drop start bytes) (omega (arith, length-drop start bytes, c.requires.inside)) in
    let count : c.pass_pairs.result.length ≡ c.args.end - start - c.in-Some.passed =
    eqb-true c.pass_pairs.result.length (c.args.end - start - c.in-Some.passed) yes in
    elim (cases_lt place from) [
      | inl before ↦
          c.in-Some.ensures.0.before (place - start) (omega arith) (omega (arith, low, before))
          (eq-eqb _ _ (slice_byte bytes start (c.args.end - start) (place - start) place (omega (arith, low, high)) (omega (arith, low)) ∙ is_first))
      | inr after ↦
          c.pass_pairs.ensures.passed.none (place - from) (omega (arith, count, after, high, low))
          (slice_byte bytes from (length bytes - from) (place - from) place (omega (arith, after, high, c.requires.inside)) (omega (arith, after)) ∙ is_first)
          (slice_byte bytes from (length bytes - from) (place - from + 1) (place + 1) (omega (arith, after, high, c.requires.inside))
          (omega (arith, after)) ∙ is_second)
    ]

pub returns-in-None-clause-lacks : goal.returns-in-None-clause-lacks
returns-in-None-clause-lacks c = λ yes place low high is_first is_second.
    let bytes = c.args.bytes.now in
    let start = c.args.start in
    let size : length (take (c.args.end - start) (drop start bytes)) ≡ c.args.end - start =
    length-take-le (c.args.end - start) (drop start bytes) (omega (arith, length-drop start bytes, c.requires.inside)) in
    c.in-None.ensures (place - start) (omega arith) (omega (arith, size, low, high))
    (eq-eqb _ _ (slice_byte bytes start (c.args.end - start) (place - start) place (omega (arith, low, high)) (omega (arith, low)) ∙ is_first))
