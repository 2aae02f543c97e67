use Rattle.std.proofs.Common.{◌≡◌, ◌+◌, ◌*◌, ℕ, List, length, Some, ap, ◌∙◌, arith, rules}
use Rattle.mime_base.specs.Magic.{line_from}
use Rattle.mime_base.proofs.MagicLemmas.MostCompared.{compared_from-most}
use Rattle.mime_base.proofs.MagicLemmas.StatedLines.{compared_stated-none, empty_equals, length-inside, none_inside}
use Rattle.mime_base.proofs.cache.Counted.value_in_range.Goals as goal

pub returns-then-range-eq0-clause-equal : goal.returns-then-range-eq0-clause-equal
returns-then-range-eq0-clause-equal c = λ lie.
    (none_inside c.args.self.now c.args.value c.args.start c.args.range c.args.host c.args.content.now lie
    (λ some. omega arith)).0

pub returns-then-range-eq0-clause-counts : goal.returns-then-range-eq0-clause-counts
returns-then-range-eq0-clause-counts c =
    let none = compared_stated-none c.args.self.now c.args.value c.args.start c.args.range c.args.host c.args.content.now
    (λ lie. (none_inside c.args.self.now c.args.value c.args.start c.args.range c.args.host c.args.content.now lie
    (λ some. omega arith)).1) in
    record { nodes = search rules; bytes = omega (arith, none); rises = omega arith }

pub returns-then-size-eq0-clause-equal : goal.returns-then-size-eq0-clause-equal
returns-then-size-eq0-clause-equal c = λ lie.
    (empty_equals c.args.self.now c.args.value c.args.start c.args.range c.args.host c.args.content.now lie
    (omega arith) (omega arith) (omega arith)).0

pub returns-then-size-eq0-clause-counts : goal.returns-then-size-eq0-clause-counts
returns-then-size-eq0-clause-counts c =
    let none = compared_stated-none c.args.self.now c.args.value c.args.start c.args.range c.args.host c.args.content.now
    (λ lie. (empty_equals c.args.self.now c.args.value c.args.start c.args.range c.args.host c.args.content.now lie
    (omega arith) (omega arith) (omega arith)).1) in
    record { nodes = search rules; bytes = omega (arith, none); rises = omega arith }

pub returns-clause-limit : goal.returns-clause-limit
returns-clause-limit c =
    let bytes : List ℕ = c.in_ok-bytes.bytes.now in
    let own = line_from c.args.start c.args.range c.args.value.word bytes (Some c.in_ok-mask.mask.now) in
    let given = c.in_ok-bytes.ensures.given in
    let size : length bytes ≡ c.args.value.size = length-inside _ bytes _ _ given.0 given.1 ∙ c.from-size.ensures in
    let product = ap (λ (n : ℕ). (length c.args.content.now + 1) * n) size in
    let most = compared_from-most own c.args.host c.args.content.now c.args.start c.args.range in
    omega (arith, product, most, c.value_in_range.ensures.counts.bytes)
