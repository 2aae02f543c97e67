use Rattle.std.proofs.Common.{◌≡◌, ℕ, ◌+◌, ◌-◌, ◌*◌, ◌/◌, ◌<◌, arith, ◌∙◌, ap, subst, get_or}
use Rattle.mime_base.specs.Cache.Bytes.{field}
use Rattle.mime_view.proofs.SearchLemmas.Halving.{count_small, halved, few}
use Rattle.mime_view.proofs.suffixes.first_not_below.Goals as goal

pub loop-low-preserved-then-character-from : goal.loop-low-preserved-then-character-from
loop-low-preserved-then-character-from c =
    let middle : ℕ = (c.loop-low.low + c.loop-low.high) / 2 in
    let p : ℕ = c.loop-low.invariant.probes.0 in
    let wide : ℕ = c.loop-low.high - c.loop-low.low in
    let fits = c.requires.lies.inside (omega arith) in
    let small = count_small c.args.block.first 12 c.args.block.count _ (omega arith) fits c.args.query.now.limit in
    let early = few p wide c.args.block.count c.loop-low.invariant.probes.2 (omega arith) small in
    let read = ap (λ xs. get_or xs 0 0) c.cards_within.ensures.numbers in
    record {
      order = omega arith;
      within = c.loop-low.invariant.within;
      before = λ i is.
          let m : middle ≡ i = omega arith in
          let less : field c.args.query.now.counted.now (c.args.block.first + 12 * middle) 0 < c.args.byte =
          omega (arith, read, c.from.ensures, c.if-character-from.true) in
          subst (λ (k : ℕ). field c.args.query.now.counted.now (c.args.block.first + 12 * k) 0 < c.args.byte) m less;
      after = c.loop-low.invariant.after;
      seen = λ some. omega arith;
      rises = omega arith;
      bytes = c.cards_within.ensures.bytes ∙ c.loop-low.invariant.bytes;
      probes = (p + 1, omega arith, halved p wide _ _ c.loop-low.invariant.probes.2 (omega arith), omega arith);
    }

pub loop-low-preserved : goal.loop-low-preserved
loop-low-preserved c =
    let middle : ℕ = (c.loop-low.low + c.loop-low.high) / 2 in
    let p : ℕ = c.loop-low.invariant.probes.0 in
    let wide : ℕ = c.loop-low.high - c.loop-low.low in
    let fits = c.requires.lies.inside (omega arith) in
    let small = count_small c.args.block.first 12 c.args.block.count _ (omega arith) fits c.args.query.now.limit in
    let early = few p wide c.args.block.count c.loop-low.invariant.probes.2 (omega arith) small in
    let read = ap (λ xs. get_or xs 0 0) c.cards_within.ensures.numbers in
    record {
      order = omega arith;
      within = omega arith;
      before = c.loop-low.invariant.before;
      after = λ some. omega (arith, read, c.from.ensures, c.if-character-from.false);
      seen = λ some. omega arith;
      rises = omega arith;
      bytes = c.cards_within.ensures.bytes ∙ c.loop-low.invariant.bytes;
      probes = (p + 1, omega arith, halved p wide _ _ c.loop-low.invariant.probes.2 (omega arith), omega arith);
    }
