use Rattle.std.proofs.Common.{◌≡◌, ℕ, List, ◌+◌, ◌-◌, ◌*◌, ◌∷◌, get_or, arith, rules, refl, sym, subst, ◌∙◌}
use Rattle.std.proofs.lemmas.Result.{err_from_is_err_and}
use Rattle.mime_base.specs.Cache.Bytes.{Stands}
use Rattle.mime_base.specs.Format.Records.{CardsAt}
use Rattle.mime_base.specs.Format.Tree.{TreeAt}
use Rattle.mime_load.specs.Lent.{plain_leaf}
use Rattle.mime_load.specs.Walks.{TreeStands, Walked}
use Rattle.mime_load.proofs.SiblingCounts.{same_counts}
use Rattle.mime_load.proofs.NextSiblings.{lower_before, next_as, next_sibling, none_before}
use Rattle.mime_load.proofs.SiblingsRead.{sibling_inside, sibling_read}
use Rattle.mime_load.proofs.TakingLemmas.{takes_more}
use Rattle.mime_load.proofs.TreeWalks.{more_rules, some_rules, three, walked_as, walked_leaf, walked_node, walked_none}
use Rattle.mime_load.proofs.suffix_tree.+siblings.Goals as goal

pub read_sibling-returns-then-character-eq0-clause-reads : goal.read_sibling-returns-then-character-eq0-clause-reads
read_sibling-returns-then-character-eq0-clause-reads t c = record {
  walked = λ count all first w.
      let numbers = c.in_ok-numbers.numbers in
      walked_leaf c.args.source.now.counted.now c.args.at count (get_or numbers 1 0) (get_or numbers 2 0) (get_or numbers 0 0)
      c.args.walk.now.ending c.args.next first c.args.walk.now.leaves c.push.new.self all
      c.args.walk.now.taking.records c.read_leaf.new.taking.records (plain_leaf c.in_ok-rule.rule)
      (subst (CardsAt (Stands c.args.source.now.counted.now) c.args.at) (three numbers (search rules)) c.in_ok-numbers.ensures.stand)
      c.if-character-eq0.true c.in_ok-rule.ensures.is c.requires.next.0
      c.in_ok-push.ensures.pushed
      (omega (arith, c.in_ok-take_records.ensures.taken, c.read_numbers.ensures.looks.records, c.read_leaf.ensures.looks.records)) w;
  is_next = λ count.
      lower_before c.args.source.now.counted.now c.in_ok-numbers.numbers c.args.at count 1 (search rules) c.in_ok-numbers.ensures.stand
      (omega (arith, c.if-character-eq0.true)) (omega arith);
  fits = (omega arith, omega arith);
}

pub read_sibling-returns-clause-reads : goal.read_sibling-returns-clause-reads
read_sibling-returns-clause-reads t c = record {
  walked = λ count all first w.
      let numbers = c.in_ok-numbers.numbers in
      let down : Walked c.args.source.now.counted.now (get_or numbers 2 0) (get_or numbers 1 0) (get_or numbers 0 0 ∷ c.args.walk.now.ending) 1
      c.args.walk.now.leaves c.read_siblings.new.walk.leaves c.read_numbers.new.taking.records
      c.read_siblings.new.walk.taking.records =
      rw c.grow.ensures.grown at c.in_ok-read_siblings.ensures.walked in
      walked_node c.args.source.now.counted.now c.args.at count (get_or numbers 1 0) (get_or numbers 2 0) (get_or numbers 0 0)
      c.args.walk.now.ending c.args.next first c.args.walk.now.leaves c.read_siblings.new.walk.leaves all
      c.args.walk.now.taking.records c.read_numbers.new.taking.records c.read_siblings.new.walk.taking.records
      (subst (CardsAt (Stands c.args.source.now.counted.now) c.args.at) (three numbers (search rules)) c.in_ok-numbers.ensures.stand)
      (search rules) (omega (arith, c.if-next-character.false)) down
      (more_rules c.args.walk.now.leaves c.read_siblings.new.walk.leaves _ down.rules (search rules))
      (omega (arith, c.in_ok-take_records.ensures.taken, c.read_numbers.ensures.looks.records)) w;
  is_next = λ count.
      let numbers = c.in_ok-numbers.numbers in
      lower_before c.args.source.now.counted.now c.in_ok-numbers.numbers c.args.at count (get_or numbers 0 0) (search rules)
      c.in_ok-numbers.ensures.stand (omega arith) (omega (arith, c.if-character-eq0.false));
  fits = (omega (arith, c.if-character-eq0.false), omega (arith, c.if-next-character.false, c.requires.next.1));
}

pub read_siblings-loop-done-init : goal.read_siblings-loop-done-init
read_siblings-loop-done-init t c = record {
  walked = walked_none c.args.source.now.counted.now (c.args.first + 12 * (c.args.count - 0)) c.args.walk.now.ending _
      c.args.walk.now.leaves c.args.walk.now.taking.records;
  is_next = none_before c.args.source.now.counted.now (c.args.first + 12 * (c.args.count - 0));
  ending = refl;
  some = omega arith;
  fits = omega arith;
  takes = record { value_bytes = refl; pays = record { nodes_paid = omega arith; bytes_paid = omega arith } };
}

pub read_siblings-loop-done-preserved : goal.read_siblings-loop-done-preserved
read_siblings-loop-done-preserved t c =
    let at : ℕ = c.from.result + 12 * c.from-in-loop-done.result in
    let old = c.loop-done.invariant.walked in
    let here : Walked c.args.source.now.counted.now (at + 12) c.loop-done.done c.loop-done.walk.ending c.loop-done.next
    c.args.walk.now.leaves c.loop-done.walk.leaves c.args.walk.now.taking.records c.loop-done.walk.taking.records =
    walked_as (c.args.first + 12 * (c.args.count - c.loop-done.done)) (at + 12) c.args.walk.now.ending c.loop-done.walk.ending
    (omega (arith, c.loop-done-test.true, c.from.ensures, c.from-in-loop-done.ensures)) (sym c.loop-done.invariant.ending) old in
    let sibling = c.in_ok-before.ensures.reads in
    record {
      walked = walked_as at (c.args.first + 12 * (c.args.count - (c.loop-done.done + 1))) c.loop-done.walk.ending c.args.walk.now.ending
          (omega (arith, c.from.ensures, c.from-in-loop-done.ensures)) c.loop-done.invariant.ending
          (sibling.walked c.loop-done.done c.args.walk.now.taking.records c.args.walk.now.leaves here);
      is_next = next_as c.args.source.now.counted.now at (c.args.first + 12 * (c.args.count - (c.loop-done.done + 1)))
          (c.loop-done.done + 1)
          c.in_ok-before.before (omega (arith, c.from.ensures, c.from-in-loop-done.ensures)) (sibling.is_next c.loop-done.done);
      ending = c.in_ok-before.ensures.ending_stays ∙ c.loop-done.invariant.ending;
      some = sibling.fits.0;
      fits = sibling.fits.1;
      takes = takes_more 0 0 c.args.walk.now.taking c.loop-done.walk.taking c.read_sibling.new.walk.taking c.loop-done.invariant.takes
          c.read_sibling.ensures.takes;
    }

pub read_siblings-returns-in_err-before-clause-takes : goal.read_siblings-returns-in_err-before-clause-takes
read_siblings-returns-in_err-before-clause-takes t c =
    takes_more 0 0 c.args.walk.now.taking c.loop-done.walk.taking c.read_sibling.new.walk.taking c.loop-done.invariant.takes c.read_sibling.ensures.takes

pub read_siblings-returns-in_err-before-clause-need : goal.read_siblings-returns-in_err-before-clause-need
read_siblings-returns-in_err-before-clause-need t c = λ tree stands count room.
    let cache = c.args.source.now.counted.now in
    let at : ℕ = c.from.result + 12 * c.from-in-loop-done.result in
    let place : c.args.first + 12 * (c.args.count - c.loop-done.done) ≡ at + 12 =
    omega (arith, c.loop-done-test.true, c.from.ensures, c.from-in-loop-done.ensures) in
    let read = c.loop-done.invariant.walked in
    let there : TreeStands cache c.args.first c.loop-done.walk.ending tree =
    subst (λ (e : List ℕ). TreeStands cache c.args.first e tree) (sym c.loop-done.invariant.ending) stands in
    let next = next_sibling cache c.args.first at 0 c.loop-done.walk.ending tree read.tree (c.args.count - 1 - c.loop-done.done) c.loop-done.done
    c.loop-done.next c.args.walk.now.taking.records c.loop-done.walk.taking.records there (omega (arith, count, c.loop-done-test.true))
    (omega (arith, c.from.ensures, c.from-in-loop-done.ensures))
    (read.ordered 0 (omega (arith, c.loop-done.invariant.some)))
    (subst (λ (a : ℕ). TreeAt (Stands cache) a read.tree) place read.stand) read.siblings c.loop-done.invariant.some
    (next_as cache (c.args.first + 12 * (c.args.count - c.loop-done.done)) (at + 12) c.loop-done.done c.loop-done.next place
    c.loop-done.invariant.is_next) room read.nodes in
    let p = err_from_is_err_and c.from_residual.result c.from_residual.ensures.1 in
    rw (p.1, p.2) (c.in_err-before.ensures.need next.tree next.stands next.some next.low next.within)

pub read_sibling-returns-in_err-numbers-clause-need : goal.read_sibling-returns-in_err-numbers-clause-need
read_sibling-returns-in_err-numbers-clause-need t c = λ tree stands some low room.
    let inside = sibling_inside c.args.source.now.counted.now c.args.at c.args.walk.now.ending tree stands some in
    absurd (omega (arith, inside, c.in_err-numbers.ensures.fault))

pub read_sibling-returns-then-next-character-clause-need : goal.read_sibling-returns-then-next-character-clause-need
read_sibling-returns-then-next-character-clause-need t c = λ tree stands some low room.
    let read = sibling_read c.args.source.now.counted.now c.in_ok-numbers.numbers c.args.at c.args.walk.now.ending tree (search rules)
    c.in_ok-numbers.ensures.stand stands some in
    absurd (omega (arith, read.character, low, c.if-next-character.true))

pub read_sibling-returns-in_err-rule-clause-need : goal.read_sibling-returns-in_err-rule-clause-need
read_sibling-returns-in_err-rule-clause-need t c = λ tree stands some low room.
    let read = sibling_read c.args.source.now.counted.now c.in_ok-numbers.numbers c.args.at c.args.walk.now.ending tree (search rules)
    c.in_ok-numbers.ensures.stand stands some in
    let one = read.leaf_read c.if-character-eq0.true in
    let p = err_from_is_err_and c.from_residual-in_err-rule.result c.from_residual-in_err-rule.ensures.1 in
    rw (p.1, p.2) (c.in_err-rule.ensures.need one.rule one.is)

pub read_sibling-returns-then-length-eq-DEEPEST-clause-need : goal.read_sibling-returns-then-length-eq-DEEPEST-clause-need
read_sibling-returns-then-length-eq-DEEPEST-clause-need t c = λ tree stands some low room.
    let read = sibling_read c.args.source.now.counted.now c.in_ok-numbers.numbers c.args.at c.args.walk.now.ending tree (search rules)
    c.in_ok-numbers.ensures.stand stands some in
    let below = read.node_read (omega (arith, c.if-character-eq0.false)) in
    absurd (omega (arith, below.fits.short, c.length.ensures, c.if-length-eq-DEEPEST.true))

pub read_sibling-returns-in_err-read_siblings-clause-need : goal.read_sibling-returns-in_err-read_siblings-clause-need
read_sibling-returns-in_err-read_siblings-clause-need t c = λ tree stands some low room.
    let read = sibling_read c.args.source.now.counted.now c.in_ok-numbers.numbers c.args.at c.args.walk.now.ending tree (search rules)
    c.in_ok-numbers.ensures.stand stands some in
    let below = read.node_read (omega (arith, c.if-character-eq0.false)) in
    let need = rw c.grow.ensures.grown at c.in_err-read_siblings.ensures.need in
    let p = err_from_is_err_and c.from_residual-in_err-read_siblings.result c.from_residual-in_err-read_siblings.ensures.1 in
    rw (p.1, p.2) (need below.below below.stands below.siblings
    (omega (arith, room, below.counted, c.in_ok-take_records.ensures.taken, c.read_numbers.ensures.looks.records)))

pub read_sibling-returns-then-len-before-clause-need : goal.read_sibling-returns-then-len-before-clause-need
read_sibling-returns-then-len-before-clause-need t c = λ tree stands some low room.
    let cache = c.args.source.now.counted.now in
    let numbers = c.in_ok-numbers.numbers in
    let read = sibling_read cache c.in_ok-numbers.numbers c.args.at c.args.walk.now.ending tree (search rules) c.in_ok-numbers.ensures.stand
    stands
    some in
    let below = read.node_read (omega (arith, c.if-character-eq0.false)) in
    let down : Walked cache (get_or numbers 2 0) (get_or numbers 1 0) (get_or numbers 0 0 ∷ c.args.walk.now.ending) 1
    c.args.walk.now.leaves c.read_siblings.new.walk.leaves c.read_numbers.new.taking.records
    c.read_siblings.new.walk.taking.records =
    rw c.grow.ensures.grown at c.in_ok-read_siblings.ensures.walked in
    let same = same_counts cache (get_or numbers 2 0) 0 below.stands.before down.tree below.below (down.ordered 0 (omega arith))
    below.stands.ordered down.stand below.stands.stand (down.siblings ∙ sym below.siblings) in
    absurd (some_rules c.args.walk.now.leaves c.read_siblings.new.walk.leaves down.tree down.rules
    (omega (arith, same.leaves, below.leaves))
    (search rules))
