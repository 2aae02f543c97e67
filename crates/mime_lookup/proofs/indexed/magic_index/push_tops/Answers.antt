use Rattle.std.proofs.Common.{◌≡◌, ◌<◌, ◌++◌, length, refl, sym, ap, ◌∙◌, arith, append-nil}
use Rattle.std.proofs.lemmas.Bool.{eqb-false, eqb-true}
use Rattle.mime_load.proofs.HoldingLines.{length-behind_first}
use Rattle.mime_lookup.specs.TopLines.{lent_top, plain_tops}
use Rattle.mime_lookup.proofs.IndexLemmas.LentTops.{lent_tops-none, lent_tops-pushed, up_to-behind}
use Rattle.mime_lookup.proofs.indexed.magic_index.push_tops.Goals as goal

pub loop-rest-preserved : goal.loop-rest-preserved
loop-rest-preserved c =
    let before = c.loop-rest.invariant in
    let rest = c.loop-rest.rest.now in
    let lines = c.args.lines.now in
    let section = c.args.section.now in
    let none : length rest ≡ 0 → ⊥ = eqb-false (length rest) 0 (sym c.is_empty.ensures ∙ c.loop-rest-test.true) in
    let some : 0 < length rest = omega (arith, none) in
    record {
      short = omega (arith, before.short, length-behind_first rest some, ap length c.behind_first-rest.ensures);
      is = rw c.behind_first-rest.ensures (up_to-behind lines c.args.until rest before.short before.is);
      left = rw c.behind_first-rest.ensures (lent_tops-pushed section.kind.now section.priority lines rest c.args.until c.loop-rest.tops.items
          c.push.new.self.items _ _ some before.is c.in_ok-push.ensures.items refl before.left);
    }

pub returns : goal.returns
returns c =
    let rest = c.loop-rest.rest.now in
    let section = c.args.section.now in
    let none : length rest ≡ 0 = eqb-true (length rest) 0 (sym c.is_empty.ensures ∙ c.loop-rest-test.false) in
    let tops = plain_tops (lent_top c.args.lines.now) c.loop-rest.tops.items in
    sym (append-nil tops) ∙ ap (λ ts. tops ++ ts) (sym (lent_tops-none section.kind.now section.priority rest none))
    ∙ c.loop-rest.invariant.left
