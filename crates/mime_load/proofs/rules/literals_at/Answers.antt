use Rattle.std.proofs.Common.{◌≡◌, ℕ, ◌+◌, ◌*◌, length, get_or, ap, sym, ◌∙◌, arith, rules, true, true≢false}
use Rattle.std.proofs.lemmas.List.Elements.{All-weaker}
use Rattle.std.proofs.lemmas.Result.{err_from_is_err_and}
use Rattle.mime_base.specs.Cache.Bytes.{Stands}
use Rattle.mime_base.specs.Database.Limits.{KeepsLimits}
use Rattle.mime_base.specs.Format.Rules.{IsRule}
use Rattle.mime_base.specs.Format.Stored.{is_in_literals, stored_text}
use Rattle.mime_base.specs.Database.Lent.{plain_rule}
use Rattle.mime_load.specs.Lent.{plain_rules}
use Rattle.mime_load.specs.Parts.{IsStoredLiteral, IsStoredRule}
use Rattle.mime_load.proofs.NextRecords.{list_inside}
use Rattle.mime_load.proofs.RecordLemmas.{list_whole, records_pushed}
use Rattle.mime_load.proofs.RuleLists.{all_pushed, literals_by_text, sorted_pushed}
use Rattle.mime_load.proofs.RuleEntries.{entries_limits, entries_literal, entry_there, literals_count, no_rule, rules_rise}
use Rattle.mime_load.proofs.RulesRead.{rule_long, same_stored}
use Rattle.mime_load.proofs.StoredPatterns.{same_in_literals}
use Rattle.mime_load.proofs.TakingLemmas.{takes_more}
use Rattle.mime_load.proofs.rules.literals_at.Goals as goal
use Rattle.mime_load.proofs.rules.literals_at.Goals.{then-not-is_in_literals-via-then-not-is_in_literals, then-not-is_in_literals-via-else-not-is_in_literals+then-not-comes_next}

pub loop-i-preserved : goal.loop-i-preserved
loop-i-preserved c =
    let pushed = c.in_ok-push.ensures.items in
    let one : IsStoredRule c.args.source.now.counted.now (c.from-start.result + 4 + 12 * c.loop-i.i) (plain_rule c.in_ok-rule.rule) =
    rw c.from.ensures at c.in_ok-rule.ensures.stands in
    record {
      size = search rules;
      records = omega (arith, c.loop-i.invariant.records, c.in_ok-rule.ensures.taken);
      takes = takes_more 0 0 c.read_count.new.taking c.loop-i.taking c.read_rule.new.taking c.loop-i.invariant.takes c.read_rule.ensures.takes;
      fit = all_pushed IsStoredLiteral plain_rule c.loop-i.rules.items c.push.new.self.items c.in_ok-rule.rule pushed c.loop-i.invariant.fit
          (one.stored, search rules);
      limits = all_pushed KeepsLimits plain_rule c.loop-i.rules.items c.push.new.self.items c.in_ok-rule.rule pushed
          c.loop-i.invariant.limits one.limits;
      sorted = sorted_pushed c.loop-i.rules.items c.push.new.self.items c.in_ok-rule.rule pushed c.loop-i.invariant.fit
          one.stored c.loop-i.invariant.sorted (rw c.deref.ensures.value at (c.comes_next.ensures.rises (search rules)));
      stand = records_pushed (Stands c.args.source.now.counted.now) 12 (IsRule (Stands c.args.source.now.counted.now)) plain_rule
          (c.from-start.result + 4) c.loop-i.i c.loop-i.rules.items c.push.new.self.items c.in_ok-rule.rule pushed c.loop-i.invariant.size
          c.loop-i.invariant.stand one.stand;
    }

pub returns-clause-stand : goal.returns-clause-stand
returns-clause-stand c = record {
  stand = record {
    entries = plain_rules c.loop-i.rules.items;
    sorted = literals_by_text (plain_rules c.loop-i.rules.items) c.loop-i.invariant.fit c.loop-i.invariant.sorted;
    stand = rw c.from-start.ensures at (list_whole (Stands c.args.source.now.counted.now) 12 (IsRule (Stands c.args.source.now.counted.now)) plain_rule
        c.from-start.result c.in_ok-count.count c.loop-i.rules.items c.in_ok-count.ensures.count
        (omega (arith, c.loop-i.invariant.size, c.loop-i-test.false, c.loop-i.auto.i-end)) c.loop-i.invariant.stand);
  };
  literals = All-weaker IsStoredLiteral (λ rule. is_in_literals rule ≡ true) (λ rule one. one.1) (plain_rules c.loop-i.rules.items)
      c.loop-i.invariant.fit;
  limits = c.loop-i.invariant.limits;
}

pub returns-in_err-rule-clause-takes : goal.returns-in_err-rule-clause-takes
returns-in_err-rule-clause-takes c =
    takes_more 1 0 c.args.taking.now c.loop-i.taking c.read_rule.new.taking
    (takes_more 1 0 c.args.taking.now c.read_count.new.taking c.loop-i.taking c.read_count.ensures.looks.takes c.loop-i.invariant.takes)
    c.read_rule.ensures.takes

pub returns-then-not-is_in_literals-clause-takes : goal.returns-then-not-is_in_literals-clause-takes
returns-then-not-is_in_literals-clause-takes c =
    takes_more 1 0 c.args.taking.now c.loop-i.taking c.read_rule.new.taking
    (takes_more 1 0 c.args.taking.now c.read_count.new.taking c.loop-i.taking c.read_count.ensures.looks.takes c.loop-i.invariant.takes)
    c.read_rule.ensures.takes

pub returns-in_err-push-clause-takes : goal.returns-in_err-push-clause-takes
returns-in_err-push-clause-takes c =
    takes_more 1 0 c.args.taking.now c.loop-i.taking c.read_rule.new.taking
    (takes_more 1 0 c.args.taking.now c.read_count.new.taking c.loop-i.taking c.read_count.ensures.looks.takes c.loop-i.invariant.takes)
    c.read_rule.ensures.takes

pub returns-clause-takes : goal.returns-clause-takes
returns-clause-takes c =
    takes_more 1 0 c.args.taking.now c.read_count.new.taking c.loop-i.taking c.read_count.ensures.looks.takes c.loop-i.invariant.takes

pub returns-in_err-count-clause-need : goal.returns-in_err-count-clause-need
returns-in_err-count-clause-need c = λ rules list room.
    let cache = c.args.source.now.counted.now in
    let need = rw c.from-start.ensures at c.in_err-count.ensures.need in
    let p = err_from_is_err_and c.from_residual.result c.from_residual.ensures.1 in
    rw (p.1, p.2) (need (length list.stand.entries) list.stand.stand.count
    (list_inside cache 12 (IsRule (Stands cache)) (rule_long cache) c.args.at list.stand.entries list.stand.stand))

pub returns-in_err-rule-clause-need : goal.returns-in_err-rule-clause-need
returns-in_err-rule-clause-need c = λ rules list room.
    let cache = c.args.source.now.counted.now in
    let next = entry_there cache c.args.at c.in_ok-count.count c.loop-i.i (c.from-start.result + 4 + 12 * c.from.result) list.stand.entries
    (rw c.from-start.ensures at c.in_ok-count.ensures.count) list.stand.stand c.loop-i-test.true
    (omega (arith, c.from-start.ensures, c.from.ensures)) in
    let size = literals_count cache c.args.at rules list in
    let p = err_from_is_err_and c.from_residual-in_err-rule.result c.from_residual-in_err-rule.ensures.1 in
    rw (p.1, p.2) (c.in_err-rule.ensures.need (get_or list.stand.entries c.loop-i.i no_rule) next.stands
    (entries_limits cache c.args.at rules list c.loop-i.i no_rule next.within)
    (omega (arith, room, size, next.within, c.loop-i.invariant.records, c.read_count.ensures.looks.records)))

pub returns-then-not-is_in_literals-clause-need : goal.returns-then-not-is_in_literals-clause-need
returns-then-not-is_in_literals-clause-need c = λ rules list room.
    let cache = c.args.source.now.counted.now in
    let next = entry_there cache c.args.at c.in_ok-count.count c.loop-i.i (c.from-start.result + 4 + 12 * c.from.result) list.stand.entries
    (rw c.from-start.ensures at c.in_ok-count.ensures.count) list.stand.stand c.loop-i-test.true
    (omega (arith, c.from-start.ensures, c.from.ensures)) in
    let read : IsStoredRule cache (c.from-start.result + 4 + 12 * c.from.result) (plain_rule c.in_ok-rule.rule) = c.in_ok-rule.ensures.stands in
    let same = same_stored cache (c.from-start.result + 4 + 12 * c.from.result) (plain_rule c.in_ok-rule.rule)
    (get_or list.stand.entries c.loop-i.i no_rule) read.stand next.stands in
    let fits : is_in_literals (plain_rule c.in_ok-rule.rule) ≡ true =
    same_in_literals (plain_rule c.in_ok-rule.rule) (get_or list.stand.entries c.loop-i.i no_rule) same
    ∙ entries_literal cache c.args.at rules list c.loop-i.i no_rule next.within in
    absurd (elim c.then-not-is_in_literals.branch [
      | then-not-is_in_literals-via-then-not-is_in_literals w ↦
          true≢false (sym fits ∙ sym c.is_in_literals.ensures ∙ w.if-not-is_in_literals.true)
      | then-not-is_in_literals-via-else-not-is_in_literals+then-not-comes_next w ↦
          let falls = rw w.deref.ensures.value at (w.comes_next.ensures.falls w.if-not-comes_next.true c.in_ok-rule.rule) in
          let place : get_or list.stand.entries c.loop-i.i no_rule ≡ get_or list.stand.entries (length c.loop-i.rules.items) no_rule =
          ap (λ (k : ℕ). get_or list.stand.entries k no_rule) (sym c.loop-i.invariant.size) in
          rules_rise cache c.args.at list.stand.entries list.stand.stand list.stand.sorted.in_order c.loop-i.rules.items c.in_ok-rule.rule
          (rw c.from-start.ensures at c.loop-i.invariant.stand) c.loop-i.invariant.fit falls.0
          (omega (arith, c.loop-i.invariant.size, next.within)) read.stored (same ∙ ap stored_text place) falls.1
    ])
