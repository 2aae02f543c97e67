use Rattle.std.proofs.Common.{◌≡◌, ◌≤◌, ℕ, ◌+◌, ◌-◌, refl, arith}
use Rattle.std.proofs.lemmas.Nat.{mul-le}
use Rattle.mime_base.specs.declared.meter.Meter.{Meter}
use Rattle.mime_load.specs.Taking.{VisitsRecord}
use Rattle.mime_load.specs.declared.taking.Taking.{Taking}
use Rattle.mime_load.proofs.taking.take_numbers.Goals as goal

-- a record that is visited is paid for by its bytes
visited : (bytes : ℕ) (old : Taking) (meter : Meter) → bytes ≤ old.records → meter.nodes ≤ old.meter.nodes + 1 → meter.bytes ≡ old.meter.bytes
    → VisitsRecord bytes old (record { meter = meter; records = old.records - bytes; value_bytes = old.value_bytes })
visited bytes old meter room one same = record {
  value_bytes = refl;
  no_bytes = same;
  falls = omega arith;
  paid = omega (arith, room, mul-le bytes meter.nodes bytes (old.meter.nodes + 1) (omega arith) one);
}

pub returns-in_err-numbers-clause-visits : goal.returns-in_err-numbers-clause-visits
returns-in_err-numbers-clause-visits g c =
    visited c.args.bytes c.args.taking.now c.record.new.meter (omega (arith, c.if-taking-bytes.false)) (omega (arith, c.record.ensures.nodes))
    c.record.ensures.bytes

pub returns-clause-visits : goal.returns-clause-visits
returns-clause-visits g c =
    visited c.args.bytes c.args.taking.now c.record.new.meter (omega (arith, c.if-taking-bytes.false)) (omega (arith, c.record.ensures.nodes))
    c.record.ensures.bytes
