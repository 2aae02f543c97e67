use Rattle.std.proofs.Common.{◌≡◌, length, ap, arith}
use Rattle.std.proofs.lemmas.List.{get_or_past}
use Rattle.mime_lookup.specs.declared.indexed.tables.Tables.{Tables}
use Rattle.mime_lookup.proofs.IndexLemmas.NoOwners.{owns-none}
use Rattle.mime_lookup.proofs.indexed.tables.tables_of.Goals as goal

pub loop-line-init : goal.loop-line-init
loop-line-init c =
    let made : Tables = record {
      places = c.in_ok-with_capacity.field-0;
      firsts = c.in_ok-with_capacity-2.field-0;
      nexts = c.in_ok-vec.field-0;
      others = c.new.result;
    } in
    let lines = length c.args.heads.now in
    let few : length made.places.items ≡ 0 = ap length c.in_ok-with_capacity.ensures.items in
    let blank : length made.firsts.items ≡ 0 = ap length c.in_ok-with_capacity-2.ensures.items in
    let size : length made.nexts.items ≡ lines = omega (arith, c.in_ok-vec.ensures.len, made.nexts.ok.0) in
    record {
      most = omega (arith, few);
      few = omega (arith, few);
      found = record {
        size = size;
        slots = omega (arith, few, blank);
        each = λ line head low within is. absurd (omega (arith, low, within));
      };
      owned = (
        λ _. 0,
        owns-none made lines (omega (arith, few)) (λ slot. get_or_past made.firsts.items slot 0 (omega (arith, blank))) size
            (ap length c.new.ensures.items),
      );
    }
