use Rattle.std.proofs.Common.{◌≡◌, ℕ, List, get_or, Option, Some, true, ◌∙◌, sym, ap, refl, arith, bytes_eq, slice_get}
use Rattle.std.proofs.lemmas.List.{length-set}
use Rattle.std.proofs.lemmas.Option.{get_or_from_slice_get}
use Rattle.std.specs.HashMap.{get_by}
use Rattle.mime_lookup.specs.Marks.{mark}
use Rattle.mime_lookup.specs.NameMap.{number_of, other_of, value_at}
use Rattle.mime_lookup.specs.declared.name_map.NameEntry.{NameEntry}
use Rattle.mime_lookup.proofs.NameMapLemmas.Changed.{alone-shared, updates-own, updates-shared}
use Rattle.mime_lookup.proofs.NameMapLemmas.Items.{value_at-other, value_at-own}
use Rattle.mime_lookup.proofs.name_map.put_value.Goals as goal

-- the number at a name's mark is the name's
leads-to : (numbers name : List ℕ) (m at : ℕ) → m ≡ mark name → at ≡ get_or numbers m 65535 → number_of numbers name ≡ at
leads-to numbers name m at is found = ap (λ (k : ℕ). get_or numbers k 65535) (sym is) ∙ sym found

pub returns-then-eq-clause-updates : goal.returns-then-eq-clause-updates
returns-then-eq-clause-updates g c =
    let map = c.args.map.now in
    let leads : number_of map.numbers.items c.args.name.now ≡ c.number_at-number.result =
    leads-to map.numbers.items c.args.name.now c.mark_of-at.result c.number_at-number.result c.mark_of-at.ensures.mark c.number_at-number.ensures in
    let at = c.number_at-number.result in
    let was : slice_get map.entries.items at ≡ Some c.in-Some.entry = sym c.entry_at.ensures ∙ sym c.copied.ensures ∙ c.in-Some.is in
    let found : c.index_mut.result.now ≡ c.in-Some.entry =
    c.index_mut.ensures.value ∙ get_or_from_slice_get map.entries.items at c.in-Some.entry c.index_mut.result.now was in
    updates-own map.numbers.items map.entries.items c.in-Some.entry _ c.args.name.now at leads was
    (ap (λ (e : NameEntry g.row.V.Denot). e.name.now) found) (other_of map) (sym c.eq.ensures ∙ c.if-eq.true)

pub returns-then-eq-clause-old : goal.returns-then-eq-clause-old
returns-then-eq-clause-old g c =
    let map = c.args.map.now in
    let leads : number_of map.numbers.items c.args.name.now ≡ c.number_at-number.result =
    leads-to map.numbers.items c.args.name.now c.mark_of-at.result c.number_at-number.result c.mark_of-at.ensures.mark c.number_at-number.ensures in
    let name = c.args.name.now in
    let was : slice_get map.entries.items (number_of map.numbers.items name) ≡ Some c.in-Some.entry =
    ap (slice_get map.entries.items) leads ∙ sym c.entry_at.ensures ∙ sym c.copied.ensures ∙ c.in-Some.is in
    sym (ap (λ (e : Option (NameEntry g.row.V.Denot)). value_at e (other_of map name) name) was
    ∙ value_at-own c.in-Some.entry (other_of map name) name (sym c.eq.ensures ∙ c.if-eq.true))

pub returns-clause-valid : goal.returns-clause-valid
returns-clause-valid g c =
    let map = c.args.map.now in
    let leads : number_of map.numbers.items c.args.name.now ≡ c.number_at-number.result =
    leads-to map.numbers.items c.args.name.now c.mark_of-at.result c.number_at-number.result c.mark_of-at.ensures.mark c.number_at-number.ensures in
    let at = c.number_at-number.result in
    let was : slice_get map.entries.items at ≡ Some c.in-Some.entry = sym c.entry_at.ensures ∙ sym c.copied.ensures ∙ c.in-Some.is in
    let found : c.index_mut-2.result.now ≡ c.in-Some.entry =
    c.index_mut-2.ensures.value ∙ get_or_from_slice_get map.entries.items at c.in-Some.entry c.index_mut-2.result.now was in
    let changed : NameEntry g.row.V.Denot =
    record { name = c.index_mut-2.result.now.name; value = c.index_mut-2.result.now.value; shared = true } in
    record {
      many = c.requires.many;
      size = omega (arith, c.requires.size, length-set map.entries.items at changed);
      empty = λ m above. c.requires.empty m (omega (arith, above, length-set map.entries.items at changed));
      alone =
          alone-shared map.numbers.items map.entries.items c.in-Some.entry changed c.args.name.now at leads was
          (ap (λ (e : NameEntry g.row.V.Denot). e.name.now) found) (other_of map) (λ n. get_by (λ key. bytes_eq n key.now) c.put_other.new.others) c.args.value
          c.in_ok-old.ensures.updates refl c.requires.alone;
    }

pub returns-clause-updates : goal.returns-clause-updates
returns-clause-updates g c =
    let map = c.args.map.now in
    let leads : number_of map.numbers.items c.args.name.now ≡ c.number_at-number.result =
    leads-to map.numbers.items c.args.name.now c.mark_of-at.result c.number_at-number.result c.mark_of-at.ensures.mark c.number_at-number.ensures in
    let at = c.number_at-number.result in
    let was : slice_get map.entries.items at ≡ Some c.in-Some.entry = sym c.entry_at.ensures ∙ sym c.copied.ensures ∙ c.in-Some.is in
    let found : c.index_mut-2.result.now ≡ c.in-Some.entry =
    c.index_mut-2.ensures.value ∙ get_or_from_slice_get map.entries.items at c.in-Some.entry c.index_mut-2.result.now was in
    updates-shared map.numbers.items map.entries.items c.in-Some.entry _ c.args.name.now at leads was
    (ap (λ (e : NameEntry g.row.V.Denot). e.name.now) found) (other_of map) (λ n. get_by (λ key. bytes_eq n key.now) c.put_other.new.others) c.args.value
    c.in_ok-old.ensures.updates
    (ap (λ (e : NameEntry g.row.V.Denot). e.value) found) (sym c.eq.ensures ∙ c.if-eq.false)

pub returns-clause-old : goal.returns-clause-old
returns-clause-old g c =
    let map = c.args.map.now in
    let leads : number_of map.numbers.items c.args.name.now ≡ c.number_at-number.result =
    leads-to map.numbers.items c.args.name.now c.mark_of-at.result c.number_at-number.result c.mark_of-at.ensures.mark c.number_at-number.ensures in
    let name = c.args.name.now in
    let was : slice_get map.entries.items (number_of map.numbers.items name) ≡ Some c.in-Some.entry =
    ap (slice_get map.entries.items) leads ∙ sym c.entry_at.ensures ∙ sym c.copied.ensures ∙ c.in-Some.is in
    c.in_ok-old.ensures.old
    ∙ sym (ap (λ (e : Option (NameEntry g.row.V.Denot)). value_at e (other_of map name) name) was
    ∙ value_at-other c.in-Some.entry (other_of map name) name (sym c.eq.ensures ∙ c.if-eq.false))
