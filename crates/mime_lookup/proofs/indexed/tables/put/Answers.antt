use Rattle.std.proofs.Common.{◌≡◌, ◌+◌, ◌<◌, ◌≤◌, ℕ, length, get_or, refl, sym, ◌∙◌, arith}
use Rattle.std.proofs.lemmas.List.{get_or_default}
use Rattle.mime_lookup.specs.Tables.{AreTables, GrowTables, IsSlot, OwnsLines}
use Rattle.mime_lookup.specs.declared.indexed.tables.Tables.{Tables}
use Rattle.mime_lookup.proofs.IndexLemmas.FoundLines.{no_head}
use Rattle.mime_lookup.proofs.IndexLemmas.Chains.{tables_apart, tables_linked}
use Rattle.mime_lookup.proofs.IndexLemmas.GrownTables.{owns-grown, renamed, tables-grown}
use Rattle.mime_lookup.proofs.IndexLemmas.Owners.{owner_with, owns-apart, owns-linked}
use Rattle.mime_lookup.proofs.indexed.tables.put.Goals as goal

pub returns-in-Some : goal.returns-in-Some
returns-in-Some c =
    let line = c.args.line in
    let heads = c.args.heads.now in
    let old : Tables = c.args.tables.now in
    let grown : Tables = c.slot_of.new.tables in
    let new : Tables =
    record { places = grown.places; firsts = c.link.new.firsts; nexts = c.link.new.nexts; others = grown.others } in
    let had = c.requires.had in
    let grow : GrowTables old grown = c.in_ok-slot.ensures.grow in
    let few : length grown.places.items + line ≤ length heads = omega (arith, had.few, grow.one) in
    let are : AreTables grown heads (line + 1) = tables-grown old grown grow heads (line + 1) had.found in
    let is : IsSlot grown.places.items c.in-Some.slot (get_or heads line no_head) = rw c.in-Some.is at c.in_ok-slot.ensures.slot in
    let bound : c.in-Some.slot < length grown.firsts.items = omega (arith, rw c.in-Some.is at c.in_ok-slot.ensures.inside, grow.slots) in
    let inside : line < length grown.nexts.items = omega (arith, are.size, c.requires.inside) in
    let owner : ℕ → ℕ = renamed had.owned.0 (length old.places.items) (length grown.places.items) in
    let owns : OwnsLines grown owner (length heads) (line + 1) =
    owns-grown old grown grow had.owned.0 (length heads) (line + 1) had.found.slots (omega (arith, few)) had.owned.1 in
    record {
      has = record {
        most = grow.most had.most;
        few = few;
        found = tables_linked grown new heads line are refl c.in-Some.slot bound inside c.link.ensures.nexts c.link.ensures.firsts refl
            (λ head at.
            let same : get_or heads line no_head ≡ head = get_or_default heads line no_head head c.requires.inside ∙ sym at in
            rw same at is);
        owned = (
          owner_with owner line is.table,
          owns-linked grown new owner (length heads) line owns refl is.table _ c.in-Some.slot is.byte is.slot_is bound inside
              c.link.ensures.nexts c.link.ensures.firsts refl,
        );
      };
    }

pub returns-in_ok-push-in-None : goal.returns-in_ok-push-in-None
returns-in_ok-push-in-None c =
    let line = c.args.line in
    let heads = c.args.heads.now in
    let old : Tables = c.args.tables.now in
    let grown : Tables = c.slot_of.new.tables in
    let new : Tables =
    record { places = grown.places; firsts = grown.firsts; nexts = grown.nexts; others = c.push.new.self } in
    let had = c.requires.had in
    let grow : GrowTables old grown = c.in_ok-slot.ensures.grow in
    let few : length grown.places.items + line ≤ length heads = omega (arith, had.few, grow.one) in
    let are : AreTables grown heads (line + 1) = tables-grown old grown grow heads (line + 1) had.found in
    let owner : ℕ → ℕ = renamed had.owned.0 (length old.places.items) (length grown.places.items) in
    let owns : OwnsLines grown owner (length heads) (line + 1) =
    owns-grown old grown grow had.owned.0 (length heads) (line + 1) had.found.slots (omega (arith, few)) had.owned.1 in
    record {
      has = record {
        most = grow.most had.most;
        few = few;
        found = tables_apart grown new heads line are refl refl refl c.in_ok-push-in-None.ensures.items;
        owned = (
          owner_with owner line (length grown.places.items),
          owns-apart grown new owner (length heads) line owns refl refl refl c.in_ok-push-in-None.ensures.items c.requires.inside,
        );
      };
    }
