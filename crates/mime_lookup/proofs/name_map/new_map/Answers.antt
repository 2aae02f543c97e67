use Rattle.std.proofs.Common.{◌≡◌, ℕ, List, replicate, arith, ap, ◌∙◌, get_or, bytes_eq}
use Rattle.std.specs.Map.{lookup}
use Rattle.mime_lookup.proofs.NameMapLemmas.Items.{get-replicate}
use Rattle.mime_lookup.proofs.name_map.new_map.Goals as goal

pub returns-clause-valid : goal.returns-clause-valid
returns-clause-valid g c =
    let numbers = c.in_ok-numbers.numbers.items in
    let items : numbers ≡ replicate 16384 65535 = c.in_ok-numbers.ensures.items_if_clones_equal (λ y is. is) in
    record {
      many = omega (arith, c.in_ok-numbers.ensures.len, c.in_ok-numbers.numbers.ok.0);
      size = rw c.in_ok-entries.ensures.items (omega arith);
      empty = λ m above.
          ap (λ (ns : List ℕ). get_or ns m 65535) items ∙ get-replicate 16384 m 65535;
      alone = λ name unshared. ap (lookup (λ key. bytes_eq name key.now)) c.new.ensures.empty;
    }
