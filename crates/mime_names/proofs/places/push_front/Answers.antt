use Rattle.std.proofs.Common.{◌≡◌, ◌<◌, ◌∙◌, get_or, sym, arith}
use Rattle.mime_names.specs.Keys.{Begins}
use Rattle.mime_names.proofs.GatherLemmas.{adds-stronger, gathers-weaker}
use Rattle.mime_names.proofs.FrontLemmas.{begins-first, begins-from}
use Rattle.mime_names.proofs.TreeLemmas.{folded-below}
use Rattle.mime_names.proofs.places.push_front.Goals as goal

pub returns-then-name-eq0-clause-gathers : goal.returns-then-name-eq0-clause-gathers
returns-then-name-eq0-clause-gathers c = record {
  kept = λ p has. has;
  all = λ p below begins. absurd (omega (arith, c.if-name-eq0.true, (begins-first c.args.name.now _ begins.1).0));
}

pub returns-clause-gathers : goal.returns-clause-gathers
returns-clause-gathers c =
    let name = c.args.name.now in
    gathers-weaker c.args.table.now.keys.items (λ key. key ≡ c.from-key.result) (λ key. (key < 256) × Begins name key) _ _
    (λ key begins. (begins-first name key begins.1).1 ∙ sym (c.from-key.ensures ∙ c.as_compared.ensures))
    c.in_ok-push_key.ensures.walks

pub returns-clause-adds : goal.returns-clause-adds
returns-clause-adds c =
    let name = c.args.name.now in
    adds-stronger c.args.table.now.keys.items (λ key. key ≡ c.from-key.result) (λ key. (key < 256) × Begins name key) _ _
    (λ key is. (let own = is ∙ c.from-key.ensures ∙ c.as_compared.ensures in (
      omega (arith, own, folded-below (get_or name 0 0) (omega (arith, c.type_inv.name 0))),
      begins-from name key (omega (arith, c.if-name-eq0.false)) own,
    ))) c.push_key.ensures.adds

pub returns-in_err-push_key-clause-adds : goal.returns-in_err-push_key-clause-adds
returns-in_err-push_key-clause-adds c =
    let name = c.args.name.now in
    adds-stronger c.args.table.now.keys.items (λ key. key ≡ c.from-key.result) (λ key. (key < 256) × Begins name key) _ _
    (λ key is. (let own = is ∙ c.from-key.ensures ∙ c.as_compared.ensures in (
      omega (arith, own, folded-below (get_or name 0 0) (omega (arith, c.type_inv.name 0))),
      begins-from name key (omega (arith, c.if-name-eq0.false)) own,
    ))) c.push_key.ensures.adds
