use Rattle.std.proofs.Common.{inl, inr, ◌≡◌, ◌<◌, arith}
use Rattle.mime_names.specs.Keys.{Begins, Fronts}
use Rattle.mime_names.proofs.GatherLemmas.{adds-both, gathers-both}
use Rattle.mime_names.proofs.places.push_fronts.Goals as goal

pub returns-in_err-push_front-clause-adds : goal.returns-in_err-push_front-clause-adds
returns-in_err-push_front-clause-adds c =
    let name = c.args.name.now in
    adds-both c.args.table.now.keys.items (λ key. key ≡ 256) (λ key. (key < 256) × Begins name key) (Fronts name) _ _ _
    (λ key any. inl any) (λ key begins. inr begins) (λ key any begins. omega (arith, any, begins.0))
    c.push_key.ensures.adds c.push_front.ensures.adds

pub returns-clause-adds : goal.returns-clause-adds
returns-clause-adds c =
    let name = c.args.name.now in
    adds-both c.args.table.now.keys.items (λ key. key ≡ 256) (λ key. (key < 256) × Begins name key) (Fronts name) _ _ _
    (λ key any. inl any) (λ key begins. inr begins) (λ key any begins. omega (arith, any, begins.0))
    c.push_key.ensures.adds c.push_front.ensures.adds

pub returns-clause-gathers : goal.returns-clause-gathers
returns-clause-gathers c =
    let name = c.args.name.now in
    gathers-both c.args.table.now.keys.items (λ key. key ≡ 256) (λ key. (key < 256) × Begins name key) (Fronts name) _ _ _
    (λ key front. front) c.in_ok-push_key.ensures.walks c.in_ok-push_front.ensures.gathers
