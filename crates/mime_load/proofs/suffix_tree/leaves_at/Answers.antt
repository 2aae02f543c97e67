use Rattle.std.proofs.Common.{◌≡◌, ℕ, List, [], ◌∷◌, length, ap, get_or, rules, subst, sym, ◌∙◌, arith}
use Rattle.std.proofs.lemmas.Result.{err_from_is_err_and}
use Rattle.mime_base.specs.Cache.Bytes.{Stands}
use Rattle.mime_base.specs.Format.Tree.{TreeAt, sibling_count}
use Rattle.mime_load.specs.Walks.{TreeStands}
use Rattle.mime_load.proofs.EndedTrees.{tree_ended}
use Rattle.mime_load.proofs.SameLemmas.{numbers_inside, same_numbers}
use Rattle.mime_base.specs.Format.Records.{CardsAt}
use Rattle.mime_load.proofs.TreeLists.{tree_list, tree_taken}
use Rattle.mime_load.proofs.TreeWalks.{two}
use Rattle.mime_load.proofs.suffix_tree.leaves_at.Goals as goal

pub returns-clause-stand : goal.returns-clause-stand
returns-clause-stand c =
    let numbers = c.in_ok-numbers.numbers in
    tree_list c.args.source.now.counted.now c.args.at (get_or numbers 1 0) (get_or numbers 0 0) c.read_siblings-result.new.walk.leaves
    c.reverse.new.self c.read_numbers.new.taking.records c.read_siblings-result.new.walk.taking.records
    (subst (CardsAt (Stands c.args.source.now.counted.now) c.args.at) (two numbers (search rules))
    (rw c.from.ensures at c.in_ok-numbers.ensures.stand))
    (rw (c.none.ensures, c.none-2.ensures) at c.in_ok-result.ensures.walked)
    c.reverse.ensures

pub returns-clause-taken : goal.returns-clause-taken
returns-clause-taken c =
    let numbers = c.in_ok-numbers.numbers in
    tree_taken c.args.source.now.counted.now c.args.at (get_or numbers 1 0) (get_or numbers 0 0) c.read_siblings-result.new.walk.leaves
    c.reverse.new.self c.read_numbers.new.taking.records c.read_siblings-result.new.walk.taking.records
    (subst (CardsAt (Stands c.args.source.now.counted.now) c.args.at) (two numbers (search rules))
    (rw c.from.ensures at c.in_ok-numbers.ensures.stand))
    (rw (c.none.ensures, c.none-2.ensures) at c.in_ok-result.ensures.walked)
    c.reverse.ensures
    ∙ c.read_numbers.ensures.looks.records

pub returns-in_err-numbers-clause-need : goal.returns-in_err-numbers-clause-need
returns-in_err-numbers-clause-need c = λ rules list room.
    let inside = numbers_inside c.args.source.now.counted.now c.args.at (sibling_count list.stand.tree ∷ list.stand.first ∷ [])
    list.stand.head in
    absurd (omega (arith, inside, c.from.ensures, c.in_err-numbers.ensures.fault))

pub returns-in_err-result-clause-need : goal.returns-in_err-result-clause-need
returns-in_err-result-clause-need c =
    let long : length c.in_ok-numbers.numbers ≡ 2 = search rules in λ rules list room.
    let cache = c.args.source.now.counted.now in
    let numbers = c.in_ok-numbers.numbers in
    let e : numbers ≡ sibling_count list.stand.tree ∷ list.stand.first ∷ [] =
    same_numbers cache c.args.at c.in_ok-numbers.numbers (sibling_count list.stand.tree ∷ list.stand.first ∷ []) long
    (rw c.from.ensures at c.in_ok-numbers.ensures.stand) list.stand.head in
    let stands : TreeStands cache (get_or numbers 1 0) [] list.stand.tree = record {
      stand = subst (λ (a : ℕ). TreeAt (Stands cache) a list.stand.tree) (sym (ap (λ (ns : List ℕ). get_or ns 1 0) e)) list.stand.stand;
      before = 0;
      ordered = list.stand.ordered;
      ended = tree_ended cache c.args.at rules list;
    } in
    let count : sibling_count list.stand.tree ≡ get_or numbers 0 0 = sym (ap (λ (ns : List ℕ). get_or ns 0 0) e) in
    let need = rw c.none.ensures at c.in_err-result.ensures.need in
    let p = err_from_is_err_and c.from_residual-in_err-result.result c.from_residual-in_err-result.ensures.1 in
    rw (p.1, p.2) (need list.stand.tree stands count (omega (arith, room, list.stand.size, c.read_numbers.ensures.looks.records)))
