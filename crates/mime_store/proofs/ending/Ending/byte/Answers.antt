-- A byte of the first eight, and one after them.
use Rattle.std.proofs.Common.{◌-◌, ◌<◌, ℕ, length, get_or, ap, ◌∙◌, arith}
use Rattle.std.proofs.lemmas.List.{get_or-drop, get_or_read, length-drop}
use Rattle.mime_base.specs.Format.Stored.{reversed_ending}
use Rattle.mime_store.specs.SuffixTree.{ending_path}
use Rattle.mime_store.proofs.SuffixTreeLemmas.Starts.{front-at}
use Rattle.mime_store.proofs.ending.Ending.byte.Goals as goal

pub index-requires : goal.index-requires
unfolding ending_path
index-requires c =
    let ending = c.args.self.now in
    omega (arith, ap length ending.goes_on, length-drop 8 (reversed_ending ending.rule.now), c.requires, c.if-depth-lt-FRONT.false)

pub returns-then-depth-lt-FRONT : goal.returns-then-depth-lt-FRONT
unfolding ending_path
returns-then-depth-lt-FRONT c =
    let ending = c.args.self.now in
    let path = reversed_ending ending.rule.now in
    ap (λ bytes. get_or bytes c.args.depth 0) ending.starts
    ∙ front-at 8 path c.args.depth c.if-depth-lt-FRONT.true c.requires

pub returns-else-depth-lt-FRONT : goal.returns-else-depth-lt-FRONT
unfolding ending_path
returns-else-depth-lt-FRONT c =
    let ending = c.args.self.now in
    let path = reversed_ending ending.rule.now in
    let depth = c.args.depth in
    let inside : depth - 8 < length ending.rest.items =
    omega (arith, ap length ending.goes_on, length-drop 8 path, c.requires, c.if-depth-lt-FRONT.false) in
    get_or_read ending.rest.items _ _ inside c.index.ensures 0
    ∙ ap (λ bytes. get_or bytes (depth - 8) 0) ending.goes_on
    ∙ get_or-drop 8 path (depth - 8) 0
    ∙ ap (λ (k : ℕ). get_or path k 0) (omega (arith, c.if-depth-lt-FRONT.false))
