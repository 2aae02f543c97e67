-- Sorted endings are those of their rules, in whatever order these stood.
use Rattle.std.proofs.Common.{◌≡◌, ℕ, true, false, cond, List, [], ◌∷◌, ◌++◌, map, sum_by, refl, ap, ◌∙◌}
use Rattle.std.proofs.Common.{arith, bytes_eq, IsPermutation}
use Rattle.std.specs.List.Sorted.{IsSortedBy, IsStableBy}
use Rattle.std.proofs.lemmas.List.Sorted.{IsPermutation-map, length_permutation, sum_by-IsPermutation}
use Rattle.std.proofs.lemmas.List.{length-map}
use Rattle.std.proofs.lemmas.List.Sums.{sum_by-cons}
use Rattle.mime_base.specs.Format.Room.{text_room}
use Rattle.mime_base.specs.Format.Sorted.{text_lt, with_key}
use Rattle.mime_base.specs.Format.Stored.{reversed_ending}
use Rattle.mime_base.specs.Format.SuffixTree.{front_count}
use Rattle.mime_base.specs.declared.database.rule.GlobRule.{GlobRule}
use Rattle.mime_store.specs.SuffixTree.{AreEndings, PathRule, ending_rule, ending_entry, kinds_room, pick, ending_path}
use Rattle.mime_store.specs.declared.ending.Ending.{Ending}
use Rattle.mime_store.proofs.SuffixTreeLemmas.Counts.{front_count-permuted}
use Rattle.mime_store.proofs.SuffixTreeLemmas.Nodes.{nodes_are}
use Rattle.mime_store.proofs.SuffixTreeLemmas.Distinct.{paths}
use Rattle.mime_store.proofs.SuffixTreeLemmas.Rising.{sorted_rises}
use Rattle.mime_store.proofs.RulesLemmas.Sorting.{ties_stay}

-- what is picked of endings are the rules with that ending
pick-endings : (path : List ℕ) (es : List Ending) → pick path (map (ending_entry 0) es)
    ≡ map ending_rule (with_key ending_path path es)
pick-endings path [] = refl
pick-endings path (e ∷ es) =
    rw (pick-endings path es) (elim (bytes_eq (ending_path e) path) as (λ t.
    cond t (ending_rule e ∷ []) [] ++ map ending_rule (with_key ending_path path es)
    ≡ map ending_rule (cond t (e ∷ with_key ending_path path es) (with_key ending_path path es)))
    [ true ↦ refl | false ↦ refl ])

-- by their own paths or by those of their rules
with_key-rules : (path : List ℕ) (es : List Ending)
    → map ending_rule (with_key ending_path path es) ≡ with_key reversed_ending path (map ending_rule es)
unfolding ending_path
with_key-rules path [] = refl
with_key-rules path (e ∷ es) =
    rw (← with_key-rules path es) (elim (bytes_eq (ending_path e) path) as (λ t.
    map ending_rule (cond t (e ∷ with_key ending_path path es) (with_key ending_path path es))
    ≡ cond t (ending_rule e ∷ map ending_rule (with_key ending_path path es))
    (map ending_rule (with_key ending_path path es)))
    [ true ↦ refl | false ↦ refl ])

-- the paths of endings are those of their rules
paths-rules : (es : List Ending) → paths (map (ending_entry 0) es) ≡ map reversed_ending (map ending_rule es)
unfolding ending_path
paths-rules [] = refl
paths-rules (e ∷ es) = ap (λ ps. reversed_ending e.rule.now ∷ ps) (paths-rules es)

-- the types of endings take what those of their rules take
kinds-rules : (es : List Ending) → kinds_room (map (ending_entry 0) es) ≡ sum_by (λ rule. text_room rule.kind) (map ending_rule es)
kinds-rules [] = refl
kinds-rules (e ∷ es) =
    omega (
      arith,
      kinds-rules es,
      sum_by-cons (λ (x : PathRule). text_room x.1.kind) (ending_entry 0 e) (map (ending_entry 0) es),
      sum_by-cons (λ (rule : GlobRule). text_room rule.kind) (ending_rule e) (map ending_rule es),
    )

-- endings that were sorted stably are those of their rules
pub sorted_endings : (xs ys : List Ending) → IsPermutation xs ys
    → IsSortedBy (λ a b. text_lt (ending_path a) (ending_path b)) ys → IsStableBy (λ a b. text_lt (ending_path a) (ending_path b)) xs ys
    → AreEndings (map (ending_entry 0) ys) (map ending_rule xs)
sorted_endings xs ys permuted sorted stable =
    let rises = sorted_rises ys sorted in
    let rules = IsPermutation-map ending_rule xs ys permuted in
    let ends = IsPermutation-map reversed_ending (map ending_rule xs) (map ending_rule ys) rules in
    let long = nodes_are (map (ending_entry 0) ys) rises in
    record {
      rises = rises;
      leaves = λ path. pick-endings path ys ∙ ap (map ending_rule) (ties_stay ending_path xs ys stable path)
          ∙ with_key-rules path xs;
      size = omega (
        arith,
        long,
        ap front_count (paths-rules ys),
        front_count-permuted (map reversed_ending (map ending_rule xs)) (map reversed_ending (map ending_rule ys)) ends,
        length-map ys (ending_entry 0),
        length-map xs ending_rule,
        length_permutation xs ys permuted,
      );
      kinds = kinds-rules ys
          ∙ sum_by-IsPermutation (λ (rule : GlobRule). text_room rule.kind) (map ending_rule xs) (map ending_rule ys) rules;
    }
