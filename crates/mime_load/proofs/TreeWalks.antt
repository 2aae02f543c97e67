-- Siblings that were read from the last to the first, one more in front of them.
use Rattle.std.proofs.Common.{◌≡◌, ℕ, ◌+◌, ◌%◌, ◌<◌, true, ◌≤◌, ◌≢◌, List, [], ◌∷◌, ◌++◌, length, get_or, ap, refl, sym, subst, ◌∙◌, arith, append_assoc, length-append}
use Rattle.std.specs.Prelude.{nat_le, reverse}
use Rattle.std.specs.List.{All}
use Rattle.std.proofs.lemmas.List.{append-nil, length-reverse, reverse-append}
use Rattle.mime_base.specs.Cache.Bytes.{Stands}
use Rattle.mime_base.specs.Format.Records.{CardsAt, TextAt}
use Rattle.mime_base.specs.Format.Stored.{weight_and_flags}
use Rattle.mime_base.specs.Format.Tree.{Tree, bare, leaf, leaf_count, node, rules_in, sibling_count}
use Rattle.mime_base.specs.Matching.Folding.{compared}
use Rattle.mime_base.specs.declared.database.rule.GlobRule.{GlobRule}
use Rattle.mime_base.proofs.FormatLemmas.TreeLeaves.{length-leaves, rules-leaves}
use Rattle.mime_load.specs.Walks.{IsLeafRule, Walked, is_suffix}
use Rattle.mime_load.proofs.RuleLists.{flags_are}

-- no siblings
pub walked_none : (c : List ℕ) (at : ℕ) (ending : List ℕ) (next : ℕ) (before : List GlobRule) (left : ℕ)
    → Walked c at 0 ending next before before left left
walked_none c at ending next before left = record {
  tree = bare;
  stand = tt;
  ordered = λ character low. tt;
  ended = tt;
  siblings = refl;
  rules = sym (append-nil before);
  nodes = omega arith;
}

-- a leaf in front of siblings
pub walked_leaf : (c : List ℕ) (at count kind flags number : ℕ) (ending : List ℕ) (next : ℕ) (first before after : List GlobRule) (all old new : ℕ)
    (rule : GlobRule) → CardsAt (Stands c) at (number ∷ kind ∷ flags ∷ []) → number ≡ 0 → IsLeafRule c kind flags ending rule → 1 ≤ next
    → after ≡ before ++ rule ∷ [] → new + 12 ≡ old → Walked c (at + 12) count ending next first before all old
    → Walked c at (count + 1) ending 1 first after all new
walked_leaf c at count kind flags number ending next first before after all old new rule cards none one some added taken w =
    let here : CardsAt (Stands c) at (0 ∷ kind ∷ weight_and_flags rule ∷ []) =
    subst (λ (n : ℕ). CardsAt (Stands c) at (0 ∷ kind ∷ n ∷ [])) one.flags_are
    (subst (λ (n : ℕ). CardsAt (Stands c) at (n ∷ kind ∷ flags ∷ [])) none cards) in
    record {
      tree = leaf rule w.tree;
      stand = (kind, here, one.kind_stands, w.stand);
      ordered = λ character low. (omega arith, w.ordered character (omega arith));
      ended = (one.ends, w.ended);
      siblings = omega (arith, w.siblings);
      rules = added ∙ ap (λ (xs : List GlobRule). xs ++ rule ∷ []) w.rules ∙ append_assoc first (reverse (rules_in w.tree)) (rule ∷ [])
          ∙ ap (λ (xs : List GlobRule). first ++ xs) (sym (reverse-append (rule ∷ []) (rules_in w.tree)));
      nodes = omega (arith, w.nodes, taken);
    }

-- the rule of a leaf that was read
pub leaf_at : (c : List ℕ) (kind flags : ℕ) (ending text : List ℕ) (rule : GlobRule) → flags < 512 → rule.weight ≡ flags % 256
    → rule.cased ≡ nat_le 256 flags → TextAt (Stands c) kind rule.kind → text ≡ rule.pattern → rule.pattern ≡ 42 ∷ ending
    → compared rule.cased text ≡ text → is_suffix text ≡ true → All (λ b. b < 256) text → length ending ≤ 254
    → IsLeafRule c kind flags ending rule
leaf_at c kind flags ending text rule small weight cased stands same is stored suffix bytes short = record {
  flags_are = flags_are flags rule.weight rule.cased small weight cased;
  kind_stands = stands;
  ends = (
    (rw same at stored) ∙ is,
    rw same at suffix,
    (omega (arith, weight), omega (arith, ap (λ (xs : List ℕ). length xs) is, short), rw same at bytes),
  );
}

-- as many rules as leaves
leaf_count-is : (tree : Tree) → leaf_count tree ≡ length (reverse (rules_in tree))
leaf_count-is tree =
    sym (length-leaves tree) ∙ ap (λ (xs : List GlobRule). length xs) (rules-leaves tree) ∙ sym (length-reverse (rules_in tree))

-- a node in front of siblings, with what is below it
pub walked_node : (c : List ℕ) (at count below below_at character : ℕ) (ending : List ℕ) (next : ℕ) (first before after : List GlobRule)
    (all old mid new : ℕ) → CardsAt (Stands c) at (character ∷ below ∷ below_at ∷ []) → 0 < character → character < next
    → Walked c below_at below (character ∷ ending) 1 before after mid new → length before < length after → mid + 12 ≡ old
    → Walked c (at + 12) count ending next first before all old → Walked c at (count + 1) ending character first after all new
walked_node c at count below below_at character ending next first before after all old mid new cards some low down more taken w =
    let here : CardsAt (Stands c) at (character ∷ sibling_count down.tree ∷ below_at ∷ []) =
    subst (λ (n : ℕ). CardsAt (Stands c) at (character ∷ n ∷ below_at ∷ [])) (sym down.siblings) cards in
    let leaves : 0 < leaf_count down.tree =
    omega (
      arith,
      more,
      leaf_count-is down.tree,
      ap (λ (xs : List GlobRule). length xs) down.rules,
      length-append before (reverse (rules_in down.tree)),
    ) in
    record {
      tree = node character down.tree w.tree;
      stand = (below_at, here, down.stand, w.stand);
      ordered = λ b under. (under, leaves, down.ordered 0 (omega arith), w.ordered character low);
      ended = (down.ended, w.ended);
      siblings = omega (arith, w.siblings);
      rules = down.rules ∙ ap (λ (xs : List GlobRule). xs ++ reverse (rules_in down.tree)) w.rules
          ∙ append_assoc first (reverse (rules_in w.tree)) (reverse (rules_in down.tree))
          ∙ ap (λ (xs : List GlobRule). first ++ xs) (sym (reverse-append (rules_in down.tree) (rules_in w.tree)));
      nodes = omega (arith, w.nodes, down.nodes, taken);
    }

-- an array of three
pub three : (numbers : List ℕ) → length numbers ≡ 3
    → numbers ≡ get_or numbers 0 0 ∷ get_or numbers 1 0 ∷ get_or numbers 2 0 ∷ []
three [] long = absurd (omega arith)
three (a ∷ []) long = absurd (omega arith)
three (a ∷ b ∷ []) long = absurd (omega arith)
three (a ∷ b ∷ d ∷ []) long = refl
three (a ∷ b ∷ d ∷ e ∷ rest) long = absurd (omega arith)

-- the same at a place and below an ending that are written otherwise
pub walked_as : {c : List ℕ} {count next : ℕ} {before after : List GlobRule} {old new : ℕ} (at here : ℕ) (ending this : List ℕ)
    → at ≡ here → ending ≡ this → Walked c at count ending next before after old new → Walked c here count this next before after old new
walked_as {c = c} {count = count} {next = next} {before = before} {after = after} {old = old} {new = new} at here ending this same alike w =
    subst (λ (k : ℕ). Walked c k count this next before after old new) same
    (subst (λ (e : List ℕ). Walked c at count e next before after old new) alike w)

-- more rules than before, since there are not as many
pub more_rules : (before after added : List GlobRule) → after ≡ before ++ added → length after ≢ length before → length before < length after
more_rules before after added is other = omega (arith, ap (λ (xs : List GlobRule). length xs) is, length-append before added, other)

-- an array of two
pub two : (numbers : List ℕ) → length numbers ≡ 2 → numbers ≡ get_or numbers 0 0 ∷ get_or numbers 1 0 ∷ []
two [] long = absurd (omega arith)
two (a ∷ []) long = absurd (omega arith)
two (a ∷ b ∷ []) long = refl
two (a ∷ b ∷ d ∷ rest) long = absurd (omega arith)

-- so there are more where the tree that was added has a leaf
pub some_rules : (before after : List GlobRule) (tree : Tree) → after ≡ before ++ reverse (rules_in tree) → 0 < leaf_count tree
    → length after ≡ length before → ⊥
some_rules before after tree is some same =
    absurd (omega (
      arith,
      ap (λ (xs : List GlobRule). length xs) is,
      length-append before (reverse (rules_in tree)),
      leaf_count-is tree,
      some,
      same,
    ))
