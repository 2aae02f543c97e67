-- The reverse suffix tree of the cache that was made by hand.
use Rattle.std.proofs.Common.{◌≡◌, ℕ, Bool, true, false, cond, ◌&&◌, eqb, List, [], ◌∷◌, refl, lit<, codes, ap, ◌∙◌}
use Rattle.std.specs.Prelude.{bytes_eq}
use Rattle.std.proofs.lemmas.List.{append-nil}
use Rattle.mime_base.specs.Cache.Bytes.{Stands, card_bytes}
use Rattle.mime_base.specs.Kept.Classes.{class_of}
use Rattle.mime_base.specs.Format.Sample.{gz_rule, sample, sample_database}
use Rattle.mime_base.specs.Format.SuffixTree.{SuffixTreeAt}
use Rattle.mime_base.specs.Format.Tree.{Tree, bare, leaf, leaves_at, node}
use Rattle.mime_base.specs.declared.database.rule.GlobRule.{GlobRule}
use Rattle.mime_base.proofs.FormatLemmas.SampleParts.{cards_at, text_at}

-- the tree of one path
abbrev chain : List ℕ → GlobRule → Tree
chain [] rule = leaf rule bare
chain (b ∷ path) rule = node b (chain path rule) bare

-- two tests in turn are both at once
joined : (x y : Bool) (rules : List GlobRule) → cond x (cond y rules []) [] ≡ cond (x && y) rules []
joined true y rules = refl
joined false y rules = refl

-- its leaf is at this path alone
leaves_at-chain : (path : List ℕ) (rule : GlobRule) (own : List ℕ)
    → leaves_at path (chain own rule) ≡ cond (bytes_eq own path) (rule ∷ []) []
leaves_at-chain [] rule [] = refl
leaves_at-chain (p ∷ path) rule [] = refl
leaves_at-chain [] rule (b ∷ own) = refl
leaves_at-chain (p ∷ path) rule (b ∷ own) =
    append-nil (cond (eqb b p) (leaves_at path (chain own rule)) [])
    ∙ ap (λ leaves. cond (eqb b p) leaves []) (leaves_at-chain path rule own)
    ∙ joined (eqb b p) (bytes_eq own path) (rule ∷ [])

-- the tree of its one suffix rule
pub suffix_tree : SuffixTreeAt (Stands sample) 88 sample_database.rules
unfolding card_bytes class_of
suffix_tree = record {
  tree = chain (codes "zg.") gz_rule;
  first = 96;
  head = cards_at 88 _ refl refl refl;
  stand = (
    108,
    cards_at 96 _ refl refl refl,
    (
      120,
      cards_at 108 _ refl refl refl,
      (
        132,
        cards_at 120 _ refl refl refl,
        (220, cards_at 132 _ refl refl refl, text_at 220 _ refl refl refl refl, tt),
        tt,
      ),
      tt,
    ),
    tt,
  );
  ordered = (lit< tt, lit< tt, (lit< tt, lit< tt, (lit< tt, lit< tt, (refl, tt), tt), tt), tt);
  leaves = λ path. leaves_at-chain path gz_rule (codes "zg.");
  size = refl;
}
