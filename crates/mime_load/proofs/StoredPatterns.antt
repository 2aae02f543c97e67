-- A text that folding does not change is stored as it is, and the stored text of a rule is such a text.
use Rattle.std.proofs.Common.{◌≡◌, ℕ, ◌+◌, ◌<◌, ◌==◌, cond, List, [], ◌∷◌, Bool, true, false, length, refl, ap, sym, subst, ◌∙◌, arith, eqb-true}
use Rattle.std.specs.List.{All, list_all}
use Rattle.std.specs.Prelude.{nat_le}
use Rattle.std.proofs.lemmas.Bool.{and_from, and_parts, eq-eqb}
use Rattle.std.proofs.lemmas.Bool.Decides.{nat_tests}
use Rattle.std.proofs.lemmas.List.{length-map}
use Rattle.std.proofs.lemmas.List.Elements.{All-map, All-weaker}
use Rattle.mime_base.specs.Format.Stored.{is_in_globs, is_in_literals, is_in_tree, is_literal_class, stored_text, weight_and_flags}
use Rattle.mime_base.specs.Kept.Classes.{class_of}
use Rattle.mime_base.specs.Matching.Folding.{compared, compared_byte}
use Rattle.mime_base.specs.declared.database.rule.GlobRule.{GlobRule}
use Rattle.mime_base.proofs.KeptLemmas.ByText.{class_of-compared}
use Rattle.mime_load.specs.Walks.{is_suffix}

-- a text of bytes that folding does not change
pub as_compared : (cased : Bool) (text : List ℕ) → list_all (λ b. compared_byte cased b == b) text ≡ true → compared cased text ≡ text
as_compared cased [] all = refl
as_compared cased (b ∷ text) all =
    let parts = and_parts (compared_byte cased b == b) (list_all (λ b. compared_byte cased b == b) text) all in
    rw (eqb-true (compared_byte cased b) b parts.0, as_compared cased text parts.1) refl

-- a byte that was compared is compared as it is
compared_byte-again : (cased : Bool) (b : ℕ) → compared_byte cased (compared_byte cased b) ≡ compared_byte cased b
compared_byte-again true b = refl
compared_byte-again false b = grind (arith, nat_tests)

-- folding changes no text that was compared
compared-unchanged : (cased : Bool) (text : List ℕ) → list_all (λ b. compared_byte cased b == b) (compared cased text) ≡ true
compared-unchanged cased [] = refl
compared-unchanged cased (b ∷ text) =
    and_from (compared_byte cased (compared_byte cased b) == compared_byte cased b)
    (list_all (λ b. compared_byte cased b == b) (compared cased text))
    (eq-eqb (compared_byte cased (compared_byte cased b)) (compared_byte cased b) (compared_byte-again cased b))
    (compared-unchanged cased text)

-- what is compared of a byte is a byte
compared_byte-small : (cased : Bool) (b : ℕ) → b < 256 → compared_byte cased b < 256
compared_byte-small true b small = small
compared_byte-small false b small = grind (arith, nat_tests)

-- what is compared of bytes are bytes
pub compared-bytes : (cased : Bool) (text : List ℕ) → All (λ b. b < 256) text → All (λ b. b < 256) (compared cased text)
compared-bytes cased text bytes =
    All-map (λ b. b < 256) (compared_byte cased) text
    (All-weaker (λ b. b < 256) (λ b. compared_byte cased b < 256) (λ b small. compared_byte-small cased b small) text bytes)

-- the number of a weight and a flag has nine bits
flags-small : (weight : ℕ) (cased : Bool) → weight < 256 → cond cased (weight + 256) weight < 512
flags-small weight true light = omega arith
flags-small weight false light = omega arith

-- it says the flag
flags-cased : (weight : ℕ) (cased : Bool) → weight < 256 → nat_le 256 (cond cased (weight + 256) weight) ≡ cased
flags-cased weight true light = grind (arith, nat_tests)
flags-cased weight false light = grind (arith, nat_tests)

-- What is read of the flags and the stored text of a rule.
pub record ReadsStored (rule : GlobRule) (flags : ℕ) (text : List ℕ) : Type 0 where
  pub small : flags < 512
  pub unchanged : list_all (λ b. compared_byte (nat_le 256 flags) b == b) text ≡ true

-- they are read
pub stored_read : (rule : GlobRule) (flags : ℕ) (text : List ℕ) → rule.weight < 256 → flags ≡ weight_and_flags rule
    → text ≡ stored_text rule
    → ReadsStored rule flags text
stored_read rule flags text light is same =
    let cased : nat_le 256 flags ≡ rule.cased = ap (nat_le 256) is ∙ flags-cased rule.weight rule.cased light in
    record {
      small = subst (λ (n : ℕ). n < 512) (sym is) (flags-small rule.weight rule.cased light);
      unchanged = rw (cased, same) (compared-unchanged rule.cased rule.pattern);
    }

module _ (one other : GlobRule) (same : stored_text one ≡ stored_text other) where
  -- rules with one stored text have one class
  class : class_of one.pattern ≡ class_of other.pattern
  class = sym (class_of-compared one.cased one.pattern) ∙ ap class_of same ∙ class_of-compared other.cased other.pattern

  -- and patterns of one length
  size : length one.pattern ≡ length other.pattern
  size = sym (length-map one.pattern (compared_byte one.cased)) ∙ ap (λ (xs : List ℕ). length xs) same
      ∙ length-map other.pattern (compared_byte other.cased)

  -- so they belong to one list
  pub same_in_literals : is_in_literals one ≡ is_in_literals other
  same_in_literals = ap is_literal_class class

  -- so they do if it is the glob list
  pub same_in_globs : is_in_globs one ≡ is_in_globs other
  same_in_globs = rw (class, size) refl

-- the stored text of a rule of the tree is one of the tree
pub stored_suffix : (rule : GlobRule) → is_in_tree rule ≡ true → is_suffix (stored_text rule) ≡ true
stored_suffix rule is =
    rw (class_of-compared rule.cased rule.pattern, length-map rule.pattern (compared_byte rule.cased)) is
