-- What the same texts of directories say is alike.
use Rattle.std.proofs.Common.{◌≡◌, ◌∙◌, ℕ, Bool, true, false, List, [], ◌∷◌, ◌++◌, refl, sym}
use Rattle.std.proofs.Common.{ap, ap₂, subst, map}
use Rattle.std.specs.Prelude.{Contains}
use Rattle.std.specs.List.{flat_map}
use Rattle.std.proofs.lemmas.Cmp.{nat_list_eq_equiv}
use Rattle.std.proofs.lemmas.Map.Views.{Contains-from_any, list_any-from_Contains}
use Rattle.std.proofs.lemmas.Slice.Eq.{bytes_eq-Decides}
use Rattle.mime_text.specs.DirTexts.{SayDirs, SaysDir}
use Rattle.mime_text.specs.Lines.{HasJust}
use Rattle.mime_text.specs.Magic.File.{deleted_kinds, kept_sections}
use Rattle.mime_text.specs.Merging.{PlainDir, is_among, undeleted}
use Rattle.mime_text.specs.Merging.{without}
use Rattle.mime_text.specs.declared.dir_texts.DirTexts.{DirTexts}
use Rattle.mime_text.proofs.MagicLemmas.Laws.{one_list}
use Rattle.mime_text.proofs.Merges.Undeleted.{without-alike}

-- ---- markers

-- a type that is among some is among others of which they have just the members
among_more : (kinds others : List (List ℕ)) (kind : List ℕ) → (Contains kinds kind → Contains others kind)
    → is_among kinds kind ≡ true → is_among others kind ≡ true
among_more kinds others kind goes there =
    list_any-from_Contains nat_list_eq_equiv kind others
    (goes (Contains-from_any (λ x y. (bytes_eq-Decides x y).0) kind kinds there))

-- two tests of which each holds where the other does are the same
same_test : (a b : Bool) → (a ≡ true → b ≡ true) → (b ≡ true → a ≡ true) → a ≡ b
same_test true b goes comes = sym (goes refl)
same_test false true goes comes = comes refl
same_test false false goes comes = refl

-- the same types are among lists of the same members
pub among_alike : (kinds others : List (List ℕ)) → HasJust kinds others → (kind : List ℕ)
    → is_among kinds kind ≡ is_among others kind
among_alike kinds others just kind =
    same_test (is_among kinds kind) (is_among others kind) (among_more kinds others kind (just kind).0)
    (among_more others kinds kind (just kind).1)

-- lists that have just the members of one have just each other's
pub just_alike : (kinds others members : List (List ℕ)) → HasJust kinds members → HasJust others members → HasJust kinds others
just_alike kinds others members left right kind =
    (λ is. (right kind).1 ((left kind).0 is), λ is. (left kind).1 ((right kind).0 is))

-- ---- one directory

-- two directories that say the same of rules and sections, and delete just the same
pub record IsAlike (left right : PlainDir) : Type 0 where
  pub rules : left.rules ≡ right.rules
  pub deleted_globs : HasJust left.deleted_globs right.deleted_globs
  pub sections : left.sections ≡ right.sections
  pub deleted_magic : HasJust left.deleted_magic right.deleted_magic
  pub aliases : left.aliases ≡ right.aliases
  pub subclasses : left.subclasses ≡ right.subclasses
  pub icons : left.icons ≡ right.icons
  pub generic_icons : left.generic_icons ≡ right.generic_icons

-- what the same texts say is alike
pub said_alike : (dir : DirTexts) (left right : PlainDir) → SaysDir dir left → SaysDir dir right → IsAlike left right
said_alike dir left right p q =
    let one = one_list dir.magic.now p.magic.0 q.magic.0 p.magic.1 q.magic.1 in
    record {
      rules = p.rules ∙ sym q.rules;
      deleted_globs = just_alike left.deleted_globs right.deleted_globs _ p.deleted_globs q.deleted_globs;
      sections = p.magic.2 ∙ ap kept_sections one ∙ sym q.magic.2;
      deleted_magic = just_alike left.deleted_magic right.deleted_magic (deleted_kinds q.magic.0)
          (subst (λ sections. HasJust left.deleted_magic (deleted_kinds sections)) one p.magic.3) q.magic.3;
      aliases = p.aliases ∙ sym q.aliases;
      subclasses = p.subclasses ∙ sym q.subclasses;
      icons = p.icons ∙ sym q.icons;
      generic_icons = p.generic_icons ∙ sym q.generic_icons;
    }

-- ---- all directories

-- directories that are alike, each in its place
abbrev pub AreAlike : List PlainDir → List PlainDir → Type 0
AreAlike [] [] = Unit {0}
AreAlike [] (right ∷ rights) = ⊥
AreAlike (left ∷ lefts) [] = ⊥
AreAlike (left ∷ lefts) (right ∷ rights) = IsAlike left right × AreAlike lefts rights

-- what the same texts say is alike
pub all_alike : (dirs : List DirTexts) (lefts rights : List PlainDir) → SayDirs dirs lefts → SayDirs dirs rights
    → AreAlike lefts rights
all_alike [] [] [] p q = tt
all_alike [] [] (right ∷ rights) p q = absurd q
all_alike [] (left ∷ lefts) rights p q = absurd p
all_alike (dir ∷ dirs) [] rights p q = absurd p
all_alike (dir ∷ dirs) (left ∷ lefts) [] p q = absurd q
all_alike (dir ∷ dirs) (left ∷ lefts) (right ∷ rights) p q =
    (said_alike dir left right p.0 q.0, all_alike dirs lefts rights p.1 q.1)

-- a list that is the same in each directory is the same of all
pub same_lists : {A : Type 0} (list_of : PlainDir → List A) → ((left right : PlainDir) → IsAlike left right
    → list_of left ≡ list_of right)
    → (lefts rights : List PlainDir) → AreAlike lefts rights → flat_map list_of lefts ≡ flat_map list_of rights
same_lists list_of same [] [] are = refl
same_lists list_of same [] (right ∷ rights) are = absurd are
same_lists list_of same (left ∷ lefts) [] are = absurd are
same_lists list_of same (left ∷ lefts) (right ∷ rights) are =
    ap₂ ◌++◌ (same left right are.0) (same_lists list_of same lefts rights are.1)

-- items that are the same in each directory, with just the same markers, leave the same
pub same_items : {A : Type 0} (kind_of : A → List ℕ) (part_of : PlainDir → List A × List (List ℕ))
    → ((left right : PlainDir) → IsAlike left right
    → ((part_of left).0 ≡ (part_of right).0) × HasJust (part_of left).1 (part_of right).1)
    → (lefts rights : List PlainDir) → AreAlike lefts rights
    → undeleted kind_of (map part_of lefts) ≡ undeleted kind_of (map part_of rights)
same_items kind_of part_of same [] [] are = refl
same_items kind_of part_of same [] (right ∷ rights) are = absurd are
same_items kind_of part_of same (left ∷ lefts) [] are = absurd are
same_items kind_of part_of same (left ∷ lefts) (right ∷ rights) are =
    let here = same left right are.0 in
    ap₂ ◌++◌ here.0 (ap (without kind_of (part_of left).1) (same_items kind_of part_of same lefts rights are.1)
    ∙ without-alike kind_of (part_of left).1 (part_of right).1 (among_alike (part_of left).1 (part_of right).1 here.1) _)
