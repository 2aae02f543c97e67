-- Directories, one after another.
use Rattle.std.proofs.Common.{◌≡◌, ◌∙◌, ℕ, List, [], ◌∷◌, ◌++◌, Option, Some, None, append_assoc, append-nil, ap}
use Rattle.std.proofs.Common.{option_map, refl, subst, sym}
use Rattle.mime_text.specs.Merging.{PlainDir}
use Rattle.mime_tool.specs.Directories.{AreDirectories, IsDirectory}
use Rattle.mime_tool.specs.Files.{Stored}
use Rattle.mime_tool.proofs.DirectoryLemmas.DirectoryFiles.{can_be_directory}
use Rattle.mime_tool.proofs.RunLemmas.Loads.{CanBe, can_give, can_then}

-- what two equal answers hold is equal
some_is : {X : Type 0} (x y : X) → Some x ≡ Some y → x ≡ y
some_is x y e = cc

-- an answer is not none
some_none : {X : Type 0} (x : X) → Some x ≡ None → ⊥
some_none x e = cc

-- directories can be read
pub can_be_directories : (stored : List ℕ → Stored) (dirs : List (List ℕ)) → CanBe (AreDirectories stored dirs)
unfolding AreDirectories
can_be_directories stored [] = can_give (List PlainDir) []
can_be_directories stored (dir ∷ dirs) =
    can_then PlainDir (List PlainDir) (IsDirectory stored dir) _ (can_be_directory stored dir) (λ first.
    can_then (List PlainDir) (List PlainDir) (AreDirectories stored dirs) _ (can_be_directories stored dirs) (λ others.
    can_give (List PlainDir) (first ∷ others)))

-- ---- lists of directories

-- a directory before others
before : (stored : List ℕ → Stored) (dir : List ℕ) (dirs : List (List ℕ)) (d : PlainDir) (found : Option (List PlainDir)) (m n : List ℕ)
    → IsDirectory stored dir (Some d) m → AreDirectories stored dirs found n
    → AreDirectories stored (dir ∷ dirs) (option_map (λ others. d ∷ others) found) (m ++ n)
unfolding AreDirectories
before stored dir dirs d None m n p q = (Some d, m, p, (n, (None, n, q, (refl, refl)), refl))
before stored dir dirs d (Some others) m n p q =
    (Some d, m, p, (n ++ [], (Some others, n, q, ([], (refl, refl), refl)), ap (λ (bs : List ℕ). m ++ bs) (sym (append-nil n))))

-- the first of directories, and the others
record Parts (stored : List ℕ → Stored) (dir : List ℕ) (dirs : List (List ℕ)) (ds : List PlainDir) (messages : List ℕ) : Type 0 where
  first : PlainDir
  others : List PlainDir
  m : List ℕ
  n : List ℕ
  first_is : IsDirectory stored dir (Some first) m
  others_are : AreDirectories stored dirs (Some others) n
  all : ds ≡ first ∷ others
  said : messages ≡ m ++ n

-- directories that were all read are the first and the others
parts : (stored : List ℕ → Stored) (dir : List ℕ) (dirs : List (List ℕ)) (ds : List PlainDir) (messages : List ℕ)
    → AreDirectories stored (dir ∷ dirs) (Some ds) messages → Parts stored dir dirs ds messages
unfolding AreDirectories
parts stored dir dirs ds messages (None, m, p, q) = absurd (some_none ds q.0)
parts stored dir dirs ds messages (Some d, m, p, (rest, (None, n, o, q), e)) = absurd (some_none ds q.0)
parts stored dir dirs ds messages (Some d, m, p, (rest, (Some others, n, o, q), e)) = record {
  first = d;
  others = others;
  m = m;
  n = n;
  first_is = p;
  others_are = o;
  all = some_is ds (d ∷ others) q.1.0;
  said = e ∙ ap (λ (bs : List ℕ). m ++ bs) (q.2 ∙ ap (λ (bs : List ℕ). n ++ bs) q.1.1 ∙ append-nil n);
}

-- none before these
none_before : (found : Option (List PlainDir)) → option_map (λ es. [] ++ es) found ≡ found
none_before None = refl
none_before (Some es) = refl

-- one and some before these
more_before : (d : PlainDir) (ds : List PlainDir) (found : Option (List PlainDir))
    → option_map (λ others. d ∷ others) (option_map (λ es. ds ++ es) found) ≡ option_map (λ es. (d ∷ ds) ++ es) found
more_before d ds None = refl
more_before d ds (Some es) = refl

-- no directories
no_directories : (stored : List ℕ → Stored) (ds : List PlainDir) (m : List ℕ) → AreDirectories stored [] (Some ds) m → (ds ≡ []) × (m ≡ [])
unfolding AreDirectories
no_directories stored ds m p = (some_is ds [] p.0, p.1)

-- of no directories none is read, without a message
none_read : (stored : List ℕ → Stored) → AreDirectories stored [] (Some []) []
unfolding AreDirectories
none_read stored = (refl, refl)

-- directories before others
pub directories_after : (stored : List ℕ → Stored) (xs ys : List (List ℕ)) (ds : List PlainDir) (found : Option (List PlainDir))
    (m n : List ℕ) → AreDirectories stored xs (Some ds) m → AreDirectories stored ys found n
    → AreDirectories stored (xs ++ ys) (option_map (λ es. ds ++ es) found) (m ++ n)
directories_after stored [] ys ds found m n p q =
    let e = no_directories stored ds m p in
    rw (e.0, e.1, none_before found) q
directories_after stored (x ∷ xs) ys ds found m n p q =
    let t = parts stored x xs ds m p in
    let later = directories_after stored xs ys t.others found t.n n t.others_are q in
    let later_found = option_map (λ es. t.others ++ es) found in
    let same_found = more_before t.first t.others found ∙ ap (λ (d : List PlainDir). option_map (λ es. d ++ es) found) (sym t.all) in
    let same_said = sym (append_assoc t.m t.n n) ∙ ap (λ (bs : List ℕ). bs ++ n) (sym t.said) in
    subst (λ (f : Option (List PlainDir)). AreDirectories stored (x ∷ (xs ++ ys)) f (m ++ n)) same_found
    (subst (λ (bs : List ℕ). AreDirectories stored (x ∷ (xs ++ ys)) (option_map (λ others. t.first ∷ others) later_found) bs) same_said
    (before stored x (xs ++ ys) t.first later_found t.m (t.n ++ n) t.first_is later))

-- one directory
pub one_directory : (stored : List ℕ → Stored) (dir : List ℕ) (d : PlainDir) (m : List ℕ) → IsDirectory stored dir (Some d) m
    → AreDirectories stored (dir ∷ []) (Some (d ∷ [])) m
one_directory stored dir d m p =
    subst (λ (bs : List ℕ). AreDirectories stored (dir ∷ []) (Some (d ∷ [])) bs) (append-nil m)
    (before stored dir [] d (Some []) m [] p (none_read stored))
