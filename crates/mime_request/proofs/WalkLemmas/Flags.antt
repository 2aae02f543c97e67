-- Flags that are given: their rows, that they are new, and what they turn on.
use Rattle.std.proofs.Common.{◌≡◌, ◌∙◌, ◌||◌, Bool, true, false, List, [], ◌∷◌, ◌++◌, Option, Some, ap, cond, codes, map, refl}
use Rattle.std.proofs.lemmas.List.Folds.{list_any-append}
use Rattle.std.specs.List.{list_any}
use Rattle.std.specs.Option.{option_and_then, option_or}
use Rattle.std.specs.Prelude.{slice_get}
use Rattle.std.specs.Str.{bytes_eq}
use Rattle.clap.specs.Simple.{filled}
use Rattle.clap.specs.Walk.{Row, Text, has_row, reading_by}
use Rattle.mime_request.specs.CommandLine.{flag_rule}
use Rattle.mime_request.specs.Flags.{is_on}
use Rattle.mime_request.specs.Spelling.{Flag, all_globs, are_distinct, brief, content_only, cost, escape, flag_name, has, inode, magic_first}
use Rattle.mime_request.specs.Spelling.{name_only, null}
use Rattle.mime_request.specs.Spelling.{short_brief, short_null}
use Rattle.mime_request.proofs.WalkLemmas.PlainWords.{neither}
use Rattle.mime_request.proofs.WalkLemmas.Rows.{given_row, neither_of, row_at}

-- the row of a flag that is given
abbrev pub flag_row : Flag → Row
flag_row flag = given_row (flag_name flag) (reading_by (filled (flag_rule (codes "cost")))) (codes "true" ∷ [])

-- no flag has one of these names
pub record IsNoFlag (name : Text) : Type 0 where
  pub flag_differs : (flag : Flag) → bytes_eq (flag_name flag) name ≡ false
  pub differs : (flag : Flag) → bytes_eq name (flag_name flag) ≡ false

-- what holds of the name of each flag holds of any
by_cases : (P : Text → Type 0) → P (codes "name-only") → P (codes "content-only") → P (codes "magic-first") → P (codes "all-globs")
    → P (codes "inode") → P (codes "cost") → P (codes "null") → P (codes "brief") → P (codes "escape") → (flag : Flag) → P (flag_name flag)
by_cases P n c m g i k z b e name_only = n
by_cases P n c m g i k z b e content_only = c
by_cases P n c m g i k z b e magic_first = m
by_cases P n c m g i k z b e all_globs = g
by_cases P n c m g i k z b e inode = i
by_cases P n c m g i k z b e cost = k
by_cases P n c m g i k z b e null = z
by_cases P n c m g i k z b e short_null = z
by_cases P n c m g i k z b e brief = b
by_cases P n c m g i k z b e short_brief = b
by_cases P n c m g i k z b e escape = e

-- no flag is called `cache`
pub cache_is_no_flag : IsNoFlag (codes "cache")
cache_is_no_flag = record {
  flag_differs = by_cases (λ t. bytes_eq t (codes "cache") ≡ false) refl refl refl refl refl refl refl refl refl;
  differs = by_cases (λ t. bytes_eq (codes "cache") t ≡ false) refl refl refl refl refl refl refl refl refl;
}

-- none is called `dirs`
pub dirs_is_no_flag : IsNoFlag (codes "dirs")
dirs_is_no_flag = record {
  flag_differs = by_cases (λ t. bytes_eq t (codes "dirs") ≡ false) refl refl refl refl refl refl refl refl refl;
  differs = by_cases (λ t. bytes_eq (codes "dirs") t ≡ false) refl refl refl refl refl refl refl refl refl;
}

-- none is called `file`
pub file_is_no_flag : IsNoFlag (codes "file")
file_is_no_flag = record {
  flag_differs = by_cases (λ t. bytes_eq t (codes "file") ≡ false) refl refl refl refl refl refl refl refl refl;
  differs = by_cases (λ t. bytes_eq (codes "file") t ≡ false) refl refl refl refl refl refl refl refl refl;
}

-- none is called `stdin`
pub stdin_is_no_flag : IsNoFlag (codes "stdin")
stdin_is_no_flag = record {
  flag_differs = by_cases (λ t. bytes_eq t (codes "stdin") ≡ false) refl refl refl refl refl refl refl refl refl;
  differs = by_cases (λ t. bytes_eq (codes "stdin") t ≡ false) refl refl refl refl refl refl refl refl refl;
}

-- none is called `files0-from`
pub list_is_no_flag : IsNoFlag (codes "files0-from")
list_is_no_flag = record {
  flag_differs = by_cases (λ t. bytes_eq t (codes "files0-from") ≡ false) refl refl refl refl refl refl refl refl refl;
  differs = by_cases (λ t. bytes_eq (codes "files0-from") t ≡ false) refl refl refl refl refl refl refl refl refl;
}

-- the rows of flags have just their names
pub has_row-flags : (name : Text) (flags : List Flag) → has_row name (map flag_row flags) ≡ has name flags
has_row-flags name [] = refl
has_row-flags name (flag ∷ flags) = ap (λ (b : Bool). bytes_eq (flag_name flag) name || b) (has_row-flags name flags)

-- among rows of flags there is none of another name
pub has_row-no_flag : (name : Text) → IsNoFlag name → (flags : List Flag) → has_row name (map flag_row flags) ≡ false
has_row-no_flag name other [] = refl
has_row-no_flag name other (flag ∷ flags) = rw (other.flag_differs flag) (has_row-no_flag name other flags)

-- a row is in one of two lists, or in the other
pub has_row-append : (name : Text) (xs ys : List Row) → has_row name (xs ++ ys) ≡ (has_row name xs || has_row name ys)
has_row-append name xs ys = list_any-append (λ r. bytes_eq r.id name) xs ys

-- a row of another name is passed
pub row_at-no_flag : (name : Text) → IsNoFlag name → (flags : List Flag) (rest : List Row)
    → row_at name (map flag_row flags ++ rest) ≡ row_at name rest
row_at-no_flag name other [] rest = refl
row_at-no_flag name other (flag ∷ flags) rest = rw (other.flag_differs flag) (row_at-no_flag name other flags rest)

-- whether a row turns its flag on
abbrev pub row_on : Option Row → Bool
row_on row = is_on (option_and_then (λ r. slice_get r.values 0) row)

-- the first row of a name is on where a flag has it, or else as what comes after says
pub row_on-flags : (name : Text) (flags : List Flag) (rest : Option Row)
    → row_on (option_or (row_at name (map flag_row flags)) rest) ≡ (has name flags || row_on rest)
row_on-flags name [] rest = refl
row_on-flags name (flag ∷ flags) rest = go (bytes_eq (flag_name flag) name) (row_on-flags name flags rest)
  where
    go : (b : Bool) → row_on (option_or (row_at name (map flag_row flags)) rest) ≡ (has name flags || row_on rest)
        → row_on (option_or (cond b (Some (flag_row flag)) (row_at name (map flag_row flags))) rest)
        ≡ ((b || has name flags) || row_on rest)
    go true later = refl
    go false later = later

-- none of these flags is among the rows, nor given twice
abbrev pub AreNew : List Flag → List Row → Type 0
AreNew [] rows = Unit {0}
AreNew (flag ∷ flags) rows = (has_row (flag_name flag) rows ≡ false) × AreNew flags (rows ++ flag_row flag ∷ [])

-- none passes either test, so none passes both
none_passes : (p q r : Flag → Bool) → ((flag : Flag) → r flag ≡ (p flag || q flag)) → (flags : List Flag)
    → list_any p flags ≡ false → list_any q flags ≡ false → list_any r flags ≡ false
none_passes p q r is [] h k = refl
none_passes p q r is (flag ∷ flags) h k =
    let a = neither_of (p flag) (list_any p flags) h in
    let b = neither_of (q flag) (list_any q flags) k in
    rw (is flag, a.0, b.0) (none_passes p q r is flags a.1 b.1)

-- a test or nothing is the test
pub or_false : (b : Bool) → (b || false) ≡ b
or_false true = refl
or_false false = refl

-- flags that differ from one another and from the rows are new
pub are_new : (flags : List Flag) (rows : List Row) → are_distinct flags ≡ true
    → list_any (λ flag. has_row (flag_name flag) rows) flags ≡ false → AreNew flags rows
are_new [] rows distinct apart = tt
are_new (flag ∷ flags) rows distinct apart =
    let same = λ (other : Flag). bytes_eq (flag_name flag) (flag_name other) in
    let d = neither (list_any same flags) (are_distinct flags) distinct in
    let a = neither_of (has_row (flag_name flag) rows) (list_any (λ other. has_row (flag_name other) rows) flags) apart in
    let later = none_passes (λ other. has_row (flag_name other) rows) same
    (λ other. has_row (flag_name other) (rows ++ flag_row flag ∷ []))
    (λ other. has_row-append (flag_name other) rows (flag_row flag ∷ [])
    ∙ ap (λ (b : Bool). has_row (flag_name other) rows || b) (or_false (same other))) flags a.1 d.0 in
    (a.0, are_new flags (rows ++ flag_row flag ∷ []) d.1 later)

-- a test that nothing passes
pub none_of_none : (flags : List Flag) → list_any (λ _. false) flags ≡ false
none_of_none [] = refl
none_of_none (flag ∷ flags) = none_of_none flags

-- of flags that differ, the first and the last do
pub distinct_parts : (before after : List Flag) → are_distinct (before ++ after) ≡ true
    → (are_distinct before ≡ true) × (are_distinct after ≡ true) × (list_any (λ flag. has (flag_name flag) before) after ≡ false)
distinct_parts [] after h = (refl, h, none_of_none after)
distinct_parts (flag ∷ before) after h =
    let same = λ (other : Flag). bytes_eq (flag_name flag) (flag_name other) in
    let d = neither (list_any same (before ++ after)) (are_distinct (before ++ after)) h in
    let s = neither_of (list_any same before) (list_any same after) (rw (list_any-append same before after) at d.0) in
    let rest = distinct_parts before after d.1 in (
      rw (s.0) rest.0,
      rest.1,
      none_passes same (λ other. has (flag_name other) before) (λ other. has (flag_name other) (flag ∷ before)) (λ other. refl) after s.1
          rest.2,
    )
