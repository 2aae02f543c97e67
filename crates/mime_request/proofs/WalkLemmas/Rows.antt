-- The rows that clap holds: those that are new, those that defaults add, and the first of an id.
use Rattle.std.proofs.Common.{◌≡◌, ◌∙◌, ◌&&◌, ◌||◌, Bool, true, false, List, [], ◌∷◌, ◌++◌, Option, Some, None, ap, append-nil, cond, find, fold}
use Rattle.std.proofs.Common.{if◌then◌else◌, refl, subst}
use Rattle.std.proofs.lemmas.List.Folds.{find-append}
use Rattle.std.proofs.lemmas.Slice.Eq.{bytes_eq-Decides}
use Rattle.std.specs.Option.{option_or}
use Rattle.std.specs.Str.{bytes_eq}
use Rattle.clap.specs.Walk.{Row, Rule, Text, at_row, default_rows, has_row, more_values, reading_by}
use Rattle.clap.specs.Walk.{with_default, with_values, without}
use Rattle.clap.specs.declared.builder.value_parser.Reading.{Reading}
use Rattle.clap.specs.declared.parser.matches.ValueSource.TheVariants.{CommandLine, DefaultValue}

-- the first row of this id
abbrev pub row_at : Text → List Row → Option Row
row_at id rows = find (λ r. bytes_eq r.id id) rows

-- the row of an argument that is given
abbrev pub given_row : Text → Reading → List Text → Row
given_row id how values =
    record { id = id; values = values; count = None; source = Some CommandLine; reading = how }

-- of two that aren't, neither is
pub neither_of : (a b : Bool) → (a || b) ≡ false → (a ≡ false) × (b ≡ false)
neither_of true b h = absurd (cc)
neither_of false b h = (refl, h)

-- where there is no row of the id, the missing ones come after
pub at_row-new : (id : Text) (change : Row → List Row) (missing rows : List Row) → has_row id rows ≡ false
    → at_row id change missing rows ≡ rows ++ missing
at_row-new id change missing [] new = refl
at_row-new id change missing (r ∷ rs) new =
    let both = neither_of (bytes_eq r.id id) (has_row id rs) new in
    rw (both.0, at_row-new id change missing rs both.1) refl

-- nor is one taken away
without-new : (id : Text) (rows : List Row) → has_row id rows ≡ false → without id rows ≡ rows
without-new id rows new = at_row-new id (λ _. []) [] rows new ∙ append-nil rows

-- an argument that is given for the first time comes last
pub set-new : (id : Text) (how : Reading) (values : List Text) (rows : List Row) → has_row id rows ≡ false
    → with_values id how CommandLine values (without id rows) ≡ rows ++ given_row id how values ∷ []
set-new id how values rows new =
    ap (λ (rs : List Row). with_values id how CommandLine values rs) (without-new id rows new)
    ∙ at_row-new id (more_values CommandLine values) (given_row id how values ∷ []) rows new

-- whether there are values
abbrev has_some : List Text → Bool
has_some [] = false
has_some (v ∷ vs) = true

-- the row of a default
abbrev default_row : Rule → Row
default_row a = record {
  id = a.id;
  values = a.defaults;
  count = None;
  source = Some DefaultValue;
  reading = reading_by a;
}

-- the row that the defaults of these arguments give for an id
abbrev pub defaulted : List Rule → Text → Option Row
defaulted [] id = None
defaulted (a ∷ rest) id = cond (has_some a.defaults && bytes_eq a.id id) (Some (default_row a)) (defaulted rest id)

-- what is found or nothing is what is found
pub or_none : (x : Option Row) → x ≡ option_or x None
or_none None = refl
or_none (Some r) = refl

-- the first found of three, however they are put together
pub or_or : (x y z : Option Row) → option_or (option_or x y) z ≡ option_or x (option_or y z)
or_or None y z = refl
or_or (Some r) y z = refl

-- the first row of an id among four lists of rows
pub row_at-four : (id : Text) (a b c d : List Row) → row_at id (((a ++ b) ++ c) ++ d)
    ≡ option_or (row_at id a) (option_or (row_at id b) (option_or (row_at id c) (row_at id d)))
row_at-four id a b c d =
    let is_it = λ (r : Row). bytes_eq r.id id in
    find-append is_it ((a ++ b) ++ c) d
    ∙ (ap (λ (x : Option Row). option_or x (row_at id d)) (find-append is_it (a ++ b) c
    ∙ ap (λ (x : Option Row). option_or x (row_at id c)) (find-append is_it a b))
    ∙ (or_or (option_or (row_at id a) (row_at id b)) (row_at id c) (row_at id d)
    ∙ or_or (row_at id a) (row_at id b) (option_or (row_at id c) (row_at id d))))

-- a row that is there stays the first
held : (id : Text) (rows : List Row) (x : Option Row) → has_row id rows ≡ true → row_at id rows ≡ option_or (row_at id rows) x
held id [] x h = absurd (cc)
held id (r ∷ rs) x h = go (bytes_eq r.id id) h (held id rs x)
  where
    go : (b : Bool) → (b || has_row id rs) ≡ true
        → (has_row id rs ≡ true → row_at id rs ≡ option_or (row_at id rs) x)
        → cond b (Some r) (row_at id rs) ≡ option_or (cond b (Some r) (row_at id rs)) x
    go true h later = refl
    go false h later = later h

-- the rows after a default that is used where the argument isn't given
module _ (id name : Text) (how : Reading) (rows : List Row) where
  -- the row that a default adds
  abbrev row_of : List Text → Row
  row_of values = record { id = name; values = values; count = None; source = Some DefaultValue; reading = how }

  -- what is found of an id, once a default may have added its row
  abbrev Adds : List Text → List Row → Type 0
  Adds values after = row_at id after
      ≡ option_or (row_at id rows) (cond (has_some values && bytes_eq name id) (Some (row_of values)) None)

  -- a row that is there stays
  kept : (values : List Text) → has_row name rows ≡ true → Adds values rows
  kept [] there = or_none (row_at id rows)
  kept (v ∷ vs) there = go (bytes_eq name id) refl
    where
      go : (same : Bool) → bytes_eq name id ≡ same
          → row_at id rows ≡ option_or (row_at id rows) (cond same (Some (row_of (v ∷ vs))) None)
      go false is = or_none (row_at id rows)
      go true is = held id rows _ (subst (λ (x : Text). has_row x rows ≡ true) ((bytes_eq-Decides name id).0 is) there)

  -- one that is not there is added
  added : (values : List Text) → has_row name rows ≡ false → Adds values (default_rows name how values rows)
  added [] new = or_none (row_at id rows)
  added (v ∷ vs) new = ap (row_at id) (at_row-new name (more_values DefaultValue (v ∷ vs)) (row_of (v ∷ vs) ∷ []) rows new)
      ∙ find-append (λ r. bytes_eq r.id id) rows (row_of (v ∷ vs) ∷ [])

  -- either way it is what a default leaves
  defaulted-at : (values : List Text) → Adds values (if has_row name rows then rows else default_rows name how values rows)
  defaulted-at values = go (has_row name rows) refl
    where
      go : (there : Bool) → has_row name rows ≡ there → Adds values (if there then rows else default_rows name how values rows)
      go true is = kept values is
      go false is = added values is

-- the first default of an id counts
first_default : (a : Rule) (rest : List Rule) (id : Text)
    → option_or (defaulted (a ∷ []) id) (defaulted rest id) ≡ defaulted (a ∷ rest) id
first_default a rest id = go (has_some a.defaults && bytes_eq a.id id)
  where
    go : (b : Bool) → option_or (cond b (Some (default_row a)) None) (defaulted rest id) ≡ cond b (Some (default_row a)) (defaulted rest id)
    go true = refl
    go false = refl

-- the rows after all defaults
pub finished-at : (id : Text) (rules : List Rule) (rows : List Row)
    → row_at id (fold with_default rows rules) ≡ option_or (row_at id rows) (defaulted rules id)
finished-at id [] rows = or_none (row_at id rows)
finished-at id (a ∷ rest) rows =
    finished-at id rest (with_default rows a)
    ∙ (ap (λ (x : Option Row). option_or x (defaulted rest id)) (defaulted-at id a.id (reading_by a) rows a.defaults)
    ∙ (or_or (row_at id rows) (defaulted (a ∷ []) id) (defaulted rest id)
    ∙ ap (option_or (row_at id rows)) (first_default a rest id)))
