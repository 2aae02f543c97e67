-- After the last star: the elements match at the one place that leaves a byte for each, and are tested there alone.
use Rattle.std.proofs.Common.{◌≡◌, ℕ, zero, suc, ◌+◌, ◌-◌, ◌<◌, ◌≤◌, Bool, true, false, min, List, [], ◌∷◌, length}
use Rattle.std.proofs.Common.{drop, refl, sym, ap, ◌∙◌, arith, length-drop}
use Rattle.std.proofs.lemmas.Bool.{false_from_ne_true, le-ltb, lt-ltb, true≢false}
use Rattle.std.proofs.lemmas.List.{drop-map, length-map}
use Rattle.mime_base.specs.Matching.Attempt.{Goes, decided, last_tests, owed, tests_after}
use Rattle.mime_base.specs.Matching.Count.{has_star, tests_of}
use Rattle.mime_base.specs.Matching.Elements.{Element, any_bytes, one, singles}
use Rattle.mime_base.specs.Matching.Folding.{compared, compared_byte}
use Rattle.mime_base.specs.Matching.Matches.{matches}
use Rattle.mime_base.specs.declared.matching.attempt.Halt.{Halt}
use Rattle.mime_base.specs.declared.matching.attempt.Halt.TheVariants.{BothEnd, PatternEnds, NameEnds, Star, Refused}
use Rattle.mime_base.proofs.MatchingLemmas.Matches.{drop-length, matches-size, star_cut, star_from}
use Rattle.mime_base.proofs.MatchingLemmas.Attempts.{goes-decided, goes-owed, same_truth}
use Rattle.mime_base.proofs.MatchingLemmas.Counts.{goes-tests, tests_of-star}

-- so they match after a star exactly where they match at that place
pub last-matches : (es : List Element) (name : List ℕ) → has_star es ≡ false →
    matches (any_bytes ∷ es) name ≡ matches es (drop (length name - length es) name)
last-matches es name none =
    same_truth _ _
    (λ m. (let cut = star_cut es name m in
    let size = matches-size es (drop cut.0 name) none cut.1 in
    rw (sym size, drop-length cut.0 name) cut.1))
    (λ m. star_from es (length name - length es) name m)

-- and not at all where the name is shorter
pub last-short : (es : List Element) (name : List ℕ) → has_star es ≡ false → length name < length es →
    matches (any_bytes ∷ es) name ≡ false
last-short es name none short =
    false_from_ne_true _ (λ m. (let cut = star_cut es name m in
    let size = matches-size es (drop cut.0 name) none cut.1 in
    let within = length-drop cut.0 name in
    absurd (omega arith)))

-- an attempt never comes to a star
unstarred : (halt : Halt) (k : ℕ) (es : List Element) (name : List ℕ) (after : List Element) → Goes halt k es name after →
    has_star es ≡ false → halt ≡ Star → ⊥
unstarred BothEnd k es name after goes none is = absurd cc
unstarred PatternEnds k es name after goes none is = absurd cc
unstarred NameEnds k es name after goes none is = absurd cc
unstarred Refused k es name after goes none is = absurd cc
unstarred Star zero es name after goes none is = true≢false (sym (ap has_star goes) ∙ none)
unstarred Star (suc k) [] name after goes none is = goes
unstarred Star (suc k) (any_bytes ∷ es) name after goes none is = goes
unstarred Star (suc k) (one w ∷ es) [] after goes none is = goes
unstarred Star (suc k) (one w ∷ es) (b ∷ name) after goes none is = unstarred Star k es name after goes.1 none is

-- a star ahead, and the pattern did not end before it
pub ahead-goes_on : (k : ℕ) (es : List Element) (name : List ℕ) (after : List Element) → Goes PatternEnds k es name after →
    has_star es ≡ true → ⊥
ahead-goes_on zero es name after goes star = true≢false (sym star ∙ ap has_star goes.0)
ahead-goes_on (suc k) [] name after goes star = goes
ahead-goes_on (suc k) (any_bytes ∷ es) name after goes star = goes
ahead-goes_on (suc k) (one w ∷ es) [] after goes star = goes
ahead-goes_on (suc k) (one w ∷ es) (b ∷ name) after goes star = ahead-goes_on k es name after goes.1 star

-- the tests there
pub last-tests : (es : List Element) (name : List ℕ) → has_star es ≡ false → length es ≤ length name →
    tests_of (any_bytes ∷ es) name ≡ tests_of es (drop (length name - length es) name)
last-tests es name none long = tests_of-star es name ∙ rw (none, le-ltb (length name) (length es) long) refl

-- and one where the name is shorter
pub last-short_tests : (es : List Element) (name : List ℕ) → has_star es ≡ false → length name < length es →
    tests_of (any_bytes ∷ es) name ≡ 1
last-short_tests es name none short = tests_of-star es name ∙ rw (none, lt-ltb (length name) (length es) short) refl

-- every element takes one byte
pub singles-size : (es : List Element) → has_star es ≡ false → singles es ≡ length es
singles-size [] none = refl
singles-size (any_bytes ∷ es) none = absurd (true≢false none)
singles-size (one w ∷ es) none = ap suc (singles-size es none)

-- what an attempt at that place tells, where the size of the elements is known

-- nothing is found but at both ends, or after a star
undecided : (halt : Halt) (after : List Element) (name : List ℕ) → (halt ≡ BothEnd → ⊥) → (halt ≡ Star → ⊥) →
    decided halt after name ≡ false
undecided BothEnd after name b s = absurd (b refl)
undecided PatternEnds after name b s = refl
undecided NameEnds after name b s = refl
undecided Star after name b s = absurd (s refl)
undecided Refused after name b s = refl

-- nothing is left to test but after a star
untested : (halt : Halt) (after : List Element) (name : List ℕ) → (halt ≡ Star → ⊥) → tests_after halt after name ≡ 0
untested BothEnd after name s = refl
untested PatternEnds after name s = refl
untested NameEnds after name s = refl
untested Star after name s = absurd (s refl)
untested Refused after name s = refl

-- what is owed where nothing is found
unfound-owed : (halt : Halt) (es after : List Element) → (halt ≡ BothEnd → ⊥) → (halt ≡ Star → ⊥) → owed halt es after ≡ min 1 (singles es)
unfound-owed BothEnd es after b s = absurd (b refl)
unfound-owed PatternEnds es after b s = refl
unfound-owed NameEnds es after b s = refl
unfound-owed Star es after b s = absurd (s refl)
unfound-owed Refused es after b s = refl

module _ (cased : Bool) (es : List Element) (name : List ℕ) (size : ℕ) (none : has_star es ≡ false) (is : size ≡ length es) where
  -- the last bytes compare as the end of what the name compares as
  ending : drop (length (compared cased name) - length es) (compared cased name) ≡ compared cased (drop (length name - size) name)
  ending = rw (length-map name (compared_byte cased), ← is) (drop-map (compared_byte cased) (length name - size) name)

  -- where the name is long enough, so is what it compares as
  long : size ≤ length name → length es ≤ length (compared cased name)
  long room = omega (arith, length-map name (compared_byte cased), is)

  -- and where it is too short, so is that
  short : length name < size → length (compared cased name) < length es
  short less = omega (arith, length-map name (compared_byte cased), is)

  -- a name that is shorter is not matched, in one test
  pub short-matches : length name < size → matches (any_bytes ∷ es) (compared cased name) ≡ false
  short-matches less = last-short es (compared cased name) none (short less)

  -- it takes one test
  pub short-tests : length name < size → tests_of (any_bytes ∷ es) (compared cased name) ≡ 1
  short-tests less = last-short_tests es (compared cased name) none (short less)

  module _ (room : size ≤ length name) (k : ℕ) (after : List Element) where
    -- an attempt that ends both matches
    pub end-found : Goes BothEnd k es (compared cased (drop (length name - size) name)) after →
        matches (any_bytes ∷ es) (compared cased name) ≡ true
    end-found goes = last-matches es (compared cased name) none ∙ ap (matches es) ending ∙ goes-decided BothEnd k es _ after goes

    -- any other does not
    pub end-unfound : (halt : Halt) → Goes halt k es (compared cased (drop (length name - size) name)) after → (halt ≡ BothEnd → ⊥) →
        matches (any_bytes ∷ es) (compared cased name) ≡ false
    end-unfound halt goes b =
        last-matches es (compared cased name) none ∙ ap (matches es) ending ∙ goes-decided halt k es _ after goes
        ∙ undecided halt after _ b (unstarred halt k es _ after goes none)

    -- all its tests are those of the elements
    pub end-tests : (halt : Halt) → Goes halt k es (compared cased (drop (length name - size) name)) after →
        tests_of (any_bytes ∷ es) (compared cased name) ≡ k + last_tests halt
    end-tests halt goes =
        last-tests es (compared cased name) none (long room) ∙ ap (tests_of es) ending ∙ goes-tests halt k es _ after goes
        ∙ (let left = drop k (compared cased (drop (length name - size) name)) in
        let rest = untested halt after left (unstarred halt k es _ after goes none) in
        omega (arith, rest))

    -- at least one, where there is an element
    pub end-owed : (halt : Halt) → Goes halt k es (compared cased (drop (length name - size) name)) after → (halt ≡ BothEnd → ⊥) →
        min 1 (singles es) ≤ k + last_tests halt
    end-owed halt goes b =
        let owed = goes-owed halt k es _ after goes in
        omega (arith, unfound-owed halt es after b (unstarred halt k es _ after goes none))
