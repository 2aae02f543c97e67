-- Lines of magic that hold, in the steps of a search through offsets and lines.
use Rattle.std.proofs.Common.{◌≡◌, ℕ, zero, suc, ◌+◌, ◌<◌, ◌≤◌, ◌&&◌, ◌||◌, true, false, List, [], ◌∷◌}
use Rattle.std.proofs.Common.{length, take, drop, Option, Some, refl, sym, ap, ◌∙◌, arith}
use Rattle.std.proofs.Math.Bool.{or-false}
use Rattle.std.proofs.lemmas.Bool.{and_from, and_left, and_right, le-leb, lt-leb, or_left}
use Rattle.mime_base.specs.Magic.Holds.{bytes_of_mask, equals_at, equals_from, is_bare, line_holds, some_holds}
use Rattle.mime_base.specs.Magic.{Forest, PlainLine, PlainMatchlet, bare, forest_of, line, line_from}
use Rattle.mime_base.specs.Magic.Masking.{window_equals}
use Rattle.mime_base.specs.declared.magic.host.Host.{Host}

module _ (own : PlainLine) (host : Host) (content : List ℕ) where
  -- the window at an offset
  abbrev pub window : ℕ → List ℕ
  window at = take (length own.value) (drop at content)

  -- one of the offsets that are left, and those after it
  equals_from-suc : (at n : ℕ) →
      equals_from own host content at (suc n) ≡ (equals_at own host content at || equals_from own host content (suc at) n)
  unfolding equals_from
  equals_from-suc at n = refl

  -- a range holds at its first place or in what is left of it
  equals_from-more : (at n left : ℕ) → left ≡ n + 1 →
      equals_from own host content at left ≡ (equals_at own host content at || equals_from own host content (at + 1) n)
  equals_from-more at n left is =
      let one_less : left ≡ suc n = omega arith in
      let next : suc at ≡ at + 1 = omega arith in
      ap (equals_from own host content at) one_less ∙ equals_from-suc at n
      ∙ ap (λ (k : ℕ). equals_at own host content at || equals_from own host content k n) next

  -- its window equals the value
  pub equals_from-found : (at n left : ℕ) → left ≡ n + 1 → at + length own.value ≤ length content →
      window_equals own.value (bytes_of_mask own.mask) own.word host (window at) ≡ true → equals_from own host content at left ≡ true
  equals_from-found at n left is within equal =
      equals_from-more at n left is
      ∙ or_left _ _ (and_from _ _ (le-leb (at + length own.value) (length content) within) equal)

  -- its window differs
  pub equals_from-passed : (at n left : ℕ) → left ≡ n + 1 →
      window_equals own.value (bytes_of_mask own.mask) own.word host (window at) ≡ false →
      equals_from own host content at left ≡ equals_from own host content (at + 1) n
  equals_from-passed at n left is differs =
      equals_from-more at n left is
      ∙ ap (λ b. b || equals_from own host content (at + 1) n) (and_right _ _ differs)

  -- no offset is left
  pub equals_from-none : (at : ℕ) → equals_from own host content at 0 ≡ false
  unfolding equals_from
  equals_from-none at = refl

  -- no window lies wholly in the content from here on
  pub equals_from-outside : (at range : ℕ) → length content < at + length own.value → equals_from own host content at range ≡ false
  unfolding equals_from
  equals_from-outside at zero beyond = refl
  equals_from-outside at (suc range) beyond =
      ap (λ b. b || equals_from own host content (suc at) range)
      (and_left _ _ (lt-leb (at + length own.value) (length content) beyond))
      ∙ equals_from-outside (suc at) range (omega arith)

-- no mask is a mask without bytes
pub equals_from-mask : (start range word : ℕ) (value : List ℕ) (mask : Option (List ℕ)) (host : Host) (content : List ℕ) (at n : ℕ) →
    equals_from (line_from start range word value (Some (bytes_of_mask mask))) host content at n
    ≡ equals_from (line_from start range word value mask) host content at n
unfolding equals_from
equals_from-mask start range word value mask host content at zero = refl
equals_from-mask start range word value mask host content at (suc n) =
    ap (λ b. equals_at (line_from start range word value mask) host content at || b)
    (equals_from-mask start range word value mask host content (suc at) n)

-- a forest of no lines is bare
is_bare-none : (lines : List PlainMatchlet) → length lines ≡ 0 → is_bare (forest_of lines) ≡ true
is_bare-none [] none = refl
is_bare-none (m ∷ lines) none = absurd (omega arith)

-- a forest of some lines is not
is_bare-some : (lines : List PlainMatchlet) → 0 < length lines → is_bare (forest_of lines) ≡ false
is_bare-some [] some = absurd (omega arith)
is_bare-some (m ∷ lines) some = refl

module _ (content : List ℕ) (host : Host) where
  -- no line holds
  pub some_holds-none : some_holds bare content host ≡ false
  unfolding some_holds
  some_holds-none = refl

  -- the first line, and those after it
  pub some_holds-line : (m : PlainMatchlet) (rest : Forest) →
      some_holds (line m.own m.children rest) content host ≡ (line_holds m content host || some_holds rest content host)
  unfolding some_holds
  some_holds-line m rest = ap (λ b. b || some_holds rest content host) (sym (or-false _))

  -- a line that does not equal its value does not hold
  pub line_holds-differs : (m : PlainMatchlet) → equals_from m.own host content m.own.start m.own.range ≡ false →
      line_holds m content host ≡ false
  unfolding some_holds
  line_holds-differs m differs = or-false _ ∙ and_left _ _ differs

  -- one that does holds if it has no children or some child holds
  pub line_holds-equals : (m : PlainMatchlet) → equals_from m.own host content m.own.start m.own.range ≡ true →
      line_holds m content host ≡ (is_bare m.children || some_holds m.children content host)
  unfolding some_holds
  line_holds-equals m equal =
      or-false _ ∙ ap (λ b. b && (is_bare m.children || some_holds m.children content host)) equal

  -- a line without children that equals its value holds
  pub holds-alone : (m : PlainMatchlet) (children : List PlainMatchlet) → m.children ≡ forest_of children →
      equals_from m.own host content m.own.start m.own.range ≡ true → length children ≡ 0 → line_holds m content host ≡ true
  holds-alone m children are equal alone = line_holds-equals m equal ∙ or_left _ _ (ap is_bare are ∙ is_bare-none children alone)

  -- one with children holds if some child does
  pub holds-parent : (m : PlainMatchlet) (children : List PlainMatchlet) → m.children ≡ forest_of children →
      equals_from m.own host content m.own.start m.own.range ≡ true → 0 < length children →
      line_holds m content host ≡ some_holds (forest_of children) content host
  holds-parent m children are equal some =
      line_holds-equals m equal
      ∙ ap (λ forest. is_bare forest || some_holds forest content host) are
      ∙ ap (λ b. b || some_holds (forest_of children) content host) (is_bare-some children some)
