-- Worked rows of lines of magic, which compute.
use Rattle.std.specs.Prelude.{◌≡◌, refl, true, false, [], ◌∷◌, Some, None, codes}
use Rattle.mime_base.specs.Magic.Holds.{equals_from, first_magic, some_holds}
use Rattle.mime_base.specs.Magic.{Forest, bare, line, line_from}
use Rattle.mime_base.specs.Magic.Masking.{window_equals}
use Rattle.mime_base.specs.declared.magic.host.Host.TheVariants.{Little, Big}

-- `>4=` 00 02 `ab` `&` DF DF `+3`: the window `AB` at the offsets 4 to 6, not at 7
abbrev masked_range : Forest
masked_range = line (line_from 4 3 1 (codes "ab") (Some (0xDF ∷ 0xDF ∷ []))) bare bare

holds_at_six : some_holds masked_range (codes "....XXAB") Little ≡ true
unfolding some_holds equals_from window_equals
holds_at_six = refl

not_at_seven : some_holds masked_range (codes "....XXXAB") Little ≡ false
unfolding some_holds equals_from window_equals
not_at_seven = refl

-- `>0=` 00 02 01 02 `~2`: the bytes of the word are in the host's order
abbrev words : Forest
words = line (line_from 0 1 2 (1 ∷ 2 ∷ []) None) bare bare

little_is_reversed : some_holds words (2 ∷ 1 ∷ []) Little ≡ true
unfolding some_holds equals_from window_equals
little_is_reversed = refl

little_as_stored : some_holds words (1 ∷ 2 ∷ []) Little ≡ false
unfolding some_holds equals_from window_equals
little_as_stored = refl

big_as_stored : some_holds words (1 ∷ 2 ∷ []) Big ≡ true
unfolding some_holds equals_from window_equals
big_as_stored = refl

big_is_reversed : some_holds words (2 ∷ 1 ∷ []) Big ≡ false
unfolding some_holds equals_from window_equals
big_is_reversed = refl

-- an empty value holds at an offset up to the content's length
empty_in_nothing : some_holds (line (line_from 0 1 1 [] None) bare bare) [] Little ≡ true
unfolding some_holds equals_from window_equals
empty_in_nothing = refl

empty_at_end : some_holds (line (line_from 1 1 1 [] None) bare bare) (codes "x") Little ≡ true
unfolding some_holds equals_from window_equals
empty_at_end = refl

empty_past_end : some_holds (line (line_from 1 1 1 [] None) bare bare) [] Little ≡ false
unfolding some_holds equals_from window_equals
empty_past_end = refl

-- a range of no offsets never holds
no_range : some_holds (line (line_from 0 0 1 (codes "x") None) bare bare) (codes "x") Little ≡ false
unfolding some_holds equals_from window_equals
no_range = refl

-- of children one has to hold
abbrev parent : Forest
parent = line (line_from 0 1 1 (codes "a") None)
    (line (line_from 1 1 1 (codes "b") None) bare (line (line_from 1 1 1 (codes "c") None) bare bare)) bare

second_child : some_holds parent (codes "ac") Little ≡ true
unfolding some_holds equals_from window_equals
second_child = refl

no_child : some_holds parent (codes "ad") Little ≡ false
unfolding some_holds equals_from window_equals
no_child = refl

-- the first section that holds gives its type and its priority
first_section : first_magic (
    record { priority = 60; kind = codes "t/a"; lines = parent }
    ∷ record { priority = 50; kind = codes "t/b"; lines = line (line_from 0 1 1 (codes "a") None) bare bare }
    ∷ record { priority = 40; kind = codes "t/c"; lines = line (line_from 0 1 1 [] None) bare bare } ∷ []) (codes "ad") Little
    ≡ Some (codes "t/b", 50)
unfolding first_magic some_holds equals_from window_equals
first_section = refl
