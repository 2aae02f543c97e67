-- What a read leaves of a list.
use Rattle.std.proofs.Common.{◌≡◌, ◌∙◌, ℕ, List, [], ◌∷◌, ◌++◌, Option, Some, None, refl, subst, sym}
use Rattle.std.specs.Io.KnownBytes.{Consumes}
use Rattle.std.specs.Io.KnownBytes as known
use Rattle.mime_lookup.specs.Content.{Health, broken, sound, untold}
use Rattle.mime_tool.specs.Listed.{IsUnlisted}
use Rattle.mime_tool.specs.Names.{IsAtEnd, TakesBytes}
use Rattle.mime_tool.specs.Process.{given_by}
use Rattle.mime_tool.proofs.NameLemmas.Takings.{left_of}

-- where nothing was read yet all that the reader gives is left
pub left_of-none : (rest : Option (List ℕ)) (health : Health) → left_of [] rest health ≡ given_by rest health
left_of-none None health = refl
left_of-none (Some bs) health = refl

-- a block is read, and nothing is taken
pub block_read : (block : List ℕ) (rest rest' : Option (List ℕ)) (health health' : Health) → Consumes rest rest' block
    → (health ≡ sound → health' ≡ sound) → (health ≡ broken → ⊥) → TakesBytes (left_of [] rest health) [] (left_of block rest' health')
block_read block None rest' health health' p s b = tt
block_read block (Some bs) None health health' p s b = absurd p
block_read block (Some bs) (Some more) sound health' p s b =
    subst (λ (h : Health). TakesBytes (left_of [] (Some bs) sound) [] (left_of block (Some more) h)) (sym (s refl))
    (subst (λ (all : List ℕ). TakesBytes (left_of [] (Some all) sound) [] (left_of block (Some more) sound)) (sym p) (same (block ++ more)))
  where
    same : (all : List ℕ) → TakesBytes (given_by (Some all) sound) [] (given_by (Some all) sound)
    same [] = ([], refl, refl)
    same (x ∷ xs) = (x ∷ xs, refl, refl)
block_read block (Some bs) (Some more) broken health' p s b = absurd (b refl)
block_read block (Some []) (Some more) untold health' p s b = tt
block_read block (Some (x ∷ xs)) (Some more) untold health' p s b = tt

-- no block is left: the list is at its end
pub none_read : (rest rest' : Option (List ℕ)) (health : Health) → Consumes rest rest' [] → known.IsAtEnd rest' → (health ≡ broken → ⊥)
    → IsAtEnd (left_of [] rest health)
none_read None rest' health p e b = tt
none_read (Some bs) None health p e b = absurd p
none_read (Some []) (Some more) sound p e b = refl
none_read (Some (x ∷ xs)) (Some more) sound p e b = p ∙ e
none_read (Some bs) (Some more) broken p e b = absurd (b refl)
none_read (Some []) (Some more) untold p e b = tt
none_read (Some (x ∷ xs)) (Some more) untold p e b = tt

-- a read that fails: the list can't be read
pub unread_left : (rest : Option (List ℕ)) (health : Health) → (health ≡ sound → ⊥) → IsUnlisted (left_of [] rest health)
unread_left None health s = tt
unread_left (Some bs) sound s = absurd (s refl)
unread_left (Some []) broken s = tt
unread_left (Some (x ∷ xs)) broken s = tt
unread_left (Some []) untold s = tt
unread_left (Some (x ∷ xs)) untold s = tt
