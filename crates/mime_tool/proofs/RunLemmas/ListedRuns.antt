-- How runs over the names of a list follow one another.
use Rattle.std.proofs.Common.{◌≡◌, ℕ, ◌+◌, Bool, true, false, List, [], ◌∷◌, refl, subst, sym}
use Rattle.mime_tool.specs.Files.{Stored, bytes, closed, dangling, folder, nothing, special, unknown, unreadable}
use Rattle.mime_tool.specs.Listed.{AreListed, AreNumbered, IsNumbered}
use Rattle.mime_tool.specs.Run.{IsFollowed, Run, cannot_read, joined, silent, stopped, stops}
use Rattle.mime_tool.proofs.RunLemmas.Runs.{joined-silent}

module _ (IsOne : List ℕ → Run → Type 0) (list : List ℕ) where
  -- where there is no name there is a run
  pub none_listed : (stored : Stored) (n : ℕ) → (run : Run) × AreListed IsOne list stored n [] run
  none_listed (bytes bs) n = (silent, refl)
  none_listed unknown n = (silent, (true, [], refl))
  none_listed nothing n = (stopped (cannot_read list) silent, refl)
  none_listed dangling n = (stopped (cannot_read list) silent, refl)
  none_listed folder n = (stopped (cannot_read list) silent, refl)
  none_listed (special kind) n = (stopped (cannot_read list) silent, refl)
  none_listed closed n = (stopped (cannot_read list) silent, refl)
  none_listed unreadable n = (stopped (cannot_read list) silent, refl)

  -- what a list gives, it gives where nothing is known of it
  pub listed_unknown : (stored : Stored) (n : ℕ) (names : List (List ℕ)) (run : Run) → AreListed IsOne list stored n names run
      → AreListed IsOne list unknown n [] run
  listed_unknown (bytes bs) n names run p = (true, names, p)
  listed_unknown unknown n names run p = p
  listed_unknown nothing n names run p = (false, names, p)
  listed_unknown dangling n names run p = (false, names, p)
  listed_unknown folder n names run p = (false, names, p)
  listed_unknown (special kind) n names run p = (false, names, p)
  listed_unknown closed n names run p = (false, names, p)
  listed_unknown unreadable n names run p = (false, names, p)

  -- a name that doesn't stop the run, and those after it
  pub numbered_more : (ends : Bool) (n : ℕ) (name : List ℕ) (names : List (List ℕ)) (a b : Run) → IsNumbered IsOne list n name a
      → stops a ≡ false → AreNumbered IsOne list ends (n + 1) names b → AreNumbered IsOne list ends n (name ∷ names) (joined a b)
  numbered_more ends n name names a b p goes q =
      (a, p, subst (λ (s : Bool). IsFollowed s a (AreNumbered IsOne list ends (n + 1) names) (joined a b)) (sym goes) (b, q, refl))

  -- a name that stops it
  pub numbered_stopped : (ends : Bool) (n : ℕ) (name : List ℕ) (names : List (List ℕ)) (a : Run) → IsNumbered IsOne list n name a
      → stops a ≡ true → AreNumbered IsOne list ends n (name ∷ names) a
  numbered_stopped ends n name names a p stop =
      (a, p, subst (λ (s : Bool). IsFollowed s a (AreNumbered IsOne list ends (n + 1) names) a) (sym stop) refl)

  -- a name alone
  pub numbered_one : (n : ℕ) (name : List ℕ) (a : Run) → IsNumbered IsOne list n name a → AreNumbered IsOne list true n (name ∷ []) a
  numbered_one n name a p = (a, p, ended (stops a))
    where
      ended : (s : Bool) → IsFollowed s a (AreNumbered IsOne list true (n + 1) []) a
      ended true = refl
      ended false = (silent, refl, sym (joined-silent a))
