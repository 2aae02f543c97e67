-- An ending in the room for its pattern.
use Rattle.std.proofs.Common.{◌≡◌, ℕ, ◌+◌, ◌-◌, ◌<◌, List, ◌∷◌, drop, ap, sym, ◌∙◌, arith}
use Rattle.std.proofs.lemmas.List.{drop-drop}

-- what is behind one byte
behind : (at : ℕ) (bytes : List ℕ) (first : ℕ) (rest : List ℕ) → drop at bytes ≡ first ∷ rest → drop (at + 1) bytes ≡ rest
behind at bytes first rest is = sym (drop-drop 1 at bytes) ∙ ap (drop 1) is

-- one byte more, with a star before it
pub one_more : (old written new : List ℕ) (start byte : ℕ) → 0 < start → drop start written ≡ byte ∷ drop (start + 1) old
    → drop (start - 1) new ≡ 42 ∷ drop (start - 1 + 1) written → drop (start - 1 + 1) new ≡ byte ∷ drop (start + 1) old
one_more old written new start byte some first star =
    behind (start - 1) new 42 (drop (start - 1 + 1) written) star ∙ ap (λ n. drop n written) (omega (arith, some)) ∙ first

-- one byte less
pub one_less : (old new : List ℕ) (start : ℕ) → drop (start + 1) new ≡ 42 ∷ drop (start + 1 + 1) old
    → drop (start + 1 + 1) new ≡ drop 1 (drop (start + 1) old)
one_less old new start star =
    behind (start + 1) new 42 (drop (start + 1 + 1) old) star ∙ sym (drop-drop 1 (start + 1) old)
