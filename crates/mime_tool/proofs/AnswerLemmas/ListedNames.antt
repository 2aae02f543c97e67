-- How the names of a list, as they are read, come to its end.
use Rattle.std.proofs.Common.{ℕ, ◌+◌, true, List, [], ◌∷◌, Ok, Err, Result, refl, subst, sym}
use Rattle.mime_tool.specs.Desk.{EndsOverFiles}
use Rattle.mime_tool.specs.Files.{Stored, bytes, closed, dangling, folder, nothing, special, unknown, unreadable}
use Rattle.mime_tool.specs.Finish.{Sinks, Writes}
use Rattle.mime_tool.specs.Listed.{AreListed, IsNumbered, listed, names_given}
use Rattle.mime_tool.specs.Names.{Gives, IsAtEnd}
use Rattle.mime_tool.specs.Run.{Run, silent}
use Rattle.mime_tool.specs.declared.stop.Stop.{Stop}
use Rattle.mime_tool.proofs.RunLemmas.Fronts.{IsFront, ends_after_nothing, ends_first, ends_followed, raised}
use Rattle.mime_tool.proofs.RunLemmas.ListedRuns.{listed_unknown, numbered_more, numbered_one, numbered_stopped}

module _ (IsOne : List ℕ → Run → Type 0) (list : List ℕ) where
  -- what is done over a list of this content, from the name of this number on
  abbrev pub EndsListed : Stored → ℕ → Sinks → Sinks → Result ℕ Stop → Type 0
  EndsListed stored n a b r = EndsOverFiles (AreListed IsOne list stored n) (names_given stored) a b r

  -- a name of a known list goes before the rest
  known_front : (n : ℕ) (name bs rest : List ℕ)
      → IsFront (IsNumbered IsOne list n name) (AreListed IsOne list (bytes rest) (n + 1)) (AreListed IsOne list (bytes bs) n) (λ names. name ∷ names)
  known_front n name bs rest = record {
    alone = numbered_one IsOne list n name;
    more = numbered_more IsOne list true n name;
    stopping = numbered_stopped IsOne list true n name;
    parts = λ xs ys. (ys, refl);
  }

  -- so does one of an unknown list
  unknown_front : (n : ℕ) (name : List ℕ) (after : Stored)
      → IsFront (IsNumbered IsOne list n name) (AreListed IsOne list after (n + 1)) (AreListed IsOne list unknown n) (λ _. [])
  unknown_front n name after = record {
    alone = λ a p. (true, name ∷ [], numbered_one IsOne list n name a p);
    more = λ names a b p goes q.
        let given = listed_unknown IsOne list after (n + 1) names b q in
        (given.0, name ∷ given.1, numbered_more IsOne list given.0 n name given.1 a b p goes given.2);
    stopping = λ names a p stop. (true, name ∷ [], numbered_stopped IsOne list true n name [] a p stop);
    parts = λ xs ys. ([], refl);
  }

  -- a name is answered, and then the rest
  listed_more : (before after : Stored) (n : ℕ) (name : List ℕ) (a b c : Sinks) (status : ℕ) (r : Result ℕ Stop) → Gives before name after
      → EndsOverFiles (λ _. IsNumbered IsOne list n name) [] a b (Ok status) → EndsListed after (n + 1) b c r
      → EndsListed before n a c (raised status r)
  listed_more (bytes bs) after n name a b c status r gives p q =
      let rest = gives.0 in
      let left = subst (λ (s : Stored). EndsListed s (n + 1) b c r) gives.2 q in
      subst (λ (names : List (List ℕ)). EndsOverFiles (AreListed IsOne list (bytes bs) n) names a c (raised status r)) (sym gives.1)
      (ends_followed _ _ _ _ (known_front n name bs rest) (listed rest) a b c status r p left)
  listed_more unknown after n name a b c status r gives p q =
      ends_followed _ _ _ _ (unknown_front n name after) (names_given after) a b c status r p q
  listed_more nothing after n name a b c status r gives p q = absurd gives
  listed_more dangling after n name a b c status r gives p q = absurd gives
  listed_more folder after n name a b c status r gives p q = absurd gives
  listed_more (special kind) after n name a b c status r gives p q = absurd gives
  listed_more closed after n name a b c status r gives p q = absurd gives
  listed_more unreadable after n name a b c status r gives p q = absurd gives

  -- a name isn't answered
  listed_stopped : (before after : Stored) (n : ℕ) (name : List ℕ) (a b : Sinks) (e : Stop) → Gives before name after
      → EndsOverFiles (λ _. IsNumbered IsOne list n name) [] a b (Err e) → EndsListed before n a b (Err e)
  listed_stopped (bytes bs) after n name a b e gives p =
      subst (λ (names : List (List ℕ)). EndsOverFiles (AreListed IsOne list (bytes bs) n) names a b (Err e)) (sym gives.1)
      (ends_first _ _ _ _ (known_front n name bs gives.0) (listed gives.0) a b e p)
  listed_stopped unknown after n name a b e gives p = ends_first _ _ _ _ (unknown_front n name after) [] a b e p
  listed_stopped nothing after n name a b e gives p = absurd gives
  listed_stopped dangling after n name a b e gives p = absurd gives
  listed_stopped folder after n name a b e gives p = absurd gives
  listed_stopped (special kind) after n name a b e gives p = absurd gives
  listed_stopped closed after n name a b e gives p = absurd gives
  listed_stopped unreadable after n name a b e gives p = absurd gives

  -- the list is at its end
  pub listed_ended : (before : Stored) (n : ℕ) (a b : Sinks) → IsAtEnd before → Writes a b silent → EndsListed before n a b (Ok 0)
  listed_ended (bytes bs) n a b ended w =
      subst (λ (left : List ℕ). EndsListed (bytes left) n a b (Ok 0)) (sym ended) (silent, refl, refl, refl, w)
  listed_ended unknown n a b ended w = (silent, (true, [], refl), refl, refl, w)
  listed_ended nothing n a b ended w = absurd ended
  listed_ended dangling n a b ended w = absurd ended
  listed_ended folder n a b ended w = absurd ended
  listed_ended (special kind) n a b ended w = absurd ended
  listed_ended closed n a b ended w = absurd ended
  listed_ended unreadable n a b ended w = absurd ended

  -- a name is read and answered, and then the rest
  pub named_more : (before after : Stored) (n : ℕ) (name : List ℕ) (a b c d : Sinks) (status : ℕ) (r : Result ℕ Stop)
      → Writes a b silent × Gives before name after → EndsOverFiles (λ _. IsNumbered IsOne list n name) [] b c (Ok status)
      → EndsListed after (n + 1) c d r → EndsListed before n a d (raised status r)
  named_more before after n name a b c d status r named p q =
      ends_after_nothing (AreListed IsOne list before n) (names_given before) a b d (raised status r) named.0
      (listed_more before after n name b c d status r named.1 p q)

  -- a name is read and not answered
  pub named_stopped : (before after : Stored) (n : ℕ) (name : List ℕ) (a b c : Sinks) (e : Stop) → Writes a b silent × Gives before name after
      → EndsOverFiles (λ _. IsNumbered IsOne list n name) [] b c (Err e) → EndsListed before n a c (Err e)
  named_stopped before after n name a b c e named p =
      ends_after_nothing (AreListed IsOne list before n) (names_given before) a b c (Err e) named.0
      (listed_stopped before after n name b c e named.1 p)
