-- Lists that can't be read, and readers of lists.
use Rattle.std.proofs.Common.{◌≡◌, ℕ, false, List, [], ◌∷◌, ap, inl, inr, Ok, Option, Err, Result, Some, refl, subst}
use Rattle.mime_lookup.specs.Content.{Health, sound}
use Rattle.mime_tool.specs.Desk.{OpensList}
use Rattle.mime_tool.specs.Files.{IsReaderOf, Stored, bytes, closed, dangling, folder, nothing, special, unknown, unreadable}
use Rattle.mime_tool.specs.Finish.{Sinks}
use Rattle.mime_tool.specs.Listed.{AreListed, IsUnlisted, names_given}
use Rattle.mime_tool.specs.Names.{GivesName}
use Rattle.mime_tool.specs.Process.{given_by}
use Rattle.mime_tool.specs.Run.{Run, cannot_read, silent, stopped}
use Rattle.mime_tool.specs.Stop.{message}
use Rattle.mime_tool.specs.declared.stop.Stop.{Stop}
use Rattle.mime_tool.specs.declared.stop.Stop.TheVariants as stop
use Rattle.mime_tool.proofs.AnswerLemmas.ListedNames.{EndsListed}
use Rattle.mime_tool.proofs.RunLemmas.Ends.{writes_same}
use Rattle.mime_tool.proofs.RunLemmas.ListedRuns.{listed_unknown}

-- a sound reader of bytes gives them
given_sound : (bs : List ℕ) → given_by (Some bs) sound ≡ bytes bs
given_sound [] = refl
given_sound (b ∷ bs) = refl

module _ (IsOne : List ℕ → Run → Type 0) (list : List ℕ) where
  -- the message of a list that can't be read is all that is left of its run
  unlisted_run : (before : Stored) (n : ℕ) (text : List ℕ) → IsUnlisted before → text ≡ cannot_read list
      → AreListed IsOne list before n (names_given before) (stopped text silent)
  unlisted_run (bytes bs) n text unlisted is = absurd unlisted
  unlisted_run unknown n text unlisted is = (false, [], ap (λ (t : List ℕ). stopped t silent) is)
  unlisted_run nothing n text unlisted is = ap (λ (t : List ℕ). stopped t silent) is
  unlisted_run dangling n text unlisted is = ap (λ (t : List ℕ). stopped t silent) is
  unlisted_run folder n text unlisted is = ap (λ (t : List ℕ). stopped t silent) is
  unlisted_run (special kind) n text unlisted is = ap (λ (t : List ℕ). stopped t silent) is
  unlisted_run closed n text unlisted is = ap (λ (t : List ℕ). stopped t silent) is
  unlisted_run unreadable n text unlisted is = ap (λ (t : List ℕ). stopped t silent) is

  -- no name is given
  pub listed_unnamed : (before after : Stored) (n : ℕ) (a b : Sinks) (e : Stop) → GivesName list before after a b (Err e)
      → EndsListed IsOne list before n a b (Err e)
  listed_unnamed before after n a b stop.OutOfMemory p = inl p
  listed_unnamed before after n a b stop.CannotWrite p = p
  listed_unnamed before after n a b (stop.Refused m) p =
      (silent, unlisted_run before n (message (stop.Refused m)) p.1 p.2, p.0)

  -- the list isn't opened
  pub listed_unopened : {R : Type 0} (remaining : R → Option (List ℕ)) (health : R → Health) (before : Stored) (n : ℕ) (a b : Sinks) (e : Stop)
      → OpensList remaining health before list a b (Err e) → EndsListed IsOne list before n a b (Err e)
  listed_unopened remaining health before n a b stop.OutOfMemory p = inl (writes_same a b p)
  listed_unopened remaining health before n a b stop.CannotWrite p = absurd p
  listed_unopened remaining health before n a b (stop.Refused m) p =
      (silent, unlisted_run before n (message (stop.Refused m)) p.1 p.2, writes_same a b p.0)

  -- what is done over any list is done over an unknown one
  ends_unknown : (stored : Stored) (n : ℕ) (a b : Sinks) (r : Result ℕ Stop) → EndsListed IsOne list stored n a b r
      → EndsListed IsOne list unknown n a b r
  ends_unknown stored n a b (Ok s) p = (p.0, listed_unknown IsOne list stored n (names_given stored) p.0 p.1, p.2, p.3, p.4)
  ends_unknown stored n a b (Err stop.OutOfMemory) (inl p) = inl p
  ends_unknown stored n a b (Err stop.OutOfMemory) (inr p) =
      let is = listed_unknown IsOne list stored n p.1.front p.0 p.1.is_run in
      inr (p.0, record { front = []; rest = []; split = refl; is_run = is }, p.2)
  ends_unknown stored n a b (Err stop.CannotWrite) p = p
  ends_unknown stored n a b (Err (stop.Refused m)) p =
      (p.0, listed_unknown IsOne list stored n (names_given stored) (stopped (message (stop.Refused m)) p.0) p.1, p.2)

  -- what is done over what a reader gives is done over what it is a reader of
  pub ends_opened : {R : Type 0} (remaining : R → Option (List ℕ)) (health : R → Health) (reader : R) (stored : Stored) (n : ℕ) (a b : Sinks)
      (r : Result ℕ Stop) → IsReaderOf remaining health stored reader
      → EndsListed IsOne list (given_by (remaining reader) (health reader)) n a b r → EndsListed IsOne list stored n a b r
  ends_opened remaining health reader (bytes bs) n a b r opened p =
      subst (λ (given : Stored). EndsListed IsOne list given n a b r) (given_sound bs) (rw (opened.0, opened.1) at p)
  ends_opened remaining health reader unreadable n a b r opened p = rw (opened.0, opened.1) at p
  ends_opened remaining health reader unknown n a b r opened p = ends_unknown (given_by (remaining reader) (health reader)) n a b r p
  ends_opened remaining health reader nothing n a b r opened p = absurd opened
  ends_opened remaining health reader dangling n a b r opened p = absurd opened
  ends_opened remaining health reader folder n a b r opened p = absurd opened
  ends_opened remaining health reader (special kind) n a b r opened p = absurd opened
  ends_opened remaining health reader closed n a b r opened p = absurd opened
