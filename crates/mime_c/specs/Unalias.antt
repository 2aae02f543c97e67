-- What an alias step promises over a cache of any bytes, and what C gets of it.
use Rattle.std.specs.Prelude.{◌≡◌, ℕ, ◌*◌, List, Result, IsOkAnd, MatchResult}
use Rattle.std.specs.Borrow.{Bor}
use Rattle.mime_base.specs.Cache.Bytes.{Stands, field}
use Rattle.mime_base.specs.Database.Subclass.{resolved}
use Rattle.mime_base.specs.Format.Header.{HeaderAt, Offsets}
use Rattle.mime_base.specs.Format.Pairs.{PairsAt}
use Rattle.mime_c.specs.Reader.{IsReaderCall}
use Rattle.mime_c.specs.declared.look_up.Text.{Text}
use Rattle.mime_c.specs.declared.report.Report.{Report}
use Rattle.mime_view.specs.Lists.{IsPairsFault}
use Rattle.mime_view.specs.Pairs.{IsUnaliased}
use Rattle.mime_view.specs.declared.fault.CacheFault.{CacheFault}

-- All that is promised of an alias step over a cache that opens.
pub record IsAliasStep (c kind : List ℕ) (result : Result (Bor (List ℕ)) CacheFault) : Type 0 where
  -- Where the alias list stands, it gives the type that the name stands for, or the name.
  pub answer : (offsets : Offsets) (pairs : List (List ℕ × List ℕ)) → HeaderAt (Stands c) offsets →
      PairsAt (Stands c) offsets.aliases pairs → IsOkAnd result (λ name. name.now ≡ resolved pairs kind)
  -- On any bytes it gives the name or a text of the cache, or the list or a text that it names does not stand.
  pub given : MatchResult result (λ name. IsUnaliased c (field c 0 1) kind name.now) (IsPairsFault c (field c 0 1))

-- the text is the name that the step gives; where there is none, it stays
abbrev pub IsAskedAlias : List ℕ → List ℕ → Text → Text → Report → Type 0
IsAskedAlias c kind before after told =
    IsReaderCall c (IsAliasStep c kind) 30 (256 * 29) (λ name. after.bytes.now ≡ name.now) (after ≡ before) told
