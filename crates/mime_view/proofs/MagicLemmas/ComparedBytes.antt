-- How many bytes lines and sections compare, one after another.
use Rattle.std.proofs.Common.{◌≡◌, ℕ, ◌+◌, Bool, true, false, cond, List, [], ◌∷◌, length, None, Some, refl, ap, arith}
use Rattle.std.specs.Prelude.{Result, OnOk}
use Rattle.std.proofs.lemmas.Result.{on_ok_weaker}
use Rattle.mime_base.specs.Format.Magic.{width}
use Rattle.mime_base.specs.Magic.{Forest, PlainLine, PlainSection, bare, line}
use Rattle.mime_base.specs.Magic.Holds.{equals_from, first_magic, some_holds}
use Rattle.mime_base.specs.declared.magic.host.Host.{Host}
use Rattle.mime_view.specs.Compared.{counted_on, line_compared, lines_compared, sections_compared}
use Rattle.mime_view.specs.declared.fault.CacheFault.{CacheFault}

-- what is counted first, and then, is the sum
pub counted_then : {X : Type 0} (result : Result X CacheFault) (old mid new first later whole : ℕ) → mid ≡ counted_on old first
    → whole ≡ first + later → OnOk result (new ≡ counted_on mid later) → OnOk result (new ≡ counted_on old whole)
counted_then result old mid new first later whole before sum =
    on_ok_weaker result (λ (after : new ≡ counted_on mid later). let e : new ≡ counted_on old whole = omega arith in e)

-- where both ways count nothing, nothing is counted
neither : (b : Bool) → ◌≡◌ {A = ℕ} (cond b 0 0) 0
neither true = refl
neither false = refl

module _ (own : PlainLine) (children : Forest) (content : List ℕ) (host : Host) where
  -- what a line by itself compares, and then its children
  alone : (equals : Bool) → equals_from own host content own.start own.range ≡ equals
      → lines_compared (line own children bare) content host
      ≡ line_compared own content host + cond equals (lines_compared children content host) 0
  unfolding lines_compared
  alone equals e =
      let none = neither (some_holds (line own children bare) content host) in
      let below = ap (λ (b : Bool). cond b (lines_compared children content host) 0) e in
      omega (arith, none, below)

  -- a line that differs compares no more than itself
  pub lines_compared-differs : equals_from own host content own.start own.range ≡ false
      → lines_compared (line own children bare) content host ≡ line_compared own content host
  lines_compared-differs e = let is = alone false e in omega (arith, is)

  -- one that equals its value, its children too
  pub lines_compared-equals : equals_from own host content own.start own.range ≡ true
      → lines_compared (line own children bare) content host
      ≡ line_compared own content host + lines_compared children content host
  lines_compared-equals e = alone true e

  -- where a line doesn't hold, those after it compare theirs
  pub lines_compared-passed : (rest : Forest) → some_holds (line own children bare) content host ≡ false
      → lines_compared (line own children rest) content host
      ≡ lines_compared (line own children bare) content host + lines_compared rest content host
  unfolding lines_compared
  lines_compared-passed rest e =
      let none = neither (some_holds (line own children bare) content host) in
      let later = ap (λ (b : Bool). cond b 0 (lines_compared rest content host)) e in
      omega (arith, none, later)

  -- and none where it holds
  pub lines_compared-holds : (rest : Forest) → some_holds (line own children bare) content host ≡ true
      → lines_compared (line own children rest) content host ≡ lines_compared (line own children bare) content host
  unfolding lines_compared
  lines_compared-holds rest e =
      let none = neither (some_holds (line own children bare) content host) in
      let later = ap (λ (b : Bool). cond b 0 (lines_compared rest content host)) e in
      omega (arith, none, later)

-- lines that are none compare nothing
pub lines_compared-none : (lines : Forest) (content : List ℕ) (host : Host) → width lines ≡ 0 → lines_compared lines content host ≡ 0
unfolding lines_compared
lines_compared-none bare content host none = refl
lines_compared-none (line own children rest) content host none = absurd (omega arith)

-- no section compares nothing
pub sections_compared-none : (content : List ℕ) (host : Host) → sections_compared [] content host ≡ 0
unfolding sections_compared
sections_compared-none content host = refl

module _ (section : PlainSection) (content : List ℕ) (host : Host) where
  -- what a section alone compares
  pub sections_compared-one : (holds : Bool) → holds ≡ some_holds section.lines content host
      → sections_compared (section ∷ []) content host
      ≡ lines_compared section.lines content host + cond holds (length section.kind + 1) 0
  unfolding sections_compared
  sections_compared-one holds e = rw e refl

  -- where it gives nothing, those after it compare theirs
  pub sections_compared-passed : (rest : List PlainSection) → None ≡ first_magic (section ∷ []) content host
      → sections_compared (section ∷ rest) content host
      ≡ sections_compared (section ∷ []) content host + sections_compared rest content host
  unfolding sections_compared first_magic
  sections_compared-passed rest is = by_lines (some_holds section.lines content host) (section.kind, section.priority) is
    where
      by_lines : (holds : Bool) (own : List ℕ × ℕ) → None ≡ cond holds (Some own) None
          → lines_compared section.lines content host + cond holds (length section.kind + 1) (sections_compared rest content host)
          ≡ lines_compared section.lines content host + cond holds (length section.kind + 1) 0 + sections_compared rest content host
      by_lines true own is = absurd (cc)
      by_lines false own is = omega arith

  -- and none where it gives something
  pub sections_compared-found : (rest : List PlainSection) (found : List ℕ × ℕ) → Some found ≡ first_magic (section ∷ []) content host
      → sections_compared (section ∷ rest) content host ≡ sections_compared (section ∷ []) content host
  unfolding sections_compared first_magic
  sections_compared-found rest found is = by_lines (some_holds section.lines content host) (section.kind, section.priority) is
    where
      by_lines : (holds : Bool) (own : List ℕ × ℕ) → Some found ≡ cond holds (Some own) None
          → lines_compared section.lines content host + cond holds (length section.kind + 1) (sections_compared rest content host)
          ≡ lines_compared section.lines content host + cond holds (length section.kind + 1) 0
      by_lines true own is = refl
      by_lines false own is = absurd (cc)
