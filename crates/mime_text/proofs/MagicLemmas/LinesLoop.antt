-- The loop over the lines of a section: what is read of the rest completes what was read.
use Rattle.std.proofs.Common.{◌≡◌, ℕ, zero, suc, ◌+◌, ◌-◌, ◌≤◌, true, false, List, [], ◌∷◌, ◌++◌, length, Result, Ok, Err, refl, sym, ap}
use Rattle.std.proofs.Common.{◌∙◌, append_assoc, arith}
use Rattle.std.proofs.lemmas.Bool.{cond-true, cond-false}
use Rattle.std.proofs.lemmas.List.{append-nil}
use Rattle.mime_text.specs.declared.magic.fault.Fault.{Fault}
use Rattle.mime_text.specs.declared.magic.fault.ReadError.{ReadError}
use Rattle.mime_text.specs.declared.magic.fault.ReadError.TheVariants as errors
use Rattle.mime_text.specs.Magic.Entries.{PlainEntry}
use Rattle.mime_text.specs.Magic.Reading.{◌>>=◌, Fails, entry_at, starts_line, lines_at}
use Rattle.mime_text.proofs.MagicLemmas.Steps.{LinesRead, then_lines}
use Rattle.mime_text.proofs.MagicLemmas.EntryFound.{entry_found}

-- lines that were read before, and those that are read of the rest
abbrev pub with_front : List PlainEntry → LinesRead → LinesRead
with_front front read = read >>= λ x. Ok (front ++ x.0, x.1)

-- a line that is read moves to those that were
regroup_lines : (front : List PlainEntry) (n : PlainEntry) (read : LinesRead)
    → with_front front (read >>= λ x. Ok (n ∷ x.0, x.1)) ≡ with_front (front ++ n ∷ []) read
regroup_lines front n (Ok x) = ap (λ (ns : List PlainEntry). Ok (ns, x.1)) (sym (append_assoc front (n ∷ []) x.0))
regroup_lines front n (Err f) = refl

-- what is read of the rest completes what was read
pub record ReadsLines (front : List PlainEntry) (limit : ℕ) (rest : List ℕ) (total : LinesRead) : Type 0 where
  pub room : ℕ
  pub enough : length rest ≤ room
  pub same : with_front front (lines_at room limit rest) ≡ total
  pub low : limit ≤ 64

-- at a byte that starts a line, a line is read and then the others
pub lines_on : (room limit b : ℕ) (bytes : List ℕ) → starts_line b ≡ true
    → lines_at (suc room) limit (b ∷ bytes) ≡ (entry_at limit (b ∷ bytes) >>= then_lines room)
unfolding lines_at
lines_on room limit b bytes starts = cond-true (starts_line b) _ _ starts

-- at a byte that starts no line, no more lines are read
pub lines_off : (room limit b : ℕ) (bytes : List ℕ) → starts_line b ≡ false → lines_at room limit (b ∷ bytes) ≡ Ok ([], b ∷ bytes)
unfolding lines_at
lines_off zero limit b bytes starts = refl
lines_off (suc room) limit b bytes starts = cond-false (starts_line b) _ _ starts

-- of no bytes, no lines are read
pub lines_none : (room limit : ℕ) → lines_at room limit [] ≡ Ok ([], [])
unfolding lines_at
lines_none zero limit = refl
lines_none (suc room) limit = refl

-- the loop goes on after a line that was read
pub lines_go_on : (front : List PlainEntry) (limit b : ℕ) (bytes rest after : List ℕ) (n : PlainEntry) (total : LinesRead)
    → ReadsLines front limit rest total → rest ≡ b ∷ bytes → starts_line b ≡ true → entry_at limit rest ≡ Ok (n, after)
    → ReadsLines (front ++ n ∷ []) (n.indent + 1) after total
lines_go_on front limit b bytes rest after n total reads is starts e =
    let room : ℕ = reads.room - 1 in
    let k : reads.room ≡ suc room = omega (arith, ap length is, reads.enough) in
    let t = entry_found limit rest (n, after) e in
    let one : lines_at reads.room limit rest ≡ (lines_at room (n.indent + 1) after >>= λ x. Ok (n ∷ x.0, x.1)) =
    ap (λ (m : ℕ). lines_at m limit rest) k ∙ ap (lines_at (suc room) limit) is ∙ lines_on room limit b bytes starts
    ∙ ap (λ (r : Result (PlainEntry × List ℕ) Fault). r >>= then_lines room) (ap (entry_at limit) (sym is) ∙ e) in
    record {
      room = room;
      enough = omega (arith, t.shorter, reads.enough, k);
      same = sym (regroup_lines front n (lines_at room (n.indent + 1) after)) ∙ ap (with_front front) (sym one) ∙ reads.same;
      low = omega (arith, t.shallow);
    }

-- a fault in a line is the fault of all
pub lines_fail : (f : ReadError) (front : List PlainEntry) (limit b : ℕ) (bytes rest : List ℕ) (total : LinesRead)
    → ReadsLines front limit rest total → rest ≡ b ∷ bytes → starts_line b ≡ true → Fails f (entry_at limit rest) → Fails f total
lines_fail errors.OutOfMemory front limit b bytes rest total reads is starts e = tt
lines_fail (errors.Fault f) front limit b bytes rest total reads is starts e =
    let room : ℕ = reads.room - 1 in
    let k : reads.room ≡ suc room = omega (arith, ap length is, reads.enough) in
    let one : lines_at reads.room limit rest ≡ Err f =
    ap (λ (m : ℕ). lines_at m limit rest) k ∙ ap (lines_at (suc room) limit) is ∙ lines_on room limit b bytes starts
    ∙ ap (λ (r : Result (PlainEntry × List ℕ) Fault). r >>= then_lines room) (ap (entry_at limit) (sym is) ∙ e) in
    sym reads.same ∙ ap (with_front front) one

-- the loop ends at a byte that starts no line, with all lines read
pub lines_stop : (front : List PlainEntry) (limit b : ℕ) (bytes rest : List ℕ) (total : LinesRead) → ReadsLines front limit rest total
    → rest ≡ b ∷ bytes → starts_line b ≡ false → total ≡ Ok (front, rest)
lines_stop front limit b bytes rest total reads is off =
    let one : lines_at reads.room limit rest ≡ Ok ([], rest) = ap (lines_at reads.room limit) is ∙ lines_off reads.room limit b bytes off
    ∙ ap (λ (t : List ℕ). Ok ([], t)) (sym is) in
    sym reads.same ∙ ap (with_front front) one ∙ ap (λ (t : List PlainEntry). Ok (t, rest)) (append-nil front)

-- the loop ends with the text, with all lines read
pub lines_end : (front : List PlainEntry) (limit : ℕ) (rest : List ℕ) (total : LinesRead) → ReadsLines front limit rest total → rest ≡ []
    → total ≡ Ok (front, rest)
lines_end front limit rest total reads is =
    let one : lines_at reads.room limit rest ≡ Ok ([], rest) = ap (lines_at reads.room limit) is ∙ lines_none reads.room limit
    ∙ ap (λ (t : List ℕ). Ok ([], t)) (sym is) in
    sym reads.same ∙ ap (with_front front) one ∙ ap (λ (t : List PlainEntry). Ok (t, rest)) (append-nil front)
