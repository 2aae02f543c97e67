-- The loop over the sections of a text: what is read of the rest completes what was read.
use Rattle.std.proofs.Common.{◌≡◌, ℕ, zero, suc, ◌-◌, ◌<◌, ◌≤◌, List, [], ◌∷◌, ◌++◌, length, Result, Ok, Err, refl, sym, ap, ◌∙◌}
use Rattle.std.proofs.Common.{append_assoc, arith}
use Rattle.std.proofs.lemmas.List.{append-nil}
use Rattle.mime_text.specs.declared.magic.fault.Fault.{Fault}
use Rattle.mime_text.specs.declared.magic.fault.ReadError.{ReadError}
use Rattle.mime_text.specs.declared.magic.fault.ReadError.TheVariants as errors
use Rattle.mime_text.specs.Magic.Entries.{PlainFlatSection}
use Rattle.mime_text.specs.Magic.Reading.{◌>>=◌, Fails, section_at, sections_at}
use Rattle.mime_text.proofs.MagicLemmas.Steps.{SectionsRead, then_sections}
use Rattle.mime_text.proofs.MagicLemmas.SectionsFound.{section_found}

-- sections that were read before, and those that are read of the rest
abbrev pub with_sections : List PlainFlatSection → SectionsRead → SectionsRead
with_sections front read = read >>= λ x. Ok (front ++ x)

-- a section that is read moves to those that were
regroup_sections : (front : List PlainFlatSection) (n : PlainFlatSection) (read : SectionsRead)
    → with_sections front (read >>= λ x. Ok (n ∷ x)) ≡ with_sections (front ++ n ∷ []) read
regroup_sections front n (Ok x) = ap (λ (ns : List PlainFlatSection). Ok ns) (sym (append_assoc front (n ∷ []) x))
regroup_sections front n (Err f) = refl

-- what is read of the rest completes what was read
pub record ReadsSections (front : List PlainFlatSection) (rest : List ℕ) (total : SectionsRead) : Type 0 where
  pub room : ℕ
  pub enough : length rest ≤ room
  pub same : with_sections front (sections_at room rest) ≡ total

-- where a byte is left, a section is read and then the others
pub sections_on : (room : ℕ) (bytes : List ℕ) → 0 < length bytes → sections_at (suc room) bytes ≡ (section_at bytes >>= then_sections room)
unfolding sections_at
sections_on room [] some = absurd (omega (arith, some))
sections_on room (b ∷ bytes) some = refl

-- of no bytes, no sections are read
pub sections_none : (room : ℕ) → sections_at room [] ≡ Ok []
unfolding sections_at
sections_none zero = refl
sections_none (suc room) = refl

-- the loop goes on after a section that was read
pub sections_go_on : (front : List PlainFlatSection) (rest after : List ℕ) (n : PlainFlatSection) (total : SectionsRead)
    → ReadsSections front rest total → 0 < length rest → section_at rest ≡ Ok (n, after) → ReadsSections (front ++ n ∷ []) after total
sections_go_on front rest after n total reads some e =
    let room : ℕ = reads.room - 1 in
    let k : reads.room ≡ suc room = omega (arith, some, reads.enough) in
    let t = section_found rest (n, after) e in
    let one : sections_at reads.room rest ≡ (sections_at room after >>= λ x. Ok (n ∷ x)) =
    ap (λ (m : ℕ). sections_at m rest) k ∙ sections_on room rest some
    ∙ ap (λ (r : Result (PlainFlatSection × List ℕ) Fault). r >>= then_sections room) e in
    record {
      room = room;
      enough = omega (arith, t.shorter, reads.enough, k);
      same = sym (regroup_sections front n (sections_at room after)) ∙ ap (with_sections front) (sym one) ∙ reads.same;
    }

-- a fault in a section is the fault of all
pub sections_fail : (f : ReadError) (front : List PlainFlatSection) (rest : List ℕ) (total : SectionsRead) → ReadsSections front rest total
    → 0 < length rest → Fails f (section_at rest) → Fails f total
sections_fail errors.OutOfMemory front rest total reads some e = tt
sections_fail (errors.Fault f) front rest total reads some e =
    let room : ℕ = reads.room - 1 in
    let k : reads.room ≡ suc room = omega (arith, some, reads.enough) in
    let one : sections_at reads.room rest ≡ Err f =
    ap (λ (m : ℕ). sections_at m rest) k ∙ sections_on room rest some
    ∙ ap (λ (r : Result (PlainFlatSection × List ℕ) Fault). r >>= then_sections room) e in
    sym reads.same ∙ ap (with_sections front) one

-- the loop ends with the text, with all sections read
pub sections_end : (front : List PlainFlatSection) (rest : List ℕ) (total : SectionsRead) → ReadsSections front rest total → rest ≡ []
    → total ≡ Ok front
sections_end front rest total reads is =
    let one : sections_at reads.room rest ≡ Ok [] = ap (sections_at reads.room) is ∙ sections_none reads.room in
    sym reads.same ∙ ap (with_sections front) one ∙ ap (λ (t : List PlainFlatSection). Ok t) (append-nil front)
