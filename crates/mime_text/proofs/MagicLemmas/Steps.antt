-- Steps of reading: what is known where they go well, and how they go on.
use Rattle.std.proofs.Common.{◌≡◌, ℕ, ◌+◌, List, ◌∷◌, Bool, true, false, cond, Result, Ok, Err, refl, ap, ◌∙◌, ◌⊎◌, inl, inr}
use Rattle.mime_text.specs.declared.magic.fault.Fault.{Fault}
use Rattle.mime_text.specs.Magic.Entries.{PlainEntry, PlainFlatSection}
use Rattle.mime_text.specs.Magic.Reading.{◌>>=◌, lines_at, sections_at}

-- a result that is right
abbrev done : {A : Type 0} → A → Result A Fault
done x = Ok x

-- two results that went well, and are equal, have one value
pub ok_is : {A : Type 0} (x y : A) → done x ≡ done y → x ≡ y
ok_is x y e = cc

-- where two steps go well, the first does, and then the second
pub bind_ok : {A B : Type 0} (r : Result A Fault) (f : A → Result B Fault) (y : B) → (r >>= f) ≡ Ok y → (x : A) × (r ≡ Ok x) × (f x ≡ Ok y)
bind_ok (Ok x) f y e = (x, refl, e)
bind_ok (Err d) f y e = absurd cc

-- where the first step goes well and then the second, both do
pub bind_on : {A B : Type 0} (r : Result A Fault) (x : A) (f : A → Result B Fault) (y : B) → r ≡ Ok x → f x ≡ Ok y → (r >>= f) ≡ Ok y
bind_on r x f y e g = ap (λ (s : Result _ Fault). s >>= f) e ∙ g

-- a test that had to fail before more steps has failed
pub guard_off : {A : Type 0} (b : Bool) (d : Fault) (x : Result A Fault) (y : A) → cond b (Err d) x ≡ Ok y → (b ≡ false) × (x ≡ Ok y)
guard_off true d x y e = absurd cc
guard_off false d x y e = (refl, e)

-- a test that had to hold before more steps has held
pub guard_on : {A : Type 0} (b : Bool) (d : Fault) (x : Result A Fault) (y : A) → cond b x (Err d) ≡ Ok y → (b ≡ true) × (x ≡ Ok y)
guard_on true d x y e = (refl, e)
guard_on false d x y e = absurd cc

-- a choice by a test has one of two outcomes
pub chosen : {A : Type 0} (b : Bool) (x y z : A) → cond b x y ≡ z → ((b ≡ true) × (x ≡ z)) ⊎ ((b ≡ false) × (y ≡ z))
chosen true x y z e = inl (refl, e)
chosen false x y z e = inr (refl, e)

-- what reading gives of lines, with the bytes after them
abbrev pub LinesRead : Type 0
LinesRead = Result (List PlainEntry × List ℕ) Fault

-- what reading gives of sections
abbrev pub SectionsRead : Type 0
SectionsRead = Result (List PlainFlatSection) Fault

-- after a line that was read, the lines that follow
abbrev pub then_lines : ℕ → PlainEntry × List ℕ → LinesRead
then_lines room first = lines_at room (first.0.indent + 1) first.1 >>= λ others. Ok (first.0 ∷ others.0, others.1)

-- after a section that was read, the sections that follow
abbrev pub then_sections : ℕ → PlainFlatSection × List ℕ → SectionsRead
then_sections room first = sections_at room first.1 >>= λ others. Ok (first.0 ∷ others)
