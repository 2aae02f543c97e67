-- What an answer from texts comes to, from an answer over the database that they say.
use Rattle.std.proofs.Common.{◌≡◌, ◌⊎◌, ◌∙◌, ℕ, zero, suc, List, [], ◌∷◌, Option, Some, None, Result, ap, inl, inr}
use Rattle.std.proofs.Common.{refl, subst, sym}
use Rattle.std.proofs.lemmas.Option.{none-some}
use Rattle.mime_base.specs.Database.{PlainDatabase}
use Rattle.mime_base.specs.declared.magic.host.Host.{Host}
use Rattle.mime_lookup.specs.declared.order.Order.{Order}
use Rattle.mime_text.specs.DirTexts.{FirstRefused, IsFaultOfDirs, SayDatabase}
use Rattle.mime_text.specs.declared.dir_texts.DirTexts.{DirTexts}
use Rattle.mime_text.specs.declared.dir_texts.DirsFault.{DirsFault}
use Rattle.mime_text.specs.declared.dir_texts.DirsFault.TheVariants as dirs_fault
use Rattle.mime_text.specs.declared.magic.fault.MagicFault.{MagicFault}
use Rattle.mime_text.specs.declared.magic.fault.MagicFault.TheVariants.{Malformed}
use Rattle.mime_tool.specs.FromTexts.{ComesOver, IsFaultOver, IsReadFault, of_dirs}
use Rattle.mime_tool.specs.declared.from_texts.AnswerFault.{AnswerFault}
use Rattle.mime_tool.specs.declared.from_texts.AnswerFault.TheVariants as fault
use Rattle.mime_tool.specs.declared.from_texts.OwnedAnswer.{OwnedAnswer}
use Rattle.mime_tool.proofs.DirectoryLemmas.SaidDirs.{none_refused}
use Rattle.mime_tool.proofs.DirectoryLemmas.SaidDatabases.{one_database}

-- where directories say a database, no magic is refused
pub never_refused : (dirs : List DirTexts) (b : PlainDatabase) (i : ℕ) (f : MagicFault) → SayDatabase dirs b
    → FirstRefused dirs i f → ⊥
never_refused dirs b i f says refused = none_refused dirs says.0 i f says.1 refused

-- what an answer over the database that was read comes to
pub comes_over : (dirs : List DirTexts) (read b : PlainDatabase) (name : List ℕ) (content : Option (Option (List ℕ)))
    (host : Host) (order : Order) (result : Result OwnedAnswer AnswerFault) → SayDatabase dirs read → SayDatabase dirs b
    → ComesOver read name content host order result → ComesOver b name content host order result
comes_over dirs read b name content host order result is says comes =
    subst (λ (database : PlainDatabase). ComesOver database name content host order result) (one_database dirs read b is says)
    comes

-- a fault of directories whose magic is accepted
accepted_fault : (dirs : List DirTexts) (b : PlainDatabase) (name : List ℕ) (f : DirsFault) → SayDatabase dirs b
    → IsFaultOfDirs dirs f → IsFaultOver b name (of_dirs f)
accepted_fault dirs b name (dirs_fault.Magic i kind offset) says is = never_refused dirs b i (Malformed kind offset) says is
accepted_fault dirs b name dirs_fault.OutOfMemory says is = tt

-- so it is where they are read
pub fault_accepted : (dirs : List DirTexts) (b : PlainDatabase) (name : List ℕ) (e : AnswerFault) → SayDatabase dirs b
    → IsReadFault dirs e → IsFaultOver b name e
fault_accepted dirs b name e says is =
    subst (IsFaultOver b name) (sym is.2) (accepted_fault dirs b name is.0 says is.1)

-- the fault in a known fault
abbrev fault_or : MagicFault → Option MagicFault → MagicFault
fault_or other None = other
fault_or other (Some f) = f

-- directories have one first fault
one_fault : (dirs : List DirTexts) (i j : ℕ) (f g : MagicFault) → FirstRefused dirs i f → FirstRefused dirs j g
    → (i ≡ j) × (f ≡ g)
one_fault [] i j f g p q = absurd p
one_fault (dir ∷ dirs) zero zero f g p q = (refl, ap (fault_or f) (sym p ∙ q))
one_fault (dir ∷ dirs) zero (suc j) f g p q = absurd (none-some f (sym q.0 ∙ p))
one_fault (dir ∷ dirs) (suc i) zero f g p q = absurd (none-some g (sym p.0 ∙ q))
one_fault (dir ∷ dirs) (suc i) (suc j) f g p q =
    let same = one_fault dirs i j f g p.1 q.1 in
    (ap suc same.0, same.1)

-- a fault of directories of which one has the first
refused_fault : (dirs : List DirTexts) (i : ℕ) (f : MagicFault) (g : DirsFault) → FirstRefused dirs i f → IsFaultOfDirs dirs g
    → (of_dirs g ≡ fault.Magic i f) ⊎ (of_dirs g ≡ fault.OutOfMemory)
refused_fault dirs i f (dirs_fault.Magic j kind offset) refused is =
    let same = one_fault dirs j i (Malformed kind offset) f is refused in
    inl (ap (λ (n : ℕ). fault.Magic n (Malformed kind offset)) same.0 ∙ ap (fault.Magic i) same.1)
refused_fault dirs i f dirs_fault.OutOfMemory refused is = inr refl

-- so it is where they are read
pub fault_refused : (dirs : List DirTexts) (i : ℕ) (f : MagicFault) (e : AnswerFault) → FirstRefused dirs i f
    → IsReadFault dirs e → (e ≡ fault.Magic i f) ⊎ (e ≡ fault.OutOfMemory)
fault_refused dirs i f e refused is =
    subst (λ (x : AnswerFault). (x ≡ fault.Magic i f) ⊎ (x ≡ fault.OutOfMemory)) (sym is.2) (refused_fault dirs i f is.0 refused is.1)
