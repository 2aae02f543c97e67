-- Faults of a content by itself, none of which says that memory was refused.
use Rattle.std.proofs.Common.{◌≡◌, ℕ, ◌+◌, ◌*◌, List, inl, inr, refl, subst, sym}
use Rattle.mime_base.specs.Cache.Bytes.{field}
use Rattle.mime_base.specs.declared.cache.byte_fault.ByteFault.{ByteFault}
use Rattle.mime_base.specs.declared.cache.byte_fault.ByteFault.TheVariants as byte
use Rattle.mime_base.specs.declared.magic.host.Host.{Host}
use Rattle.mime_lookup.specs.Cached.{cause_of}
use Rattle.mime_lookup.specs.StepFaults.{IsAliasFault, IsSniffingFault}
use Rattle.mime_lookup.specs.declared.stopped.Cause.TheVariants as cause
use Rattle.mime_view.specs.Faults.{cache_fault}
use Rattle.mime_view.specs.Lists.{IsNamedFault, IsNoText}
use Rattle.mime_view.specs.Magic.{IsMagicFault, IsOwnFault, IsSectionFault}
use Rattle.mime_view.specs.Opening.{IsOpenFault}
use Rattle.mime_view.specs.declared.budget.Budget.{Budget}
use Rattle.mime_view.specs.declared.fault.CacheFault.{CacheFault}
use Rattle.mime_view.specs.declared.fault.CacheFault.TheVariants.{LongText, OutOfMemory, OutOfRange, Spent}
use Rattle.mime_view.specs.declared.fault.CacheFault.TheVariants.{TooDeep, TooLarge, Truncated, Version}

-- a fault is not that memory was refused
abbrev pub IsOther : CacheFault → Type 0
IsOther OutOfMemory = ⊥
IsOther e = Unit {0}

-- of a counted read
byte_fault-other : (f : ByteFault) → IsOther (cache_fault f)
byte_fault-other (byte.OutOfRange at) = tt
byte_fault-other (byte.LongText at) = tt

-- of a text
no_text-other : (c : List ℕ) (at : ℕ) (e : CacheFault) → IsNoText c at e → IsOther e
no_text-other c at e text = subst IsOther (sym text.is) (byte_fault-other text.fault)

-- of a text that a record of a list names
named-other : (c : List ℕ) (first size count number : ℕ) (e : CacheFault) → IsNamedFault c first size count number e → IsOther e
named-other c first size count number e named = no_text-other c (field c (first + size * named.i) number) e named.text

-- of an alias step
alias-other : (c : List ℕ) (e : CacheFault) → IsAliasFault c e → IsOther e
alias-other c e (inl (inl list)) = subst IsOther (sym list.is) tt
alias-other c e (inl (inr key)) = named-other c (field c 0 1 + 4) 8 (field c (field c 0 1) 0) 0 e key
alias-other c e (inr name) = named-other c (field c 0 1 + 4) 8 (field c (field c 0 1) 0) 1 e name

-- of a line of magic
line-other : (c : List ℕ) (r level : ℕ) (front : List ℕ) (host : Host) (after : Budget) (e : CacheFault)
    → IsOwnFault c r level front host after e → IsOther e
line-other c r level front host after e (inl (inl value)) = subst IsOther (sym value.is) tt
line-other c r level front host after e (inl (inr spent)) = subst IsOther (sym spent.0) tt
line-other c r level front host after e (inr (inl block)) = subst IsOther (sym block.is) tt
line-other c r level front host after e (inr (inr deep)) = subst IsOther (sym deep.is) tt

-- of a section
section-other : (c : List ℕ) (at : ℕ) (front : List ℕ) (host : Host) (after : Budget) (e : CacheFault)
    → IsSectionFault c at front host after e → IsOther e
section-other c at front host after e (inl block) = subst IsOther (sym block.is) tt
section-other c at front host after e (inr (inl spent)) = subst IsOther (sym spent.0) tt
section-other c at front host after e (inr (inr (inl (top, one, line)))) =
    line-other c line.r (0 + line.steps) front host after e line.fault
section-other c at front host after e (inr (inr (inr text))) = no_text-other c (field c at 1) e text

-- of the magic list
magic-other : (c : List ℕ) (at : ℕ) (front : List ℕ) (host : Host) (after : Budget) (e : CacheFault)
    → IsMagicFault c at front host after e → IsOther e
magic-other c at front host after e (inl head) = subst IsOther (sym head.1) tt
magic-other c at front host after e (inr (inl block)) = subst IsOther (sym block.is) tt
magic-other c at front host after e (inr (inr (i, within, section))) =
    section-other c (field c at 2 + 16 * i) front host after e section

-- of a header
open-other : (c : List ℕ) (e : CacheFault) → IsOpenFault c e → IsOther e
open-other c Truncated is = tt
open-other c (Version major minor) is = tt
open-other c TooLarge is = tt
open-other c (OutOfRange at) is = tt
open-other c (LongText at) is = tt
open-other c Spent is = tt
open-other c TooDeep is = tt
open-other c OutOfMemory is = is

-- of a content by itself
pub sniffing-other : (c content : List ℕ) (host : Host) (e : CacheFault) → IsSniffingFault c content host e → IsOther e
sniffing-other c content host e (inl header) = open-other c e header
sniffing-other c content host e (inr (after, inl alias)) = alias-other c e alias
sniffing-other c content host e (inr (after, inr sniff)) = magic-other c (field c 0 6) _ host after e sniff

-- such a fault is the cause
pub cause_of-other : (e : CacheFault) → IsOther e → cause_of e ≡ cause.Cache e
cause_of-other Truncated is = refl
cause_of-other (Version major minor) is = refl
cause_of-other TooLarge is = refl
cause_of-other (OutOfRange at) is = refl
cause_of-other (LongText at) is = refl
cause_of-other Spent is = refl
cause_of-other TooDeep is = refl
cause_of-other OutOfMemory is = absurd is

-- and is not the other
pub other-not_memory : (e : CacheFault) → IsOther e → e ≡ OutOfMemory → ⊥
other-not_memory e is same = subst IsOther same is
