-- What is wrong with a header: one fault at most, none where it opens, and the cause that it is.
use Rattle.std.proofs.Common.{◌≡◌, ◌∙◌, ◌⊎◌, ℕ, ◌+◌, ◌*◌, ◌<◌, ◌≤◌, List, length, Result, Ok, Err, inl, inr, refl, sym, ap₂, arith}
use Rattle.std.specs.Prelude.{OnOk}
use Rattle.mime_base.specs.Cache.Bytes.{Stands}
use Rattle.mime_base.specs.Format.Header.{HeaderAt, Offsets}
use Rattle.mime_lookup.specs.Cached.{cause_of}
use Rattle.mime_lookup.specs.declared.stopped.Cause.TheVariants as cause
use Rattle.mime_lookup.proofs.StopLemmas.Openings.{header_opens}
use Rattle.mime_view.specs.Opening.{IsOpenFault, Opens}
use Rattle.mime_view.specs.declared.fault.CacheFault.{CacheFault}
use Rattle.mime_view.specs.declared.fault.CacheFault.TheVariants.{LongText, OutOfMemory, OutOfRange, Spent}
use Rattle.mime_view.specs.declared.fault.CacheFault.TheVariants.{TooDeep, TooLarge, Truncated, Version}

-- a fault of opening is one of three
abbrev IsOneOfThree : List ℕ → CacheFault → Type 0
IsOneOfThree c e = ((e ≡ Truncated) × IsOpenFault c Truncated)
    ⊎ ((major : ℕ) × (minor : ℕ) × (e ≡ Version major minor) × IsOpenFault c (Version major minor))
    ⊎ ((e ≡ TooLarge) × IsOpenFault c TooLarge)

-- a cache doesn't open for one of three reasons
one_of_three : (c : List ℕ) (e : CacheFault) → IsOpenFault c e → IsOneOfThree c e
one_of_three c Truncated is = inl (refl, is)
one_of_three c (Version major minor) is = inr (inl (major, minor, refl, is))
one_of_three c TooLarge is = inr (inr (refl, is))
one_of_three c (OutOfRange at) is = absurd is
one_of_three c (LongText at) is = absurd is
one_of_three c Spent is = absurd is
one_of_three c TooDeep is = absurd is
one_of_three c OutOfMemory is = absurd is

-- a number of 32 bits is one version
one_version : (a b x y : ℕ) → 65536 * a + b ≡ 65536 * x + y → b < 65536 → y < 65536 → Version a b ≡ Version x y
one_version a b x y same first second =
    let major : a ≡ x = omega (arith, same, first, second) in
    let minor : b ≡ y = omega (arith, same, major) in
    ap₂ Version major minor

-- two faults of opening are one
one_fault : (c : List ℕ) (e x : CacheFault) → IsOneOfThree c e → IsOneOfThree c x → e ≡ x
one_fault c e x (inl short) (inl other) = short.0 ∙ sym other.0
one_fault c e x (inl short) (inr (inl other)) = absurd (omega (arith, short.1, other.3.0))
one_fault c e x (inl short) (inr (inr other)) = absurd (omega (arith, short.1, other.1.0))
one_fault c e x (inr (inl version)) (inl other) = absurd (omega (arith, version.3.0, other.1))
one_fault c e x (inr (inl version)) (inr (inl other)) =
    version.2 ∙ one_version version.0 version.1 other.0 other.1 (sym version.3.1 ∙ other.3.1) version.3.2 other.3.2 ∙ sym other.2
one_fault c e x (inr (inl version)) (inr (inr other)) = absurd (version.3.3 other.1.1)
one_fault c e x (inr (inr large)) (inl other) = absurd (omega (arith, large.1.0, other.1))
one_fault c e x (inr (inr large)) (inr (inl other)) = absurd (other.3.3 large.1.1)
one_fault c e x (inr (inr large)) (inr (inr other)) = large.0 ∙ sym other.0

-- what holds anyway
pub on_ok : {X E P : Type 0} (result : Result X E) → P → OnOk result P
on_ok (Ok x) is = is
on_ok (Err e) is = tt

-- where a header opens, there is none
no_fault : (c : List ℕ) (e : CacheFault) → Opens c → IsOneOfThree c e → ⊥
no_fault c e opens (inl short) = omega (arith, opens.header, short.1)
no_fault c e opens (inr (inl version)) = version.3.3 opens.version_1_2
no_fault c e opens (inr (inr large)) = omega (arith, opens.limit, large.1.2)

-- a cache that opens has no such fault
pub opens_without_fault : (c : List ℕ) (e : CacheFault) → Opens c → IsOpenFault c e → ⊥
opens_without_fault c e opens is = no_fault c e opens (one_of_three c e is)

-- a header that stands in a cache of at most 268,435,456 bytes opens
pub header_without_fault : (c : List ℕ) (offsets : Offsets) (e : CacheFault) → HeaderAt (Stands c) offsets →
    length c ≤ 268435456 → IsOpenFault c e → ⊥
header_without_fault c offsets e stand limit fault = opens_without_fault c e (header_opens c offsets stand limit) fault

-- a fault of opening as a cause
pub cause_of-open_fault : (c : List ℕ) (e : CacheFault) → IsOpenFault c e → cause_of e ≡ cause.Cache e
cause_of-open_fault c Truncated is = refl
cause_of-open_fault c (Version major minor) is = refl
cause_of-open_fault c TooLarge is = refl
cause_of-open_fault c (OutOfRange at) is = refl
cause_of-open_fault c (LongText at) is = refl
cause_of-open_fault c Spent is = refl
cause_of-open_fault c TooDeep is = refl
cause_of-open_fault c OutOfMemory is = absurd is

-- the fault that opening gives is the header's, of which there is no other
pub same_fault : (c : List ℕ) (given e : CacheFault) → IsOpenFault c given → IsOpenFault c e → given ≡ e
same_fault c given e is other = one_fault c given e (one_of_three c given is) (one_of_three c e other)
