-- A cache that spells a database opens, and where it is packed its budget has a record for each rule.
use Rattle.std.proofs.Common.{◌≡◌, ◌≤◌, ℕ, ◌+◌, ◌*◌, ◌/◌, List, [], ◌∷◌, ap, arith, get_or, length, length-append, refl}
use Rattle.std.proofs.lemmas.Nat.{le-div}
use Rattle.mime_base.specs.Cache.Bytes.{Stands, card_bytes, cards, field}
use Rattle.mime_base.specs.Database.{PlainDatabase}
use Rattle.mime_base.specs.Format.Header.{HeaderAt, Offsets, header_numbers}
use Rattle.mime_base.specs.Format.Packed.{Packed}
use Rattle.mime_base.specs.Format.Spells.{Spells}
use Rattle.mime_base.specs.Format.Stored.{glob_rules, literal_rules}
use Rattle.mime_base.specs.Format.SuffixTree.{tree_size}
use Rattle.mime_base.proofs.CacheLemmas.Numbers.{fields-standing, length-card_bytes}
use Rattle.mime_base.proofs.CacheLemmas.Standing.{Stands-inside}
use Rattle.mime_view.specs.Opening.{IsOpenFault}
use Rattle.mime_view.specs.declared.fault.CacheFault.{CacheFault}
use Rattle.mime_view.specs.declared.fault.CacheFault.TheVariants as fault

-- that many numbers have four times as many bytes
length-cards : (numbers : List ℕ) → length (cards numbers) ≡ 4 * length numbers
length-cards [] = refl
length-cards (n ∷ numbers) = omega
    (arith, length-append (card_bytes n) (cards numbers), length-card_bytes n, length-cards numbers)

-- a header that stands has 40 bytes
header_inside : (c : List ℕ) (offsets : Offsets) → HeaderAt (Stands c) offsets → 40 ≤ length c
header_inside c offsets stand =
    omega (arith, Stands-inside c 0 (cards (header_numbers offsets)) stand.stand, length-cards (header_numbers offsets))

-- and the version
version_read : (c : List ℕ) (offsets : Offsets) → HeaderAt (Stands c) offsets → field c 0 0 ≡ 65538
version_read c offsets stand =
    ap (λ (ns : List ℕ). get_or ns 0 0) (fields-standing c 0 (header_numbers offsets) stand.small stand.stand)

-- a cache that spells a database opens
pub spelled_opens : (c : List ℕ) (b : PlainDatabase) (f : CacheFault) → Spells c b → IsOpenFault c f → ⊥
spelled_opens c b fault.Truncated s p = let l = header_inside c s.offsets s.header in omega (arith)
spelled_opens c b (fault.Version major minor) s p = p.3 (version_read c s.offsets s.header)
spelled_opens c b fault.TooLarge s p = let l = s.within in omega arith
spelled_opens c b (fault.OutOfRange at) s p = absurd p
spelled_opens c b (fault.LongText at) s p = absurd p
spelled_opens c b fault.Spent s p = absurd p
spelled_opens c b fault.TooDeep s p = absurd p
spelled_opens c b fault.OutOfMemory s p = absurd p

-- a packed cache has four bytes for each rule and each node of its tree
pub packed_records : (c : List ℕ) (b : PlainDatabase) → Packed c b
    → length (literal_rules b.rules) + tree_size b.rules + length (glob_rules b.rules) ≤ length c / 4
packed_records c b packed =
    le-div (length (literal_rules b.rules) + tree_size b.rules + length (glob_rules b.rules)) (length c) 4 (omega arith)
    (let p = packed.records in omega arith)
