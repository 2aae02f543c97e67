-- Entries of a parent list that stand are read.
use Rattle.std.proofs.Common.{◌≡◌, ℕ, ◌+◌, ◌*◌, ◌≤◌, List, [], ◌∷◌, length, map, get_or, refl, ap, sym, subst, ◌∙◌, arith}
use Rattle.mime_base.specs.Cache.Bytes.{Stands}
use Rattle.mime_base.specs.Database.Subclass.{parents}
use Rattle.mime_base.specs.Format.Parents.{IsName, IsSubclass}
use Rattle.mime_base.specs.Format.Records.{CardsAt, ListAt, TextAt}
use Rattle.mime_base.specs.Format.Runs.{IsRun, PlainRun, second_text}
use Rattle.mime_load.specs.ParentLists.{EntryStands}
use Rattle.mime_load.specs.Parts.{RecordAt}
use Rattle.mime_load.proofs.NextRecords.{same_text}
use Rattle.mime_load.proofs.SameLemmas.{numbers_inside, same_numbers}

-- pairs of texts
abbrev Pairs : Type 0
Pairs = List (List ℕ × List ℕ)

-- a type with parents has two numbers
pub subclass_long : (c : List ℕ) (pairs : Pairs) (kind numbers : List ℕ) → IsSubclass (Stands c) pairs kind numbers → 4 * length numbers ≡ 8
subclass_long c pairs kind numbers is = omega (arith, ap (λ (ns : List ℕ). length ns) is.2)

-- a parent has one
pub name_long : (c text numbers : List ℕ) → IsName (Stands c) text numbers → 4 * length numbers ≡ 4
name_long c text numbers is = omega (arith, ap (λ (ns : List ℕ). length ns) is.1)

-- its record lies in the cache
pub name_inside : (c : List ℕ) (at : ℕ) (text : List ℕ) → RecordAt (Stands c) (IsName (Stands c)) at text → at + 4 ≤ length c
name_inside c at text stands = omega (arith, numbers_inside c at stands.numbers stands.cards, name_long c text stands.numbers stands.is)

-- it is read
pub name_read : (c : List ℕ) (at : ℕ) (numbers text : List ℕ) → length numbers ≡ 1 → CardsAt (Stands c) at numbers
    → RecordAt (Stands c) (IsName (Stands c)) at text → TextAt (Stands c) (get_or numbers 0 0) text
name_read c at numbers text long cards stands =
    let size : length numbers ≡ length stands.numbers = long ∙ sym (ap (λ (ns : List ℕ). length ns) stands.is.1) in
    let e : get_or numbers 0 0 ≡ stands.is.0 =
    ap (λ (ns : List ℕ). get_or ns 0 0) (same_numbers c at numbers stands.numbers size cards stands.cards ∙ stands.is.1) in
    subst (λ (k : ℕ). TextAt (Stands c) k text) (sym e) stands.is.2

-- the entry of a type that has parents
pub subclass_entry : (c : List ℕ) (at : ℕ) (pairs : Pairs) (kind : List ℕ) → RecordAt (Stands c) (IsSubclass (Stands c) pairs) at kind
    → EntryStands c at kind (parents pairs kind)
subclass_entry c at pairs kind r =
    record { kind_at = r.is.0; list = r.is.1; cards = subst (CardsAt (Stands c) at) r.is.2 r.cards; text = r.is.3; stand = r.is.4 }

-- the entry of pairs of a type
pub run_entry : (c : List ℕ) (at : ℕ) (run : PlainRun) → RecordAt (Stands c) (IsRun (Stands c)) at run
    → EntryStands c at run.0 (map second_text run.1)
run_entry c at run r =
    record { kind_at = r.is.0; list = r.is.1; cards = subst (CardsAt (Stands c) at) r.is.2 r.cards; text = r.is.3; stand = r.is.4 }

-- the entry lies in the cache
pub entry_inside : (c : List ℕ) (at : ℕ) (kind : List ℕ) (targets : List (List ℕ)) → EntryStands c at kind targets → at + 8 ≤ length c
entry_inside c at kind targets e = omega (arith, numbers_inside c at (e.kind_at ∷ e.list ∷ []) e.cards)

-- What is read of an entry.
pub record ReadsEntry (c numbers kind : List ℕ) (targets : List (List ℕ)) : Type 0 where
  pub text : TextAt (Stands c) (get_or numbers 0 0) kind
  pub stand : ListAt (Stands c) 4 (IsName (Stands c)) (get_or numbers 1 0) targets

-- it is read
pub entry_read : (c : List ℕ) (at : ℕ) (numbers kind : List ℕ) (targets : List (List ℕ)) → length numbers ≡ 2
    → CardsAt (Stands c) at numbers
    → EntryStands c at kind targets → ReadsEntry c numbers kind targets
entry_read c at numbers kind targets long cards e =
    let same : numbers ≡ e.kind_at ∷ e.list ∷ [] = same_numbers c at numbers (e.kind_at ∷ e.list ∷ []) long cards e.cards in
    subst (λ (ns : List ℕ). ReadsEntry c ns kind targets) (sym same) (record { text = e.text; stand = e.stand })

-- What two entries at one offset share.
pub record SameEntry (kind other : List ℕ) (targets others : List (List ℕ)) : Type 0 where
  pub kinds : kind ≡ other
  pub counts : length targets ≡ length others

-- an entry is determined by the bytes, but for the texts of the parents
pub same_entry : (c : List ℕ) (at : ℕ) (kind other : List ℕ) (targets others : List (List ℕ)) → EntryStands c at kind targets
    → EntryStands c at other others → SameEntry kind other targets others
same_entry c at kind other targets others one two =
    let e = same_numbers c at (one.kind_at ∷ one.list ∷ []) (two.kind_at ∷ two.list ∷ []) refl one.cards two.cards in
    let place : two.list ≡ one.list = sym (ap (λ (ns : List ℕ). get_or ns 1 0) e) in
    record {
      kinds = same_text c one.kind_at two.kind_at kind other (ap (λ (ns : List ℕ). get_or ns 0 0) e) one.text two.text;
      counts = ap (λ (ns : List ℕ). get_or ns 0 0)
          (same_numbers c one.list (length targets ∷ []) (length others ∷ []) refl one.stand.count
          (subst (λ (k : ℕ). CardsAt (Stands c) k (length others ∷ [])) place two.stand.count));
    }
