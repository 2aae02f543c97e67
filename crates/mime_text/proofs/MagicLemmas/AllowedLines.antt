-- Lines that are spelled so keep what magic allows of a line.
use Rattle.std.proofs.Common.{◌≡◌, ℕ, suc, ◌+◌, ◌<◌, true, List, [], ◌∷◌, ◌++◌, length, get_or, Option, Some, None, refl, sym, subst, arith}
use Rattle.std.proofs.Common.{inl, inr, eq-eqb}
use mir.Val.{Fits}
use mir.Syntax.{w8}
use Rattle.std.proofs.Math.Facts.{Fits-lt-pow}
use Rattle.std.specs.List.{AllByRecursion}
use Rattle.std.proofs.lemmas.Bool.{and_from, lt-ltb}
use Rattle.mime_base.specs.Magic.{PlainLine, fits_mask, is_allowed}
use Rattle.mime_text.specs.Magic.Entries.{PlainRole, kept, ignored, marker, PlainEntry}
use Rattle.mime_text.specs.Magic.Text.{IsMask, IsBody, IsEnd, IsEntry, AreLines}

-- each number is a byte
abbrev pub AreBytes : List ℕ → Type 0
AreBytes text = AllByRecursion (λ b. b < 256) text

-- a slice's numbers are bytes, by its type
pub bytes_are : (text : List ℕ) → ((i : ℕ) → Fits w8 (get_or text i 0)) → AreBytes text
bytes_are [] fits = tt
bytes_are (b ∷ text) fits = (Fits-lt-pow (fits 0), bytes_are text (λ i. fits (suc i)))

-- two texts of bytes that stand one after the other are bytes each
pub bytes_of_two : (a b : List ℕ) → AreBytes (a ++ b) → AreBytes a × AreBytes b
bytes_of_two [] b are = (tt, are)
bytes_of_two (x ∷ a) b are = let r = bytes_of_two a b are.1 in ((are.0, r.0), r.1)

-- a mask that is spelled so has the length of the value
mask_fits : (size : ℕ) (text : List ℕ) (mask : Option (List ℕ)) → IsMask size text mask → fits_mask mask size ≡ true
mask_fits size text None is = refl
mask_fits size text (Some mask) is = eq-eqb (length mask) size is.1

-- a line that is spelled so is allowed, where its sum is small
own_allowed : (text : List ℕ) (own : PlainLine) (b : ℕ) → AreBytes text → IsBody text own b
    → own.start + own.range + length own.value < 4294967296 → is_allowed own ≡ true
own_allowed text own b bytes body sum =
    let parts : AreBytes (body.start ++ (61 ∷ body.high ∷ body.low ∷ (own.value ++ body.options))) = subst AreBytes body.whole bytes in
    let after_prefix = (bytes_of_two body.start _ parts).1 in
    let small : length own.value < 65536 = omega (arith, body.size, after_prefix.1.0, after_prefix.1.1.0) in
    and_from _ _ (and_from _ _ (and_from _ _ (lt-ltb _ _ sum) (lt-ltb _ _ small)) body.options_are.word_fits)
    (mask_fits (length own.value) body.options_are.mask own.mask body.options_are.mask_is)

-- a line that is kept is one that magic allows
abbrev pub AllowedRole : PlainRole → Type 0
AllowedRole (kept own) = is_allowed own ≡ true
AllowedRole ignored = Unit {0}
AllowedRole marker = Unit {0}

-- an entry whose line is allowed, with an indent below 64
pub record AllowedEntry (i : PlainEntry) : Type 0 where
  pub shallow : i.indent < 64
  pub role_so : AllowedRole i.role

-- entries of which each is allowed
abbrev pub AllowedEntries : List PlainEntry → Type 0
AllowedEntries is = AllByRecursion AllowedEntry is

-- the end of a line tests its sum
end_allowed : (text : List ℕ) (own : PlainLine) (b : ℕ) (end : List ℕ) (role : PlainRole) → AreBytes text → IsBody text own b
    → IsEnd own b end role → AllowedRole role
end_allowed text own b end (kept l) bytes body is =
    subst (λ (o : PlainLine). is_allowed o ≡ true) (sym is.0) (own_allowed text own b bytes body is.3)
end_allowed text own b end ignored bytes body is = tt
end_allowed text own b end marker bytes body is = tt

-- an entry that is spelled so
entry_allowed : (limit : ℕ) (text : List ℕ) (i : PlainEntry) → AreBytes text → IsEntry limit text i → AllowedEntry i
entry_allowed limit text i bytes (inl is) = subst AllowedEntry (sym is.1) (record { shallow = omega arith; role_so = tt })
entry_allowed limit text i bytes (inr is) =
    let l = is.1 in
    let r = l.rest_is in
    let whole : AreBytes (l.indent ++ 62 ∷ l.rest) = subst AreBytes l.whole bytes in
    let rest : AreBytes (r.body ++ r.first ∷ r.end) = subst AreBytes r.whole (bytes_of_two l.indent _ whole).1.1 in
    record {
      shallow = l.shallow;
      role_so = end_allowed r.body r.own r.first r.end i.role (bytes_of_two r.body _ rest).0 r.body_is r.end_is;
    }

-- lines that are spelled so are allowed entries
pub lines_allowed : (limit : ℕ) (text : List ℕ) (is : List PlainEntry) → AreBytes text → AreLines limit text is → AllowedEntries is
lines_allowed limit text [] bytes are = tt
lines_allowed limit text (i ∷ is) bytes are =
    let two = bytes_of_two are.0 are.1 (subst AreBytes are.2 bytes) in
    (entry_allowed limit are.0 i two.0 are.3, lines_allowed (i.indent + 1) are.1 is two.1 are.4)
