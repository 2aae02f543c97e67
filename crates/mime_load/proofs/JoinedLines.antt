-- Lines that stand behind others.
use Rattle.std.proofs.Common.{◌≡◌, ℕ, zero, suc, ◌+◌, ◌*◌, true, ◌&&◌, List, ◌∷◌, ◌++◌, refl, ap, ◌∙◌, sym, subst, arith}
use Rattle.std.proofs.lemmas.Bool.{and_from, and_parts}
use Rattle.std.proofs.lemmas.List.{append_assoc}
use Rattle.mime_base.specs.Format.Magic.{LinesAt, line_count, width}
use Rattle.mime_base.specs.Format.Packed.{forest_value_length}
use Rattle.mime_base.specs.Format.Records.{Standing}
use Rattle.mime_base.specs.Magic.{Forest, PlainLine, are_allowed, bare, is_allowed, line}
use Rattle.mime_load.specs.Adding.{flat}

-- lines, and others behind them
abbrev pub joined : Forest → Forest → Forest
joined bare others = others
joined (line own children rest) others = line own children (joined rest others)

-- side by side there are as many as in both
pub width-joined : (f g : Forest) → width (joined f g) ≡ width f + width g
width-joined bare g = omega arith
width-joined (line own children rest) g = omega (arith, width-joined rest g)

-- at all depths likewise
pub line_count-joined : (f g : Forest) → line_count (joined f g) ≡ line_count f + line_count g
line_count-joined bare g = omega arith
line_count-joined (line own children rest) g = omega (arith, line_count-joined rest g)

-- and their values
pub value_length-joined : (f g : Forest) → forest_value_length (joined f g) ≡ forest_value_length f + forest_value_length g
value_length-joined bare g = omega arith
value_length-joined (line own children rest) g = omega (arith, value_length-joined rest g)

-- their entries come one after the other
pub flat-joined : (f g : Forest) → flat (joined f g) ≡ flat f ++ flat g
flat-joined bare g = refl
flat-joined (line own children rest) g =
    ap (λ (es : List (PlainLine × ℕ)). (own, line_count children) ∷ (flat children ++ es)) (flat-joined rest g)
    ∙ ap (λ (es : List (PlainLine × ℕ)). (own, line_count children) ∷ es) (sym (append_assoc (flat children) (flat rest) (flat g)))

-- they stand
pub stand-joined : (S : Standing) (at : ℕ) (f g : Forest) → LinesAt S at f → LinesAt S (at + 32 * width f) g → LinesAt S at (joined f g)
stand-joined S at bare g h behind = subst (λ (a : ℕ). LinesAt S a g) (omega arith) behind
stand-joined S at (line own children rest) g h behind = (
  h.0,
  h.1,
  h.2,
  h.3,
  h.4,
  h.5,
  h.6,
  stand-joined S (at + 32) rest g h.7 (subst (λ (a : ℕ). LinesAt S a g) (omega arith) behind),
)

-- they are allowed
pub allowed-joined : (levels : ℕ) (f g : Forest) → are_allowed levels f ≡ true → are_allowed levels g ≡ true
    → are_allowed levels (joined f g) ≡ true
allowed-joined levels bare g one other = other
allowed-joined zero (line own children rest) g one other = absurd (cc)
allowed-joined (suc levels) (line own children rest) g one other =
    let parts = and_parts (is_allowed own && are_allowed levels children) (are_allowed (suc levels) rest) one in
    and_from (is_allowed own && are_allowed levels children) (are_allowed (suc levels) (joined rest g)) parts.0
    (allowed-joined (suc levels) rest g parts.1 other)
