-- Worked rows of the limits of a database, which compute: the greatest that is within each, and what is one past it.
use Rattle.std.specs.Prelude.{◌≡◌, ◌<◌, ℕ, zero, suc, true, false, refl, codes, [], ◌∷◌, None, Some, length, replicate}
use Rattle.std.proofs.Math.Dec.{lit<}
use Rattle.std.proofs.Math.Nat.{lt_irrefl}
use Rattle.std.proofs.lemmas.List.Elements.{All-cons, All-nil}
use Rattle.mime_base.specs.Database.Limits.{KeepsLimits}
use Rattle.mime_base.specs.Magic.{Forest, are_allowed_sections, bare, is_allowed, line, line_from}

-- lines one below another, that many
pub levels : ℕ → Forest
levels zero = bare
levels (suc n) = line (line_from 0 1 1 (1 ∷ []) None) (levels n) bare

-- start, range and value end at the last byte that 32 bits reach
pub allowed-end : is_allowed (line_from 4294967290 4 1 (1 ∷ []) None) ≡ true
allowed-end = refl

-- and not past it
pub refused-end : is_allowed (line_from 4294967290 5 1 (1 ∷ []) None) ≡ false
refused-end = refl

-- a value of 65,535 bytes
pub allowed-value : is_allowed (line_from 0 1 1 (replicate 65535 7) None) ≡ true
allowed-value = refl

-- and not of more
pub refused-value : is_allowed (line_from 0 1 1 (replicate 65536 7) None) ≡ false
refused-value = refl

-- a word of two divides the value
pub allowed-word : is_allowed (line_from 0 1 2 (1 ∷ 2 ∷ []) None) ≡ true
allowed-word = refl

-- one of two bytes does not divide three
pub refused-word_two : is_allowed (line_from 0 1 2 (1 ∷ 2 ∷ 3 ∷ []) None) ≡ false
refused-word_two = refl

-- one of four does not divide six
pub refused-word_four : is_allowed (line_from 0 1 4 (1 ∷ 2 ∷ 3 ∷ 4 ∷ 5 ∷ 6 ∷ []) None) ≡ false
refused-word_four = refl

-- there is no word of three
pub refused-word_three : is_allowed (line_from 0 1 3 (1 ∷ 2 ∷ 3 ∷ []) None) ≡ false
refused-word_three = refl

-- a mask is as long as its value
pub allowed-mask : is_allowed (line_from 0 1 1 (1 ∷ 2 ∷ []) (Some (255 ∷ 0 ∷ []))) ≡ true
allowed-mask = refl

-- and no shorter
pub refused-mask : is_allowed (line_from 0 1 1 (1 ∷ 2 ∷ []) (Some (255 ∷ []))) ≡ false
refused-mask = refl

-- there are 64 levels
pub allowed-levels : are_allowed_sections (record { priority = 50; kind = codes "t/g"; lines = levels 64 } ∷ []) ≡ true
unfolding levels
allowed-levels = refl

-- and no more
pub refused-levels : are_allowed_sections (record { priority = 50; kind = codes "t/g"; lines = levels 65 } ∷ []) ≡ false
unfolding levels
refused-levels = refl

-- the greatest weight and the greatest byte
pub keeps-greatest : KeepsLimits (record { weight = 255; kind = codes "t/a"; pattern = 255 ∷ []; cased = false })
keeps-greatest =
    (lit< tt, lit< tt, All-cons (λ (b : ℕ). b < 256) 255 [] (lit< tt) (All-nil (λ (b : ℕ). b < 256)))

-- no weight of 256
pub keeps-no_weight : KeepsLimits (record { weight = 256; kind = codes "t/a"; pattern = 97 ∷ []; cased = false }) → ⊥
keeps-no_weight = λ keeps. lt_irrefl 256 keeps.0

-- a pattern of 255 bytes
pub keeps-long : length {A = ℕ} (replicate 255 97) < 256
keeps-long = lit< tt

-- and not of 256
pub keeps-no_longer : KeepsLimits (record { weight = 50; kind = codes "t/a"; pattern = replicate 256 97; cased = false }) → ⊥
keeps-no_longer = λ keeps. lt_irrefl 256 keeps.1

-- no byte of 256
pub keeps-no_byte : KeepsLimits (record { weight = 50; kind = codes "t/a"; pattern = 256 ∷ []; cased = false }) → ⊥
keeps-no_byte = λ keeps. lt_irrefl 256 (keeps.2 0 0 (lit< tt))
