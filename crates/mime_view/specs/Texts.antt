-- The texts that a call gives out, and where they stand.
use Rattle.std.specs.Prelude.{◌≡◌, ◌⊎◌, ℕ, ◌<◌, List, [], ◌∷◌, get_or, length, map, Result, Ok, IfErr}
use Rattle.mime_base.specs.Cache.Texts.{text_at}
use Rattle.mime_view.specs.Lists.{IsNoText}
use Rattle.mime_view.specs.declared.fault.CacheFault.{CacheFault}
use Rattle.mime_view.specs.declared.fault.CacheFault.TheVariants.{OutOfMemory}
use Rattle.mime_view.specs.declared.texts.Held.{Held}
use Rattle.mime_view.specs.declared.texts.Held.TheVariants.{Many, One}

-- the texts that are held, in their order
abbrev pub held_texts : Held → List (List ℕ)
held_texts (One text) = text.now ∷ []
held_texts (Many texts) = map (λ text. text.now) texts.items

-- these texts stand at these offsets
abbrev pub AreTexts : List ℕ → List ℕ → List (List ℕ) → Type 0
AreTexts c [] [] = Unit {0}
AreTexts c [] (text ∷ texts) = ⊥
AreTexts c (place ∷ places) [] = ⊥
AreTexts c (place ∷ places) (text ∷ texts) = (text_at c place ≡ Ok text) × AreTexts c places texts

-- where texts stand at these offsets, only memory can be short
abbrev pub NeedsMemory : {X : Type 0} → List ℕ → List ℕ → Result X CacheFault → Type 0
NeedsMemory c places result = (texts : List (List ℕ)) → AreTexts c places texts → IfErr result (λ e. e ≡ OutOfMemory)

-- No text stands at one of these offsets.
pub record IsPlaceFault (c places : List ℕ) (e : CacheFault) : Type 0 where
  -- Which of them it is.
  pub i : ℕ
  -- It is one of them.
  pub within : i < length places
  -- No text stands there.
  pub no_text : IsNoText c (get_or places i 0) e

-- why texts are not given: none stands at one of the offsets, or memory is short
abbrev pub IsTextsStop : List ℕ → List ℕ → CacheFault → Type 0
IsTextsStop c places e = IsPlaceFault c places e ⊎ (e ≡ OutOfMemory)
