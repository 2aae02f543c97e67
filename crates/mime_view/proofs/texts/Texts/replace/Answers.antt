use Rattle.std.proofs.Common.{◌≡◌, ◌<◌, ℕ, zero, suc, List, [], ◌∷◌, length, set, refl, ap, sym, ◌∙◌, arith, Bor}
use Rattle.std.proofs.lemmas.List.{map-set}
use Rattle.mime_view.specs.Texts.{held_texts}
use Rattle.mime_view.proofs.texts.Texts.replace.Goals as goal
use Rattle.mime_view.proofs.texts.Texts.replace.Goals.{in-One, in-Many}

-- one text in the place of the only one
set_one : (texts : List (List ℕ)) (one text : List ℕ) (place : ℕ) → one ∷ [] ≡ texts → place < length texts →
    text ∷ [] ≡ set texts place text
set_one texts one text zero is within = rw (← is) refl
set_one texts one text (suc place) is within = absurd (omega (arith, ap length is, within))

pub returns : goal.returns
returns c = elim c.match-self.branch [
  | in-One w ↦ rw w.self-inside-is
      (set_one c.args.self.now w.in-One.one.now c.args.text.now c.args.place (ap held_texts (sym w.in-One.is) ∙ c.self.view_is) c.requires)
  | in-Many w ↦ rw w.self-inside-is
      (map-set (λ (text : Bor (List ℕ)). text.now) w.in-Many.texts.items c.args.place c.args.text
      ∙ ap (λ texts. set texts c.args.place c.args.text.now) (ap held_texts (sym w.in-Many.is) ∙ c.self.view_is))
]
