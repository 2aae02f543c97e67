use Rattle.std.proofs.Common.{◌+◌, ◌∷◌, length, List, ℕ, ap, ◌∙◌, arith, length-drop}
use Rattle.mime_load.proofs.EndingLemmas.{one_more}
use Rattle.mime_load.proofs.ending.NameEnding.grow.Goals as goal

pub returns : goal.returns
returns c = record {
  grown =
      one_more c.self.inside.bytes c.put.new.bytes c.put-2.new.bytes c.self.inside.start c.args.byte
      (omega (
        arith,
        c.requires.room,
        c.self.told,
        ap (λ (xs : List ℕ). length xs) c.self.view_is,
        length-drop (c.self.inside.start + 1) c.self.inside.bytes,
      ))
      c.put.ensures.written c.put-2.ensures.written
      ∙ ap (λ (xs : List ℕ). c.args.byte ∷ xs) c.self.view_is;
}
