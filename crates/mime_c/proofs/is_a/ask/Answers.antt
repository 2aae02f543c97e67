use Rattle.std.proofs.Common.{ℕ, List, subst}
use Rattle.mime_c.specs.IsA.{IsSubclassSearch}
use Rattle.mime_c.proofs.is_a.ask.Goals as goal

pub returns : goal.returns
returns c =
    let is = c.is_a-found.ensures in
    record {
      outcome = c.is_a-found.result;
      promised = subst (λ (cache : List ℕ). IsSubclassSearch cache c.args.kind.now c.args.base.now c.is_a-found.result) c.new.ensures
          (record {
            answer = is.answer;
            stops = is.stops;
            spent = is.spent;
            read = is.read;
            bounds = is.bounds;
          });
      told_so = c.tell.ensures;
    }
