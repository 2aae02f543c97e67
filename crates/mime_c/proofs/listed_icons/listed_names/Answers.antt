use Rattle.std.proofs.Common.{inl, inr}
use Rattle.mime_c.proofs.listed_icons.listed_names.Goals as goal

pub returns-in-Err-generic_icon-clause-promises : goal.returns-in-Err-generic_icon-clause-promises
returns-in-Err-generic_icon-clause-promises c =
    let is = c.in-Err-generic_icon.ensures in
    record {
      icon = λ offsets icons header stand. tt;
      generic = λ offsets icons header stand. tt;
      need = λ offsets icons generic header first second. absurd (is.answer offsets generic header second);
      given = inr is.given;
    }

pub returns-in-Err-clause-promises : goal.returns-in-Err-clause-promises
returns-in-Err-clause-promises c =
    let is = c.in-Err.ensures in
    record {
      icon = λ offsets icons header stand. tt;
      generic = λ offsets icons header stand. tt;
      need = λ offsets icons generic header first second. absurd (is.answer offsets icons header first);
      given = inl is.given;
    }
