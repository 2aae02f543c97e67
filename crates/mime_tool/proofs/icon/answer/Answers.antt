use Rattle.std.proofs.Common.{◌≡◌, refl}
use Rattle.std.proofs.lemmas.Result.{err_from_is_err_and}
use Rattle.mime_lookup.specs.Icons.{icons_of, plain_icons_of}
use Rattle.mime_lookup.specs.declared.cached.icons.Icons.{Icons}
use Rattle.mime_tool.specs.Icon.{AreIconLines, AreIconsOf, IsIconBy, IsIconOver, RefusesIcons, printed_icons}
use Rattle.mime_tool.specs.Run.{printed}
use Rattle.mime_tool.proofs.RunLemmas.AnswersByData.{icons_by_data}
use Rattle.mime_tool.proofs.RunLemmas.Questions.{data_asked, data_unasked}
use Rattle.mime_tool.proofs.icon.answer.Goals as goal

pub returns-in_err-icons : goal.returns-in_err-icons
returns-in_err-icons g c =
    let e = err_from_is_err_and c.from_residual.result c.from_residual.ensures.1 in
    let kind = c.args.kind.now in
    rw (e.1, e.2) (record {
      same_files = refl;
      same_setting = refl;
      sinks = data_unasked Icons RefusesIcons (λ cache icons. AreIconsOf cache kind (plain_icons_of icons))
          (λ b icons. plain_icons_of icons ≡ icons_of b kind) (λ cache. AreIconLines cache kind) (IsIconBy kind) c.args.given.now _ _
          c.in_err-icons.ensures;
    })

pub returns : goal.returns
returns g c =
    let told = c.show.ensures in
    let kind = c.args.kind.now in
    let icons = c.in_ok-icons.icons in
    record {
      same_files = told.same_files;
      same_setting = told.same_setting;
      sinks = data_asked (λ path. IsIconOver path kind) (IsIconBy kind) c.args.given.now
          (printed (printed_icons (plain_icons_of icons))) _ _ _ (icons_by_data kind c.args.given.now icons c.in_ok-icons.ensures) told.sinks;
    }
