use Rattle.std.proofs.Common.{◌≡◌, refl}
use Rattle.std.proofs.lemmas.Result.{err_from_is_err_and}
use Rattle.mime_lookup.specs.Icons.{plain_icons_of}
use Rattle.mime_tool.specs.Icon.{printed_icons}
use Rattle.mime_tool.specs.Run.{Run, printed}
use Rattle.mime_tool.proofs.DeskLemmas.Desks.{ends_undone}
use Rattle.mime_tool.proofs.icon.show.Goals as goal

pub returns-in_err-print_icons : goal.returns-in_err-print_icons
returns-in_err-print_icons g c =
    let e = err_from_is_err_and c.from_residual.result c.from_residual.ensures.1 in
    let put = rw (c.as_slice.ensures, c.as_slice-2.ensures) at c.in_err-print_icons.ensures in
    let lines = printed (printed_icons (plain_icons_of c.args.icons.now)) in
    rw (e.1, e.2) (record {
      same_files = put.same_files;
      same_setting = put.same_setting;
      sinks = ends_undone (Unit {0}) (λ (run : Run). run ≡ lines) lines _ _ _ refl put.sinks;
    })

pub returns : goal.returns
returns g c =
    let put = rw (c.as_slice.ensures, c.as_slice-2.ensures) at c.in_ok-print_icons.ensures in
    record {
      same_files = put.same_files;
      same_setting = put.same_setting;
      sinks = (printed (printed_icons (plain_icons_of c.args.icons.now)), refl, refl, refl, put.sinks);
    }
