use Rattle.std.proofs.Common.{refl}
use Rattle.std.proofs.lemmas.Result.{err_from_is_err_and}
use Rattle.mime_tool.proofs.DirectoryLemmas.DirectorySteps.{aliases_read, aliases_unread, generic_read, generic_unread, globs_read, globs_unread}
use Rattle.mime_tool.proofs.DirectoryLemmas.DirectorySteps.{icons_read}
use Rattle.mime_tool.proofs.DirectoryLemmas.DirectorySteps.{icons_unread, magic_read, magic_unread, subclasses_read, subclasses_unread}
use Rattle.mime_tool.proofs.directories.read_directory.Goals as goal

pub returns-in_err-globs : goal.returns-in_err-globs
returns-in_err-globs g c =
    let e = err_from_is_err_and c.from_residual.result c.from_residual.ensures.1 in
    let dir = c.args.directory.now in
    rw (e.1, e.2) (globs_unread dir _ _ _ c.in_err-globs.ensures)

pub returns-in_err-magic : goal.returns-in_err-magic
returns-in_err-magic g c =
    let e = err_from_is_err_and c.from_residual-in_err-magic.result c.from_residual-in_err-magic.ensures.1 in
    let dir = c.args.directory.now in
    rw (e.1, e.2) (globs_read dir _ _ _ c.in_ok-globs.globs _ c.in_ok-globs.ensures
    (magic_unread dir _ _ _ _ c.in_err-magic.ensures))

pub returns-in_err-aliases : goal.returns-in_err-aliases
returns-in_err-aliases g c =
    let e = err_from_is_err_and c.from_residual-in_err-aliases.result c.from_residual-in_err-aliases.ensures.1 in
    let dir = c.args.directory.now in
    rw (e.1, e.2) (globs_read dir _ _ _ c.in_ok-globs.globs _ c.in_ok-globs.ensures
    (magic_read dir _ _ _ _ c.in_ok-magic.magic _ c.in_ok-magic.ensures
    (aliases_unread dir _ _ _ _ _ c.in_err-aliases.ensures)))

pub returns-in_err-subclasses : goal.returns-in_err-subclasses
returns-in_err-subclasses g c =
    let e = err_from_is_err_and c.from_residual-in_err-subclasses.result c.from_residual-in_err-subclasses.ensures.1 in
    let dir = c.args.directory.now in
    rw (e.1, e.2) (globs_read dir _ _ _ c.in_ok-globs.globs _ c.in_ok-globs.ensures
    (magic_read dir _ _ _ _ c.in_ok-magic.magic _ c.in_ok-magic.ensures
    (aliases_read dir _ _ _ _ _ c.in_ok-aliases.aliases _ c.in_ok-aliases.ensures
    (subclasses_unread dir _ _ _ _ _ _ c.in_err-subclasses.ensures))))

pub returns-in_err-icons : goal.returns-in_err-icons
returns-in_err-icons g c =
    let e = err_from_is_err_and c.from_residual-in_err-icons.result c.from_residual-in_err-icons.ensures.1 in
    let dir = c.args.directory.now in
    rw (e.1, e.2) (globs_read dir _ _ _ c.in_ok-globs.globs _ c.in_ok-globs.ensures
    (magic_read dir _ _ _ _ c.in_ok-magic.magic _ c.in_ok-magic.ensures
    (aliases_read dir _ _ _ _ _ c.in_ok-aliases.aliases _ c.in_ok-aliases.ensures
    (subclasses_read dir _ _ _ _ _ _ c.in_ok-subclasses.subclasses _ c.in_ok-subclasses.ensures
    (icons_unread dir _ _ _ _ _ _ _ c.in_err-icons.ensures)))))

pub returns-in_err-generic_icons : goal.returns-in_err-generic_icons
returns-in_err-generic_icons g c =
    let e = err_from_is_err_and c.from_residual-in_err-generic_icons.result c.from_residual-in_err-generic_icons.ensures.1 in
    let dir = c.args.directory.now in
    rw (e.1, e.2) (globs_read dir _ _ _ c.in_ok-globs.globs _ c.in_ok-globs.ensures
    (magic_read dir _ _ _ _ c.in_ok-magic.magic _ c.in_ok-magic.ensures
    (aliases_read dir _ _ _ _ _ c.in_ok-aliases.aliases _ c.in_ok-aliases.ensures
    (subclasses_read dir _ _ _ _ _ _ c.in_ok-subclasses.subclasses _ c.in_ok-subclasses.ensures
    (icons_read dir _ _ _ _ _ _ _ c.in_ok-icons.icons _ c.in_ok-icons.ensures
    (generic_unread dir _ _ _ _ _ _ _ _ c.in_err-generic_icons.ensures))))))

pub returns : goal.returns
returns g c =
    let dir = c.args.directory.now in
    globs_read dir _ _ _ c.in_ok-globs.globs _ c.in_ok-globs.ensures
    (magic_read dir _ _ _ _ c.in_ok-magic.magic _ c.in_ok-magic.ensures
    (aliases_read dir _ _ _ _ _ c.in_ok-aliases.aliases _ c.in_ok-aliases.ensures
    (subclasses_read dir _ _ _ _ _ _ c.in_ok-subclasses.subclasses _ c.in_ok-subclasses.ensures
    (icons_read dir _ _ _ _ _ _ _ c.in_ok-icons.icons _ c.in_ok-icons.ensures
    (generic_read dir _ _ _ _ _ _ _ c.in_ok-generic_icons.generic_icons _ refl c.in_ok-generic_icons.ensures)))))
