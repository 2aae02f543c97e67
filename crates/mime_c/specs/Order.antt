-- The numbers of checking orders; the header for C has the same ones, with MIMELOOK_ and their names in capitals.
use Rattle.std.specs.Prelude.{ℕ, ◌==◌, if◌then◌else◌, Option, None, Some}
use Rattle.mime_lookup.specs.declared.order.Order.{Order}
use Rattle.mime_lookup.specs.declared.order.Order.TheVariants.{AllGlobs, GlobsFirst, MagicFirst}

-- the order of a number, where there is one
abbrev pub numbered_order : ℕ → Option Order
numbered_order number =
    if number == 0 then Some GlobsFirst
    else if number == 1 then Some MagicFirst
    else if number == 2 then Some AllGlobs
    else None
