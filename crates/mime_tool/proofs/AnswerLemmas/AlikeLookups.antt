-- Lookups that are the same but for what was prepared.
use Rattle.std.proofs.Common.{◌≡◌, Bool, refl, sym, ap, ◌∙◌}
use Rattle.mime_base.specs.Database.{plain_database}
use Rattle.mime_lookup.specs.declared.order.Order.{Order}
use Rattle.mime_request.specs.declared.request.Output.{Output}
use Rattle.mime_tool.specs.Line.{PlainLookup, with_inode}
use Rattle.mime_tool.specs.LineSteps.{LooksAlike, Source, cached, lookup_in, plain_lookup, source_of, whole}
use Rattle.mime_tool.specs.Plain.{lookup_over}
use Rattle.mime_tool.specs.Types.{lookup_by}
use Rattle.mime_tool.specs.declared.line.lookup.Data.{Data}
use Rattle.mime_tool.specs.declared.line.lookup.Data.TheVariants as data_of
use Rattle.mime_tool.specs.declared.line.lookup.Lookup.{Lookup}

-- how FILEs are looked up in this
abbrev lookup_from : Source → Bool → Output → Order → PlainLookup
lookup_from (whole database) name_only output order = lookup_over name_only output order (plain_database database)
lookup_from (cached path bytes cost) name_only output order = lookup_by path name_only cost output order bytes

-- what was prepared of the data says nothing
in_source : (by : Data) (lookup : Lookup) → lookup_in by lookup ≡ lookup_from (source_of by) lookup.name_only lookup.output lookup.order
in_source (data_of.Database database) lookup = refl
in_source (data_of.Indexed index) lookup = refl
in_source (data_of.Magic magic) lookup = refl
in_source (data_of.Cache path bytes cost) lookup = refl
in_source (data_of.Opened path cache cost) lookup = refl

-- so FILEs are looked up alike
pub looked_up_alike : (a b : Lookup) → LooksAlike a b → plain_lookup a ≡ plain_lookup b
looked_up_alike a b is =
    ap (with_inode a.inode) (in_source a.by a)
    ∙ ap (λ (s : Source). with_inode a.inode (lookup_from s a.name_only a.output a.order)) is.source
    ∙ ap (λ (n : Bool). with_inode a.inode (lookup_from (source_of b.by) n a.output a.order)) is.name_only
    ∙ ap (λ (o : Output). with_inode a.inode (lookup_from (source_of b.by) b.name_only o a.order)) is.output
    ∙ ap (λ (o : Order). with_inode a.inode (lookup_from (source_of b.by) b.name_only b.output o)) is.order
    ∙ ap (λ (i : Bool). with_inode i (lookup_from (source_of b.by) b.name_only b.output b.order)) is.inode
    ∙ sym (ap (with_inode b.inode) (in_source b.by b))
