-- The runs of questions, by what was read.
use Rattle.std.proofs.Common.{◌≡◌, ℕ, Bool, List, Ok, ap, inl, refl}
use Rattle.mime_lookup.specs.Icons.{PlainIcons, icons_of, plain_icons_of}
use Rattle.mime_lookup.specs.declared.cached.icons.Icons.{Icons}
use Rattle.mime_tool.specs.Icon.{AreIconsOf, IsIconBy, IsIconOver, RefusesIcons, printed_icons}
use Rattle.mime_tool.specs.IsA.{IsAnswerBy, IsAnswerOver, IsSaid, IsSaidBy, RefusesPairs, answer_run}
use Rattle.mime_tool.specs.Run.{printed}
use Rattle.mime_tool.specs.Sources.{GivesByData, IsByData}
use Rattle.mime_tool.specs.declared.sources.SourceData.{SourceData}
use Rattle.mime_tool.specs.declared.sources.SourceData.TheVariants as data_of

-- a line that says what is given is the run of `isa`
pub says_by : (kind base : List ℕ) (given : SourceData) (says : Bool)
    → GivesByData RefusesPairs (λ cache. IsSaid cache kind base) (λ b. IsSaidBy b kind base) given (Ok says)
    → (files : List (List ℕ)) → IsByData (λ path. IsAnswerOver path kind base) (IsAnswerBy kind base) given files (answer_run says)
says_by kind base (data_of.Cache path bytes) says p files = inl (says, p, refl)
says_by kind base (data_of.Database database) says p files = (says, p, refl)

-- lines of icons that are given are the run of `icon`
pub icons_by_data : (kind : List ℕ) (given : SourceData) (icons : Icons)
    → GivesByData RefusesIcons (λ cache icons. AreIconsOf cache kind (plain_icons_of icons))
    (λ b icons. plain_icons_of icons ≡ icons_of b kind) given (Ok icons)
    → (files : List (List ℕ))
    → IsByData (λ path. IsIconOver path kind) (IsIconBy kind) given files (printed (printed_icons (plain_icons_of icons)))
icons_by_data kind (data_of.Cache path bytes) icons p files = inl (plain_icons_of icons, p, refl)
icons_by_data kind (data_of.Database database) icons p files = ap (λ (icons : PlainIcons). printed (printed_icons icons)) p
