-- The cache that was made by hand spells its database, and is packed.
use Rattle.std.proofs.Common.{[], ◌∷◌, refl, lit≤, codes}
use Rattle.mime_base.specs.Cache.Bytes.{Stands, card_bytes}
use Rattle.mime_base.specs.Kept.Classes.{class_of}
use Rattle.mime_base.specs.Database.Subclass.{parents}
use Rattle.mime_base.specs.Format.Header.{HeaderAt, Offsets}
use Rattle.mime_base.specs.Format.Magic.{MagicAt}
use Rattle.mime_base.specs.Format.Packed.{Packed}
use Rattle.mime_base.specs.Format.Pairs.{PairsAt}
use Rattle.mime_base.specs.Format.Parents.{IsName, ParentsAt}
use Rattle.mime_base.specs.Format.Records.{ListAt}
use Rattle.mime_base.specs.Format.Rules.{GlobsAt, LiteralsAt}
use Rattle.mime_base.specs.Format.Sample.{mk_rule, sample, sample_database}
use Rattle.mime_base.specs.Format.Stored.{stored_text}
use Rattle.mime_base.specs.Format.Spells.{Spells}
use Rattle.mime_base.proofs.FormatLemmas.SampleParts.{stands, cards_at, text_at, one_is_sorted, first_text, unmoved, no_icons}
use Rattle.mime_base.proofs.FormatLemmas.SampleTree.{suffix_tree}

-- where the lists of the sample stand
abbrev offsets : Offsets
offsets = record {
  aliases = 40;
  parents = 52;
  literals = 72;
  tree = 88;
  globs = 144;
  magic = 148;
  namespaces = 208;
  icons = 212;
  generic_icons = 216;
}

-- the header of the sample
header : HeaderAt (Stands sample) offsets
unfolding card_bytes
header = cards_at 0 _ refl refl refl

-- its aliases
aliases : PairsAt (Stands sample) 40 sample_database.aliases
unfolding card_bytes
aliases = record {
  entries = sample_database.aliases;
  sorted = record { permuted = unmoved _; in_order = one_is_sorted first_text (codes "t/h", codes "t/g"); ties = λ text. refl };
  stand = record {
    count = cards_at 40 _ refl refl refl;
    records = (_, cards_at 44 _ refl refl refl, (228, 220, refl, text_at 228 _ refl refl refl refl, text_at 220 _ refl refl refl refl), tt);
  };
}

-- the parents of its one subclass
kind_parents : ListAt (Stands sample) 4 (IsName (Stands sample)) 64 (parents sample_database.parents (codes "t/g"))
unfolding card_bytes parents
kind_parents = record {
  count = cards_at 64 _ refl refl refl;
  records = (_, cards_at 68 _ refl refl refl, (224, refl, text_at 224 _ refl refl refl refl), tt);
}

-- its subclass pairs
parent_list : ParentsAt (Stands sample) 52 sample_database.parents
unfolding card_bytes
parent_list = record {
  kinds = codes "t/g" ∷ [];
  permuted = unmoved _;
  in_order = one_is_sorted (λ kind. kind) (codes "t/g");
  stand = record {
    count = cards_at 52 _ refl refl refl;
    records = (_, cards_at 56 _ refl refl refl, (220, 64, refl, text_at 220 _ refl refl refl refl, kind_parents), tt);
  };
}

-- its literal list
literals : LiteralsAt (Stands sample) 72 sample_database.rules
unfolding card_bytes class_of
literals = record {
  entries = mk_rule ∷ [];
  sorted = record { permuted = unmoved _; in_order = one_is_sorted stored_text mk_rule; ties = λ text. refl };
  stand = record {
    count = cards_at 72 _ refl refl refl;
    records = (_, cards_at 76 _ refl refl refl, (232, 224, refl, text_at 232 _ refl refl refl refl, text_at 224 _ refl refl refl refl), tt);
  };
}

-- its glob list
globs : GlobsAt (Stands sample) 144 sample_database.rules
unfolding card_bytes class_of
globs = record { count = cards_at 144 _ refl refl refl; records = tt }

-- its magic list
magic : MagicAt (Stands sample) 148 sample_database.sections
unfolding card_bytes
magic = record {
  first = 160;
  head = cards_at 148 _ refl refl refl;
  stand = (
    _,
    cards_at 160 _ refl refl refl,
    (
      220,
      176,
      refl,
      text_at 220 _ refl refl refl refl,
      (236, 0, 0, cards_at 176 _ refl refl refl, stands 236 _ refl refl, refl, tt, tt),
    ),
    tt,
  );
}

-- its icons: none
no_icons_at_212 : PairsAt (Stands sample) 212 []
unfolding card_bytes
no_icons_at_212 = no_icons 212 (cards_at 212 _ refl refl refl)

-- its generic icons: none
no_icons_at_216 : PairsAt (Stands sample) 216 []
unfolding card_bytes
no_icons_at_216 = no_icons 216 (cards_at 216 _ refl refl refl)

-- the sample spells its database
pub sample_is_spelled : Spells sample sample_database
sample_is_spelled = record {
  within = lit≤ tt;
  offsets = offsets;
  header = header;
  aliases = aliases;
  parents = parent_list;
  literals = literals;
  tree = suffix_tree;
  globs = globs;
  magic = magic;
  icons = no_icons_at_212;
  generic_icons = no_icons_at_216;
}

-- and is packed
pub sample_is_packed : Packed sample sample_database
unfolding class_of
sample_is_packed = record { records = lit≤ tt; values = lit≤ tt }
