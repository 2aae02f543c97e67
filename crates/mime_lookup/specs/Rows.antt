-- Worked rows of the records that a lookup may take, of the types that are fixed and of the marks of names, which compute.
use Rattle.std.specs.Prelude.{◌≡◌, ℕ, ◌+◌, ◌*◌, true, false, refl, codes, List, [], ◌∷◌, ◌++◌, get_or, length, None}
use Rattle.std.specs.List.{list_all}
use Rattle.mime_base.specs.Database.{PlainDatabase}
use Rattle.mime_base.specs.Kept.Classes.{class_of}
use Rattle.mime_base.specs.Magic.{bare, line, line_from}
use Rattle.mime_base.specs.Magic.Textual.{looks_textual}
use Rattle.mime_base.specs.Names.{is_type_name}
use Rattle.mime_base.specs.declared.database.rule.GlobRule.{GlobRule}
use Rattle.mime_lookup.specs.Affords.{magic_records, rule_records}
use Rattle.mime_lookup.specs.Cached.{fixed_kinds}
use Rattle.mime_lookup.specs.Marks.{mark}
use Rattle.mime_lookup.specs.Sniffing.{sniffed_by_bytes}

-- a rule of a pattern
abbrev rule : List ℕ → GlobRule
rule pattern = record { weight = 50; kind = codes "t/t"; pattern = pattern; cased = false }

-- a database of these rules, and of two sections: of one line, and of two lines with a child of the first
abbrev of_rules : List GlobRule → PlainDatabase
of_rules rules = record {
  rules = rules;
  aliases = [];
  parents = [];
  sections = record { priority = 50; kind = codes "t/a"; lines = line (line_from 0 1 1 (codes "a") None) bare bare }
      ∷ record {
        priority = 50;
        kind = codes "t/b";
        lines = line (line_from 0 1 1 (codes "b") None) (line (line_from 1 1 1 (codes "c") None) bare bare)
            (line (line_from 0 1 1 (codes "d") None) bare bare);
      } ∷ [];
  icons = [];
  generic_icons = [];
}

-- a literal takes 2, an ending 2 for its leaf and for each of its bytes, and a general pattern 1
records_of_literal : rule_records (of_rules (rule (codes "mk") ∷ [])) ≡ 2
unfolding class_of
records_of_literal = refl

records_of_ending : rule_records (of_rules (rule (codes "*.gz") ∷ [])) ≡ 2 * 4
unfolding class_of
records_of_ending = refl

records_of_general : rule_records (of_rules (rule (codes "m[ak]*") ∷ [])) ≡ 1
unfolding class_of
records_of_general = refl

-- endings share the nodes of what they have in common
records_of_shared : rule_records (of_rules (rule (codes "*.gz") ∷ rule (codes "*.tar.gz") ∷ rule (codes "mk") ∷ [])) ≡ 2 * 9 + 2
unfolding class_of
records_of_shared = refl

-- one for each of 2 sections and 4 lines
records_of_magic : magic_records (of_rules []) ≡ 2 + 4
records_of_magic = refl

-- the fixed types are those of a content that looks like nothing else, of an empty one, and of a text
fixed_bytes : get_or fixed_kinds 0 [] ≡ sniffed_by_bytes (0 ∷ [])
unfolding looks_textual
fixed_bytes = refl

fixed_empty : get_or fixed_kinds 1 [] ≡ sniffed_by_bytes []
fixed_empty = refl

fixed_text : get_or fixed_kinds 2 [] ≡ sniffed_by_bytes (codes "hi" ++ 10 ∷ [])
unfolding looks_textual
fixed_text = refl

-- there are just these three, and each is the name of a type
fixed_are_three : length fixed_kinds ≡ 3
fixed_are_three = refl

fixed_are_types : list_all is_type_name fixed_kinds ≡ true
unfolding is_type_name
fixed_are_types = refl

-- a name of fewer than eight bytes has the first mark
mark_short : mark (codes "text/vt") ≡ 0
unfolding mark
mark_short = refl

-- `ext/plai` times 3, and `xt/plain`
mark_plain : mark (codes "text/plain") ≡ 6178
unfolding mark
mark_plain = refl

-- eight bytes are its middle and its last
mark_source : mark (codes "text/x-c") ≡ 15013
unfolding mark
mark_source = refl
