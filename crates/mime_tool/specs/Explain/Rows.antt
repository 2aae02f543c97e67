-- Lines of `explain`, computed by hand.
use Rattle.std.specs.Prelude.{◌≡◌, refl, ℕ, true, false, List, [], ◌∷◌, ◌++◌, Some, None, codes, decimal}
use Rattle.mime_base.specs.Database.Subclass.{resolved}
use Rattle.mime_base.specs.declared.database.rule.GlobRule.{GlobRule}
use Rattle.mime_lookup.specs.declared.order.Order.TheVariants.{ContentOnly}
use Rattle.mime_request.specs.declared.request.Output.{Output}
use Rattle.mime_tool.specs.Explain.{by_line, glob_line, magic_line, rule_lines, section_line}
use Rattle.mime_tool.specs.declared.explain.decision.DecidedBy.TheVariants as by

-- as it is printed without options
abbrev lines : Output
lines = record { null = false; brief = false; escape = false }

-- with `--escape`
abbrev escaped_lines : Output
escaped_lines = record { null = false; brief = false; escape = true }

-- t/z stands for t/tar
abbrev aliases : List (List ℕ × List ℕ)
aliases = (codes "t/z", codes "t/tar") ∷ []

-- a heavy rule of an alias, and a lighter one that is case-sensitive
abbrev of_tar : GlobRule
of_tar = record { weight = 80; kind = codes "t/z"; pattern = codes "*.tar.gz"; cased = false }

abbrev of_gz : GlobRule
of_gz = record { weight = 50; kind = codes "t/g"; pattern = codes "*.gz"; cased = true }

-- a rule that is kept, whose type is an alias
kept_alias : glob_line lines aliases true of_tar ≡ codes "  glob " ++ (decimal 80 ++ codes " *.tar.gz t/z kept -> t/tar\n")
unfolding resolved
kept_alias = refl

-- one that is case-sensitive, and not kept
cased_alone : glob_line lines aliases false of_gz ≡ codes "  glob " ++ (decimal 50 ++ codes " *.gz t/g cs\n")
unfolding resolved
cased_alone = refl

-- a pattern with a tab
escaped_pattern : glob_line escaped_lines [] true (record { weight = 0; kind = codes "t/g"; pattern = 42 ∷ 9 ∷ []; cased = true })
    ≡ codes "  glob " ++ (decimal 0 ++ codes " *\\011 t/g cs kept\n")
unfolding resolved
escaped_pattern = refl

-- no rule where the content alone is asked
no_rules : rule_lines lines aliases ContentOnly (of_tar ∷ []) (of_tar ∷ of_gz ∷ []) ≡ []
no_rules = refl

-- a section that holds, none, and no content
of_section : section_line lines aliases (Some (codes "t/z", 90)) [] ≡ codes "  magic " ++ (decimal 90 ++ codes " t/z -> t/tar\n")
unfolding resolved
of_section = refl

of_no_section : section_line lines aliases None [] ≡ codes "  magic none application/x-zerosize\n"
of_no_section = refl

of_no_content : magic_line lines aliases None None ≡ []
of_no_content = refl

-- what decides
by_two : by_line by.Both ≡ codes "  by both\n"
by_two = refl
