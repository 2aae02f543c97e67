-- Each list has what the directory adds to it.
use Rattle.std.proofs.Common.{◌∙◌, ◌++◌, ap}
use Rattle.mime_text.specs.Merging.{is_among}
use Rattle.mime_text.proofs.merging.Lists.add.Goals as goal

pub returns : goal.returns
returns c = record {
  rules = record {
    kept = c.in_ok-add.ensures.items;
    kinds = λ kind.
        c.in_ok-add.ensures.deleted kind
        ∙ ap (λ more. is_among (c.args.self.now.rules.deleted ++ more) kind) c.deref.ensures.value;
  };
  sections = record {
    kept = c.in_ok-add-2.ensures.items;
    kinds = λ kind.
        c.in_ok-add-2.ensures.deleted kind
        ∙ ap (λ more. is_among (c.args.self.now.sections.deleted ++ more) kind) c.deref-2.ensures.value;
  };
  aliases = c.in_ok-append.ensures;
  subclasses = c.in_ok-append-2.ensures;
  icons = c.in_ok-append-3.ensures;
  generic_icons = c.in_ok-append-4.ensures;
}
