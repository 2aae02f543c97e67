use Rattle.std.proofs.Common.{◌≡◌, ◌+◌, ◌*◌, ℕ, List, [], length, Some, sym, ap, ap₂, ◌∙◌, arith, rules}
use Rattle.mime_base.specs.Cache.Bytes.{optional_mask, value_at}
use Rattle.mime_base.specs.Magic.Holds.{equals_from}
use Rattle.mime_base.specs.Magic.Ranges.{compared_from}
use Rattle.mime_base.specs.Magic.{line_from}
use Rattle.mime_base.specs.Meter.{raised}
use Rattle.mime_base.specs.declared.magic.host.Host.TheVariants.{Little}
use Rattle.mime_base.specs.declared.meter.Meter.{Meter}
use Rattle.mime_base.proofs.MagicLemmas.MostCompared.{compared_from-most}
use Rattle.mime_base.proofs.MagicLemmas.Ranges.{compared_from-anywhere, equals_from-anywhere}
use Rattle.mime_base.proofs.MagicLemmas.StatedLines.{length-inside, without_mask}
use Rattle.mime_base.proofs.cache.Counted.differs_at_once.Goals as goal

pub returns-clause-differs : goal.returns-clause-differs
returns-clause-differs c = λ yes host.
    let value = value_at c.args.self.now c.args.value.at c.args.value.size in
    let mask = optional_mask c.args.self.now c.args.value.mask_at c.args.value.size in
    let one : c.args.value.word ≡ 1 = omega arith in
    let is : c.in-Ok.bytes.now ≡ value =
    cc (c.in-Ok.ensures.given.1, c.self.view_is, c.from.ensures, c.from-size.ensures) in
    let none : mask ≡ [] = without_mask c.args.self.now c.args.value.mask_at c.args.value.size (omega arith) in
    sym (equals_from-anywhere c.args.start c.args.range c.args.value.word value (Some mask) host c.args.content.now c.args.start c.args.range
    ∙ ap₂ (λ (v m : List ℕ). equals_from (line_from 0 0 c.args.value.word v (Some m)) host c.args.content.now c.args.start c.args.range) (sym is) none
    ∙ ap (λ (w : ℕ). equals_from (line_from 0 0 w c.in-Ok.bytes.now (Some [])) host c.args.content.now c.args.start c.args.range) one
    ∙ c.windows_differing-windows.ensures.equal (omega arith) host)

pub returns-clause-counts : goal.returns-clause-counts
returns-clause-counts c = λ yes host.
    let value = value_at c.args.self.now c.args.value.at c.args.value.size in
    let mask = optional_mask c.args.self.now c.args.value.mask_at c.args.value.size in
    let one : c.args.value.word ≡ 1 = omega arith in
    let is : c.in-Ok.bytes.now ≡ value =
    cc (c.in-Ok.ensures.given.1, c.self.view_is, c.from.ensures, c.from-size.ensures) in
    let none : mask ≡ [] = without_mask c.args.self.now c.args.value.mask_at c.args.value.size (omega arith) in
    let counted = compared_from-anywhere c.args.start c.args.range c.args.value.word value (Some mask) host c.args.content.now c.args.start c.args.range
    ∙ ap₂ (λ (v m : List ℕ). compared_from (line_from 0 0 c.args.value.word v (Some m)) host c.args.content.now c.args.start c.args.range) (sym is) none
    ∙ ap (λ (w : ℕ). compared_from (line_from 0 0 w c.in-Ok.bytes.now (Some [])) host c.args.content.now c.args.start c.args.range) one
    ∙ c.windows_differing-windows.ensures.counted (omega arith) host in
    let added = ap (λ (m : Meter). m.bytes) c.add_bytes.ensures.added in
    record {
      nodes = search rules;
      bytes = added ∙ ap (raised c.args.meter.now.bytes) (sym counted);
      rises = search rules;
    }

pub returns-clause-limit : goal.returns-clause-limit
returns-clause-limit c =
    let bytes : List ℕ = c.in-Ok.bytes.now in
    let own = line_from 0 0 1 bytes (Some []) in
    let given = c.in-Ok.ensures.given in
    let size : length bytes ≡ c.args.value.size = length-inside _ bytes _ _ given.0 given.1 ∙ c.from-size.ensures in
    let product = ap (λ (n : ℕ). (length c.args.content.now + 1) * n) size in
    let most = compared_from-most own Little c.args.content.now c.args.start c.args.range in
    let counted = c.windows_differing-windows.ensures.counted (omega arith) Little in
    let added = ap (λ (m : Meter). m.bytes) c.add_bytes.ensures.added in
    omega (arith, product, most, counted, added)
