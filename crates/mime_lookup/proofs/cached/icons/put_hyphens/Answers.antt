use Rattle.mime_lookup.proofs.AncestryLemmas.Hyphens.{hyphens-more}
use Rattle.mime_lookup.proofs.cached.icons.put_hyphens.Goals as goal

pub loop-byte-preserved : goal.loop-byte-preserved
loop-byte-preserved c =
    hyphens-more c.args.name.now c.loop-byte.name c.loop-byte.byte-index c.hyphen_for_slash.result c.loop-byte-test.true
    c.loop-byte.invariant c.hyphen_for_slash.ensures
