-- From what is read back of a cache to what `check` says of it.
use Rattle.std.proofs.Common.{◌≡◌, ℕ, IfErr, IfOk, List, Ok, Err, Result, arith, inl, inr, refl}
use Rattle.mime_base.specs.Database.{PlainDatabase}
use Rattle.mime_base.specs.Database.Limits.{IsWithinLimits}
use Rattle.mime_base.specs.Format.Packed.{Packed}
use Rattle.mime_base.specs.Format.Spells.{Spells}
use Rattle.mime_load.specs.FirstUnread.{IsFirstUnread}
use Rattle.mime_load.specs.Lent.{plain_lists}
use Rattle.mime_load.specs.declared.lists.Lists.{Lists}
use Rattle.mime_load.specs.declared.part.LoadFault.{LoadFault}
use Rattle.mime_load.specs.declared.part.LoadFault.TheVariants as fault
use Rattle.mime_load.specs.declared.part.Part.{Part}
use Rattle.mime_tool.specs.Check.{IsCheckOver, IsFew, IsReadBack, IsTold, ReadsBack}
use Rattle.mime_tool.specs.Run.{Run}
use Rattle.mime_tool.proofs.CheckLemmas.RuleCounts.{rules_within}

-- what the clauses of reading back say together
pub reads_back : (cache : List ℕ) (read : Result Lists LoadFault) → IfOk read (λ lists. Spells cache (plain_lists lists))
    → IfOk read (λ lists. Packed cache (plain_lists lists)) → IfOk read (λ lists. IsWithinLimits (plain_lists lists))
    → IfErr read (λ e. (part : Part) → e ≡ fault.NoDatabase part → IsFirstUnread cache part)
    → ((b : PlainDatabase) → IsWithinLimits b → Spells cache b → Packed cache b → IfErr read (λ e. e ≡ fault.OutOfMemory))
    → ReadsBack cache read
reads_back cache (Ok lists) spelled packed limits first written = record { spelled = spelled; packed = packed; limits = limits }
reads_back cache (Err (fault.NoDatabase part)) spelled packed limits first written = record {
  first = first part refl;
  none = λ b back. absurd (cc (written b back.limits back.spelled back.packed));
}
reads_back cache (Err fault.OutOfMemory) spelled packed limits first written = tt

-- what is read back has no more rules and lines than the cache has bytes
pub few_read : (cache : List ℕ) (b : PlainDatabase) → IsReadBack cache b → IsFew b
few_read cache b back =
    let records = back.packed.records in
    let within = back.spelled.within in
    let all = rules_within b.rules in
    record { rules = omega (arith, records, within, all); lines = omega (arith, records, within) }

-- the same of what was read back, if anything was
pub few_lists : (cache : List ℕ) (read : Result Lists LoadFault) → ReadsBack cache read → IfOk read (λ lists. IsFew (plain_lists lists))
few_lists cache (Ok lists) back = few_read cache (plain_lists lists) back
few_lists cache (Err f) back = tt

-- what is told of it is a run of `check`
pub told_checked : (path cache : List ℕ) (read : Result Lists LoadFault) (files : List (List ℕ)) (run : Run)
    → ReadsBack cache read → IsTold path read run → IsCheckOver path cache files run
told_checked path cache (Ok lists) files run back is = inl (inl (plain_lists lists, back, is))
told_checked path cache (Err (fault.NoDatabase part)) files run back is = inl (inr (part, back, is))
told_checked path cache (Err fault.OutOfMemory) files run back is = absurd is
