-- Why a line gives no answer, from why the line itself or one of its children gives none.
use Rattle.std.proofs.Common.{◌≡◌, ℕ, suc, ◌+◌, ◌≤◌, List, arith, refl, sym}
use Rattle.mime_base.specs.Cache.Bytes.{field}
use Rattle.mime_base.specs.declared.magic.host.Host.{Host}
use Rattle.mime_view.specs.Magic.{IsLineFault, IsLinesFault, IsOwnFault}
use Rattle.mime_view.specs.declared.budget.Budget.{Budget}
use Rattle.mime_view.specs.declared.fault.CacheFault.{CacheFault}

-- a line's own fault
pub own_fault : (c : List ℕ) (at level : ℕ) (content : List ℕ) (host : Host) (after : Budget) (e : CacheFault) → level ≤ 63
    → IsOwnFault c at level content host after e → IsLineFault c at level content host after e
own_fault c at level content host after e within fault =
    let same : level + 0 ≡ level = omega arith in
    record { steps = 0; within = omega (arith, within); r = at; leads = refl; fault = rw same fault }

-- a fault below it
pub fault_below : (c : List ℕ) (at first count level : ℕ) (content : List ℕ) (host : Host) (after : Budget) (e : CacheFault)
    → count ≡ field c at 6 → first ≡ field c at 7 → IsLinesFault c first count (level + 1) content host after e
    → IsLineFault c at level content host after e
fault_below c at first count level content host after e number place (i, one, child) =
    let deeper : level + 1 + child.steps ≡ level + suc child.steps = omega arith in
    record {
      steps = suc child.steps;
      within = omega (arith, child.within);
      r = child.r;
      leads = (i, rw (sym number) one, rw (sym place) child.leads);
      fault = rw (sym deeper) child.fault;
    }
