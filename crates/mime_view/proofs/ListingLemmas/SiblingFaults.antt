-- Why siblings are not listed, by one of them and by what is below it.
use Rattle.std.proofs.Common.{◌≡◌, ℕ, suc, ◌+◌, ◌*◌, ◌<◌, List, subst, arith}
use Rattle.mime_base.specs.Cache.Bytes.{field}
use Rattle.mime_view.specs.Listing.Faults.{IsNode, IsSiblingFault, IsSiblingsFault, Leads}
use Rattle.mime_view.specs.declared.fault.CacheFault.{CacheFault}

-- a sibling itself
pub here : (c : List ℕ) (at above left : ℕ) (e : CacheFault) → IsSiblingFault c at above left e → IsSiblingsFault c at 1 above left e
here c at above left e is =
    let same : at ≡ at + 12 * 0 = omega arith in
    let none : above + 0 ≡ above = omega arith in
    record { i = 0; within = omega arith; steps = 0; r = at; leads = same; fault = rw none is }

-- what is below a node
pub below : {c : List ℕ} {at above first count deeper left : ℕ} {e : CacheFault} → first ≡ field c at 2 → count ≡ field c at 1
    → deeper ≡ suc above → IsNode c at → IsSiblingsFault c first count deeper left e → IsSiblingsFault c at 1 above left e
below {c = c} {at = at} {above = above} {deeper = deeper} {left = left} {e = e} is2 is1 more node deep =
    let same : at ≡ at + 12 * 0 = omega arith in
    let size : deeper + deep.steps ≡ above + suc deep.steps = omega (arith, more) in
    let leads : Leads c deep.steps (field c at 2 + 12 * deep.i) deep.r =
    subst (λ (n : ℕ). Leads c deep.steps (n + 12 * deep.i) deep.r) is2 deep.leads in
    let within : deep.i < field c at 1 = omega (arith, deep.within, is1) in
    record {
      i = 0;
      within = omega arith;
      steps = suc deep.steps;
      r = deep.r;
      leads = subst (λ (n : ℕ). Leads c (suc deep.steps) n deep.r) same (node, (deep.i, within, leads));
      fault = subst (λ (n : ℕ). IsSiblingFault c deep.r n left e) size deep.fault;
    }

-- one of some siblings
pub among : {c : List ℕ} {first count above now left : ℕ} {e : CacheFault} (i : ℕ) → i < count → now ≡ above
    → IsSiblingsFault c (first + 12 * i) 1 now left e → IsSiblingsFault c first count above left e
among {c = c} {first = first} {left = left} {e = e} i l alike deep =
    let within = deep.within in
    let same : first + 12 * i + 12 * deep.i ≡ first + 12 * i = omega arith in
    record {
      i = i;
      within = l;
      steps = deep.steps;
      r = deep.r;
      leads = subst (λ (n : ℕ). Leads c deep.steps n deep.r) same deep.leads;
      fault = subst (λ (n : ℕ). IsSiblingFault c deep.r (n + deep.steps) left e) alike deep.fault;
    }
