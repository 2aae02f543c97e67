-- Faults that do not say that the budget is used up.
use Rattle.std.proofs.Common.{◌≡◌, ◌∙◌, ℕ, ◌+◌, ◌*◌, List, inl, inr, sym, subst}
use Rattle.mime_base.specs.Cache.Bytes.{field}
use Rattle.mime_base.specs.declared.cache.byte_fault.ByteFault.{ByteFault}
use Rattle.mime_base.specs.declared.cache.byte_fault.ByteFault.TheVariants as byte
use Rattle.mime_lookup.specs.StepFaults.{IsAliasFault}
use Rattle.mime_view.specs.Faults.{cache_fault}
use Rattle.mime_view.specs.Lists.{IsKeysFault, IsNamedFault, IsNoText}
use Rattle.mime_view.specs.Opening.{IsOpenFault}
use Rattle.mime_view.specs.Steps.{list_part}
use Rattle.mime_view.specs.SuffixTree.{tree_part}
use Rattle.mime_view.specs.declared.fault.CacheFault.{CacheFault}
use Rattle.mime_view.specs.declared.fault.CacheFault.TheVariants.{OutOfMemory, OutOfRange, Spent}

-- a place, a text and a header
pub no_place : (at : ℕ) → OutOfRange at ≡ Spent → ⊥
no_place at same = absurd cc

-- a fault of a cache's bytes is not that the budget is spent
no_byte : (f : ByteFault) → cache_fault f ≡ Spent → ⊥
no_byte (byte.OutOfRange at) same = absurd cc
no_byte (byte.LongText at) same = absurd cc

-- nor is want of memory
pub no_memory : (e : CacheFault) → e ≡ OutOfMemory → e ≡ Spent → ⊥
no_memory e memory same =
    let both : OutOfMemory ≡ Spent = sym memory ∙ same in
    absurd cc

-- nor the fault of a text
pub no_text : (c : List ℕ) (at : ℕ) (e : CacheFault) → IsNoText c at e → e ≡ Spent → ⊥
no_text c at e text same = no_byte text.fault (sym text.is ∙ same)

-- nor the header's
pub no_header : (c : List ℕ) (e : CacheFault) → IsOpenFault c e → e ≡ Spent → ⊥
no_header c e is same = subst (IsOpenFault c) same is

-- nor that of a text that a record of a list names
pub no_named : (c : List ℕ) (first size count number : ℕ) (e : CacheFault) → IsNamedFault c first size count number e → e ≡ Spent → ⊥
no_named c first size count number e named same = no_text c (field c (first + size * named.i) number) e named.text same

-- nor the fault of a list's keys
pub no_keys : (c : List ℕ) (at : ℕ) (e : CacheFault) → IsKeysFault c at e → e ≡ Spent → ⊥
no_keys c at e (inl list) same = no_place at (sym list.is ∙ same)
no_keys c at e (inr key) same = no_named c (at + 4) 8 (field c at 0) 0 e key same

-- nor an alias step's
pub no_alias : (c : List ℕ) (e : CacheFault) → IsAliasFault c e → e ≡ Spent → ⊥
no_alias c e (inl keys) same = no_keys c (field c 0 1) e keys same
no_alias c e (inr name) same = no_named c (field c 0 1 + 4) 8 (field c (field c 0 1) 0) 1 e name same

-- nor the fault of a list of rules
pub no_list : (c : List ℕ) (at : ℕ) (e : CacheFault) → (list_part c at).Fault e → e ≡ Spent → ⊥
no_list c at e (inl list) same = no_place at (sym list.is ∙ same)
no_list c at e (inr text) same = no_named c (at + 4) 12 (field c at 0) 0 e text same

-- nor the tree's
pub no_tree : (c : List ℕ) (at : ℕ) (name : List ℕ) (e : CacheFault) → (tree_part c at name).Fault e → e ≡ Spent → ⊥
no_tree c at name e (inl head) same = no_place at (sym head.1 ∙ same)
no_tree c at name e (inr (inl roots)) same = no_place (field c at 1) (sym roots.is ∙ same)
no_tree c at name e (inr (inr (depth, (block, named, outside)))) same = no_place block.first (sym outside.is ∙ same)
