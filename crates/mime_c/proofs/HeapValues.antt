-- The machine values of a value on the heap, taken apart and put together, by value and behind a `&mut`. Assumes `Logic`.
use Rattle.std.proofs.Common.{◌≡◌, ℕ, List, [], ◌∷◌, ◌++◌, refl, subst, sym, ap}
use mathlib.Core.Bool.{true, ◌&&◌}
use lib.Dec.{T}
use seplogic.Ra.Ura.{Ura}
use mir.Syntax.{impl, tnil, dnil}
use mir.Raw.{raw as bare}
use mir.Val.{Val, vptr, vstruct, vcons, vnil, of_list, has_ty, WT}
use base.Logic.{never, fst∗}
use types.Logic.{Logic, sem}
use types.Kit.{Item, Goal, Seq, Step, step, ‵, ◌$◌, move, drop, fsplit, fjoin, fpick, fpack, feq_i, feq_l, Soaks, rewrite}
use denote.RattleType.{RattleType, Valss}
use denote.Builtin.{RawPtr}
use denote.Memory.{lone, cell_at, part_at, mem}
use denote.RawPtr.{Ptr, block_ptr, null_ptr, ptr_val, in_a_block}
use denote.Steps.{nothing, opens}
use denote.Param.{layout}
use denote.Param.Laws.{Laws}
use denote.Struct.Struct.{within}
use denote.Struct.Owning.{shape}
use Rattle.std.specs.declared.alloc.Allocator.{Ghosts}
use Rattle.std.proofs.alloc.Calls.{Al, handle_tells}
use Rattle.std.proofs.cell.Inside.{Good}
use Rattle.std.specs.Box.Ownership.{box_owns}
use Rattle.std.proofs.ResultValues.{and_tt}
use Rattle.mime_c.specs.contracts.database.heap_value.HeapValue as heaped
use base.Fraction.{full_share}
use base.Fml.{Lft, GName, Share, fsep, flft, fobs, fauth, fbor, fobor}
use types.SemTy.{Body as Borrowed}

-- the one machine value of a struct of two fields
abbrev pub both : Val → Val → Val
both v w = vstruct (vcons v (vcons w vnil))

module _ (R Z : RattleType) (L : Laws Z) (g : Ghosts Z.Denot) where
  -- a value on the heap, as the logic has it
  abbrev pub HeapRow : RattleType
  HeapRow = heaped.the_row R Z g

  -- the allocator with its laws
  abbrev al : Al
  al = record { row = Z; laws = L; g = g; d = impl [] tnil dnil; drops = impl [] tnil dnil }

  -- it has its type
  pub heap_good : (b o : ℕ) (h : Val) → Good (layout Z) h → T (has_ty (layout Z) h && true) × WT (both (vptr b o) h)
  heap_good b o h fits = (and_tt (has_ty (layout Z) h) fits.0, (tt, (fits.1, tt)))

  module _ {M : Type 1} {𝓤 : Ura M} {𝓛 : Logic 𝓤} {K : Type 0} {Γ : List (Item 𝓤)} {G : Goal 𝓤 𝓛.H} where
    -- by value it is the address, what lies there and the allocator
    pub heap_out : K → (d : HeapRow.Denot) (vs : List Val)
        → ((b o : ℕ) (h : Val) → d.address ≡ block_ptr b o → vs ≡ both (vptr b o) h ∷ [] → Good (layout Z) h
        → Seq K 𝓛 (‵ (box_owns (g.dealloc_token d.alloc) R (block_ptr b o) d.value) ∷ ‵ (Z.own_val d.alloc (h ∷ [])) ∷ Γ) G)
        → Seq K 𝓛 (‵ (HeapRow.own_val d vs) ∷ Γ) G
    heap_out t d vs k =
        fsplit t $ fpick t (λ vss. fsplit t $ feq_l t (λ ev. fsplit t $ feq_l t (λ ep. fsplit t $
        handle_tells al t d.alloc vss.1.0 (λ h ea fits. move t (1 ∷ []) $ drop t $ move t (1 ∷ []) $
        in_a_block t d.address (λ p. box_owns (g.dealloc_token d.alloc) R p d.value) (fst∗ 𝓤 (never 𝓤) (sem 𝓛 (g.dealloc_token d.alloc (bare (lone R.mir)) null_ptr))) (λ b o e. k b o h e
        (subst (λ (p : Ptr). vs ≡ vstruct (of_list (ptr_val p ∷ h ∷ [])) ∷ []) e
        (subst (λ (ws : List Val). vs ≡ vstruct (of_list (ptr_val d.address ∷ (ws ++ []))) ∷ []) ea (subst
        (λ (ps : List Val). vs ≡ vstruct (of_list (ps ++ (vss.1.0 ++ []))) ∷ []) ep ev))) fits)))))

    -- and is made of these
    pub heap_in : K → (b o : ℕ) (h : Val) (a : Z.Denot) (x : R.Denot)
        → Step K 𝓛 (‵ (HeapRow.own_val (record { address = block_ptr b o; alloc = a; value = x }) (both (vptr b o) h ∷ [])) ∷ Γ) G
        (‵ (box_owns (g.dealloc_token a) R (block_ptr b o) x) ∷ ‵ (Z.own_val a (h ∷ [])) ∷ Γ) G
    heap_in t b o h a x = step (λ s. let v : Val = both (vptr b o) h in
        nothing t $ move t (2 ∷ 0 ∷ []) $ fjoin t $ feq_i t (List Val) (vptr b o ∷ []) (vptr b o ∷ []) refl $ fjoin t $
        feq_i t (List Val) (v ∷ []) (v ∷ []) refl $ fjoin t $
        fpack t (Valss (RawPtr ∷ Z ∷ []))
        (within (shape (heaped.the_type R Z g)) (block_ptr b o, (a, tt)) (v ∷ [])) (vptr b o ∷ [], (h ∷ [], tt)) $ fjoin t $ s)

module _ (R Z : RattleType) (L : Laws Z) (g : Ghosts Z.Denot) where
  -- the value on the heap
  abbrev Lo : RattleType
  Lo = HeapRow R Z L g

  module _ {M : Type 1} {𝓤 : Ura M} {𝓛 : Logic 𝓤} {K : Type 0} {Γ : List (Item 𝓤)} {G : Goal 𝓤 𝓛.H} where
    -- behind a `&mut` it is these too, with the open borrow
    pub heap_opens : K → Soaks G → {κ : Lft} {q : Share} {γ : GName} (d : Lo.Denot) (rb ro : ℕ)
        → ((b o : ℕ) (h : Val) → d.address ≡ block_ptr b o → Seq K 𝓛 (‵ (part_at R full_share d.value b o)
        ∷ ‵ (fsep (g.dealloc_token d.alloc (bare (lone R.mir)) (block_ptr b o)) (Z.own_val d.alloc (h ∷ [])))
        ∷ ‵ (cell_at full_share Lo.mir (both (vptr b o) h ∷ []) rb ro)
        ∷ ‵ (fobor κ q (Borrowed (mem Lo) rb ro γ)) ∷ ‵ (fobs γ (Lo.coded.code d)) ∷ ‵ (fauth γ (Lo.coded.code d)) ∷ Γ) G)
        → Seq K 𝓛 (‵ (fobs γ (Lo.coded.code d)) ∷ ‵ (fbor κ (Borrowed (mem Lo) rb ro γ)) ∷ ‵ (flft κ q) ∷ Γ) G
    heap_opens t z d rb ro k =
        opens t z Lo {h = d} rb ro (λ vs. move t (1 ∷ []) $ heap_out R Z L g t d vs (λ b o h e ws fits. fsplit t $ move t (1 ∷ 2 ∷ []) $
        fjoin t $ move t (1 ∷ []) $
        rewrite t 2 (λ (us : List Val). ‵ (cell_at full_share Lo.mir us rb ro)) ws refl $ k b o h e))

    -- and is made of them, with another value
    pub heap_in_at : K → {h : Val} (d : Lo.Denot) (b o : ℕ) (x : R.Denot) → d.address ≡ block_ptr b o → d.value ≡ x
        → Step K 𝓛 (‵ (Lo.own_val d (both (vptr b o) h ∷ [])) ∷ Γ) G (‵ (part_at R full_share x b o)
        ∷ ‵ (g.dealloc_token d.alloc (bare (lone R.mir)) (block_ptr b o)) ∷ ‵ (Z.own_val d.alloc (h ∷ [])) ∷ Γ) G
    heap_in_at t {h} d b o x e f = step (λ s.
        fjoin t $ rewrite t 0 (λ (y : R.Denot). ‵ (box_owns (g.dealloc_token d.alloc) R (block_ptr b o) y)) (sym f) refl $
        rewrite t 0 (λ (p : Ptr). ‵ (box_owns (g.dealloc_token d.alloc) R p d.value)) (sym e) refl $
        nothing t $ move t (2 ∷ 0 ∷ []) $ fjoin t $
        feq_i t (List Val) (vptr b o ∷ []) (ptr_val d.address ∷ []) (ap (λ (p : Ptr). ptr_val p ∷ []) (sym e)) $ fjoin t $
        feq_i t (List Val) (both (vptr b o) h ∷ []) (both (vptr b o) h ∷ []) refl $ fjoin t $
        fpack t (Valss (RawPtr ∷ Z ∷ []))
        (within (shape (heaped.the_type R Z g)) (d.address, (d.alloc, tt)) (both (vptr b o) h ∷ [])) (vptr b o ∷ [], (h ∷ [], tt)) $
        fjoin t $ s)
