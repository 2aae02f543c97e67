-- `of` takes the address and the right to it apart.
use Rattle.std.proofs.Common.{◌≡◌, List, [], ◌∷◌, ◌++◌, refl, sym, subst}
use Rattle.std.specs.Prelude.{Some}
use mir.Val.{Val, vptr, vstruct, of_list, has_ty}
use base.Logic.{SProp, ent, emp, id⊢}
use base.Fml.{ftrue, fsep, feq}
use prog.Wp.{WpFn}
use types.Kit.{feq_i, fpack, ‵, raw, ◌⊛◌, ◌$◌, ◌∵◌, !, qed, by, move, keep, split, fsplit, fjoin, suffices, use0, use1}
use types.Run.{stop, fld, of_opd, no_more, and_then, returns, enter}
use types.ByLocal.{alloc_all, pass_all, free_all, look_at, get, get_in, sets}
use types.Part.{agg, sub, whole}
use contract.Monad.{fact, fact_i}
use contract.Running.{tables}
use denote.Exit.{no}
use denote.RattleType.{RattleType, owns, Valss}
use denote.Builtin.{RawPtr}
use denote.Param.{layout}
use Rattle.std.proofs.ResultValues.{and_tt}
use Rattle.std.proofs.cell.Inside.{Good}
use denote.Signature.{types_at, type_at, plain}
use denote.RawPtr.{block_ptr}
use denote.Steps.{nothing}
use Rattle.std.proofs.alloc.Calls.{Goes-blank}
use denote.Triple.Walked.{Stays, stay_dropped, walk_of}
use Rattle.std.proofs.raw_atomic.Walks.{proved_at, leaves}
use Rattle.std.proofs.alloc.Global.TheLaws as heap_laws
use Rattle.std.specs.contracts.impls.GlobalAllocator.TheImpl.{ghosts}
use Rattle.mime_c.proofs.HeapValues.{both, HeapRow, heap_good, heap_out}
use Rattle.mime_c.proofs.Handles.{KeptRow, R, Z, one, kept_in}
use Rattle.mime_c.specs.Owned.{owns_open}
use Rattle.mime_c.specs.contracts.database.kept.Kept.of.{ended, clauses}
use Rattle.mime_c.specs.contracts.database.kept.Kept.of.Key.{name as #self}
use Rattle.mime_c.proofs.database.kept.Kept.of.Statement.{statement}
use Rattle.mime_c.proofs.database.kept.Kept.of.Code as code

-- what is returned
abbrev Out : RattleType
Out = type_at ended.signature.result tt

-- the address goes out beside what is owned there
pub of_spec : {M : Type 1} → statement M
of_spec 𝓤 𝓛 𝓜 𝓡 wired =
    let H = 𝓛.H in let 𝓣 = tables 𝓤 H 𝓜 𝓡 𝓡.env in let LZ = heap_laws.the_row_laws in let In : RattleType = HeapRow R Z LZ ghosts in
    let c = clauses 𝓛 𝓜.mem 𝓡.returns in let fn = code.function in
    let hs : Stays ended.signature.params ended.kept = (stay_dropped (plain (λ _. In)) no, tt) in
    proved_at 𝓛 ended hs c 𝓜 𝓡 (Goes-blank 𝓛 0 (plain (λ _. In)) no (λ κs x f. tt), tt) #self fn (code.unfolded 𝓤 H 𝓜 𝓡 wired) (λ z are.
    let κs = z.0.0 in let v = z.0.3.0 in let Post : Val → SProp 𝓤 = (walk_of 𝓛 ended hs c).post z in
    let Run : List Val → SProp 𝓤 = λ ws. WpFn 𝓤 H 𝓣.C 𝓣.Λ fn ws Post in
    qed 𝓛 ((‵ ftrue ⊛ ‵ (owns (types_at ended.signature.params κs) z.0.3 z.0.4)) ∷ raw ((c κs z.0.3).requires z.1) ∷ []) ∵ split ! $
    move ! (1 ∷ []) $ fsplit ! $ heap_out R Z LZ ghosts ! v z.0.4.0 (λ b o h e ws fits.
    let a = v.alloc in let w : Val = both (vptr b o) h in let typed = heap_good R Z LZ ghosts b o h fits in
    let k : KeptRow.Denot = record { alloc = a; address = block_ptr b o; opened = Some v.value } in let u : Val = both (vptr b o) (one h) in
    let kept : Good (layout KeptRow) (one h) = (and_tt (has_ty (layout Z) h) fits.0, (fits.1, tt)) in
    let made : Good (layout Out) u = (and_tt (has_ty (layout KeptRow) (one h)) kept.0, (tt, (kept.1, tt))) in
    let Says : Type 0 = (block_ptr b o ≡ v.address) × (block_ptr b o ≡ v.address) × (k.opened ≡ Some v.value) in
    suffices ! (Run (w ∷ [])) (subst (λ (us : List Val). ent 𝓤 (Run (w ∷ [])) (Run us)) (sym (λ i. ws i ++ [])) (id⊢ 𝓤 (Run (w ∷ [])))) $
    enter ! 𝓣.C 𝓣.Λ fn (w ∷ []) Post $ alloc_all ! (λ l. pass_all ! refl (typed, tt) $
    sets ! (of_opd ! (get_in ! (fld ! refl (stop !)) (sub ! 0 refl (whole !)))) refl (tt, tt) $
    sets ! (of_opd ! (get_in ! (fld ! refl (stop !)) (sub ! 1 refl (whole !)))) refl fits $
    sets ! (of_opd ! (get ! refl)) refl (tt, tt) $ sets ! (agg ! (and_then ! (get ! refl) (no_more !))) refl kept $
    sets ! (agg ! (and_then ! (get ! refl) (and_then ! (get ! refl) (no_more !)))) refl made $
    use1 𝓛 (‵ (owns_open a (block_ptr b o) (Some v.value))) (id⊢ 𝓤 _) $ kept_in ! (block_ptr b o) h a (Some v.value) $
    nothing ! $ move ! (1 ∷ 0 ∷ []) $ fjoin ! $ feq_i ! (List Val) (vptr b o ∷ []) (vptr b o ∷ []) refl $ fjoin ! $
    feq_i ! (List Val) (u ∷ []) (u ∷ []) refl $ fjoin ! $
    fpack ! (Valss (RawPtr ∷ KeptRow ∷ []))
    (λ vss. fsep (feq (List Val) (u ∷ []) (vstruct (of_list (vss.0 ++ (vss.1.0 ++ []))) ∷ [])) (fsep (RawPtr.own_val (block_ptr b o) vss.0) (fsep (KeptRow.own_val k vss.1.0) ftrue))) (vptr b o ∷ [], (one h ∷ [], tt)) $
    use0 𝓛 (raw (fact 𝓤 Says)) (fact_i 𝓤 Says (emp 𝓤) (sym e, sym e, refl)) $ nothing ! $ nothing ! $ fjoin ! $
    returns ! (look_at ! 0 refl) $ free_all ! refl $ keep ! (3 ∷ 0 ∷ 2 ∷ 1 ∷ []) $
    by ! (leaves 𝓛 ended hs c z u (block_ptr b o, k) (tt, tt) (tt, tt)))))
