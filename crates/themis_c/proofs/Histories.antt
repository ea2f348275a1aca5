-- The machine values of a `History`. Assumes `Logic`.
use Rattle.std.proofs.Common.{◌≡◌, List, [], ◌∷◌, ◌++◌, refl, subst, lit<}
use lib.Dec.{T}
use seplogic.Ra.Ura.{Ura}
use mir.Val.{Val, vstruct, of_list, has_ty, WT}
use types.Logic.{Logic}
use types.Kit.{Item, Goal, Seq, Step, step, ‵, ◌$◌, move, drop, fsplit, fjoin, fpick, fpack, feq_i, feq_l}
use denote.RattleType.{RattleType, Valss}
use denote.Builtin.{RawPtr}
use denote.RawPtr.{Ptr, block_ptr, null_ptr, ptr_val}
use denote.Steps.{nothing}
use denote.Param.{layout}
use denote.Struct.Struct.{within}
use denote.Struct.Owning.{shape}
use Rattle.std.specs.Prelude.{Option}
use Rattle.std.specs.declared.alloc.Global.{Global}
use Rattle.std.specs.contracts.alloc.Global as heap
use Rattle.std.specs.contracts.impls.GlobalAllocator.TheImpl.{ghosts}
use Rattle.std.proofs.alloc.Calls.{handle_tells}
use Rattle.std.proofs.alloc.Global.TheLaws as heap_laws
use Rattle.std.proofs.cell.Inside.{Good}
use Rattle.std.proofs.ResultValues.{and_tt}
use Rattle.seq_base.specs.declared.tx.Tx.{Tx}
use Rattle.session_rules.specs.contracts.final_txs.FinalTxs as final
use Rattle.themis_c.specs.Owned.{held_at}
use Rattle.themis_c.specs.contracts.history.History as history
use Rattle.themis_c.proofs.Held.{Heap, al}
use Rattle.themis_c.proofs.Values.{both, Loose as loose_row}

abbrev pub Row : RattleType
Row = history.the_row

abbrev pub Loose : RattleType
Loose = loose_row final.the_row Heap heap_laws.the_row_laws ghosts

pub history_good : (p : Ptr) (h : Val) → Good (layout Heap) h → T (has_ty (layout Row) (both (ptr_val p) h)) × WT (both (ptr_val p) h)
history_good (block_ptr b o) h fits = (and_tt (has_ty (layout Heap) h) fits.0, (tt, (fits.1, tt)))
history_good null_ptr h fits = (and_tt (has_ty (layout Heap) h) fits.0, (record { fits = lit< tt }, (fits.1, tt)))

module _ {M : Type 1} {𝓤 : Ura M} {𝓛 : Logic 𝓤} {K : Type 0} {Γ : List (Item 𝓤)} {G : Goal 𝓤 𝓛.H} where
  pub history_out : K → (d : Row.Denot) (vs : List Val)
      → ((h : Val) → vs ≡ both (ptr_val d.at) h ∷ [] → Good (layout Heap) h
      → Seq K 𝓛 (‵ (held_at final.the_row d.alloc d.at d.keys) ∷ ‵ (Heap.own_val d.alloc (h ∷ [])) ∷ Γ) G)
      → Seq K 𝓛 (‵ (Row.own_val d vs) ∷ Γ) G
  history_out t d vs k =
      fsplit t $ fpick t (λ vss. fsplit t $ feq_l t (λ ev. fsplit t $
      feq_l t (λ ep. fsplit t $ handle_tells al t d.alloc vss.1.0 (λ h ea fits. move t (1 ∷ []) $ drop t $ move t (1 ∷ []) $ k h
      (subst (λ (ws : List Val). vs ≡ vstruct (of_list (ptr_val d.at ∷ (ws ++ []))) ∷ []) ea
      (subst (λ (ps : List Val). vs ≡ vstruct (of_list (ps ++ (vss.1.0 ++ []))) ∷ []) ep ev)) fits))))

  pub history_in : K → (p : Ptr) (h : Val) (a : Global) (k : Option (List Tx))
      → Step K 𝓛 (‵ (Row.own_val (record { at = p; alloc = a; keys = k }) (both (ptr_val p) h ∷ [])) ∷ Γ) G
      (‵ (held_at final.the_row a p k) ∷ ‵ (Heap.own_val a (h ∷ [])) ∷ Γ) G
  history_in t p h a k = step (λ s. let v : Val = both (ptr_val p) h in
      nothing t $ move t (2 ∷ 0 ∷ []) $ fjoin t $ feq_i t (List Val) (ptr_val p ∷ []) (ptr_val p ∷ []) refl $ fjoin t $
      feq_i t (List Val) (v ∷ []) (v ∷ []) refl $ fjoin t $
      fpack t (Valss (RawPtr ∷ heap.the_field.row ∷ [])) (within (shape history.the_type) (p, (heap.the_field.into a, tt)) (v ∷ []))
      (ptr_val p ∷ [], (h ∷ [], tt)) $ fjoin t $ s)
