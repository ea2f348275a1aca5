-- The two things that a handle may hold. Assumes `Logic`.
use Rattle.std.proofs.Common.{◌≡◌, ℕ, List, [], ◌∷◌, refl, subst}
use seplogic.Ra.Ura.{Ura}
use mir.Syntax.{impl, tnil, dnil}
use mir.Raw.{raw as bare}
use base.Fraction.{full_share}
use base.Logic.{SProp, ent, guard, guard_i, via, never, fst∗, snd∗}
use types.Logic.{Logic, sem}
use types.Kit.{Item, Goal, Seq, ‵, given, ◌$◌, drop, learn, use1, fpick}
use contract.Monad.{fact_use}
use denote.RattleType.{RattleType}
use denote.Memory.{lone}
use denote.RawPtr.{Ptr, block_ptr, null_ptr, in_a_block, lies_at, Testable}
use Rattle.std.specs.Prelude.{Option, Some, None}
use Rattle.std.specs.Box.Ownership.{box_owns}
use Rattle.std.specs.declared.alloc.Global.{Global}
use Rattle.std.specs.contracts.alloc.Global as heap
use Rattle.std.specs.contracts.impls.GlobalAllocator.TheImpl.{ghosts}
use Rattle.std.proofs.alloc.Calls.{Al}
use Rattle.std.proofs.alloc.Global.TheLaws as heap_laws
use Rattle.std.proofs.GlobalToken.{dealloc_token-Testable}
use Rattle.themis_c.specs.Owned.{held_at}

abbrev pub Heap : RattleType
Heap = heap.the_row

abbrev pub al : Al
al = record { row = Heap; laws = heap_laws.the_row_laws; g = ghosts; d = impl [] tnil dnil; drops = impl [] tnil dnil }

module _ (R : RattleType) where
  module _ {M : Type 1} {𝓤 : Ura M} (𝓛 : Logic 𝓤) (a : Global) where
    abbrev boxed : Ptr → R.Denot → SProp 𝓤
    boxed p x = sem 𝓛 (box_owns (ghosts.dealloc_token a) R p x)

    tested : (p : Ptr) (x : R.Denot) → ent 𝓤 (boxed p x) (guard 𝓤 (Testable p) (boxed p x))
    tested p x = let τ = bare (lone R.mir) in
        fact_use 𝓤 (Testable p)
        (via 𝓤 _ (snd∗ 𝓤 (sem 𝓛 (lies_at R full_share p x)) (sem 𝓛 (ghosts.dealloc_token a τ p))) (dealloc_token-Testable 𝓛 a τ p))
        (guard_i 𝓤 (Testable p) (boxed p x))

  module _ {M : Type 1} {𝓤 : Ura M} {𝓛 : Logic 𝓤} {K : Type 0} {Γ : List (Item 𝓤)} {G : Goal 𝓤 𝓛.H} where
    pub held_either : K → (a : Global) (p : Ptr) (k : Option R.Denot) → (p ≡ null_ptr → k ≡ None → Seq K 𝓛 Γ G)
        → ((b o : ℕ) (x : R.Denot) → p ≡ block_ptr b o → k ≡ Some x → Testable (block_ptr b o)
        → Seq K 𝓛 (‵ (box_owns (ghosts.dealloc_token a) R (block_ptr b o) x) ∷ Γ) G)
        → Seq K 𝓛 (‵ (held_at R a p k) ∷ Γ) G
    held_either t a p None none one = fpick t (λ e. drop t $ none e refl)
    held_either t a p (Some x) none one =
        use1 𝓛 (given (Testable p) (‵ (box_owns (ghosts.dealloc_token a) R p x))) (tested 𝓛 a p x) $ learn t (λ may.
        in_a_block t p (λ q. box_owns (ghosts.dealloc_token a) R q x)
        (fst∗ 𝓤 (never 𝓤) (sem 𝓛 (ghosts.dealloc_token a (bare (lone R.mir)) null_ptr))) (λ b o e. one b o x e refl (subst Testable e may)))
