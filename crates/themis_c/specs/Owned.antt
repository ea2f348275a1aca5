-- What a handle owns.
use Rattle.std.specs.Prelude.{◌≡◌, Option, Some, None}
use base.Fml.{Fml, ftrue, fex}
use denote.RattleType.{RattleType}
use denote.RawPtr.{Ptr, null_ptr}
use Rattle.std.specs.Box.Ownership.{box_owns}
use Rattle.std.specs.declared.alloc.Global.{Global}
use Rattle.std.specs.contracts.impls.GlobalAllocator.TheImpl.{ghosts}

-- nothing at null, or a value at a pointer and the right to free its block
abbrev pub held_at : (R : RattleType) → Global → Ptr → Option R.Denot → Fml
held_at R alloc p None = fex (p ≡ null_ptr) (λ _. ftrue)
held_at R alloc p (Some x) = box_owns (ghosts.dealloc_token alloc) R p x
