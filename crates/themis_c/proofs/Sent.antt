-- What a handle owns says the same to every thread.
use mir.Raw.{raw}
use base.Fraction.{full_share}
use base.Shift.{Keyless}
use denote.Exit.{Exit, hidden, under, unchanged, leaves}
use denote.Memory.{lone}
use denote.Param.Send.{IsSend, Quiet, part_keyless}
use denote.RattleType.{RattleType}
use denote.RawPtr.{Ptr, block_ptr, null_ptr, lies_at}
use Rattle.std.specs.Prelude.{Option, Some, None}
use Rattle.std.specs.declared.alloc.Global.{Global}
use Rattle.std.proofs.Crossing.{frees}
use Rattle.themis_c.specs.Owned.{held_at}

pub quiet : {D X : Type 0} (to : D → X) (e : Exit X) → Quiet e → Quiet (hidden (under to e))
quiet to unchanged q = λ x w. tt
quiet to (leaves L l S s r₀) q = λ d. q (to d)

lies : (R : RattleType) → IsSend R → (p : Ptr) (x : R.Denot) → Keyless (lies_at R full_share p x)
lies R s (block_ptr b o) x = part_keyless R s full_share x b o
lies R s null_ptr x = tt

pub held : (R : RattleType) → IsSend R → (a : Global) (p : Ptr) (k : Option R.Denot) → Keyless (held_at R a p k)
held R s a p None = λ _. tt
held R s a p (Some x) = (lies R s p x, frees.frees a (raw (lone R.mir)) p)
