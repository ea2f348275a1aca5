-- A run in which a replica waits is not done.
use Rattle.std.proofs.Common.{◌≡◌, ℕ, zero, suc, ◌+◌, ◌<◌, ◌≤◌, ◌==◌, ◌||◌, ◌&&◌, Bool, true, false, not, nat_lt, refl, ap, sym, ◌∙◌, arith, inl, inr}
use Rattle.std.specs.List.{list_all, range_with_len}
use Rattle.std.proofs.lemmas.Bool.{and_parts, cases_Bool, not-true}
use Rattle.std.proofs.lemmas.Bool.Decides.{nat_tests}
use Rattle.count_set.specs.Sets.{is_among}
use Rattle.plan_text.specs.declared.plan.Plan.{Plan}
use Rattle.replica_seat.specs.Seats.{Meaning}
use Rattle.replay_run.specs.World.{Net, World, waits_at, world_of}
use Rattle.replay_run.specs.Step.{counts, holds_due_at, has_all_due}
use Rattle.replay_run.proofs.Amongs.{waits_of_seat}

and_fails : (b : Bool) → (b && false) ≡ false
and_fails true = refl
and_fails false = refl

range_fails : (p : ℕ → Bool) (a n at : ℕ) → a ≤ at → at < a + n → p at ≡ false → list_all p (range_with_len a n) ≡ false
range_fails p a zero at from below fails = absurd (omega arith)
range_fails p a (suc n) at from below fails =
    elim (cases_Bool (a == at)) [
      | inl here ↦
          let is : a ≡ at = grind (arith, nat_tests) in
          let first : p a ≡ false = ap p is ∙ fails in
          rw first refl
      | inr later ↦
          let above : a + 1 ≤ at = grind (arith, nat_tests) in
          rw (range_fails p (a + 1) n at above (omega arith) fails) (and_fails (p a))
    ]

pub waits_not_done : (plan : Plan) (w : World) (at : ℕ) → counts plan at ≡ true → holds_due_at w at ≡ false → has_all_due plan w ≡ false
unfolding has_all_due
waits_not_done plan w at one waits =
    let parts = and_parts (nat_lt at plan.setting.n) (not (is_among plan.faulty at)) one in
    let below : at < plan.setting.n = (let first = parts.0 in grind (arith, nat_tests)) in
    let honest : is_among plan.faulty at ≡ false = not-true (is_among plan.faulty at) parts.1 in
    let fails : (is_among plan.faulty at || holds_due_at w at) ≡ false = rw (honest, waits) refl in
    range_fails (λ k. is_among plan.faulty k || holds_due_at w k) 0 plan.setting.n at (omega arith) (omega arith) fails

pub known_waiting : {S : Type 0} (m : Meaning S) (plan : Plan) (net value : Net S) (at : ℕ) → net ≡ value
    → waits_at net.due net.seats at ≡ true → counts plan at ≡ true
    → false ≡ has_all_due plan (world_of m value)
known_waiting m plan net value at same waits one =
    let is : holds_due_at (world_of m net) at ≡ false = not-true (holds_due_at (world_of m net) at) (sym (waits_of_seat m net at) ∙ waits) in
    sym (waits_not_done plan (world_of m value) at one (rw same at is))

pub found_waiting : {S : Type 0} (m : Meaning S) (net value : Net S) (at : ℕ) → net ≡ value → holds_due_at (world_of m value) at ≡ false
    → waits_at net.due net.seats at ≡ true
found_waiting m net value at same waits =
    let is : holds_due_at (world_of m net) at ≡ false = rw (← same) at waits in
    waits_of_seat m net at ∙ ap not is
