-- What a round adds to the count of turns.
use Rattle.std.proofs.Common.{◌≡◌, ℕ, suc, ◌+◌, ◌*◌, ◌<◌, ◌≤◌, List, [], ◌∷◌, length, get_or, refl, ap, sym, subst, ◌∙◌, inl, inr, arith}
use Rattle.std.specs.Prelude.{All, Option, nat_lt, sum_by}
use Rattle.std.specs.List.{AllZip}
use Rattle.std.proofs.lemmas.Bool.{cases_Bool}
use Rattle.std.proofs.lemmas.Bool.Decides.{nat_tests}
use Rattle.std.proofs.lemmas.List.Sums.{sum_by-cons}
use Rattle.std.proofs.lemmas.Option.{slice_get-get_or, slice_get_within}
use Rattle.client_logs.specs.declared.client.Client.{Client as ClientWorker}
use Rattle.plan_text.specs.declared.plan.Plan.{Plan}
use Rattle.plan_text.specs.Rules.{KeepsRules}
use Rattle.node_core.specs.Rows.{Check}
use Rattle.replica_seat.specs.Seats.{Meaning}
use Rattle.thread_run.specs.declared.runs.Run.{Run}
use Rattle.thread_run.specs.Going.{IsManned}
use Rattle.thread_run.specs.News.{Took}
use Rattle.thread_run.specs.Standing.{NoneFailed}
use Rattle.thread_run.specs.Steps.{AreCounted, HasFew, IsCounted, IsStep, most_in, turns_by}
use Rattle.thread_run.specs.Workers.{ClientWorked, DeliversFew, Worked, Working}
use Rattle.thread_run.proofs.WorkDone.{take_all}
use Rattle.thread_run.proofs.MannedRuns.{turns_within}
use Rattle.thread_run.proofs.Zips.{zip_back}

pub most_within : (all turns : ℕ) → most_in all turns ≤ 32
most_within all turns = elim (cases_Bool (nat_lt turns all)) [
  | inl so ↦ rw so (omega arith)
  | inr not_so ↦ rw not_so (omega arith)
]

module _ {S : Type 0} where
  -- each worker has delivered few, if it had memory
  pub each_few : (most before : ℕ) (vs ws : List (Working S)) → AllZip (DeliversFew most) vs ws → sum_by turns_by vs ≤ before
      → before + most ≤ 1000000 → All (HasFew 1000000) ws
  each_few most before vs ws z le enough = λ i d lt.
      let w : Working S = get_or ws i d in
      let (v, there, few) = zip_back (DeliversFew most) vs ws i w z (slice_get-get_or ws i d lt) in
      let within = turns_within vs i v there in
      λ ok. (let f = few ok in omega (arith, f, within, le, enough))

  -- all of them together no more than this many for each
  grown : (most : ℕ) (vs ws : List (Working S)) → AllZip (DeliversFew most) vs ws → NoneFailed ws → sum_by turns_by ws ≤ sum_by turns_by vs + most * length vs
  grown most [] [] z ok = omega arith
  grown most [] (w ∷ ws) z ok = absurd z
  grown most (v ∷ vs) [] z ok = absurd z
  grown most (v ∷ vs) (w ∷ ws) z ok =
      let first = z.0 (ok 0 w refl) in
      let rest = grown most vs ws z.1 (λ at x is. ok (suc at) x is) in
      let a = sum_by-cons turns_by v vs in
      let b = sum_by-cons turns_by w ws in
      let more : most * suc (length vs) ≡ most + most * length vs = omega arith in
      omega (arith, first, rest, a, b, more)

  -- a round stays below the bound
  pub stays_few : (plan : Plan) (old : Run S) (ws : List (Working S)) → IsManned plan old → IsCounted plan old
      → AllZip (DeliversFew (most_in plan.turns old.turns)) old.workers.items ws → NoneFailed ws
      → sum_by turns_by ws < plan.turns + 32 * plan.setting.n
  stays_few plan old ws manned counted few none =
      let sum = counted.turns in
      let bound = counted.few in
      let all : sum_by turns_by ws ≤ sum_by turns_by old.workers.items + most_in plan.turns old.turns * plan.setting.n =
      subst (λ (k : ℕ). sum_by turns_by ws ≤ sum_by turns_by old.workers.items + most_in plan.turns old.turns * k) manned.workers
      (grown (most_in plan.turns old.turns) old.workers.items ws few none) in
      elim (cases_Bool (nat_lt old.turns plan.turns)) [
        | inl so ↦ (
            let lt : old.turns < plan.turns = grind (arith, nat_tests) in
            let m : most_in plan.turns old.turns ≡ 32 = rw so refl in
            let more = subst (λ (k : ℕ). sum_by turns_by ws ≤ sum_by turns_by old.workers.items + k * plan.setting.n) m all in
            omega (arith, lt, more, sum))
        | inr not_so ↦ (
            let m : most_in plan.turns old.turns ≡ 0 = rw not_so refl in
            let more = subst (λ (k : ℕ). sum_by turns_by ws ≤ sum_by turns_by old.workers.items + k * plan.setting.n) m all in
            omega (arith, more, sum, bound))
      ]

  pub workers_few : (plan : Plan) (old : Run S) (ws : List (Working S)) → KeepsRules plan → IsCounted plan old
      → AllZip (DeliversFew (most_in plan.turns old.turns)) old.workers.items ws → All (HasFew 1000000) ws
  workers_few plan old ws rules counted few =
      let most = rules.few_turns in
      let n = rules.setting.replicas.few in
      let bound = counted.few in
      let sum = counted.turns in
      let each = most_within plan.turns old.turns in
      each_few (most_in plan.turns old.turns) old.turns old.workers.items ws few (omega (arith, sum)) (omega (arith, most, n, bound, each))

  -- ---- a round, from what its workers did and from what was counted

  pub counted_all : (turns : ℕ) (ws : List (Working S)) → AreCounted (length ws) turns ws → (turns ≡ sum_by turns_by ws) × NoneFailed ws
  counted_all turns ws so = (so.sum ∙ ap (sum_by turns_by) (take_all (length ws) ws refl), λ at w is. so.memory at w (slice_get_within ws at w is) is)

  pub step_of : (fits : Check) (plan : Plan) (m : Meaning S) (tick : Option ℕ) (old : Run S) (ws : List (Working S)) (cs : List ClientWorker) (new : Run S)
      → new ≡ record old { workers = new.workers; clients = new.clients; turns = new.turns } → new.workers.items ≡ ws → new.clients.items ≡ cs
      → AllZip (Worked fits plan m old.world.logs.items old.world.boxes.items tick) old.workers.items ws
      → AllZip (Took (most_in plan.turns old.turns) old.workers.items) old.workers.items ws
      → AllZip (ClientWorked old.world.logs.items) old.clients.items cs → AreCounted (length ws) new.turns ws → IsStep fits plan m tick old new
  step_of fits plan m tick old ws cs new same items clients_are worked took went counted =
      let all = counted_all new.turns ws counted in record {
        worked = subst (AllZip (Worked fits plan m old.world.logs.items old.world.boxes.items tick) old.workers.items) (sym items) worked;
        took = subst (AllZip (Took (most_in plan.turns old.turns) old.workers.items) old.workers.items) (sym items) took;
        none = subst (NoneFailed {S = S}) (sym items) all.1;
        went = subst (AllZip (ClientWorked old.world.logs.items) old.clients.items) (sym clients_are) went;
        turns = all.0 ∙ ap (sum_by turns_by) (sym items);
        same = same;
      }
