-- Pending stages by their indices, after one more block.
use Rattle.std.proofs.Common.{◌≡◌, ℕ, suc, ◌+◌, ◌<◌, ◌≤◌, List, [], ◌∷◌, ◌++◌, length, get_or, set, map, Bool, true, false, refl, sym, ap, subst, ◌∙◌, append_assoc, arith}
use Rattle.std.specs.Prelude.{◌||◌, All}
use Rattle.std.specs.List.{list_any, AllByRecursion}
use Rattle.std.proofs.Math.Seq.{set-append_seam, get_or-append_seam}
use Rattle.std.proofs.lemmas.List.{append-nil, length-append, length-set}
use Rattle.std.proofs.lemmas.List.Elements.{All-from_recursion}
use Rattle.seq_base.specs.declared.tx.Tx.{Tx}
use Rattle.seq_base.specs.Setting.{Parameters}
use Rattle.chain_state.specs.Places.{is_pending, pending_from, steps_from, put_all, still_pending, AreWithin}
use Rattle.chain_state.specs.Standings.{Stage, next_stage, stage_waits}
use Rattle.chain_state.specs.Standings.Stage.{Closed, Pending}

-- each pending one is among the stages
pub pending_within : (from most : ℕ) (stages : List Stage) → from + length stages ≤ most → AllByRecursion (λ place. place < most) (pending_from from stages)
pending_within from most [] few = tt
pending_within from most (Closed batches ∷ stages) few = pending_within (suc from) most stages (omega (arith, few))
pending_within from most (Pending g ∷ stages) few = (omega (arith, few), pending_within (suc from) most stages (omega (arith, few)))

pub place_within : (stages : List Stage) (places : List ℕ) (i : ℕ) → places ≡ pending_from 0 stages → i < length places → get_or places i 0 < length stages
place_within stages places i are inside =
    let within : All (λ (place : ℕ). place < length stages) (pending_from 0 stages) =
    All-from_recursion (λ (place : ℕ). place < length stages) (pending_from 0 stages) (pending_within 0 (length stages) stages (omega arith)) in
    subst (All (λ (place : ℕ). place < length stages)) (sym are) within i 0 inside

module _ (s : Parameters) (late : List (List Tx)) where
  pub steps_within : (from most : ℕ) (stages : List Stage) → from + length stages ≤ most
      → AllByRecursion (λ (step : ℕ × Stage). step.0 < most) (steps_from (next_stage s late) from stages)
  steps_within from most [] few = tt
  steps_within from most (Closed batches ∷ stages) few = steps_within (suc from) most stages (omega (arith, few))
  steps_within from most (Pending g ∷ stages) few = (omega (arith, few), steps_within (suc from) most stages (omega (arith, few)))

  -- the steps, read by their indices
  pub steps_read : (d : Stage) (prefix stages : List Stage) (from : ℕ) → from ≡ length prefix
      → map (λ place. (place, next_stage s late (get_or (prefix ++ stages) place d))) (pending_from from stages) ≡ steps_from (next_stage s late) from stages
  steps_read d prefix [] from long = refl
  steps_read d prefix (Closed batches ∷ stages) from long =
      let whole : (prefix ++ Closed batches ∷ []) ++ stages ≡ prefix ++ Closed batches ∷ stages = append_assoc prefix (Closed batches ∷ []) stages in
      subst (λ (all : List Stage). map (λ (place : ℕ). (place, next_stage s late (get_or all place d))) (pending_from (suc from) stages)
      ≡ steps_from (next_stage s late) (suc from) stages) whole
      (steps_read d (prefix ++ Closed batches ∷ []) stages (suc from) (omega (arith, long, length-append prefix (Closed batches ∷ []))))
  steps_read d prefix (Pending g ∷ stages) from long =
      let whole : (prefix ++ Pending g ∷ []) ++ stages ≡ prefix ++ Pending g ∷ stages = append_assoc prefix (Pending g ∷ []) stages in
      let here : get_or (prefix ++ Pending g ∷ stages) from d ≡ Pending g =
      ap (λ (k : ℕ). get_or (prefix ++ Pending g ∷ stages) k d) long ∙ get_or-append_seam prefix (Pending g) stages d in
      let rest : map (λ (place : ℕ). (place, next_stage s late (get_or (prefix ++ Pending g ∷ stages) place d))) (pending_from (suc from) stages)
      ≡ steps_from (next_stage s late) (suc from) stages =
      subst (λ (all : List Stage). map (λ (place : ℕ). (place, next_stage s late (get_or all place d))) (pending_from (suc from) stages)
      ≡ steps_from (next_stage s late) (suc from) stages) whole
      (steps_read d (prefix ++ Pending g ∷ []) stages (suc from) (omega (arith, long, length-append prefix (Pending g ∷ [])))) in
      ap (λ (stage : Stage). (from, next_stage s late stage)
      ∷ map (λ (place : ℕ). (place, next_stage s late (get_or (prefix ++ Pending g ∷ stages) place d))) (pending_from (suc from) stages)) here
      ∙ ap (λ (steps : List (ℕ × Stage)). (from, next_stage s late (Pending g)) ∷ steps) rest

  -- stored at their indices, they are the stages after one more block
  pub put_steps : (prefix stages back : List Stage) (from : ℕ) → from ≡ length prefix
      → put_all (steps_from (next_stage s late) from stages) (prefix ++ (stages ++ back)) ≡ prefix ++ (map (next_stage s late) stages ++ back)
  put_steps prefix [] back from long = refl
  put_steps prefix (Closed batches ∷ stages) back from long =
      let one : List Stage = Closed batches ∷ [] in
      ap (put_all (steps_from (next_stage s late) (suc from) stages)) (sym (append_assoc prefix one (stages ++ back)))
      ∙ put_steps (prefix ++ one) stages back (suc from) (omega (arith, long, length-append prefix one))
      ∙ append_assoc prefix one (map (next_stage s late) stages ++ back)
  put_steps prefix (Pending g ∷ stages) back from long =
      let one : List Stage = Pending g ∷ [] in
      let rest : put_all (steps_from (next_stage s late) (suc from) stages) (prefix ++ Pending g ∷ (stages ++ back))
      ≡ prefix ++ Pending g ∷ (map (next_stage s late) stages ++ back) =
      ap (put_all (steps_from (next_stage s late) (suc from) stages)) (sym (append_assoc prefix one (stages ++ back)))
      ∙ put_steps (prefix ++ one) stages back (suc from) (omega (arith, long, length-append prefix one))
      ∙ append_assoc prefix one (map (next_stage s late) stages ++ back) in
      ap (λ (all : List Stage). set all from (next_stage s late (Pending g))) rest
      ∙ ap (λ (k : ℕ). set (prefix ++ Pending g ∷ (map (next_stage s late) stages ++ back)) k (next_stage s late (Pending g))) long
      ∙ set-append_seam prefix (Pending g) (map (next_stage s late) stages ++ back) (next_stage s late (Pending g))

  -- one more, pending or not
  one_pending : (from : ℕ) (stage : Stage) (steps : List (ℕ × Stage)) (stages : List Stage)
      → still_pending steps ≡ pending_from (suc from) stages → still_pending ((from, stage) ∷ steps) ≡ pending_from from (stage ∷ stages)
  one_pending from (Closed batches) steps stages same = same
  one_pending from (Pending g) steps stages same = ap (λ (places : List ℕ). from ∷ places) same

  -- those that are still pending
  pub pending_next : (from most : ℕ) (own : Stage) (stages : List Stage) → most ≡ from + length stages
      → still_pending (steps_from (next_stage s late) from stages ++ (most, own) ∷ []) ≡ pending_from from (map (next_stage s late) stages ++ own ∷ [])
  pending_next from most own [] long = subst (λ (k : ℕ). still_pending ((k, own) ∷ []) ≡ pending_from from (own ∷ []))
      (let same : from ≡ most = omega (arith, long) in same) (one_pending from own [] [] refl)
  pending_next from most own (Closed batches ∷ stages) long = pending_next (suc from) most own stages (omega (arith, long))
  pending_next from most own (Pending g ∷ stages) long =
      one_pending from (next_stage s late (Pending g)) (steps_from (next_stage s late) (suc from) stages ++ (most, own) ∷ [])
      (map (next_stage s late) stages ++ own ∷ [])
      (pending_next (suc from) most own stages (omega (arith, long)))

  -- what waits
  pub waits_next : (t : Tx) (from : ℕ) (stages : List Stage)
      → list_any (λ step. stage_waits t step.1) (steps_from (next_stage s late) from stages)
      ≡ list_any (stage_waits t) (map (next_stage s late) stages)
  waits_next t from [] = refl
  waits_next t from (Closed batches ∷ stages) = waits_next t (suc from) stages
  waits_next t from (Pending g ∷ stages) =
      ap (λ (b : Bool). stage_waits t (next_stage s late (Pending g)) || b) (waits_next t (suc from) stages)

-- the last one stored first
pub put_all-push : (steps : List (ℕ × Stage)) (step : ℕ × Stage) (stages : List Stage)
    → put_all (steps ++ step ∷ []) stages ≡ put_all steps (set stages step.0 step.1)
put_all-push [] step stages = refl
put_all-push (first ∷ steps) step stages = ap (λ (all : List Stage). set all first.0 first.1) (put_all-push steps step stages)

pub within-push : (steps : List (ℕ × Stage)) (step : ℕ × Stage) (most : ℕ)
    → AllByRecursion (λ (e : ℕ × Stage). e.0 < most) (steps ++ step ∷ [])
    → AllByRecursion (λ (e : ℕ × Stage). e.0 < most) steps × (step.0 < most)
within-push [] step most within = (tt, within.0)
within-push (first ∷ steps) step most within = let rest = within-push steps step most within.1 in ((within.0, rest.0), rest.1)

pub still_pending-append : (steps more : List (ℕ × Stage)) → still_pending (steps ++ more) ≡ still_pending steps ++ still_pending more
still_pending-append [] more = refl
still_pending-append ((place, Closed batches) ∷ steps) more = still_pending-append steps more
still_pending-append ((place, Pending g) ∷ steps) more = ap (λ (places : List ℕ). place ∷ places) (still_pending-append steps more)

-- one more, pending or not
pub still_more : (steps : List (ℕ × Stage)) (place : ℕ) (stage : Stage) → is_pending stage ≡ true
    → still_pending (steps ++ (place, stage) ∷ []) ≡ still_pending steps ++ place ∷ []
still_more steps place (Closed batches) is = absurd (cc)
still_more steps place (Pending g) is = still_pending-append steps ((place, Pending g) ∷ [])

pub still_same : (steps : List (ℕ × Stage)) (place : ℕ) (stage : Stage) → is_pending stage ≡ false
    → still_pending (steps ++ (place, stage) ∷ []) ≡ still_pending steps
still_same steps place (Closed batches) is = still_pending-append steps ((place, Closed batches) ∷ []) ∙ append-nil (still_pending steps)
still_same steps place (Pending g) is = absurd (cc)

-- the last one is stored, and the others are still to be stored
pub back_step : (rest steps all : List (ℕ × Stage)) (step : ℕ × Stage) (stages begun now : List Stage) → steps ≡ rest ++ step ∷ []
    → now ≡ set stages step.0 step.1
    → AreWithin steps stages → put_all steps stages ≡ put_all all begun → AreWithin rest now × (put_all rest now ≡ put_all all begun)
back_step rest steps all step stages begun now steps_are now_is within same =
    let inner : AllByRecursion (λ (e : ℕ × Stage). e.0 < length stages) (rest ++ step ∷ []) =
    subst (AllByRecursion (λ (e : ℕ × Stage). e.0 < length stages)) steps_are within in
    let long : length now ≡ length stages = ap length now_is ∙ length-set stages step.0 step.1 in (
      subst (λ (n : ℕ). AllByRecursion (λ (e : ℕ × Stage). e.0 < n) rest) (sym long) (within-push rest step (length stages) inner).0,
      ap (put_all rest) now_is ∙ sym (put_all-push rest step stages) ∙ ap (λ (ss : List (ℕ × Stage)). put_all ss stages) (sym steps_are) ∙ same,
    )

pub last_within : (rest steps : List (ℕ × Stage)) (step : ℕ × Stage) (stages : List Stage) → steps ≡ rest ++ step ∷ []
    → AreWithin steps stages → step.0 < length stages
last_within rest steps step stages steps_are within =
    (within-push rest step (length stages) (subst (AllByRecursion (λ (e : ℕ × Stage). e.0 < length stages)) steps_are within)).1
