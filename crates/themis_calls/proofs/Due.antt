-- One status is due to an input.
use Rattle.std.proofs.Common.{◌≡◌, ℕ, ◌≤◌, List, Option, Some, None, Err, refl, sym, ap, ◌∙◌, subst, arith, inl, inr}
use Rattle.std.specs.Prelude.{slice_get}
use Rattle.std.proofs.lemmas.Bool.{cases_lt}
use Rattle.seq_base.specs.declared.tx.Tx.{Tx}
use Rattle.majority_graph.specs.Graph.{Graph, IsComplete, IsFirstMissing}
use Rattle.fair_laws.specs.Kept.{proposal_of}
use Rattle.fair_finalize.specs.Causes.{IsLeastMissing}
use Rattle.plan_text.specs.declared.fault.PlanFault.{PlanFault}
use Rattle.plan_text.specs.declared.order.OrderText.{OrderText}
use Rattle.plan_text.specs.OrderReading.{read_orders}
use Rattle.report_text.specs.OrderPrint.{IsOpen}
use Rattle.themis_calls.specs.declared.outcome.Status.{Status}
use Rattle.themis_calls.specs.declared.outcome.Status.TheVariants.{Done, ReadFault, WriteFault, BadWords, BadPlan, TooLong, Open, Stalled, Forged, Collided, NoMemory, BadTrace, Unlawful}
use Rattle.themis_calls.specs.Ordered.{IsAsked, IsDue}

-- the least missing pair is one
not_below : (g : Graph) (u v x y : ℕ) → IsFirstMissing g u v → IsFirstMissing g x y → x ≤ u
not_below g u v x y one other =
    elim (cases_lt u x) [
      | inl less ↦ absurd (other.none_below u v less one.ordered one.inside one.missing)
      | inr least ↦ least
    ]

not_within : (g : Graph) (u v y : ℕ) → IsFirstMissing g u v → IsFirstMissing g u y → y ≤ v
not_within g u v y one other =
    elim (cases_lt v y) [
      | inl less ↦ absurd (other.none_within v one.ordered less one.missing)
      | inr least ↦ least
    ]

same_place : (g : Graph) (u v x y : ℕ) → IsFirstMissing g u v → IsFirstMissing g x y → (u ≡ x) × (v ≡ y)
same_place g u v x y one other =
    let first : u ≡ x = omega (arith, not_below g u v x y one other, not_below g x y u v other one) in
    let here : IsFirstMissing g x v = subst (λ (k : ℕ). IsFirstMissing g k v) first one in
    (first, omega (arith, not_within g x v y here other, not_within g x y v other here))

same_pair : (g : Graph) (u v x y : Tx) → IsLeastMissing g u v → IsLeastMissing g x y → (u ≡ x) × (v ≡ y)
same_pair g u v x y one other =
    let (i, j, first, at_i, at_j) = one in
    let (k, l, second, at_k, at_l) = other in
    let (same, alike) = same_place g i j k l first second in
    let us : Some u ≡ Some x = sym at_i ∙ ap (slice_get g.vertices) same ∙ at_k in
    let vs : Some v ≡ Some y = sym at_j ∙ ap (slice_get g.vertices) alike ∙ at_l in
    (cc us, cc vs)

never_both : (g : Graph) (u v : Tx) → IsComplete g → IsLeastMissing g u v → ⊥
never_both g u v complete least =
    let (i, j, first, at_i, at_j) = least in
    complete i j (omega (arith, first.ordered, first.inside)) first.inside (λ same. omega (arith, first.ordered, same)) first.missing

-- what is asked is one
same_orders : (bytes : List ℕ) (pair other : Option (Tx × Tx)) (one : IsAsked bytes pair) (two : IsAsked bytes other)
    → IsOpen (proposal_of one.orders.setting one.orders.lists) other
same_orders bytes pair other one two =
    let same : two.orders ≡ one.orders = cc (sym two.read ∙ one.read) in
    subst (λ (o : OrderText). IsOpen (proposal_of o.setting o.lists) other) same two.undecided

no_fault : (bytes : List ℕ) (pair : Option (Tx × Tx)) (fault : PlanFault) → IsAsked bytes pair → read_orders bytes ≡ Err fault → ⊥
no_fault bytes pair fault asked is = let wrong = sym asked.read ∙ is in cc wrong

pub one_due : (bytes : List ℕ) (one other : Status) → IsDue bytes one → IsDue bytes other → one ≡ other
one_due bytes Done Done p q = refl
one_due bytes Done (BadPlan fault) p q = absurd (no_fault bytes None fault p.1 q.1)
one_due bytes Done TooLong p q = absurd (omega (arith, p.0, q))
one_due bytes Done (Open u v) p q = absurd (never_both _ u v (p.1).undecided (same_orders bytes None (Some (u, v)) p.1 q.1))
one_due bytes (BadPlan fault) Done p q = absurd (no_fault bytes None fault q.1 p.1)
one_due bytes (BadPlan fault) (BadPlan other) p q = ap (λ (f : PlanFault). BadPlan f) (cc (sym p.1 ∙ q.1))
one_due bytes (BadPlan fault) TooLong p q = absurd (omega (arith, p.0, q))
one_due bytes (BadPlan fault) (Open u v) p q = absurd (no_fault bytes (Some (u, v)) fault q.1 p.1)
one_due bytes TooLong Done p q = absurd (omega (arith, q.0, p))
one_due bytes TooLong (BadPlan fault) p q = absurd (omega (arith, q.0, p))
one_due bytes TooLong TooLong p q = refl
one_due bytes TooLong (Open u v) p q = absurd (omega (arith, q.0, p))
one_due bytes (Open u v) Done p q = absurd (never_both _ u v (q.1).undecided (same_orders bytes None (Some (u, v)) q.1 p.1))
one_due bytes (Open u v) (BadPlan fault) p q = absurd (no_fault bytes (Some (u, v)) fault p.1 q.1)
one_due bytes (Open u v) TooLong p q = absurd (omega (arith, p.0, q))
one_due bytes (Open u v) (Open x y) p q =
    let (us, vs) = same_pair _ u v x y (p.1).undecided (same_orders bytes (Some (u, v)) (Some (x, y)) p.1 q.1) in
    ap (λ (t : Tx). Open t v) us ∙ ap (λ (t : Tx). Open x t) vs
one_due bytes ReadFault other p q = absurd p
one_due bytes WriteFault other p q = absurd p
one_due bytes BadWords other p q = absurd p
one_due bytes (Stalled turns ticks) other p q = absurd p
one_due bytes (Forged at) other p q = absurd p
one_due bytes (Collided at) other p q = absurd p
one_due bytes NoMemory other p q = absurd p
one_due bytes (BadTrace at) other p q = absurd p
one_due bytes (Unlawful replica entry rule) other p q = absurd p
one_due bytes one ReadFault p q = absurd q
one_due bytes one WriteFault p q = absurd q
one_due bytes one BadWords p q = absurd q
one_due bytes one (Stalled turns ticks) p q = absurd q
one_due bytes one (Forged at) p q = absurd q
one_due bytes one (Collided at) p q = absurd q
one_due bytes one NoMemory p q = absurd q
one_due bytes one (BadTrace at) p q = absurd q
one_due bytes one (Unlawful replica entry rule) p q = absurd q
