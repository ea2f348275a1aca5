-- What an intake lets arrive.
use Rattle.std.proofs.Common.{◌≡◌, ◌≤◌, ◌+◌, ◌-◌, max, arith, ◌∷◌, [], List, ℕ, length, filter, Some, refl, sym, ap, subst, ◌∙◌}
use Rattle.std.specs.Map.{keys_of}
use Rattle.std.proofs.lemmas.List.{length-map}
use Rattle.seq_base.specs.declared.tx.Tx.{Tx}
use Rattle.intake.specs.declared.slot.Slot.{Slot}
use Rattle.intake.specs.declared.slot.Bound.TheVariants.{All}
use Rattle.intake.specs.Desk.{Desk, waiting}
use Rattle.intake.specs.Keys.{k_of}
use Rattle.intake.specs.Arriving.{arriving, arrived, comes}
use Rattle.intake.specs.Offered.{AreWaiting, HasArrived, given_all}
use Rattle.intake.proofs.Named.{named_none}

-- without a bound everything arrives
all_come : (k f : ℕ) (es : List (Tx × Slot)) → filter (comes k f All []) es ≡ es
all_come k f [] = refl
all_come k f (e ∷ es) = ap (λ (l : List (Tx × Slot)). e ∷ l) (all_come k f es)

pub all_arrive : (d : Desk) → arriving All [] d ≡ keys_of (waiting d)
all_arrive d = ap (λ (l : List (Tx × Slot)). keys_of l) (all_come (k_of d.n) d.f (waiting d))

pub count_all : (d : Desk) (txs : List Tx) → txs ≡ arriving All [] d → length txs ≡ length (waiting d)
count_all d txs is = ap (λ (l : List Tx). length l) (is ∙ all_arrive d) ∙ length-map (waiting d) (λ (e : Tx × Slot). e.0)

pub has_arrived_all : (old new : Desk) (txs given : List Tx) → txs ≡ arriving All [] old → given ≡ [] → new ≡ arrived All [] old → HasArrived old txs given new
has_arrived_all old new txs given all none after = record {
  held = old;
  marked = new;
  named = named_none old;
  bounded = record { bound = Some All; extra = []; all = all; after = after };
  waiting = subst (λ (l : List Tx). AreWaiting l new) (sym none) tt;
  excepted = ap (λ (l : List Tx). given_all l new) (sym none);
}

-- all that wait are within the cap, where all have room
pub cap_all : (unproposed load room waiting txs given : ℕ) → load ≡ unproposed → room ≡ 480 - load → waiting ≤ room → txs ≡ waiting → given ≡ 0
    → unproposed + txs + given ≤ max 480 unproposed
cap_all unproposed load room waiting txs given is left fits all none = omega (arith, is, left, fits, all, none)

pub most_all : (load room waiting txs given : ℕ) → room ≡ 480 - load → waiting ≤ room → txs ≡ waiting → given ≡ 0 → txs + given ≤ 480
most_all load room waiting txs given left fits all none = omega (arith, left, fits, all, none)
