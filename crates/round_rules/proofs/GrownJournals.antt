-- What transactions contain, and what a journal knows, as both grow.
use Rattle.std.proofs.Common.{◌≡◌, ℕ, zero, suc, ◌≤◌, ◌||◌, Bool, true, false, List, [], ◌∷◌, ◌++◌, All, take, refl, subst, arith}
use Rattle.std.proofs.lemmas.Bool.Decides.{nat_tests}
use Rattle.std.proofs.lemmas.List.Elements.{All-nil, All-cons, All-head, All-tail}
use mathlib.Core.List.{IsPrefix}
use Rattle.seq_base.specs.Tx.{tx_eq}
use Rattle.seq_base.specs.Lists.{holds}
use Rattle.seq_base.specs.declared.tx.Tx.{Tx}
use Rattle.plan_text.specs.declared.plan.Plan.{Plan}
use Rattle.round_rules.specs.Moments.{Holds}
use Rattle.round_rules.specs.Submissions.{client_list}

or_longer : (b c d : Bool) → (c ≡ true → d ≡ true) → (b || c) ≡ true → (b || d) ≡ true
or_longer true c d f e = refl
or_longer false c d f e = f e

pub holds_longer : (t : Tx) (xs more : List Tx) → holds t xs ≡ true → holds t (xs ++ more) ≡ true
holds_longer t [] more h = absurd (cc)
holds_longer t (x ∷ xs) more h = or_longer (tx_eq x t) (holds t xs) (holds t (xs ++ more)) (holds_longer t xs more) h

all_of_fewer : {X : Type 0} (P : X → Type 0) (few many : ℕ) (xs : List X) → few ≤ many → All P (take many xs) → All P (take few xs)
all_of_fewer P zero many xs le all = All-nil P
all_of_fewer P (suc few) zero xs le all = absurd (omega (arith, le))
all_of_fewer P (suc few) (suc many) [] le all = All-nil P
all_of_fewer P (suc few) (suc many) (x ∷ xs) le all =
    All-cons P x (take few xs) (All-head P x (take many xs) all) (all_of_fewer P few many xs (omega (arith, le)) (All-tail P x (take many xs) all))

module _ (plan : Plan) (at : ℕ) where
  -- fewer turns and fewer of each client
  pub holds_less : (turns less count fewer : ℕ) (txs : List Tx) → less ≤ turns → fewer ≤ count → Holds plan at turns count txs → Holds plan at less fewer txs
  holds_less turns less count fewer txs le few h = record {
    arrivals = λ k d lt so. h.arrivals k d lt (grind (arith, nat_tests));
    clients = λ k d lt. all_of_fewer (λ (t : Tx). holds t txs ≡ true) fewer count (client_list _) few (h.clients k d lt);
  }

  -- more transactions
  pub holds_more : (turns count : ℕ) (txs more : List Tx) → IsPrefix txs more → Holds plan at turns count txs → Holds plan at turns count more
  holds_more turns count txs more p h = subst (Holds plan at turns count) p.1 (record {
    arrivals = λ k d lt so. holds_longer _ txs p.0 (h.arrivals k d lt so);
    clients = λ k d lt i e within. holds_longer _ txs p.0 (h.clients k d lt i e within);
  })
