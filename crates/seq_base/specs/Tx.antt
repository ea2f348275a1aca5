-- Transactions, their order and their text.
use Rattle.std.specs.Prelude.{ℕ, ◌<◌, ◌^◌, List, ◌∷◌, ◌++◌, Bool, ◌==◌, ◌&&◌, ◌≡◌}
use Rattle.std.specs.Ordering.{nat_cmp, ordering_then, eq_by_cmp}
use Rattle.std.specs.declared.cmp.Ordering.{Ordering}
use Rattle.std.specs.Fmt.{decimal}
use Rattle.std.specs.Bool.{Decides}
use Rattle.std.specs.Cmp.{IsTotalOrder, both_tied, unsigned_ties, unsigned_Decides}
use Rattle.std.proofs.Common.{ap, ◌∙◌}
use Rattle.std.proofs.lemmas.Bool.Decides.{Decides-and}
use Rattle.std.proofs.lemmas.Cmp.{then_total, on_total, nat_cmp_total}
use Rattle.seq_base.specs.declared.tx.Tx.{Tx}

-- by client, then number, then payload: what the derived order of a transaction computes
abbrev pub tx_cmp : Tx → Tx → Ordering
tx_cmp a b = ordering_then (nat_cmp a.client b.client) (ordering_then (nat_cmp a.number b.number) (nat_cmp a.payload b.payload))

-- this is a total order
pub tx_cmp_total : IsTotalOrder tx_cmp
tx_cmp_total = then_total (on_total (λ (t : Tx). t.client) nat_cmp_total)
    (then_total (on_total (λ (t : Tx). t.number) nat_cmp_total) (on_total (λ (t : Tx). t.payload) nat_cmp_total))

-- equality of the whole record
abbrev pub tx_eq : Tx → Tx → Bool
tx_eq a b = (a.client == b.client) && ((a.number == b.number) && (a.payload == b.payload))

-- two transactions are equal where the order ties them
pub tx_eq_ties : (a b : Tx) → tx_eq a b ≡ eq_by_cmp tx_cmp a b
tx_eq_ties a b =
    both_tied (a.client == b.client) ((a.number == b.number) && (a.payload == b.payload))
    (nat_cmp a.client b.client) (ordering_then (nat_cmp a.number b.number) (nat_cmp a.payload b.payload))
    (unsigned_ties a.client b.client)
    (both_tied (a.number == b.number) (a.payload == b.payload) (nat_cmp a.number b.number) (nat_cmp a.payload b.payload)
    (unsigned_ties a.number b.number) (unsigned_ties a.payload b.payload))

make_tx : ℕ → ℕ → ℕ → Tx
make_tx client number payload = record { client = client; number = number; payload = payload }

-- equal transactions are the same transaction
pub tx_eq_decides : (a b : Tx) → Decides (tx_eq a b) (a ≡ b)
unfolding make_tx
tx_eq_decides a b =
    let parts : Decides (tx_eq a b) ((a.client ≡ b.client) × ((a.number ≡ b.number) × (a.payload ≡ b.payload))) =
    Decides-and (a.client == b.client) ((a.number == b.number) && (a.payload == b.payload))
    (unsigned_Decides a.client b.client)
    (Decides-and (a.number == b.number) (a.payload == b.payload) (unsigned_Decides a.number b.number) (unsigned_Decides a.payload b.payload)) in (
      (λ yes.
          ap (λ (c : ℕ). make_tx c a.number a.payload) ((parts.0 yes).0)
          ∙ ap (λ (n : ℕ). make_tx b.client n a.payload) ((parts.0 yes).1.0)
          ∙ ap (λ (p : ℕ). make_tx b.client b.number p) ((parts.0 yes).1.1)),
      (λ same. parts.1 (ap (λ (t : Tx). t.client) same, (ap (λ (t : Tx). t.number) same, ap (λ (t : Tx). t.payload) same))),
    )

-- the client, the number and the payload in decimal, separated by dots
abbrev pub tx_text : Tx → List ℕ
tx_text t = decimal t.client ++ 46 ∷ decimal t.number ++ 46 ∷ decimal t.payload

-- its numbers are within the widths of the fields
pub record FitsTx (t : Tx) : Type 0 where
  pub client : t.client < 2 ^ 32
  pub number : t.number < 2 ^ 32
  pub payload : t.payload < 2 ^ 64
