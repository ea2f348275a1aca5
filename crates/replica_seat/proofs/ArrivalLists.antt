-- The arrival lists of plans that keep the rules and keep transactions apart.
use Rattle.std.proofs.Common.{◌≡◌, ◌≢◌, ℕ, ◌+◌, ◌<◌, ◌≤◌, ◌^◌, List, length, true, false, not, All, refl, sym, ap, ◌∙◌, inl, inr, arith}
use Rattle.std.specs.List.{range_with_len}
use Rattle.std.proofs.lemmas.Bool.{cases_Bool, false≢true, and_parts, ltb-true, not-false}
use Rattle.std.proofs.lemmas.List.Elements.{All-weaker}
use Rattle.seq_base.specs.declared.tx.Tx.{Tx}
use Rattle.seq_base.specs.Tx.{FitsTx, tx_eq, tx_eq_decides}
use Rattle.seq_base.proofs.Points.{point}
use Rattle.plan_text.specs.declared.plan.Client.{Client}
use Rattle.plan_text.specs.declared.plan.Plan.{Plan}
use Rattle.plan_text.specs.Apart.{KeepsApart}
use Rattle.plan_text.specs.Arrivals.{received}
use Rattle.plan_text.specs.Clients.{is_client}
use Rattle.plan_text.specs.Rules.{KeepsRules}
use Rattle.plan_text.specs.TxTexts.{fits_tx}
use Rattle.replica_seat.specs.Feed.{rounds_of, timed_for, txs_of}
use Rattle.replica_seat.specs.Arrivals.{IsArrivalList}
use Rattle.replica_seat.proofs.ArrivalSums.{feed_total, shares}
use Rattle.replica_seat.proofs.Shares.{given, misfit, fits_none, share_counts, share_fits, clients_once, no_client}
use Rattle.replica_seat.proofs.Totals.{total, total_is_sum, total_is_length, total_none, all_fail, once_passes, distinct_from_counts}

-- a transaction that is no misfit fits
none_fits : (t : Tx) → not (fits_tx t) ≡ false → FitsTx t
none_fits t within =
    let (client, rest) = and_parts _ _ (not-false (fits_tx t) within) in
    let (number, payload) = and_parts _ _ rest in
    record { client = ltb-true t.client (2 ^ 32) client; number = ltb-true t.number (2 ^ 32) number; payload = ltb-true t.payload (2 ^ 64) payload }

-- each fits where there is no misfit
pub all_fit : (txs : List Tx) → total misfit txs ≡ 0 → All FitsTx txs
all_fit txs none = All-weaker (λ t. not (fits_tx t) ≡ false) FitsTx none_fits txs (all_fail (λ t. not (fits_tx t)) txs none)

pub equal : (t : Tx) → tx_eq t t ≡ true
equal t = (tx_eq_decides t t).1 refl

-- of two that equal one the other is not another
both_equal : (t x y : Tx) → tx_eq x t ≡ true → tx_eq y t ≡ true → x ≢ y → ⊥
both_equal t x y a b other = other ((tx_eq_decides x t).0 a ∙ sym ((tx_eq_decides y t).0 b))

-- a client's transaction is none of the others
no_other : (clients : List Client) (txs : List Tx) → All (λ x. is_client clients x.client ≡ false) txs → (t : Tx)
    → is_client clients t.client ≡ true → total (given t) txs ≡ 0
no_other clients txs others t is = total_none (given t) txs (All-weaker (λ (x : Tx). is_client clients x.client ≡ false) (λ x. given t x ≡ 0) apart txs others)
  where
    apart : (x : Tx) → is_client clients x.client ≡ false → given t x ≡ 0
    apart x other = elim (cases_Bool (tx_eq x t)) [
      | inl so ↦ absurd (false≢true (sym other ∙ ap (λ (y : Tx). is_client clients y.client) ((tx_eq_decides x t).0 so) ∙ is))
      | inr not_so ↦ ap point not_so
    ]

module _ (plan : Plan) (rules : KeepsRules plan) (apart : KeepsApart plan) (r : ℕ) (below : r < plan.setting.n) where
  -- the fields, one by one
  pub few : length (txs_of (timed_for plan r)) ≤ 65536
  few =
      let all : total (λ t. 1) (txs_of (timed_for plan r))
      ≡ total (shares (λ t. 1) (range_with_len 1 (rounds_of plan.clients))) plan.clients + total (λ t. 1) (received r plan.arrivals) =
      feed_total (λ t. 1) plan r in
      omega (
        arith,
        all,
        total_is_length (txs_of (timed_for plan r)),
        total_is_length (received r plan.arrivals),
        share_counts (rounds_of plan.clients) plan.clients,
        total_is_sum (λ (c : Client). c.count) plan.clients,
        rules.logs_suffice r below,
      )

  pub no_misfit : total misfit (txs_of (timed_for plan r)) ≡ 0
  no_misfit =
      let others : total misfit (received r plan.arrivals) ≡ 0 =
      total_none misfit (received r plan.arrivals)
      (All-weaker FitsTx (λ t. misfit t ≡ 0) fits_none (received r plan.arrivals) (apart.arrivals r).fits) in
      omega (arith, feed_total misfit plan r, share_fits (rounds_of plan.clients) plan.clients apart.clients_small rules.small_counts, others)

  pub once : (t : Tx) → total (given t) (txs_of (timed_for plan r)) ≤ 1
  once t = elim (cases_Bool (is_client plan.clients t.client)) [
    | inl so ↦
        omega (
          arith,
          feed_total (given t) plan r,
          clients_once t (rounds_of plan.clients) plan.clients apart.clients_differ,
          no_other plan.clients (received r plan.arrivals) (apart.arrivals r).others t so,
        )
    | inr not_so ↦
        let one : total (given t) (received r plan.arrivals) ≤ 1 =
        once_passes (λ x. tx_eq x t) (λ x y. x ≢ y) (both_equal t) (received r plan.arrivals) (apart.arrivals r).distinct in
        omega (arith, feed_total (given t) plan r, no_client t (rounds_of plan.clients) plan.clients not_so, one)
  ]

  pub is_arrival_list : IsArrivalList (txs_of (timed_for plan r))
  is_arrival_list =
      record { distinct = distinct_from_counts tx_eq equal (txs_of (timed_for plan r)) once; each = all_fit (txs_of (timed_for plan r)) no_misfit; few = few }
