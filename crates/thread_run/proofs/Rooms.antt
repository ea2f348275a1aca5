-- What is submitted to a log is what the exact run gives the replica, in another order. So it has room in the log, and
-- each transaction fits.
use Rattle.std.proofs.Common.{◌≡◌, ℕ, zero, suc, ◌+◌, ◌-◌, ◌<◌, ◌≤◌, List, [], ◌∷◌, map, nat_le, true, false, refl, ap, sym, subst, ◌∙◌, inl, inr, arith}
use Rattle.std.specs.Prelude.{All}
use Rattle.std.specs.List.{flat_map, range_with_len}
use Rattle.std.proofs.lemmas.Bool.{cases_Bool}
use Rattle.std.proofs.lemmas.Bool.Decides.{nat_tests}
use Rattle.std.proofs.lemmas.List.Elements.{All-cons, All-head, All-nil, All-tail}
use Rattle.seq_base.specs.declared.tx.Tx.{Tx}
use Rattle.seq_base.specs.Lists.{holds}
use Rattle.seq_base.specs.Tx.{FitsTx, tx_eq}
use Rattle.client_logs.specs.Clients.{numbered_tx}
use Rattle.client_logs.specs.Merges.{IsMerge}
use Rattle.plan_text.specs.declared.plan.Client.{Client}
use Rattle.plan_text.specs.declared.plan.Plan.{Plan}
use Rattle.plan_text.specs.Rules.{KeepsRules}
use Rattle.replica_seat.specs.Feed.{arrivals_for, rounds_of, timed_for, txs_of}
use Rattle.replica_seat.specs.declared.arrivals.TimedTx.{TimedTx}
use Rattle.replica_seat.proofs.ArrivalSums.{arrivals_total, feed_total, share, shares}
use Rattle.replica_seat.proofs.ArrivalLists.{all_fit, equal, few, no_misfit, once}
use Rattle.replica_seat.proofs.Shares.{given, misfit}
use Rattle.replica_seat.proofs.Totals.{distinct_from_counts, total, total-append, total-map, total_is_length}
use Rattle.round_rules.specs.Submissions.{client_list, submitted_to}
use Rattle.thread_run.specs.Finishing.{HasRoom, all_submitted}
use Rattle.thread_run.proofs.Dues.{all_held, flat_lists, merge_same, most_each}
use Rattle.thread_run.proofs.MergedLogs.{range_two}

module _ (f : Tx → ℕ) where
  -- what a client adds in the rounds that it has, and after them
  share_within : (c : Client) (a m : ℕ) → a + m ≤ c.count + 1 → total f (map (numbered_tx c.id) (range_with_len a m)) ≡ shares f (range_with_len a m) c
  share_within c a zero le = refl
  share_within c a (suc m) le =
      let here : nat_le a c.count ≡ true = (let low : a ≤ c.count = omega (arith, le) in grind (arith, nat_tests)) in
      rw here (ap (λ (n : ℕ). f (numbered_tx c.id a) + n) (share_within c (a + 1) m (omega (arith, le))))

  share_past : (c : Client) (a m : ℕ) → c.count < a → shares f (range_with_len a m) c ≡ 0
  share_past c a zero lt = refl
  share_past c a (suc m) lt =
      (let past : nat_le a c.count ≡ false = grind (arith, nat_tests) in let rest = share_past c (a + 1) m (omega (arith, lt)) in
      rw past (omega (arith, rest)))

  share_all : (c : Client) (most : ℕ) → c.count ≤ most → total f (client_list c) ≡ shares f (range_with_len 1 most) c
  share_all c most le =
      let rest : ℕ = most - c.count in
      let is : most ≡ c.count + rest = omega (arith, le) in
      let within = share_within c 1 c.count (omega arith) in
      let past = share_past c (1 + c.count) rest (omega arith) in
      let both : shares f (range_with_len 1 most) c ≡ shares f (range_with_len 1 c.count) c + shares f (range_with_len (1 + c.count) rest) c =
      ap (λ (n : ℕ). shares f (range_with_len 1 n) c) is
      ∙ ap (λ (ks : List ℕ). shares f ks c) (range_two 1 c.count rest)
      ∙ total-append (λ k. share f k c) (range_with_len 1 c.count) (range_with_len (1 + c.count) rest) in
      omega (arith, within, past, both)

  all_shares : (most : ℕ) (cs : List Client) → All (λ (c : Client). c.count ≤ most) cs
      → total f (flat_map client_list cs) ≡ total (shares f (range_with_len 1 most)) cs
  all_shares most [] all = refl
  all_shares most (c ∷ cs) all =
      let first = share_all c most (All-head (λ (c : Client). c.count ≤ most) c cs all) in
      let rest = all_shares most cs (All-tail (λ (c : Client). c.count ≤ most) c cs all) in
      let both = total-append f (client_list c) (flat_map client_list cs) in
      omega (arith, first, rest, both)

  submitted_total : (plan : Plan) (at : ℕ) → total f (all_submitted plan at) ≡ total f (txs_of (timed_for plan at))
  submitted_total plan at =
      let clients = all_shares (rounds_of plan.clients) plan.clients (most_each 0 plan.clients) in
      let lists = ap (total f) (flat_lists plan.clients) in
      let arrivals = total-map f (λ (t : TimedTx). t.tx) (arrivals_for plan.arrivals at) in
      let received = arrivals_total f plan.arrivals at in
      let both = total-append f (txs_of (arrivals_for plan.arrivals at)) (flat_map (λ l. l) (map client_list plan.clients)) in
      let feed = feed_total f plan at in
      omega (arith, clients, lists, arrivals, received, both, feed)

held_first : (x : Tx) (xs : List Tx) → holds x (x ∷ xs) ≡ true
held_first x xs = rw (equal x) refl

held_later : (t x : Tx) (xs : List Tx) → holds t xs ≡ true → holds t (x ∷ xs) ≡ true
held_later t x xs is = elim (cases_Bool (tx_eq x t)) [
  | inl so ↦ rw so refl
  | inr not_so ↦ rw not_so is
]

module _ (plan : Plan) (rules : KeepsRules plan) (at : ℕ) (below : at < plan.setting.n) where
  pub has_room : HasRoom plan at
  has_room = record {
    distinct = distinct_from_counts tx_eq equal (all_submitted plan at)
        (λ t. subst (λ (k : ℕ). k ≤ 1) (sym (submitted_total (given t) plan at)) (once plan rules rules.apart at below t));
    short =
        (let all = submitted_total (λ t. 1) plan at in let a = total_is_length (all_submitted plan at) in let b =
        total_is_length (txs_of (timed_for plan at)) in let most = few plan rules rules.apart at below in omega (arith, all, a, b, most));
  }

  pub submitted_fit : total misfit (all_submitted plan at) ≡ 0
  submitted_fit = submitted_total misfit plan at ∙ no_misfit plan rules rules.apart at below

  -- each transaction of a merge fits
  pub merged_fit : (list : List Tx) → IsMerge (submitted_to plan at) list → All FitsTx list
  merged_fit list m = held_all list (λ t is. all_held FitsTx (all_submitted plan at) (all_fit (all_submitted plan at) submitted_fit) t
      (merge_same (submitted_to plan at) list m t ∙ is))
    where
      held_all : (xs : List Tx) → ((t : Tx) → holds t xs ≡ true → FitsTx t) → All FitsTx xs
      held_all [] f = All-nil FitsTx
      held_all (x ∷ xs) f = All-cons FitsTx x xs (f x (held_first x xs)) (held_all xs (λ t is. f t (held_later t x xs is)))
