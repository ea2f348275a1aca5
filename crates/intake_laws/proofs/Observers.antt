-- At a replica where a waits ahead of b when b arrives, a arrives first.
use Rattle.std.proofs.Common.{◌≡◌, ℕ, ◌+◌, ◌<◌, ◌≤◌, List, [], ◌∷◌, ◌++◌, Bool, true, false, not, ◌||◌, refl, sym, ap, subst, ◌∙◌, ◌⊎◌, inl, inr, arith}
use Rattle.std.specs.Prelude.{Contains, All, filter}
use Rattle.std.proofs.lemmas.Bool.{both_ways, cases_Bool, not-true, or_from}
use Rattle.std.proofs.lemmas.List.Elements.{All-head, All-tail}
use Rattle.std.proofs.lemmas.List.Folds.{list_any-append}
use Rattle.seq_base.specs.declared.tx.Tx.{Tx}
use Rattle.seq_base.specs.Tx.{tx_eq}
use Rattle.seq_base.specs.Lists.{holds}
use Rattle.seq_base.specs.Setting.{Parameters}
use Rattle.chain_laws.specs.Received.{is_before}
use Rattle.count_set.specs.Sets.{size_of}
use Rattle.intake.specs.declared.slot.Bound.{Bound}
use Rattle.intake.specs.Keys.{limit, k_of}
use Rattle.intake.specs.Desk.{waiting, waits}
use Rattle.intake.specs.Arriving.{arriving, comes}
use Rattle.intake_laws.specs.Middle.{IsMiddle}
use Rattle.intake_laws.specs.Past.{Call, Past, arriving_by, is_arrive, with_call, with_calls, names_replica, AtEach}
use Rattle.intake_laws.specs.Premises.{WaitsAhead}
use Rattle.intake_laws.proofs.Before.{before_filter, before_more, before_skip, before_alone}
use Rattle.intake_laws.proofs.LeastStamps.{Contains-unfilter}
use Rattle.intake_laws.proofs.Slots.{receipt_at}
use Rattle.intake_laws.proofs.Sounds.{Sound, sound_after, stays_known}
use Rattle.intake_laws.proofs.Closed.{comes_too, key_low, few_low, key_above, holds_entry, lookup_entry}

-- what the counts of a setting say
pub record Counts (n f : ℕ) (set bad : ℕ → Bool) : Type 0 where
  pub few : n ≤ 16
  pub bad_few : size_of n bad ≤ f
  pub positive : 0 < k_of n
  pub more : f < k_of n
  pub enough : k_of n + f ≤ size_of n set

module _ (s : Parameters) (me : ℕ) (mine : me < s.n) (faulty bad : ℕ → Bool) (counts : Counts s.n s.f (λ i. not (faulty i)) bad) (stamp : ℕ → ℕ) (at : ℕ)
    (middle : IsMiddle s.n s.f (λ i. not (faulty i)) stamp at) (small : at < limit) (a b : Tx) where
  -- every known stamp of b by a good replica is above
  abbrev Above : Past → Type 0
  Above p = (i : ℕ) (x : ℕ) → i < s.n → bad i ≡ false → Contains (p.receipts i) (receipt_at b x) → at < x

  ahead_arrives : (p : Past) (bound : Bound) (extra : List Tx) → Sound s.n s.f me p → Above p → WaitsAhead s faulty stamp a b p.desk
      → holds b (arriving bound extra p.desk) ≡ true → is_before (arriving bound extra p.desk) a b ≡ true
  ahead_arrives p bound extra sound above ahead comes_b =
      let found = holds_entry b (filter (comes (k_of p.desk.n) p.desk.f bound extra) (waiting p.desk)) comes_b in
      let let_in = Contains-unfilter (comes (k_of p.desk.n) p.desk.f bound extra) (waiting p.desk) found.0 found.1 in
      let held_b : Contains p.desk.held found.0 = (Contains-unfilter waits p.desk.held found.0 let_in.0).0 in
      let held_a : Contains p.desk.held (a, ahead.slot) =
      (Contains-unfilter waits p.desk.held (a, ahead.slot) (lookup_entry a (waiting p.desk) ahead.slot ahead.waits)).0 in
      let noted_a = sound.noted (a, ahead.slot) held_a in
      let k_is : k_of p.desk.n ≡ k_of s.n = ap k_of sound.fits.n_is in
      let low_a = key_low s.n s.f (k_of s.n) (λ i. not (faulty i)) stamp at ahead.slot.stamps counts.few middle noted_a.many counts.positive counts.enough
      (λ i below honest. ahead.stamps i below (not-true (faulty i) honest)) in
      let few_b = few_low s.n me (λ i r. Contains (p.receipts i) r) bad at found.0 counts.few small (sound.noted found.0 held_b)
      (λ i x below good known. above i x below good (subst (λ (t : Tx). Contains (p.receipts i) (receipt_at t x)) found.2 known)) in
      let key_b = key_above (k_of s.n) at found.0.1.stamps (omega (arith, small)) (omega (arith, few_b, counts.bad_few, counts.more)) in
      let low_b = key_above (s.f + 1) at found.0.1.stamps (omega (arith, small)) (omega (arith, few_b, counts.bad_few)) in
      let b_comes : comes (k_of s.n) s.f bound extra found.0 ≡ true =
      subst (λ (g : ℕ). comes (k_of s.n) g bound extra found.0 ≡ true) sound.fits.f_is
      (subst (λ (k : ℕ). comes k p.desk.f bound extra found.0 ≡ true) k_is let_in.1) in
      let a_comes : comes (k_of s.n) s.f bound extra (a, ahead.slot) ≡ true =
      comes_too (k_of s.n) s.f bound extra at (a, ahead.slot) found.0 low_a key_b low_b (omega (arith, small)) b_comes in
      let a_let_in : comes (k_of p.desk.n) p.desk.f bound extra (a, ahead.slot) ≡ true =
      subst (λ (k : ℕ). comes k p.desk.f bound extra (a, ahead.slot) ≡ true) (sym k_is)
      (subst (λ (g : ℕ). comes (k_of s.n) g bound extra (a, ahead.slot) ≡ true) (sym sound.fits.f_is) a_comes) in
      before_filter a b (comes (k_of p.desk.n) p.desk.f bound extra) ahead.slot (waiting p.desk) ahead.waits a_let_in ahead.ahead

  arrives_ahead : (p : Past) (call : Call) → Sound s.n s.f me p → Above p → is_arrive call ≡ true → WaitsAhead s faulty stamp a b p.desk
      → holds b (arriving_by call p.desk) ≡ true → is_before (arriving_by call p.desk) a b ≡ true
  arrives_ahead p (Call.Receive tx source) sound above is ahead comes_b = absurd (both_ways false refl is)
  arrives_ahead p (Call.Hear peer receipt) sound above is ahead comes_b = absurd (both_ways false refl is)
  arrives_ahead p (Call.HearClock peer clock) sound above is ahead comes_b = absurd (both_ways false refl is)
  arrives_ahead p (Call.Settle txs) sound above is ahead comes_b = absurd (both_ways false refl is)
  arrives_ahead p (Call.Restore tx) sound above is ahead comes_b = absurd (both_ways false refl is)
  arrives_ahead p (Call.Arrive bound extra) sound above is ahead comes_b = ahead_arrives p bound extra sound above ahead comes_b
  arrives_ahead p (Call.Give tx) sound above is ahead comes_b = absurd (both_ways false refl is)

  -- an order that stands stays
  extends : (p : Past) (calls : List Call) → is_before p.arrivals a b ≡ true → is_before (with_calls p calls).arrivals a b ≡ true
  extends p [] before = before
  extends p (call ∷ calls) before = extends (with_call p call) calls (before_more a b p.arrivals (arriving_by call p.desk) before)

  holds-append : (t : Tx) (xs ys : List Tx) → holds t (xs ++ ys) ≡ (holds t xs || holds t ys)
  holds-append t xs ys = list_any-append (λ (x : Tx). tx_eq x t) xs ys

  pub in_order : (p : Past) (calls : List Call) → All (λ call. names_replica s.n call ≡ true) calls → Sound s.n s.f me p
      → AtEach (λ q call. holds b (arriving_by call q.desk) ≡ true → (holds a q.arrivals ≡ true) ⊎
      ((is_arrive call ≡ true) × WaitsAhead s faulty stamp a b q.desk)) p calls
      → Above (with_calls p calls) → holds a p.arrivals ≡ false → holds b p.arrivals ≡ false
      → ((holds a (with_calls p calls).arrivals ≡ false) × (holds b (with_calls p calls).arrivals ≡ false)) ⊎
      (is_before (with_calls p calls).arrivals a b ≡ true)
  in_order p [] names sound each above no_a no_b = inl (no_a, no_b)
  in_order p (call ∷ calls) names sound each above no_a no_b =
      elim (cases_Bool (holds b (arriving_by call p.desk))) [
        | inl comes_b ↦ elim (each.0 comes_b) [
          | inl had ↦ absurd (both_ways (holds a p.arrivals) no_a had)
          | inr ahead ↦
              let now : is_before (arriving_by call p.desk) a b ≡ true = arrives_ahead p call sound
              (λ i x below good known. above i x below good (stays_known p (call ∷ calls) i (receipt_at b x) known)) ahead.0 ahead.1 comes_b in
              inr (extends (with_call p call) calls (before_skip a b p.arrivals (arriving_by call p.desk) no_b now))
        ]
        | inr not_b ↦
            let still_no_b : holds b (p.arrivals ++ arriving_by call p.desk) ≡ false = holds-append b p.arrivals (arriving_by call p.desk) ∙ or_from
            (holds b p.arrivals) (holds b (arriving_by call p.desk)) no_b not_b in
            elim (cases_Bool (holds a (p.arrivals ++ arriving_by call p.desk))) [
              | inl comes_a ↦ inr (extends (with_call p call) calls (before_alone a b (p.arrivals ++ arriving_by call p.desk) comes_a still_no_b))
              | inr still_no_a ↦
                  in_order (with_call p call) calls (All-tail (λ (c : Call). names_replica s.n c ≡ true) call calls names)
                  (sound_after s.n s.f me mine counts.few p call
                  (All-head (λ (c : Call). names_replica s.n c ≡ true) call calls names) sound) each.1 above still_no_a still_no_b
            ]
      ]
