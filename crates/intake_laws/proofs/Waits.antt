-- In a first lifetime, what was received after all had been heard of a waits after a.
use Rattle.std.proofs.Common.{◌≡◌, ℕ, ◌<◌, ◌≤◌, List, [], ◌∷◌, true, false, ◌&&◌, ltb, refl, sym, ap, subst, ◌∙◌, inl, inr}
use Rattle.std.specs.Prelude.{filter, Contains, Some, is_some}
use Rattle.std.proofs.lemmas.Bool.{cases_Bool, and_parts, both_ways, not_from_false}
use Rattle.seq_base.specs.declared.tx.Tx.{Tx}
use Rattle.seq_base.specs.Tx.{tx_eq, tx_eq_decides}
use Rattle.seq_base.specs.Lists.{holds}
use Rattle.intake.specs.declared.slot.Receipt.{Receipt}
use Rattle.intake.specs.declared.slot.Slot.{Slot}
use Rattle.intake.specs.declared.slot.Bound.{Bound}
use Rattle.intake.specs.Keys.{limit, k_of}
use Rattle.intake.specs.Desk.{next_stamp, is_final, is_held, waits, waiting}
use Rattle.intake.specs.Receiving.{answer_of, is_new, is_full, clock_raised, stamped, settled, changed_at}
use Rattle.intake.specs.Arriving.{arriving, arrived, given, is_waiting, marked, marked_if, comes}
use Rattle.intake_laws.specs.Past.{Call, Past, arriving_by, own_receipt, with_call, names_replica}
use Rattle.intake_laws.specs.Premises.{receives}
use Rattle.intake_laws.specs.OneLifetime.{is_first_lifetime}
use Rattle.intake_laws.proofs.Before.{tx_same}
use Rattle.intake_laws.proofs.LeastStamps.{Contains-first, Contains-none}
use Rattle.intake_laws.proofs.Dials.{new_if, new_is_early}
use Rattle.intake_laws.proofs.Slots.{receipt_at}
use Rattle.intake_laws.proofs.Sounds.{Sound, only_one}
use Rattle.intake_laws.proofs.Senders.{receives_it}
use Rattle.intake_laws.proofs.Entries.{at, holds_key, at-filter}
use Rattle.intake_laws.proofs.Keeps.{keeps_clocks, keeps_new, keeps_map, keeps_settled}
use Rattle.intake_laws.proofs.FirstReceipts.{stays_had, now_had, Heard, Had, KeepsBoth, news, finish, quiet, same_desk}
use Rattle.intake_laws.proofs.HeardReceipts.{after_hear}

pub names_too : (n : ℕ) (call : Call) → is_first_lifetime n call ≡ true → names_replica n call ≡ true
names_too n (Call.Receive tx source) is = refl
names_too n (Call.Hear peer receipt) is = is
names_too n (Call.HearClock peer clock) is = is
names_too n (Call.Settle txs) is = refl
names_too n (Call.Restore tx) is = refl
names_too n (Call.Arrive bound extra) is = refl
names_too n (Call.Give tx) is = refl

module _ (n f me : ℕ) (mine : me < n) (few : n ≤ 16) (a b : Tx) (Knows : Past → Type 0)
    (stays_so : (p : Past) (call : Call) → Knows p → Knows (with_call p call))
    (owns : (p : Past) → Knows p → (x : ℕ) × Contains (p.receipts me) (receipt_at a x)) where
  abbrev Hears : Past → ℕ → Type 0
  Hears p i = Heard n f me mine few a b p i

  abbrev Has : Past → Type 0
  Has p = Had n f me mine few a b p

  abbrev Both : Past → Type 0
  Both p = KeepsBoth n f me mine few a b Knows stays_so owns p

  after_receive : (p : Past) (tx : Tx) (source : ℕ) → Sound n f me p → (receives b (Call.Receive tx source) p.desk ≡ true → Knows p) → Both p
      → Both (with_call p (Call.Receive tx source))
  after_receive p tx source sound heard keeps =
      elim (cases_Bool (is_new (answer_of source tx p.desk))) [
        | inr old ↦ same_desk n f me mine few a b Knows stays_so owns p (Call.Receive tx source) sound keeps (rw old refl)
            (λ i. refl) p.desk (rw old refl) refl refl
        | inl new ↦
            let parts = new_if (is_final tx p.desk) (is_held tx p.desk) (is_full source p.desk) new in
            let own_is : own_receipt (Call.Receive tx source) p.desk ≡ receipt_at tx (next_stamp p.desk) ∷ [] = rw new refl in
            let knows_if : tx ≡ b → Knows p = λ (same : tx ≡ b). heard
            (receives_it b (own_receipt (Call.Receive tx source) p.desk) (receipt_at tx (next_stamp p.desk))
            (subst (λ (rs : List Receipt). Contains rs (receipt_at tx (next_stamp p.desk))) (sym own_is)
            (Contains-first (receipt_at tx (next_stamp p.desk)) [])) same) in
            finish n f me mine few a b Knows stays_so owns p (Call.Receive tx source) (stamped (next_stamp p.desk) false source tx p.desk) (rw new refl)
            (keeps_clocks n me mine few a b (stamped (next_stamp p.desk) false source tx p.desk) (stamped (next_stamp p.desk) false source tx p.desk)
            (Hears (with_call p (Call.Receive tx source))) (Hears (with_call p (Call.Receive tx source))) (Has p) (Has (with_call p (Call.Receive tx source)))
            (Knows (with_call p (Call.Receive tx source))) (Knows (with_call p (Call.Receive tx source))) refl refl (λ i k. k)
            (stays_had a p (Call.Receive tx source)) (λ k. k)
            (keeps_new n me mine few a b p.desk (Hears p) (Has p) (Knows p) keeps (Hears (with_call p (Call.Receive tx source)))
            (Knows (with_call p (Call.Receive tx source)))
            (next_stamp p.desk) source tx sound.fits.me_is (new_is_early source tx p.desk new) parts.0 parts.1
            (λ i k. elim (news n f me mine few a b Knows stays_so owns p (Call.Receive tx source) sound keeps i k) [
              | inl before ↦ inl before
              | inr now ↦ elim now [
                | inl mine' ↦ inr (
                  mine'.0,
                  ap (λ (r : Receipt). r.tx)
                      (only_one (is_new (answer_of source tx p.desk)) tx p.desk (receipt_at a mine'.1.0) mine'.1.1).1,
                )
                | inr other ↦ absurd (Contains-none _ other.1.1)
              ]
            ])
            (owns p) (stays_so p (Call.Receive tx source)) (λ same. (owns p (knows_if same), stays_so p (Call.Receive tx source) (knows_if same)))))
      ]

  after_arrive : (p : Past) (bound : Bound) (extra : List Tx) → Sound n f me p → Both p → Both (with_call p (Call.Arrive bound extra))
  after_arrive p bound extra sound keeps =
      keeps_clocks n me mine few a b (arrived bound extra p.desk) (arrived bound extra p.desk) (Hears p) (Hears (with_call p (Call.Arrive bound extra)))
      (Has (with_call p (Call.Arrive bound extra)))
      (Has (with_call p (Call.Arrive bound extra))) (Knows p) (Knows (with_call p (Call.Arrive bound extra))) refl refl
      (quiet n f me mine few a b Knows stays_so owns p (Call.Arrive bound extra) p.desk sound keeps refl (λ i. refl)) (λ k. k)
      (stays_so p (Call.Arrive bound extra))
      (keeps_map n me mine few a b p.desk (Hears p) (Has p) (Knows p) keeps (Has (with_call p (Call.Arrive bound extra)))
      (marked_if (k_of p.desk.n) p.desk.f bound extra)
      (λ e. elim (cases_Bool (waits e && comes (k_of p.desk.n) p.desk.f bound extra e)) [
        | inl yes' ↦ rw yes' refl
        | inr no' ↦ rw no' refl
      ])
      (λ v i known. elim (cases_Bool (waits (a, v) && comes (k_of p.desk.n) p.desk.f bound extra (a, v))) [
        | inl yes' ↦ rw yes' known
        | inr no' ↦ rw no' known
      ])
      (λ v found is. elim (cases_Bool (waits (a, v) && comes (k_of p.desk.n) p.desk.f bound extra (a, v))) [
        | inl yes' ↦ inr (now_had a p (Call.Arrive bound extra)
            (comes_now v found (and_parts (waits (a, v)) (comes (k_of p.desk.n) p.desk.f bound extra (a, v)) yes')))
        | inr no' ↦ inl (rw no' at is)
      ])
      (stays_had a p (Call.Arrive bound extra)))
    where
      comes_now : (v : Slot) → at a p.desk.held ≡ Some v → (waits (a, v) ≡ true) × (comes (k_of p.desk.n) p.desk.f bound extra (a, v) ≡ true) → holds a
          (arriving bound extra p.desk) ≡ true
      comes_now v found parts =
          holds_key a (filter (comes (k_of p.desk.n) p.desk.f bound extra) (waiting p.desk))
          ∙ ap is_some (at-filter a (comes (k_of p.desk.n) p.desk.f bound extra) (waiting p.desk) v (at-filter a waits p.desk.held v found parts.0) parts.1)

  after_give : (p : Past) (tx : Tx) → Sound n f me p → Both p → Both (with_call p (Call.Give tx))
  after_give p tx sound keeps =
      keeps_clocks n me mine few a b (given tx p.desk) (given tx p.desk) (Hears p) (Hears (with_call p (Call.Give tx))) (Has (with_call p (Call.Give tx)))
      (Has (with_call p (Call.Give tx)))
      (Knows p) (Knows (with_call p (Call.Give tx))) refl refl
      (quiet n f me mine few a b Knows stays_so owns p (Call.Give tx) p.desk sound keeps refl (λ i. refl)) (λ k. k)
      (stays_so p (Call.Give tx))
      (keeps_map n me mine few a b p.desk (Hears p) (Has p) (Knows p) keeps (Has (with_call p (Call.Give tx))) (changed_at tx marked)
      (λ e. elim (cases_Bool (tx_eq tx e.0)) [
        | inl yes' ↦ rw yes' refl
        | inr no' ↦ rw no' refl
      ])
      (λ v i known. elim (cases_Bool (tx_eq tx a)) [
        | inl yes' ↦ rw yes' known
        | inr no' ↦ rw no' known
      ])
      (λ v found is. elim (cases_Bool (tx_eq tx a)) [
        | inr no' ↦ inl (rw no' at is)
        | inl yes' ↦ elim (cases_Bool v.arrived) [
          | inl before ↦ inl before
          | inr not_yet ↦ inr (now_had a p (Call.Give tx) (gives v found not_yet ((tx_eq_decides tx a).0 yes')))
        ]
      ])
      (stays_had a p (Call.Give tx)))
    where
      gives : (v : Slot) → at a p.desk.held ≡ Some v → v.arrived ≡ false → tx ≡ a → holds a (arriving_by (Call.Give tx) p.desk) ≡ true
      gives v found not_yet same =
          let waits_here : is_waiting a p.desk ≡ true = rw found (not_from_false v.arrived not_yet) in
          let there : is_waiting tx p.desk ≡ true = subst (λ (t : Tx). is_waiting t p.desk ≡ true) (sym same) waits_here in
          rw there (subst (λ (t : Tx). holds a (t ∷ []) ≡ true) (sym same) (rw (tx_same a) refl))

  pub keeps_after : (p : Past) (call : Call) → is_first_lifetime n call ≡ true → Sound n f me p → (receives b call p.desk ≡ true → Knows p) → Both p
      → Both (with_call p call)
  keeps_after p (Call.Receive tx source) first sound heard keeps = after_receive p tx source sound heard keeps
  keeps_after p (Call.Hear peer receipt) first sound heard keeps = after_hear n f me mine few a b Knows stays_so owns p peer receipt first sound heard keeps
  keeps_after p (Call.HearClock peer clock) first sound heard keeps =
      elim (cases_Bool (ltb clock limit)) [
        | inl low ↦ same_desk n f me mine few a b Knows stays_so owns p (Call.HearClock peer clock) sound keeps refl (λ i. refl)
            (clock_raised peer clock p.desk) (rw low refl) refl refl
        | inr high ↦ same_desk n f me mine few a b Knows stays_so owns p (Call.HearClock peer clock) sound keeps refl (λ i. refl) p.desk
            (rw high refl) refl refl
      ]
  keeps_after p (Call.Settle txs) first sound heard keeps =
      keeps_clocks n me mine few a b (settled txs p.desk) (settled txs p.desk) (Hears p) (Hears (with_call p (Call.Settle txs))) (Has p)
      (Has (with_call p (Call.Settle txs)))
      (Knows p) (Knows (with_call p (Call.Settle txs))) refl refl
      (quiet n f me mine few a b Knows stays_so owns p (Call.Settle txs) p.desk sound keeps refl (λ i. refl))
      (stays_had a p (Call.Settle txs))
      (stays_so p (Call.Settle txs)) (keeps_settled n me mine few a b p.desk (Hears p) (Has p) (Knows p) keeps txs)
  keeps_after p (Call.Restore tx) first sound heard keeps = absurd (both_ways false refl first)
  keeps_after p (Call.Arrive bound extra) first sound heard keeps = after_arrive p bound extra sound keeps
  keeps_after p (Call.Give tx) first sound heard keeps = after_give p tx sound keeps
