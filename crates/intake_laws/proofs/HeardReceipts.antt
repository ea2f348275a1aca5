-- In a first lifetime: what a peer's receipt leaves.
use Rattle.std.proofs.Common.{◌≡◌, ◌≢◌, ℕ, ◌<◌, ◌≤◌, List, [], ◌∷◌, length, get_or, map, Bool, true, false, cond, ◌&&◌, eqb, ltb, refl, sym, ap, subst, ◌∙◌, ◌⊎◌, inl, inr, arith}
use Rattle.std.specs.Prelude.{Contains, Some, is_some}
use Rattle.std.proofs.lemmas.Bool.{cases_Bool, and_parts, both_ways, eqb-true, ltb-true}
use Rattle.std.proofs.lemmas.List.{length-set}
use Rattle.seq_base.specs.declared.tx.Tx.{Tx}
use Rattle.seq_base.specs.Tx.{tx_eq, tx_eq_decides}
use Rattle.intake.specs.declared.slot.Receipt.{Receipt}
use Rattle.intake.specs.declared.slot.Slot.{Slot}
use Rattle.intake.specs.declared.slot.Taken.TheVariants.{Final, Held, Full, New}
use Rattle.intake.specs.Keys.{limit, unknown}
use Rattle.intake.specs.Desk.{Desk, next_stamp, is_final, is_held}
use Rattle.intake.specs.Receiving.{answer_of, hear_answer, is_new, is_full, received, clock_raised, stamped, noted, with_stamp, changed_at, own_slot}
use Rattle.intake_laws.specs.Past.{Call, Past, desk_after, own_receipt, peer_receipt, is_learned, with_call}
use Rattle.intake_laws.specs.Premises.{receives}
use Rattle.intake_laws.proofs.Before.{tx_same}
use Rattle.intake_laws.proofs.LeastStamps.{Contains-first, Contains-cases, Contains-none}
use Rattle.intake_laws.proofs.Dials.{new_if, new_is_early}
use Rattle.intake_laws.proofs.Slots.{receipt_at}
use Rattle.intake_laws.proofs.Closed.{lookup_entry}
use Rattle.intake_laws.proofs.Sounds.{Sound, sound_after, new_heard, only_one}
use Rattle.intake_laws.proofs.Senders.{receives_it}
use Rattle.intake_laws.proofs.Entries.{at, found_or_not, at-map, at-push_none}
use Rattle.intake_laws.proofs.Keeps.{Keeps, Noted, keeps_clocks, keeps_new, keeps_map, known_with, peer_known, same_arrived, some_or}
use Rattle.intake_laws.proofs.FirstReceipts.{stays_had, Heard, Had, KeepsBoth, news, finish, same_desk}

-- an answer that learns something leaves the transaction final or held
learned_cases : (x y z : Bool) → is_learned (cond x Final (cond y Held (cond z Full New))) ≡ true → (x ≡ true) ⊎
    ((y ≡ true) ⊎ ((x ≡ false) × (y ≡ false) × (z ≡ false)))
learned_cases true y z learned = inl refl
learned_cases false true z learned = inr (inl refl)
learned_cases false false true learned = absurd (both_ways false refl learned)
learned_cases false false false learned = inr (inr (refl, refl, refl))

-- what is learned of is final or held
learned_held : (d : Desk) (peer : ℕ) (tx : Tx) → is_learned (answer_of peer tx d) ≡ true → (is_final tx (received peer tx d) ≡ true) ⊎
    (is_some (at tx (received peer tx d).held) ≡ true)
learned_held d peer tx learned =
    elim (cases_Bool (is_new (answer_of peer tx d))) [
      | inl new ↦
          let parts = new_if (is_final tx d) (is_held tx d) (is_full peer d) new in
          let one : at tx ((tx, own_slot d.me (next_stamp d) false peer) ∷ []) ≡ Some (own_slot d.me (next_stamp d) false peer) = rw (tx_same tx) refl in
          inr (rw new (ap is_some (at-push_none tx d.held ((tx, own_slot d.me (next_stamp d) false peer) ∷ []) parts.1 ∙ one)))
      | inr old ↦ elim (learned_cases (is_final tx d) (is_held tx d) (is_full peer d) learned) [
        | inl final ↦ inl (rw old final)
        | inr rest ↦ elim rest [
          | inl held ↦ inr (rw old held)
          | inr new ↦ absurd (both_ways (is_new (answer_of peer tx d)) old (rw (new.0, new.1, new.2) refl))
        ]
      ]
    ]

module _ (n f me : ℕ) (mine : me < n) (few : n ≤ 16) (a b : Tx) (Knows : Past → Type 0)
    (stays_so : (p : Past) (call : Call) → Knows p → Knows (with_call p call))
    (owns : (p : Past) → Knows p → (x : ℕ) × Contains (p.receipts me) (receipt_at a x)) where
  abbrev Hears : Past → ℕ → Type 0
  Hears p i = Heard n f me mine few a b p i

  abbrev Has : Past → Type 0
  Has p = Had n f me mine few a b p

  abbrev Both : Past → Type 0
  Both p = KeepsBoth n f me mine few a b Knows stays_so owns p

  module _ (p : Past) (peer : ℕ) (receipt : Receipt) (there : ltb peer n ≡ true) (sound : Sound n f me p)
      (heard : receives b (Call.Hear peer receipt) p.desk ≡ true → Knows p) (keeps : Both p) (low : ltb receipt.stamp limit ≡ true) where
    abbrev raised_desk : Desk
    raised_desk = clock_raised peer receipt.stamp p.desk

    abbrev taken_desk : Desk
    taken_desk = received peer receipt.tx (clock_raised peer receipt.stamp p.desk)

    abbrev Taken' : ℕ → Type 0
    Taken' i = Hears p i ⊎ ((i ≡ me) × ((receipt.tx ≡ a) × (is_new (answer_of peer receipt.tx raised_desk) ≡ true)))

    abbrev Knows' : Type 0
    Knows' = Knows (with_call p (Call.Hear peer receipt))

    heard_first : Keeps n me mine few a b taken_desk Taken' (Has p) Knows'
    heard_first =
        elim (cases_Bool (is_new (answer_of peer receipt.tx raised_desk))) [
          | inr old ↦
              let is : raised_desk ≡ taken_desk = rw old refl in
              subst (λ (e : Desk). Keeps n me mine few a b e Taken' (Has p) Knows') is
              (keeps_clocks n me mine few a b p.desk raised_desk (Hears p) Taken' (Has p) (Has p) (Knows p) Knows' refl refl
              (λ i k. elim k [
                | inl before ↦ before
                | inr now ↦ absurd (both_ways (is_new (answer_of peer receipt.tx raised_desk)) old now.1.1)
              ]) (λ k. k) (stays_so p (Call.Hear peer receipt)) keeps)
          | inl new ↦
              let is : stamped (next_stamp raised_desk) false peer receipt.tx raised_desk ≡ taken_desk = rw new refl in
              let parts = new_if (is_final receipt.tx raised_desk) (is_held receipt.tx raised_desk) (is_full peer raised_desk) new in
              let own_is : own_receipt (Call.Hear peer receipt) p.desk ≡ receipt_at receipt.tx (next_stamp raised_desk) ∷ [] = rw (low, new) refl in
              let knows_if : receipt.tx ≡ b → Knows p = λ (same : receipt.tx ≡ b). heard
              (receives_it b (own_receipt (Call.Hear peer receipt) p.desk) (receipt_at receipt.tx (next_stamp raised_desk))
              (subst (λ (rs : List Receipt). Contains rs (receipt_at receipt.tx (next_stamp raised_desk))) (sym own_is)
              (Contains-first (receipt_at receipt.tx (next_stamp raised_desk)) [])) same) in
              subst (λ (e : Desk). Keeps n me mine few a b e Taken' (Has p) Knows') is
              (keeps_new n me mine few a b raised_desk (Hears p) (Has p) (Knows p)
              (keeps_clocks n me mine few a b p.desk raised_desk (Hears p) (Hears p) (Has p) (Has p) (Knows p) (Knows p) refl refl (λ i k. k) (λ k. k)
              (λ k. k) keeps)
              Taken' Knows' (next_stamp raised_desk) peer receipt.tx sound.fits.me_is (new_is_early peer receipt.tx raised_desk new) parts.0 parts.1
              (λ i k. elim k [
                | inl before ↦ inl before
                | inr now ↦ inr (now.0, now.1.0)
              ])
              (owns p) (stays_so p (Call.Hear peer receipt)) (λ same. (owns p (knows_if same), stays_so p (Call.Hear peer receipt) (knows_if same))))
        ]

    abbrev notes : Tx × Slot → Tx × Slot
    notes = changed_at receipt.tx (with_stamp peer receipt.stamp)

    notes_keys : (e : Tx × Slot) → (notes e).0 ≡ e.0
    notes_keys e = elim (cases_Bool (tx_eq receipt.tx e.0)) [
      | inl yes' ↦ rw yes' refl
      | inr no' ↦ rw no' refl
    ]

    heard_then : Keeps n me mine few a b (noted peer receipt taken_desk) Taken' (Has p) Knows'
    heard_then =
        keeps_map n me mine few a b taken_desk Taken' (Has p) Knows' heard_first (Has p) notes notes_keys
        (λ v i known. elim (cases_Bool (tx_eq receipt.tx a)) [
          | inl yes' ↦ rw yes' (known_with peer receipt.stamp i v (ltb-true receipt.stamp limit low) known)
          | inr no' ↦ rw no' known
        ])
        (λ v found is. elim (cases_Bool (tx_eq receipt.tx a)) [
          | inl yes' ↦ inl (sym (same_arrived peer receipt.stamp v) ∙ (rw yes' at is))
          | inr no' ↦ inl (rw no' at is)
        ])
        (λ k. k)

    same_length : (v : Slot) → length (with_stamp peer receipt.stamp v).stamps ≡ length v.stamps
    same_length v = elim (cases_Bool (eqb (get_or v.stamps peer 0) unknown)) [
      | inl empty ↦ rw empty (length-set v.stamps peer receipt.stamp)
      | inr old ↦ rw old refl
    ]

    desk_is : desk_after (Call.Hear peer receipt) p.desk ≡ noted peer receipt taken_desk
    desk_is = rw low refl

    -- the stamp of a peer is in the slot
    peer_noted : (i x : ℕ) → Contains (peer_receipt i (Call.Hear peer receipt) p.desk) (receipt_at a x) → Noted n me mine few a b i
        (noted peer receipt taken_desk)
    peer_noted i x found =
        elim (cases_Bool (eqb peer i && is_learned (hear_answer peer receipt p.desk))) [
          | inr none ↦ absurd (Contains-none (receipt_at a x) (rw none at found))
          | inl some ↦
              let parts = and_parts (eqb peer i) (is_learned (hear_answer peer receipt p.desk)) some in
              let learned : is_learned (answer_of peer receipt.tx raised_desk) ≡ true = rw low at parts.1 in
              let first : receipt.tx ≡ a = elim (Contains-cases receipt [] (receipt_at a x) (rw some at found)) [
                | inl same ↦ ap (λ (r : Receipt). r.tx) same
                | inr nothing ↦ absurd (Contains-none (receipt_at a x) nothing)
              ] in
              elim (learned_held raised_desk peer receipt.tx learned) [
                | inl final ↦ inl (subst (λ (t : Tx). is_final t taken_desk ≡ true) first final)
                | inr held ↦ held_noted i (eqb-true peer i parts.0) first (subst (λ (t : Tx). is_some (at t taken_desk.held) ≡ true) first held)
              ]
        ]
      where
        held_noted : (j : ℕ) → peer ≡ j → receipt.tx ≡ a → is_some (at a taken_desk.held) ≡ true → Noted n me mine few a b j (noted peer receipt taken_desk)
        held_noted j same first held =
            elim (found_or_not a taken_desk.held) [
              | inr none ↦ some_or _ (at a taken_desk.held) held none
              | inl v ↦
                  let is : tx_eq receipt.tx a ≡ true = (tx_eq_decides receipt.tx a).1 first in
                  let slot_is : (notes (a, v.0)).1 ≡ with_stamp peer receipt.stamp v.0 = rw is refl in
                  let there_now : at a (map notes taken_desk.held) ≡ Some
                  (with_stamp peer receipt.stamp v.0) = at-map a notes notes_keys taken_desk.held v.0 v.1 ∙ ap (λ (w : Slot). Some w) slot_is in
                  inr (
                    with_stamp peer receipt.stamp v.0,
                    there_now,
                    subst (λ (m : ℕ). get_or (with_stamp peer receipt.stamp v.0).stamps m unknown ≢ unknown) same
                        (peer_known peer receipt.stamp v.0 (ltb-true receipt.stamp limit low) (omega (arith, ltb-true peer n there, few))
                        (sym (same_length v.0) ∙ (sound_now (a, with_stamp peer receipt.stamp v.0)
                        (lookup_entry a (map notes taken_desk.held) (with_stamp peer receipt.stamp v.0) there_now)))),
                  )
            ]
          where
            sound_now : (e : Tx × Slot) → Contains (map notes taken_desk.held) e → length e.1.stamps ≡ 16
            sound_now e inside =
                ((sound_after n f me mine few p (Call.Hear peer receipt) there sound).noted e
                (subst (λ (g : Desk). Contains g.held e) (sym desk_is) inside)).many

    pub after_low : Both (with_call p (Call.Hear peer receipt))
    after_low =
        finish n f me mine few a b Knows stays_so owns p (Call.Hear peer receipt) (noted peer receipt taken_desk) desk_is (record {
          known = λ i k. elim (news n f me mine few a b Knows stays_so owns p (Call.Hear peer receipt) sound keeps i k) [
            | inl before ↦ heard_then.known i (inl before)
            | inr now ↦ elim now [
              | inl own ↦
                  let one = only_one (is_new (hear_answer peer receipt p.desk)) receipt.tx raised_desk (receipt_at a own.1.0) own.1.1 in
                  let new = new_heard (ltb receipt.stamp limit) (answer_of peer receipt.tx raised_desk) one.0 in
                  heard_then.known i (inr (own.0, (ap (λ (r : Receipt). r.tx) one.1, new.1)))
              | inr other ↦ peer_noted i other.1.0 other.1.1
            ]
          ];
          order = heard_then.order;
          arrived = λ v found is. stays_had a p (Call.Hear peer receipt) (heard_then.arrived v found is);
          apart = heard_then.apart;
          second = heard_then.second;
        })

  pub after_hear : (p : Past) (peer : ℕ) (receipt : Receipt) → ltb peer n ≡ true → Sound n f me p →
      (receives b (Call.Hear peer receipt) p.desk ≡ true → Knows p) → Both p
      → Both (with_call p (Call.Hear peer receipt))
  after_hear p peer receipt there sound heard keeps =
      elim (cases_Bool (ltb receipt.stamp limit)) [
        | inl low ↦ after_low p peer receipt there sound heard keeps low
        | inr high ↦ same_desk n f me mine few a b Knows stays_so owns p (Call.Hear peer receipt) sound keeps (rw high refl)
            (λ i. none i high) p.desk (rw high refl) refl refl
      ]
    where
      none : (i : ℕ) → ltb receipt.stamp limit ≡ false → peer_receipt i (Call.Hear peer receipt) p.desk ≡ []
      none i high = elim (cases_Bool (eqb peer i)) [
        | inl same ↦ rw (high, same) refl
        | inr other ↦ rw (high, other) refl
      ]
