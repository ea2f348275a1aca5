-- Own stamps ascend in the order of receipt.
use Rattle.std.proofs.Common.{◌≡◌, ℕ, ◌<◌, ◌≤◌, List, [], ◌∷◌, ◌++◌, get_or, Bool, true, false, refl, sym, subst, ◌⊎◌, inl, inr, arith, append-nil}
use Rattle.std.specs.Prelude.{Contains, All}
use Rattle.std.specs.List.{AllPairs}
use Rattle.std.proofs.lemmas.List.Elements.{Contains-get_or, All-head, All-tail}
use Rattle.std.proofs.lemmas.List.Quantifiers.{all_pairs_push}
use Rattle.seq_base.specs.declared.tx.Tx.{Tx}
use Rattle.intake.specs.declared.slot.Receipt.{Receipt}
use Rattle.intake.specs.Desk.{Desk, next_stamp}
use Rattle.intake.specs.Receiving.{answer_of, hear_answer, restore_answer, is_new, clock_raised}
use Rattle.intake_laws.specs.Past.{Call, Past, receipt_if, own_receipt, receipts_by, with_call, with_calls, names_replica}
use Rattle.intake_laws.proofs.LeastStamps.{Contains-first}
use Rattle.intake_laws.proofs.Slots.{receipt_at}
use Rattle.intake_laws.proofs.Sounds.{Sound, takes_own, own_by, sound_after}

one_at_most : (takes : Bool) (tx : Tx) (d : Desk) → (receipt_if takes tx d ≡ []) ⊎ (receipt_if takes tx d ≡ receipt_at tx (next_stamp d) ∷ [])
one_at_most false tx d = inl refl
one_at_most true tx d = inr refl

own_at_most : (call : Call) (d : Desk) → (own_receipt call d ≡ []) ⊎ ((r : Receipt) × (own_receipt call d ≡ r ∷ []))
own_at_most (Call.Receive tx source) d = elim (one_at_most (is_new (answer_of source tx d)) tx d) [
  | inl none ↦ inl none
  | inr one ↦ inr (receipt_at tx (next_stamp d), one)
]
own_at_most (Call.Hear peer receipt) d = elim (one_at_most (is_new (hear_answer peer receipt d)) receipt.tx (clock_raised peer receipt.stamp d)) [
  | inl none ↦ inl none
  | inr one ↦ inr (receipt_at receipt.tx (next_stamp (clock_raised peer receipt.stamp d)), one)
]
own_at_most (Call.HearClock peer clock) d = inl refl
own_at_most (Call.Settle txs) d = inl refl
own_at_most (Call.Restore tx) d = elim (one_at_most (is_new (restore_answer tx d)) tx d) [
  | inl none ↦ inl none
  | inr one ↦ inr (receipt_at tx (next_stamp d), one)
]
own_at_most (Call.Arrive bound extra) d = inl refl
own_at_most (Call.Give tx) d = inl refl

abbrev pub Ascend : List Receipt → Type 0
Ascend rs = AllPairs (λ x y. x.stamp < y.stamp) rs

module _ (n f me : ℕ) (mine : me < n) (few : n ≤ 16) where
  ascend_after : (p : Past) (call : Call) → Sound n f me p → Ascend (p.receipts me) → Ascend (p.receipts me ++ receipts_by me call p.desk)
  ascend_after p call sound ascend =
      subst (λ (rs : List Receipt). Ascend (p.receipts me ++ rs)) (sym (own_by n f me p.desk call sound.fits))
      (elim (own_at_most call p.desk) [
        | inl none ↦ subst (λ (rs : List Receipt). Ascend (p.receipts me ++ rs)) (sym none) (subst Ascend (sym (append-nil (p.receipts me))) ascend)
        | inr one ↦
            let taken = takes_own n f me p.desk call one.0 sound.fits
            (subst (λ (rs : List Receipt). Contains rs one.0) (sym one.1) (Contains-first one.0 [])) in
            subst (λ (rs : List Receipt). Ascend (p.receipts me ++ rs)) (sym one.1)
            (all_pairs_push (λ (x y : Receipt). x.stamp < y.stamp) (p.receipts me) one.0 ascend
            (λ k d inside. omega (arith, sound.own (get_or (p.receipts me) k d) (Contains-get_or (p.receipts me) k d inside), taken.past, taken.stamp)))
      ])

  pub ascend_calls : (p : Past) (calls : List Call) → All (λ call. names_replica n call ≡ true) calls → Sound n f me p → Ascend (p.receipts me) → Ascend
      ((with_calls p calls).receipts me)
  ascend_calls p [] names sound ascend = ascend
  ascend_calls p (call ∷ calls) names sound ascend =
      ascend_calls (with_call p call) calls (All-tail (λ (c : Call). names_replica n c ≡ true) call calls names)
      (sound_after n f me mine few p call (All-head (λ (c : Call). names_replica n c ≡ true) call calls names) sound) (ascend_after p call sound ascend)
