-- The blocks in the list of all that were received are those that honest replicas' entries brought, in the order of
-- their places.
use Rattle.std.proofs.Common.{◌≡◌, ◌⊎◌, ℕ, suc, zero, ◌+◌, List, [], ◌∷◌, Bool, true, false, Option, Some, None, refl, sym, ap, subst, ◌∙◌, slice_get, arith, inl, inr}
use Rattle.std.specs.List.{flat_map}
use Rattle.std.specs.Option.{option_and_then}
use Rattle.std.proofs.lemmas.Bool.{cases_Bool}
use Rattle.seq_base.specs.declared.block.Block.{Block}
use Rattle.wire_view.specs.declared.messages.MessageView.{MessageView}
use Rattle.node_core.specs.declared.entry.Entry.{Entry}
use Rattle.run_record.specs.declared.record.Journal.{Journal}
use Rattle.run_record.specs.declared.record.RunRecord.{RunRecord}
use Rattle.run_record.specs.Honest.{honest_items}
use Rattle.node_core.specs.Delivered.{block_in}
use Rattle.run_verdict.specs.Delivered.{honest_in, delivered, delivered_block}
use Rattle.run_verdict.specs.Collided.{Received, received, received_from, received_in, all_received}
use Rattle.run_verdict.specs.Shown.{IsHonest, Delivers, IsReceived, IsEarlier}
use Rattle.run_verdict.proofs.TestMeanings.{honest_shows, honest_holds, delivers_shows, delivers_holds}
use Rattle.run_verdict.proofs.PlaceOrder.{Among, Rises, among_either, among_first, among_second, rises_joined}

-- the entry that brought a block
record Carried (receiver number : ℕ) (entries : List Entry) (r : Received) : Type 0 where
  place : ℕ
  entry : Entry
  is : slice_get entries place ≡ Some entry
  receiver_is : r.receiver ≡ receiver
  entry_is : r.entry ≡ number + place
  block_is : delivered_block entry ≡ Some r.block

carried : (receiver number : ℕ) (entries : List Entry) (r : Received) → Among r (received_from receiver number entries) → Carried receiver number entries r
unfolding received_from
carried receiver number [] r within = absurd within
carried receiver number (e ∷ es) r within = by_block (delivered_block e) refl within (λ rest. carried receiver (number + 1) es r rest)
  where
    later : Carried receiver (number + 1) es r → Carried receiver number (e ∷ es) r
    later b =
        record { place = suc b.place; entry = b.entry; is = b.is; receiver_is = b.receiver_is; entry_is = omega (arith, b.entry_is); block_is = b.block_is }

    by_block : (o : Option Block) → delivered_block e ≡ o → Among r (received_from receiver number (e ∷ es))
        → (Among r (received_from receiver (number + 1) es) → Carried receiver (number + 1) es r) → Carried receiver number (e ∷ es) r
    by_block None none within next = later (next (rw none at within))
    by_block (Some block) brings within next = elim (split (rw brings at within)) [
      | inl is ↦ record {
        place = 0;
        entry = e;
        is = refl;
        receiver_is = ap (λ (x : Received). x.receiver) (sym is);
        entry_is = let same : r.entry ≡ number = ap (λ (x : Received). x.entry) (sym is) in omega arith;
        block_is = brings ∙ ap (λ (x : Received). Some x.block) is;
      }
      | inr following ↦ later (next following)
    ]
      where
        split : Among r (received receiver number block ∷ received_from receiver (number + 1) es)
            → (received receiver number block ≡ r) ⊎ Among r (received_from receiver (number + 1) es)
        split either = either

brings : (receiver number : ℕ) (entries : List Entry) (r : Received) → Carried receiver number entries r → Among r (received_from receiver number entries)
unfolding received_from
brings receiver number entries r b = by_place receiver number entries b.place b.is b.entry_is
  where
    same : (n : ℕ) → r.entry ≡ n → received receiver n r.block ≡ r
    same n is = rw (← is, ← b.receiver_is) refl

    by_place : (unused n : ℕ) (xs : List Entry) (place : ℕ) → slice_get xs place ≡ Some b.entry → r.entry ≡ n + place → Among r (received_from receiver n xs)
    by_place unused n [] place is entry_is = cc
    by_place unused n (x ∷ xs) zero is entry_is =
        let here : delivered_block x ≡ Some r.block = (ap delivered_block (let e : x ≡ b.entry = cc in e)) ∙ b.block_is in
        rw here (inl (same n (omega (arith, entry_is))))
    by_place unused n (x ∷ xs) (suc place) is entry_is = following (delivered_block x) refl (by_place unused (n + 1) xs place is (omega (arith, entry_is)))
      where
        following : (o : Option Block) → delivered_block x ≡ o → Among r (received_from receiver (n + 1) xs) → Among r (received_from receiver n (x ∷ xs))
        following None none rest = rw none rest
        following (Some block) some rest = rw some (inr rest)

from_rises : (receiver number : ℕ) (entries : List Entry) → Rises (received_from receiver number entries)
unfolding received_from
from_rises receiver number [] = tt
from_rises receiver number (e ∷ es) = by_block (delivered_block e) refl (from_rises receiver (number + 1) es)
  where
    by_block : (o : Option Block) → delivered_block e ≡ o → Rises (received_from receiver (number + 1) es) → Rises (received_from receiver number (e ∷ es))
    by_block None none rest = rw none rest
    by_block (Some block) some rest =
        rw some ((λ x within. let b = carried receiver (number + 1) es x within in inr (sym b.receiver_is, omega (arith, b.entry_is))), rest)

-- the journal of an honest replica in which a block was received
record Sent (honest : ℕ → Bool) (replica : ℕ) (journals : List Journal) (r : Received) : Type 0 where
  place : ℕ
  journal : Journal
  is : slice_get journals place ≡ Some journal
  honest_is : (m : ℕ) → m ≡ replica + place → honest m ≡ true
  within : (m : ℕ) → m ≡ replica + place → Among r (received_in (m, journal))

sent : (honest : ℕ → Bool) (replica : ℕ) (journals : List Journal) (r : Received)
    → Among r (flat_map received_in (honest_items honest replica journals)) → Sent honest replica journals r
sent honest replica [] r within = absurd within
sent honest replica (j ∷ js) r within = elim (cases_Bool (honest replica)) [
  | inl does ↦ elim (among_either r (received_in (replica, j)) (flat_map received_in (honest_items honest (replica + 1) js)) (rw does at within)) [
    | inl mine ↦ record {
      place = 0;
      journal = j;
      is = refl;
      honest_is = λ m is. let same : m ≡ replica = omega arith in rw same does;
      within = λ m is. let same : m ≡ replica = omega arith in rw same mine;
    }
    | inr theirs ↦ later (sent honest (replica + 1) js r theirs)
  ]
  | inr fails ↦ later (sent honest (replica + 1) js r (rw fails at within))
]
  where
    later : Sent honest (replica + 1) js r → Sent honest replica (j ∷ js) r
    later s =
        record {
          place = suc s.place;
          journal = s.journal;
          is = s.is;
          honest_is = λ m is. s.honest_is m (omega (arith, is));
          within = λ m is. s.within m (omega (arith, is));
        }

sends : (honest : ℕ → Bool) (journal : Journal) (r : Received) (replica : ℕ) (journals : List Journal) (place m : ℕ)
    → slice_get journals place ≡ Some journal → m ≡ replica + place → honest m ≡ true
    → Among r (received_in (m, journal)) → Among r (flat_map received_in (honest_items honest replica journals))
sends honest journal r replica [] place m is number does within = cc
sends honest journal r replica (j ∷ js) zero m is number does within =
    let same : m ≡ replica = omega arith in
    let here : j ≡ journal = cc in
    rw (rw same at does) (among_first r (received_in (replica, j)) (flat_map received_in (honest_items honest (replica + 1) js)) (rw (here, ← same) within))
sends honest journal r replica (j ∷ js) (suc place) m is number does within =
    following (honest replica) refl (sends honest journal r (replica + 1) js place m is (omega arith) does within)
  where
    following : (b : Bool) → honest replica ≡ b → Among r (flat_map received_in (honest_items honest (replica + 1) js))
        → Among r (flat_map received_in (honest_items honest replica (j ∷ js)))
    following true does rest = rw does (among_second r (received_in (replica, j)) (flat_map received_in (honest_items honest (replica + 1) js)) rest)
    following false fails rest = rw fails rest

journals_rise : (honest : ℕ → Bool) (replica : ℕ) (journals : List Journal) → Rises (flat_map received_in (honest_items honest replica journals))
journals_rise honest replica [] = tt
journals_rise honest replica (j ∷ js) = by_replica (honest replica) refl (journals_rise honest (replica + 1) js)
  where
    across : (x y : Received) → Among x (received_in (replica, j)) → Among y (flat_map received_in (honest_items honest (replica + 1) js)) → IsEarlier x y
    across x y mine theirs =
        let b = carried replica 0 j.entries x mine in
        let s = sent honest (replica + 1) js y theirs in
        let c = carried (replica + 1 + s.place) 0 s.journal.entries y (s.within (replica + 1 + s.place) refl) in
        inl (omega (arith, b.receiver_is, c.receiver_is))

    by_replica : (b : Bool) → honest replica ≡ b → Rises (flat_map received_in (honest_items honest (replica + 1) js))
        → Rises (flat_map received_in (honest_items honest replica (j ∷ js)))
    by_replica true does rest =
        rw does (rises_joined (received_in (replica, j)) (flat_map received_in (honest_items honest (replica + 1) js))
        (from_rises replica 0 j.entries) rest across)
    by_replica false fails rest = rw fails rest

-- ---- all that were received in a run

module _ (run : RunRecord) where
  pub all_rise : Rises (all_received run)
  unfolding all_received
  all_rise = journals_rise (honest_in run) 0 run.journals

  -- the message that brought a block
  record Message_of (entry : Entry) (block : Block) : Type 0 where
    message : MessageView
    delivers : Delivers entry message
    brings : block_in message ≡ Some block

  message_of : (entry : Entry) (block : Block) → delivered_block entry ≡ Some block → Message_of entry block
  message_of entry block is = by_message (delivered entry) refl is
    where
      by_message : (o : Option MessageView) → delivered entry ≡ o → option_and_then block_in o ≡ Some block → Message_of entry block
      by_message None none is = cc
      by_message (Some message) some is = record { message = message; delivers = delivers_shows entry message some; brings = is }

  moved : {X : Type 0} (xs : List X) (a b : ℕ) (x : X) → a ≡ b → slice_get xs b ≡ Some x → slice_get xs a ≡ Some x
  moved xs a b x same is = cc

  pub received_shows : (r : Received) → Among r (all_received run) → IsReceived run r
  unfolding all_received
  received_shows r within =
      let s = sent (honest_in run) 0 run.journals r within in
      let b = carried s.place 0 s.journal.entries r (s.within s.place (omega arith)) in
      let m = message_of b.entry r.block b.block_is in
      let at : r.entry ≡ b.place = omega (arith, b.entry_is) in
      record {
        entry = b.entry;
        message = m.message;
        has = record {
          journal = s.journal;
          honest = subst (λ k. IsHonest run k) (sym b.receiver_is) (honest_shows run s.place (s.honest_is s.place (omega arith)));
          journal_is = moved run.journals r.receiver s.place s.journal b.receiver_is s.is;
          entry_is = moved s.journal.entries r.entry b.place b.entry at b.is;
        };
        delivers = m.delivers;
        brings = m.brings;
      }

  pub received_holds : (r : Received) → IsReceived run r → Among r (all_received run)
  unfolding all_received
  received_holds r is =
      let block : delivered_block is.entry ≡ Some r.block = rw (delivers_holds is.entry is.message is.delivers) is.brings in
      sends (honest_in run) is.has.journal r 0 run.journals r.receiver r.receiver is.has.journal_is (omega arith) (honest_holds run r.receiver is.has.honest)
      (brings r.receiver 0 is.has.journal.entries r
      (record { place = r.entry; entry = is.entry; is = is.has.entry_is; receiver_is = refl; entry_is = omega arith; block_is = block }))
