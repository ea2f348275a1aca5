-- What holds of a replica at each moment: its clocks are at least the stamps that it knows, and each noted stamp is known.
use Rattle.std.proofs.Common.{◌≡◌, ◌≢◌, ℕ, ◌<◌, ◌≤◌, ◌+◌, List, [], ◌∷◌, length, get_or, set, Bool, true, false, cond, ◌&&◌, eqb, ltb, refl, sym, ap, subst, ◌∙◌, inl, inr, arith}
use Rattle.std.specs.Prelude.{max, Contains, All}
use Rattle.std.proofs.lemmas.Bool.{cases_Bool, and_parts, both_ways, eqb-true, eq-eqb, ne_eqb, ltb-true}
use Rattle.std.proofs.lemmas.List.{get_or-set_same}
use Rattle.std.proofs.lemmas.List.Elements.{Contains-append_left, Contains-append_right, Contains-append_cases, All-head, All-tail}
use Rattle.seq_base.specs.declared.tx.Tx.{Tx}
use Rattle.seq_base.specs.Tx.{tx_eq}
use Rattle.intake.specs.declared.slot.Receipt.{Receipt}
use Rattle.intake.specs.declared.slot.Slot.{Slot}
use Rattle.intake.specs.declared.slot.Taken.{Taken}
use Rattle.intake.specs.declared.slot.Taken.TheVariants.{Final, Held, Full, Beyond, New}
use Rattle.intake.specs.Keys.{limit, k_of}
use Rattle.intake.specs.Desk.{Desk, next_stamp, is_final, is_held, waits}
use Rattle.intake.specs.Receiving.{answer_of, hear_answer, restore_answer, is_new, is_full, received, heard, clock_raised, settled, changed_at}
use Rattle.intake.specs.Arriving.{marked, marked_if, comes}
use Rattle.intake_laws.specs.Past.{Call, Past, desk_after, receipt_if, own_receipt, peer_receipt, receipts_by, is_learned, with_call, with_calls, opened, names_replica}
use Rattle.intake_laws.proofs.LeastStamps.{Contains-first, Contains-cases, Contains-none}
use Rattle.intake_laws.proofs.Dials.{Fits, moves_raised, moves_received, moves_after, new_is_early, restored_is_early, opening_fits, raised_at, clock_next}
use Rattle.intake_laws.proofs.Slots.{receipt_at, AreNoted, noted_stamped, noted_noted, noted_map, noted_without, more_known, held_found}

pub record Sound (n f me : ℕ) (p : Past) : Type 0 where
  pub fits : Fits n f me p.desk
  pub own : (r : Receipt) → Contains (p.receipts me) r → r.stamp ≤ p.desk.clock
  pub others : (i : ℕ) → i ≢ me → (r : Receipt) → Contains (p.receipts i) r → r.stamp ≤ get_or p.desk.clocks i 0
  pub noted : AreNoted n me (λ i r. Contains (p.receipts i) r) p.desk.held

-- an own receipt that a call makes
pub record Takes (n f me : ℕ) (d : Desk) (call : Call) (r : Receipt) : Type 0 where
  pub base : Desk
  pub fits : Fits n f me base
  pub more : (i : ℕ) → get_or d.clocks i 0 ≤ get_or base.clocks i 0
  pub stamp : r.stamp ≡ next_stamp base
  pub early : next_stamp base < limit
  pub clock : (desk_after call d).clock ≡ next_stamp base
  pub past : d.clock < next_stamp base

pub only_one : (takes : Bool) (tx : Tx) (d : Desk) (r : Receipt) → Contains (receipt_if takes tx d) r → (takes ≡ true) × (receipt_at tx (next_stamp d) ≡ r)
only_one false tx d r found = absurd (Contains-none r found)
only_one true tx d r found =
    elim (Contains-cases (receipt_at tx (next_stamp d)) [] r found) [
      | inl same ↦ (refl, same)
      | inr none ↦ absurd (Contains-none r none)
    ]

pub new_heard : (low : Bool) (answer : Taken) → is_new (cond low answer Beyond) ≡ true → (low ≡ true) × (is_new answer ≡ true)
new_heard true answer new = (refl, new)
new_heard false answer new = absurd (both_ways false refl new)

pub learned_heard : (low : Bool) (answer : Taken) → is_learned (cond low answer Beyond) ≡ true → low ≡ true
learned_heard true answer learned = refl
learned_heard false answer learned = absurd (both_ways false refl learned)

module _ (n f me : ℕ) where
  pub takes_own : (d : Desk) (call : Call) (r : Receipt) → Fits n f me d → Contains (own_receipt call d) r → Takes n f me d call r
  takes_own d (Call.Receive tx source) r fits found =
      let one = only_one (is_new (answer_of source tx d)) tx d r found in
      record {
        base = d;
        fits = fits;
        more = λ i. omega arith;
        stamp = ap (λ (z : Receipt). z.stamp) (sym one.1);
        early = new_is_early source tx d one.0;
        clock = rw one.0 refl;
        past = clock_next d;
      }
  takes_own d (Call.Hear peer receipt) r fits found =
      let one = only_one (is_new (hear_answer peer receipt d)) receipt.tx (clock_raised peer receipt.stamp d) r found in
      let new = new_heard (ltb receipt.stamp limit) (answer_of peer receipt.tx (clock_raised peer receipt.stamp d)) one.0 in
      record {
        base = clock_raised peer receipt.stamp d;
        fits = (moves_raised n f me d peer receipt.stamp fits).fits;
        more = λ i. raised_at d.clocks peer receipt.stamp i;
        stamp = ap (λ (z : Receipt). z.stamp) (sym one.1);
        early = new_is_early peer receipt.tx (clock_raised peer receipt.stamp d) new.1;
        clock = rw (new.0, new.1) refl;
        past = clock_next (clock_raised peer receipt.stamp d);
      }
  takes_own d (Call.HearClock peer clock) r fits found = absurd (Contains-none r found)
  takes_own d (Call.Settle txs) r fits found = absurd (Contains-none r found)
  takes_own d (Call.Restore tx) r fits found =
      let one = only_one (is_new (restore_answer tx d)) tx d r found in
      record {
        base = d;
        fits = fits;
        more = λ i. omega arith;
        stamp = ap (λ (z : Receipt). z.stamp) (sym one.1);
        early = restored_is_early tx d one.0;
        clock = rw one.0 refl;
        past = clock_next d;
      }
  takes_own d (Call.Arrive bound extra) r fits found = absurd (Contains-none r found)
  takes_own d (Call.Give tx) r fits found = absurd (Contains-none r found)

  raised_here : (clocks : List ℕ) (peer c : ℕ) → peer < length clocks → c ≤ get_or (set clocks peer (max (get_or clocks peer 0) c)) peer 0
  raised_here clocks peer c inside = omega (arith, get_or-set_same clocks peer (max (get_or clocks peer 0) c) 0 inside)

  heard_clock : (d : Desk) (peer : ℕ) (receipt : Receipt) → Fits n f me d → me < n → peer < n → peer ≢ me → ltb receipt.stamp limit ≡ true
      → receipt.stamp ≤ get_or (heard peer receipt d).clocks peer 0
  heard_clock d peer receipt fits mine there other low =
      let raise = moves_raised n f me d peer receipt.stamp fits in
      let take = moves_received n f me (clock_raised peer receipt.stamp d) peer receipt.tx raise.fits mine in
      let here = raised_here d.clocks peer receipt.stamp (omega (arith, fits.clocks, there)) in
      rw low (omega (arith, take.others peer other, here))

  peer_learned : (d : Desk) (call : Call) (i : ℕ) (r : Receipt) → Fits n f me d → me < n → names_replica n call ≡ true → i ≢ me → Contains
      (peer_receipt i call d) r
      → r.stamp ≤ get_or (desk_after call d).clocks i 0
  peer_learned d (Call.Receive tx source) i r fits mine names other found = absurd (Contains-none r found)
  peer_learned d (Call.Hear peer receipt) i r fits mine names other found =
      elim (cases_Bool (eqb peer i && is_learned (hear_answer peer receipt d))) [
        | inr none ↦ absurd (Contains-none r (rw none at found))
        | inl some ↦
            let parts = and_parts (eqb peer i) (is_learned (hear_answer peer receipt d)) some in
            let same : peer ≡ i = eqb-true peer i parts.0 in
            let low = learned_heard (ltb receipt.stamp limit) (answer_of peer receipt.tx (clock_raised peer receipt.stamp d)) parts.1 in
            let bound = heard_clock d peer receipt fits mine (ltb-true peer n names) (λ (is : peer ≡ me). other (sym same ∙ is)) low in
            elim (Contains-cases receipt [] r (rw some at found)) [
              | inl is ↦ subst (λ (z : Receipt). z.stamp ≤ get_or (heard peer receipt d).clocks i 0) is
                  (subst (λ (j : ℕ). receipt.stamp ≤ get_or (heard peer receipt d).clocks j 0) same bound)
              | inr nothing ↦ absurd (Contains-none r nothing)
            ]
      ]
  peer_learned d (Call.HearClock peer clock) i r fits mine names other found = absurd (Contains-none r found)
  peer_learned d (Call.Settle txs) i r fits mine names other found = absurd (Contains-none r found)
  peer_learned d (Call.Restore tx) i r fits mine names other found = absurd (Contains-none r found)
  peer_learned d (Call.Arrive bound extra) i r fits mine names other found = absurd (Contains-none r found)
  peer_learned d (Call.Give tx) i r fits mine names other found = absurd (Contains-none r found)

  -- what a call shows of the own receipts, and of the others'
  pub own_by : (d : Desk) (call : Call) → Fits n f me d → receipts_by me call d ≡ own_receipt call d
  own_by d call fits = rw (eq-eqb me d.me (sym fits.me_is)) refl

  pub others_by : (d : Desk) (call : Call) (i : ℕ) → Fits n f me d → i ≢ me → receipts_by i call d ≡ peer_receipt i call d
  others_by d call i fits other = rw (ne_eqb i d.me (λ (is : i ≡ d.me). other (is ∙ fits.me_is))) refl

-- an answer that learns nothing is to a transaction that is not held
full_not_held : (x y z : Bool) → is_learned (cond x Final (cond y Held (cond z Full New))) ≡ false → y ≡ false
full_not_held true y z full = absurd (both_ways true full refl)
full_not_held false true z full = absurd (both_ways true full refl)
full_not_held false false z full = refl

new_is_learned : (answer : Taken) → is_new answer ≡ true → is_learned answer ≡ true
new_is_learned New new = refl
new_is_learned Final new = absurd (both_ways false refl new)
new_is_learned Held new = absurd (both_ways false refl new)
new_is_learned Full new = absurd (both_ways false refl new)
new_is_learned Beyond new = absurd (both_ways false refl new)

-- what is held after hearing of it was learned
held_is_learned : (d : Desk) (source : ℕ) (tx : Tx) (e : Tx × Slot) → Contains (received source tx d).held e → tx_eq tx e.0 ≡ true → is_learned
    (answer_of source tx d) ≡ true
held_is_learned d source tx e found same =
    elim (cases_Bool (is_learned (answer_of source tx d))) [
      | inl learned ↦ learned
      | inr full ↦ elim (cases_Bool (is_new (answer_of source tx d))) [
        | inl new ↦ absurd (both_ways (is_learned (answer_of source tx d)) full (new_is_learned (answer_of source tx d) new))
        | inr old ↦
            let there : Contains d.held e = rw old at found in
            absurd (both_ways (is_held tx d) (full_not_held (is_final tx d) (is_held tx d) (is_full source d) full) (held_found tx d.held e there same))
      ]
    ]

module _ (n f me : ℕ) (mine : me < n) (few : n ≤ 16) where
  module _ (p : Past) (L : ℕ → Receipt → Type 0) (more : (i : ℕ) (r : Receipt) → Contains (p.receipts i) r → L i r) (sound : Sound n f me p) where
    before : AreNoted n me L p.desk.held
    before = more_known n me (λ i r. Contains (p.receipts i) r) L p.desk.held more sound.noted

    noted_received : (d : Desk) (source : ℕ) (tx : Tx) → Fits n f me d → AreNoted n me L d.held →
        (is_new (answer_of source tx d) ≡ true → L me (receipt_at tx (next_stamp d)))
        → AreNoted n me L (received source tx d).held
    noted_received d source tx fits was known =
        elim (cases_Bool (is_new (answer_of source tx d))) [
          | inl new ↦ rw new (noted_stamped n me L d tx false source fits.me_is mine few (new_is_early source tx d new) (known new) was)
          | inr old ↦ rw old was
        ]

    noted_after : (call : Call) → names_replica n call ≡ true → ((r : Receipt) → Contains (own_receipt call p.desk) r → L me r)
        → ((i : ℕ) → i ≢ me → (r : Receipt) → Contains (peer_receipt i call p.desk) r → L i r) → AreNoted n me L (desk_after call p.desk).held
    noted_after (Call.Receive tx source) names own peer =
        noted_received p.desk source tx sound.fits before (λ new. own _ (rw new (Contains-first (receipt_at tx (next_stamp p.desk)) [])))
    noted_after (Call.Hear i receipt) names own peer =
        elim (cases_Bool (ltb receipt.stamp limit)) [
          | inr high ↦ rw high before
          | inl low ↦
              rw low (noted_noted n me L (received i receipt.tx (clock_raised i receipt.stamp p.desk)) i receipt (ltb-true i n names) few mine
              (λ e found same other. peer i other receipt (heard_receipt low (held_is_learned (clock_raised i receipt.stamp p.desk) i receipt.tx e found same)))
              (noted_received (clock_raised i receipt.stamp p.desk) i receipt.tx (moves_raised n f me p.desk i receipt.stamp sound.fits).fits before
              (λ new. own _ (rw (low, new) (Contains-first (receipt_at receipt.tx (next_stamp (clock_raised i receipt.stamp p.desk))) [])))))
        ]
      where
        heard_receipt : ltb receipt.stamp limit ≡ true → is_learned (answer_of i receipt.tx (clock_raised i receipt.stamp p.desk)) ≡ true → Contains
            (peer_receipt i (Call.Hear i receipt) p.desk) receipt
        heard_receipt low learned = rw (eq-eqb i i refl, low, learned) (Contains-first receipt [])
    noted_after (Call.HearClock i clock) names own peer =
        elim (cases_Bool (ltb clock limit)) [
          | inl low ↦ rw low before
          | inr high ↦ rw high before
        ]
    noted_after (Call.Settle txs) names own peer = noted_without n me L (settled txs p.desk).finals p.desk.held before
    noted_after (Call.Restore tx) names own peer =
        elim (cases_Bool (is_new (restore_answer tx p.desk))) [
          | inl new ↦ rw new (noted_stamped n me L p.desk tx true (p.desk.n + 1) sound.fits.me_is mine few (restored_is_early tx p.desk new)
              (own _ (rw new (Contains-first (receipt_at tx (next_stamp p.desk)) []))) before)
          | inr old ↦ rw old before
        ]
    noted_after (Call.Arrive bound extra) names own peer =
        noted_map n me L (marked_if (k_of p.desk.n) p.desk.f bound extra) p.desk.held
        (λ e. elim (cases_Bool (waits e && comes (k_of p.desk.n) p.desk.f bound extra e)) [
          | inl yes' ↦ rw yes' (refl, refl)
          | inr no' ↦ rw no' (refl, refl)
        ]) before
    noted_after (Call.Give tx) names own peer =
        noted_map n me L (changed_at tx marked) p.desk.held
        (λ e. elim (cases_Bool (tx_eq tx e.0)) [
          | inl yes' ↦ rw yes' (refl, refl)
          | inr no' ↦ rw no' (refl, refl)
        ]) before

  pub sound_after : (p : Past) (call : Call) → names_replica n call ≡ true → Sound n f me p → Sound n f me (with_call p call)
  sound_after p call names sound =
      let moves = moves_after n f me p.desk call sound.fits mine in
      record {
        fits = moves.fits;
        own = λ r found. elim (Contains-append_cases (p.receipts me) (receipts_by me call p.desk) r found) [
          | inl old ↦ omega (arith, sound.own r old, moves.clock)
          | inr new ↦
              let taken = takes_own n f me p.desk call r sound.fits (subst (λ (rs : List Receipt). Contains rs r) (own_by n f me p.desk call sound.fits) new) in
              omega (arith, taken.stamp, taken.clock)
        ];
        others = λ i other r found. elim (Contains-append_cases (p.receipts i) (receipts_by i call p.desk) r found) [
          | inl old ↦ omega (arith, sound.others i other r old, moves.others i other)
          | inr new ↦ peer_learned n f me p.desk call i r sound.fits mine names other
              (subst (λ (rs : List Receipt). Contains rs r) (others_by n f me p.desk call i sound.fits other) new)
        ];
        noted = noted_after p (λ i r. Contains ((with_call p call).receipts i) r)
            (λ i r old. Contains-append_left (p.receipts i) (receipts_by i call p.desk) r old) sound call names
            (λ r new. Contains-append_right (p.receipts me) (receipts_by me call p.desk) r
            (subst (λ (rs : List Receipt). Contains rs r) (sym (own_by n f me p.desk call sound.fits)) new))
            (λ i other r new. Contains-append_right (p.receipts i) (receipts_by i call p.desk) r
            (subst (λ (rs : List Receipt). Contains rs r) (sym (others_by n f me p.desk call i sound.fits other)) new));
      }

  pub sound_calls : (p : Past) (calls : List Call) → All (λ call. names_replica n call ≡ true) calls → Sound n f me p → Sound n f me (with_calls p calls)
  sound_calls p [] names sound = sound
  sound_calls p (call ∷ calls) names sound =
      sound_calls (with_call p call) calls (All-tail (λ (c : Call). names_replica n c ≡ true) call calls names)
      (sound_after p call (All-head (λ (c : Call). names_replica n c ≡ true) call calls names) sound)

  pub opened_sound : Sound n f me (opened n f me)
  opened_sound = record {
    fits = opening_fits n f me mine;
    own = λ r found. absurd (Contains-none r found);
    others = λ i other r found. absurd (Contains-none r found);
    noted = λ e found. absurd (Contains-none e found);
  }

-- what is known stays known
pub stays_known : (p : Past) (calls : List Call) (i : ℕ) (r : Receipt) → Contains (p.receipts i) r → Contains ((with_calls p calls).receipts i) r
stays_known p [] i r found = found
stays_known p (call ∷ calls) i r found = stays_known (with_call p call) calls i r (Contains-append_left (p.receipts i) (receipts_by i call p.desk) r found)
