-- A replica that had heard f+1 clocks of at least a number stamps what it receives then with a greater one.
use Rattle.std.proofs.Common.{◌≡◌, ℕ, ◌<◌, ◌≤◌, List, [], ◌∷◌, length, get_or, Bool, true, ◌&&◌, leb, refl, sym, ap, subst, ◌∙◌, inl, inr, arith}
use Rattle.std.specs.Prelude.{Contains, All}
use Rattle.std.specs.List.{list_any}
use Rattle.std.proofs.lemmas.Bool.{cases_eq, and_parts, leb-true, le-leb, or_right}
use Rattle.std.proofs.lemmas.List.Elements.{Contains-append_cases, All-head, All-tail}
use Rattle.seq_base.specs.declared.tx.Tx.{Tx}
use Rattle.seq_base.specs.Tx.{tx_eq, tx_eq_decides}
use Rattle.count_set.specs.Sets.{size_of}
use Rattle.intake.specs.declared.slot.Receipt.{Receipt}
use Rattle.intake.specs.Keys.{adopted_of, count_from}
use Rattle.intake.specs.Desk.{Desk, next_stamp}
use Rattle.intake_laws.specs.Middle.{IsMiddle}
use Rattle.intake_laws.specs.Past.{Call, Past, own_receipt, receipts_by, with_call, with_calls, names_replica, AtEach}
use Rattle.intake_laws.specs.Premises.{receives}
use Rattle.intake_laws.proofs.Counting.{count_as_size}
use Rattle.intake_laws.proofs.LeastStamps.{Contains-cases, Contains-none, adopted_from}
use Rattle.intake_laws.proofs.Slots.{receipt_at}
use Rattle.intake_laws.proofs.Sounds.{Sound, Takes, takes_own, own_by, sound_after}
use Rattle.chain_laws.proofs.Members.{size_within}

pub next_above : (d : Desk) (f at : ℕ) → d.f ≡ f → at ≤ adopted_of f d.clocks → at < next_stamp d
unfolding next_stamp
next_above d f at same within =
    let adopted : at ≤ adopted_of d.f d.clocks = subst (λ (g : ℕ). at ≤ adopted_of g d.clocks) (sym same) within in
    omega (arith, adopted)

pub receives_it : (b : Tx) (rs : List Receipt) (r : Receipt) → Contains rs r → r.tx ≡ b → list_any (λ z. tx_eq z.tx b) rs ≡ true
receives_it b [] r found is = absurd (Contains-none r found)
receives_it b (x ∷ xs) r found is =
    elim (Contains-cases x xs r found) [
      | inl same ↦ let here : tx_eq x.tx b ≡ true = (tx_eq_decides x.tx b).1 (ap (λ (z : Receipt). z.tx) same ∙ is) in rw here refl
      | inr rest ↦ or_right (tx_eq x.tx b) (list_any (λ (z : Receipt). tx_eq z.tx b) xs) (receives_it b xs r rest is)
    ]

module _ (n f me : ℕ) (mine : me < n) (few : n ≤ 16) (set : ℕ → Bool) (stamp : ℕ → ℕ) (at : ℕ) (middle : IsMiddle n f set stamp at) (a b : Tx) where
  clock_reaches : (p : Past) (i : ℕ) → Sound n f me p → Contains (p.receipts i) (receipt_at a (stamp i)) → stamp i ≤ get_or p.desk.clocks i 0
  clock_reaches p i sound known =
      elim (cases_eq i me) [
        | inl same ↦
            let own : stamp i ≤ p.desk.clock = sound.own (receipt_at a (stamp i))
            (subst (λ (j : ℕ). Contains (p.receipts j) (receipt_at a (stamp i))) same known) in
            let there : stamp i ≤ get_or p.desk.clocks me 0 = omega (arith, own, sound.fits.own) in
            subst (λ (j : ℕ). stamp i ≤ get_or p.desk.clocks j 0) (sym same) there
        | inr other ↦ sound.others i other (receipt_at a (stamp i)) known
      ]

  taken_above : (p : Past) (call : Call) (r : Receipt) → Sound n f me p → ((i : ℕ) → i < n → set i ≡ true → Contains (p.receipts i) (receipt_at a (stamp i)))
      → Takes n f me p.desk call r → at < r.stamp
  taken_above p call r sound heard takes =
      let as_size : count_from at takes.base.clocks ≡ size_of (length takes.base.clocks) (λ i. leb at (get_or takes.base.clocks i 0)) = count_as_size
      (λ x. leb at x) takes.base.clocks 0 in
      let below_n : size_of (length takes.base.clocks) (λ i. leb at (get_or takes.base.clocks i 0)) ≡ size_of n (λ i. leb at (get_or takes.base.clocks i 0)) =
      ap (λ (m : ℕ). size_of m (λ i. leb at (get_or takes.base.clocks i 0))) takes.fits.clocks in
      let many : size_of n (λ i. set i && leb at (stamp i)) ≤ size_of n (λ i. leb at (get_or takes.base.clocks i 0)) =
      size_within n (λ i. set i && leb at (stamp i)) (λ i. leb at (get_or takes.base.clocks i 0))
      (λ i below member.
      let parts = and_parts (set i) (leb at (stamp i)) member in
      le-leb at (get_or takes.base.clocks i 0) (omega (arith, leb-true at (stamp i) parts.1, clock_reaches p i sound (heard i below parts.0), takes.more i))) in
      let adopted : at ≤ adopted_of f takes.base.clocks = adopted_from f at takes.base.clocks (omega (arith, middle.upper, many, as_size, below_n)) in
      omega (arith, takes.stamp, next_above takes.base f at takes.fits.f_is adopted)

  pub own_above : (p : Past) (calls : List Call) → All (λ call. names_replica n call ≡ true) calls → Sound n f me p
      → AtEach (λ q call. receives b call q.desk ≡ true → (i : ℕ) → i < n → set i ≡ true → Contains (q.receipts i) (receipt_at a (stamp i))) p calls
      → ((r : Receipt) → Contains (p.receipts me) r → r.tx ≡ b → at < r.stamp)
      → (r : Receipt) → Contains ((with_calls p calls).receipts me) r → r.tx ≡ b → at < r.stamp
  own_above p [] names sound each before = before
  own_above p (call ∷ calls) names sound each before =
      own_above (with_call p call) calls (All-tail (λ (c : Call). names_replica n c ≡ true) call calls names)
      (sound_after n f me mine few p call (All-head (λ (c : Call). names_replica n c ≡ true) call calls names) sound) each.1
      (λ r found is. elim (Contains-append_cases (p.receipts me) (receipts_by me call p.desk) r found) [
        | inl old ↦ before r old is
        | inr new ↦
            let own : Contains (own_receipt call p.desk) r = subst (λ (rs : List Receipt). Contains rs r) (own_by n f me p.desk call sound.fits) new in
            taken_above p call r sound (each.0 (receives_it b (own_receipt call p.desk) r own is)) (takes_own n f me p.desk call r sound.fits own)
      ])
