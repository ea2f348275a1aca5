-- What a held transaction's slot says was reported: each stamp in it is one that was heard.
use Rattle.std.proofs.Common.{◌≡◌, ◌≢◌, ℕ, ◌<◌, ◌≤◌, List, [], ◌∷◌, length, get_or, set, map, Bool, true, not, eqb, refl, sym, ap, subst, ◌∙◌, inl, inr, arith}
use Rattle.std.specs.Prelude.{replicate, Contains, is_some}
use Rattle.std.specs.List.{list_any}
use Rattle.std.specs.Map.{lookup}
use Rattle.std.proofs.lemmas.Bool.{cases_Bool, cases_eq, both_ways, eqb-true}
use Rattle.std.proofs.lemmas.List.{length-set, get_or-set_same, get_or-set_other, get_or-replicate, length-replicate, get_or_default}
use Rattle.std.proofs.lemmas.List.Elements.{Contains-append_cases}
use Rattle.seq_base.specs.declared.tx.Tx.{Tx}
use Rattle.seq_base.specs.Tx.{tx_eq, tx_eq_decides}
use Rattle.intake.specs.declared.slot.Receipt.{Receipt}
use Rattle.intake.specs.declared.slot.Slot.{Slot}
use Rattle.intake.specs.Keys.{limit, unknown}
use Rattle.intake.specs.Desk.{Desk, next_stamp}
use Rattle.intake.specs.Receiving.{stamped, own_slot, with_stamp, changed_at, noted, without}
use Rattle.intake_laws.proofs.LeastStamps.{Contains-first, Contains-later, Contains-cases, Contains-none, Contains-unfilter}

abbrev pub receipt_at : Tx → ℕ → Receipt
receipt_at tx stamp = record { tx = tx; stamp = stamp }

module _ (n me : ℕ) (K : ℕ → Receipt → Type 0) where
  -- Each stamp in the slot is a known receipt of that replica.
  pub record IsNoted (e : Tx × Slot) : Type 0 where
    pub many : length e.1.stamps ≡ 16
    pub own : get_or e.1.stamps me unknown < limit
    pub reported : (i : ℕ) → i < 16 → get_or e.1.stamps i unknown ≢ unknown → (i < n) × K i (receipt_at e.0 (get_or e.1.stamps i unknown))

  abbrev pub AreNoted : List (Tx × Slot) → Type 0
  AreNoted held = (e : Tx × Slot) → Contains held e → IsNoted e

module _ {X : Type 0} where
  pub Contains-map : {Y : Type 0} (g : X → Y) (xs : List X) (y : Y) → Contains (map g xs) y → (x : X) × Contains xs x × (g x ≡ y)
  Contains-map g [] y found = absurd (Contains-none y found)
  Contains-map g (x ∷ xs) y found =
      elim (Contains-cases (g x) (map g xs) y found) [
        | inl same ↦ (x, Contains-first x xs, same)
        | inr rest ↦ let more = Contains-map g xs y rest in (more.0, Contains-later x xs more.0 more.1, more.2)
      ]

pub held_found : (tx : Tx) (held : List (Tx × Slot)) (e : Tx × Slot) → Contains held e → tx_eq tx e.0 ≡ true → is_some (lookup (tx_eq tx) held) ≡ true
held_found tx [] e found same = absurd (Contains-none e found)
held_found tx (x ∷ xs) e found same =
    elim (cases_Bool (tx_eq tx x.0)) [
      | inl here ↦ rw here refl
      | inr other ↦ elim (Contains-cases x xs e found) [
        | inl is ↦ absurd (both_ways (tx_eq tx x.0) other (subst (λ (z : Tx × Slot). tx_eq tx z.0 ≡ true) (sym is) same))
        | inr rest ↦ rw other (held_found tx xs e rest same)
      ]
    ]

own_at : (me stamp i : ℕ) → me < 16 → i < 16 → get_or (set (replicate 16 unknown) me stamp) i unknown ≢ unknown → (i ≡ me) ×
    (get_or (set (replicate 16 unknown) me stamp) i unknown ≡ stamp)
own_at me stamp i mine below known =
    elim (cases_eq i me) [
      | inl same ↦ (
        same,
        subst (λ (m : ℕ). get_or (set (replicate 16 unknown) me stamp) m unknown ≡ stamp) (sym same)
            (get_or-set_same (replicate 16 unknown) me stamp unknown (omega (arith, length-replicate 16 unknown, mine))),
      )
      | inr other ↦ absurd (known (get_or-set_other (replicate 16 unknown) me i stamp unknown other ∙ get_or-replicate 16 i unknown unknown below))
    ]

module _ (n me : ℕ) (K : ℕ → Receipt → Type 0) where
  -- a new own receipt
  pub noted_new : (tx : Tx) (stamp : ℕ) (arrived : Bool) (source : ℕ) → me < n → n ≤ 16 → stamp < limit → K me (receipt_at tx stamp)
      → IsNoted n me K (tx, own_slot me stamp arrived source)
  noted_new tx stamp arrived source mine few below known =
      let at_own : get_or (set (replicate 16 unknown) me stamp) me unknown ≡ stamp =
      get_or-set_same (replicate 16 unknown) me stamp unknown (omega (arith, length-replicate 16 unknown, mine, few)) in
      record {
        many = length-set (replicate 16 unknown) me stamp ∙ length-replicate 16 unknown;
        own = omega (arith, at_own, below);
        reported = λ i inside there.
            let is = own_at me stamp i (omega (arith, mine, few)) inside there in (
              (omega (arith, is.0, mine)),
              subst (λ (m : ℕ). K m (receipt_at tx (get_or (set (replicate 16 unknown) me stamp) i unknown))) (sym is.0)
                  (subst (λ (s : ℕ). K me (receipt_at tx s)) (sym is.1) known),
            );
      }

  pub noted_stamped : (d : Desk) (tx : Tx) (arrived : Bool) (source : ℕ) → d.me ≡ me → me < n → n ≤ 16 → next_stamp d < limit → K me
      (receipt_at tx (next_stamp d))
      → AreNoted n me K d.held → AreNoted n me K (stamped (next_stamp d) arrived source tx d).held
  noted_stamped d tx arrived source own mine few early known before e found =
      elim (Contains-append_cases d.held ((tx, own_slot d.me (next_stamp d) arrived source) ∷ []) e found) [
        | inl old ↦ before e old
        | inr new ↦ elim (Contains-cases (tx, own_slot d.me (next_stamp d) arrived source) [] e new) [
          | inl is ↦ subst (λ (z : Tx × Slot). IsNoted n me K z) is
              (subst (λ (m : ℕ). IsNoted n me K (tx, own_slot m (next_stamp d) arrived source)) (sym own)
              (noted_new tx (next_stamp d) arrived source mine few early known))
          | inr none ↦ absurd (Contains-none e none)
        ]
      ]

  -- a stamp of a peer
  noted_peer : (peer : ℕ) (receipt : Receipt) (e : Tx × Slot) → peer < n → n ≤ 16 → receipt.tx ≡ e.0 → (peer ≢ me → K peer receipt) → me < n
      → IsNoted n me K e → IsNoted n me K (e.0, with_stamp peer receipt.stamp e.1)
  noted_peer peer receipt e there few same learned mine was =
      elim (cases_Bool (eqb (get_or e.1.stamps peer 0) unknown)) [
        | inr old ↦ rw old was_again
        | inl empty ↦
            let none : get_or e.1.stamps peer unknown ≡ unknown =
            get_or_default e.1.stamps peer unknown 0 (omega (arith, was.many, there, few)) ∙ eqb-true _ unknown empty in
            let other : peer ≢ me = λ (is : peer ≡ me). let own : get_or e.1.stamps me unknown ≡ unknown = subst
            (λ (m : ℕ). get_or e.1.stamps m unknown ≡ unknown) is none in omega (arith, own, was.own) in
            let here : get_or (set e.1.stamps peer receipt.stamp) peer unknown ≡ receipt.stamp =
            get_or-set_same e.1.stamps peer receipt.stamp unknown (omega (arith, was.many, there, few)) in
            rw empty (record {
              many = length-set e.1.stamps peer receipt.stamp ∙ was.many;
              own = omega (arith, get_or-set_other e.1.stamps peer me receipt.stamp unknown (λ (is : me ≡ peer). other (sym is)), was.own);
              reported = λ i inside known. elim (cases_eq i peer) [
                | inl is ↦ ((omega (arith, is, there)), at_peer i is here (learned other))
                | inr apart ↦
                    let stays : get_or (set e.1.stamps peer receipt.stamp) i unknown ≡ get_or e.1.stamps i unknown =
                    get_or-set_other e.1.stamps peer i receipt.stamp unknown apart in
                    let before = was.reported i inside (λ (absent : get_or e.1.stamps i unknown ≡ unknown). known (stays ∙ absent)) in
                    (before.0, subst (λ (s : ℕ). K i (receipt_at e.0 s)) (sym stays) before.1)
              ];
            })
      ]
    where
      was_again : IsNoted n me K (e.0, e.1)
      was_again = record { many = was.many; own = was.own; reported = was.reported }

      at_peer : (i : ℕ) → i ≡ peer → get_or (set e.1.stamps peer receipt.stamp) peer unknown ≡ receipt.stamp → K peer receipt → K i
          (receipt_at e.0 (get_or (set e.1.stamps peer receipt.stamp) i unknown))
      at_peer i is here known =
          subst (λ (m : ℕ). K m (receipt_at e.0 (get_or (set e.1.stamps peer receipt.stamp) m unknown))) (sym is)
          (subst (λ (s : ℕ). K peer (receipt_at e.0 s)) (sym here) (subst (λ (t : Tx). K peer (receipt_at t receipt.stamp)) same known))

  pub noted_noted : (d : Desk) (peer : ℕ) (receipt : Receipt) → peer < n → n ≤ 16 → me < n
      → ((e : Tx × Slot) → Contains d.held e → tx_eq receipt.tx e.0 ≡ true → peer ≢ me → K peer receipt)
      → AreNoted n me K d.held → AreNoted n me K (noted peer receipt d).held
  noted_noted d peer receipt there few mine learned before e found =
      let from = Contains-map (changed_at receipt.tx (with_stamp peer receipt.stamp)) d.held e found in
      subst (λ (z : Tx × Slot). IsNoted n me K z) from.2 (changed from.0 from.1)
    where
      changed : (o : Tx × Slot) → Contains d.held o → IsNoted n me K (changed_at receipt.tx (with_stamp peer receipt.stamp) o)
      changed o inside =
          elim (cases_Bool (tx_eq receipt.tx o.0)) [
            | inl same ↦ rw same (noted_peer peer receipt o there few ((tx_eq_decides receipt.tx o.0).0 same) (learned o inside same) mine (before o inside))
            | inr other ↦ rw other (before o inside)
          ]

  -- a change that leaves transactions and stamps
  pub noted_map : (g : Tx × Slot → Tx × Slot) (held : List (Tx × Slot)) → ((e : Tx × Slot) → ((g e).0 ≡ e.0) × ((g e).1.stamps ≡ e.1.stamps))
      → AreNoted n me K held → AreNoted n me K (map g held)
  noted_map g held keeps before e found =
      let from = Contains-map g held e found in
      subst (λ (z : Tx × Slot). IsNoted n me K z) from.2 (kept from.0 (before from.0 from.1))
    where
      kept : (o : Tx × Slot) → IsNoted n me K o → IsNoted n me K (g o)
      kept o was =
          let tx = (keeps o).0 in
          let stamps = (keeps o).1 in
          record {
            many = ap (λ (xs : List ℕ). length xs) stamps ∙ was.many;
            own = subst (λ (xs : List ℕ). get_or xs me unknown < limit) (sym stamps) was.own;
            reported = subst (λ (t : Tx). (i : ℕ) → i < 16 → get_or (g o).1.stamps i unknown ≢ unknown → (i < n) × K i
                (receipt_at t (get_or (g o).1.stamps i unknown))) (sym tx)
                (subst (λ (xs : List ℕ). (i : ℕ) → i < 16 → get_or xs i unknown ≢ unknown → (i < n) × K i (receipt_at o.0 (get_or xs i unknown)))
                (sym stamps) was.reported);
          }

  pub noted_without : (finals : List Tx) (held : List (Tx × Slot)) → AreNoted n me K held → AreNoted n me K (without finals held)
  noted_without finals held before e found = before e (Contains-unfilter (λ (o : Tx × Slot). not (list_any (tx_eq o.0) finals)) held e found).0

pub more_known : (n me : ℕ) (K L : ℕ → Receipt → Type 0) (held : List (Tx × Slot)) → ((i : ℕ) (r : Receipt) → K i r → L i r) → AreNoted n me K held
    → AreNoted n me L held
more_known n me K L held more before e found =
    let was = before e found in
    record { many = was.many; own = was.own; reported = λ i inside known. let old = was.reported i inside known in (old.0, more i _ old.1) }
