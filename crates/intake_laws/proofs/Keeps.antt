-- What a desk keeps of two transactions: what was heard of the first is noted while it waits, and it stays ahead of the
-- second.
use Rattle.std.proofs.Common.{◌≡◌, ◌≢◌, ℕ, zero, suc, ◌<◌, ◌≤◌, List, [], ◌∷◌, ◌++◌, length, get_or, set, map, Bool, true, false, not, eqb, refl, sym, ap, subst, ◌∙◌, ◌⊎◌, inl, inr, arith}
use Rattle.std.specs.Prelude.{replicate, Some, None, Option, is_some}
use Rattle.std.specs.List.{list_any}
use Rattle.std.specs.Map.{keys_of}
use Rattle.std.proofs.lemmas.Bool.{cases_Bool, cases_eq, both_ways, not_from_false, not_from_true, eqb-false}
use Rattle.std.proofs.lemmas.List.{get_or-set_same, get_or-set_other, length-replicate, get_or_default, map-append}
use Rattle.indexmap.specs.IndexSet.{insert_all}
use Rattle.seq_base.specs.declared.tx.Tx.{Tx}
use Rattle.seq_base.specs.Tx.{tx_eq, tx_eq_decides}
use Rattle.chain_laws.specs.Received.{is_before}
use Rattle.intake.specs.declared.slot.Slot.{Slot}
use Rattle.intake.specs.Keys.{limit, unknown}
use Rattle.intake.specs.Desk.{Desk, is_final, is_held}
use Rattle.intake.specs.Receiving.{stamped, own_slot, with_stamp, settled}
use Rattle.intake_laws.proofs.Before.{before_more, before_alone, before_filter, tx_same}
use Rattle.intake_laws.proofs.Entries.{same_Some, at, found_or_not, holds_key, at-push_found, at-push_none, at-map, is-map, at-filter, at-unfilter, at-none, stays_final, keys-map}

-- the stamps that a slot knows are known after one more is noted
pub known_with : (peer stamp i : ℕ) (v : Slot) → stamp < limit → get_or v.stamps i unknown ≢ unknown → get_or
    (with_stamp peer stamp v).stamps i unknown ≢ unknown
known_with peer stamp i v small known =
    elim (cases_Bool (eqb (get_or v.stamps peer 0) unknown)) [
      | inr old ↦ rw old known
      | inl empty ↦ rw empty (elim (cases_eq i peer) [
        | inr other ↦ λ (none : get_or (set v.stamps peer stamp) i unknown ≡ unknown). known (sym (get_or-set_other v.stamps peer i stamp unknown other) ∙ none)
        | inl same ↦ within i same known
      ])
    ]
  where
    within : (j : ℕ) → j ≡ peer → get_or v.stamps j unknown ≢ unknown → get_or (set v.stamps peer stamp) j unknown ≢ unknown
    within j same was none =
        let here : (get_or v.stamps j unknown ≡ unknown) ⊎ (get_or (set v.stamps j stamp) j unknown ≡ stamp) = at_place v.stamps j in
        elim here [
          | inl absent ↦ was absent
          | inr is ↦ let there : get_or (set v.stamps j stamp) j unknown ≡ unknown = subst (λ (m : ℕ). get_or (set v.stamps m stamp) j unknown ≡ unknown)
              (sym same) none in omega (arith, is, there, small)
        ]
      where
        at_place : (xs : List ℕ) (m : ℕ) → (get_or xs m unknown ≡ unknown) ⊎ (get_or (set xs m stamp) m unknown ≡ stamp)
        at_place [] m = inl refl
        at_place (x ∷ xs) zero = inr refl
        at_place (x ∷ xs) (suc m) = at_place xs m

-- the peer's own stamp is known then
pub peer_known : (peer stamp : ℕ) (v : Slot) → stamp < limit → peer < 16 → length v.stamps ≡ 16 → get_or (with_stamp peer stamp v).stamps peer unknown ≢ unknown
peer_known peer stamp v small below many =
    elim (cases_Bool (eqb (get_or v.stamps peer 0) unknown)) [
      | inr old ↦ rw old (λ (none : get_or v.stamps peer unknown ≡ unknown).
          eqb-false (get_or v.stamps peer 0) unknown old (get_or_default v.stamps peer 0 unknown (omega (arith, below, many)) ∙ none))
      | inl empty ↦ rw empty (λ (none : get_or (set v.stamps peer stamp) peer unknown ≡ unknown).
          let is : get_or (set v.stamps peer stamp) peer unknown ≡ stamp = get_or-set_same v.stamps peer stamp unknown (omega (arith, below, many)) in omega
          (arith, is, none, small))
    ]

pub same_arrived : (peer stamp : ℕ) (v : Slot) → (with_stamp peer stamp v).arrived ≡ v.arrived
same_arrived peer stamp v = elim (cases_Bool (eqb (get_or v.stamps peer 0) unknown)) [
  | inl empty ↦ rw empty refl
  | inr old ↦ rw old refl
]

pub some_or : {X : Type 0} (P : Type 0) (o : Option X) → is_some o ≡ true → is_some o ≡ false → P
some_or P o some none = absurd (both_ways (is_some o) none some)

module _ (n me : ℕ) (mine : me < n) (few : n ≤ 16) (a b : Tx) where
  -- a stamp of replica i for the first is in the slot of the first, or the first is final
  abbrev pub Noted : ℕ → Desk → Type 0
  Noted i d = (is_final a d ≡ true) ⊎ ((v : Slot) × (at a d.held ≡ Some v) × (get_or v.stamps i unknown ≢ unknown))

  -- K: whose receipt of the first is known; had: the first arrived; all: everything is known that lets the second be received
  pub record Keeps (d : Desk) (K : ℕ → Type 0) (had all : Type 0) : Type 0 where
    pub known : (i : ℕ) → K i → Noted i d
    pub order : is_some (at a d.held) ≡ true → is_some (at b d.held) ≡ true → is_before (keys_of d.held) a b ≡ true
    pub arrived : (v : Slot) → at a d.held ≡ Some v → v.arrived ≡ true → had
    pub apart : is_final a d ≡ true → is_some (at a d.held) ≡ false
    pub second : is_some (at b d.held) ≡ true → all

  -- the same desk but for its clocks, and more is known of nobody
  pub keeps_clocks : (d e : Desk) (K L : ℕ → Type 0) (had had' all all' : Type 0) → e.held ≡ d.held → e.finals ≡ d.finals → ((i : ℕ) → L i → K i) →
      (had → had') → (all → all')
      → Keeps d K had all → Keeps e L had' all'
  keeps_clocks d e K L had had' all all' held finals fewer more knows keeps = record {
    known = λ i k. elim (keeps.known i (fewer i k)) [
      | inl final ↦ inl (subst (λ (ts : List Tx). list_any (tx_eq a) ts ≡ true) (sym finals) final)
      | inr found ↦ inr (found.0, subst (λ (es : List (Tx × Slot)). at a es ≡ Some found.0) (sym held) found.1, found.2)
    ];
    order = subst (λ (es : List (Tx × Slot)). is_some (at a es) ≡ true → is_some (at b es) ≡ true → is_before (keys_of es) a b ≡ true) (sym held) keeps.order;
    arrived = λ v found is. more (keeps.arrived v (subst (λ (es : List (Tx × Slot)). at a es ≡ Some v) held found) is);
    apart = λ final. subst (λ (es : List (Tx × Slot)). is_some (at a es) ≡ false) (sym held)
        (keeps.apart (subst (λ (ts : List Tx). list_any (tx_eq a) ts ≡ true) finals final));
    second = λ some. knows (keeps.second (subst (λ (es : List (Tx × Slot)). is_some (at b es) ≡ true) held some));
  }

  module _ (d : Desk) (K : ℕ → Type 0) (had all : Type 0) (keeps : Keeps d K had all) where
    -- ---- a new receipt
    module _ (L : ℕ → Type 0) (all' : Type 0) (stamp source : ℕ) (tx : Tx) (own : d.me ≡ me) (small : stamp < limit) (not_final : is_final tx d ≡ false)
        (not_held : is_held tx d ≡ false)
        (news : (i : ℕ) → L i → K i ⊎ ((i ≡ me) × (tx ≡ a))) (owns : all → K me) (more : all → all') (if_second : tx ≡ b → K me × all') where
      abbrev later : List (Tx × Slot)
      later = d.held ++ (tx, own_slot d.me stamp false source) ∷ []

      is_new_one : (t : Tx) → is_some (at t d.held) ≡ false → is_some (at t later) ≡ true → tx ≡ t
      is_new_one t none some =
          elim (cases_Bool (tx_eq t tx)) [
            | inl here ↦ sym ((tx_eq_decides t tx).0 here)
            | inr other ↦
                let last : at t later ≡ None = at-push_none t d.held ((tx, own_slot d.me stamp false source) ∷ []) none ∙ rw other refl in
                absurd (both_ways (is_some (at t later)) (ap is_some last) some)
          ]

      absent : (t : Tx) → tx ≡ t → is_some (at t d.held) ≡ false
      absent t same = subst (λ (x : Tx). is_some (at x d.held) ≡ false) same not_held

      -- the first was known, so it is no new one
      not_first : tx ≡ a → K me → ⊥
      not_first same k =
          elim (keeps.known me k) [
            | inl final ↦ both_ways (is_final a d) (subst (λ (x : Tx). is_final x d ≡ false) same not_final) final
            | inr found ↦ some_or ⊥ (at a d.held) (ap is_some found.1) (absent a same)
          ]

      keys_later : keys_of later ≡ keys_of d.held ++ tx ∷ []
      keys_later = map-append (λ (e : Tx × Slot). e.0) d.held ((tx, own_slot d.me stamp false source) ∷ [])

      pub keeps_new : Keeps (stamped stamp false source tx d) L had all'
      keeps_new = record {
        known = λ i k. elim (news i k) [
          | inl old ↦ elim (keeps.known i old) [
            | inl final ↦ inl final
            | inr found ↦ inr (found.0, at-push_found a d.held ((tx, own_slot d.me stamp false source) ∷ []) found.0 found.1, found.2)
          ]
          | inr own_one ↦ inr (own_slot d.me stamp false source, here own_one.1, own_known i own_one.0)
        ];
        order = λ some_a some_b. subst (λ (ts : List Tx). is_before ts a b ≡ true) (sym keys_later) (ordered some_a some_b);
        arrived = λ v found is. elim (found_or_not a d.held) [
          | inl old ↦
              let same : old.0 ≡ v = same_Some (sym (at-push_found a d.held ((tx, own_slot d.me stamp false source) ∷ []) old.0 old.1) ∙ found) in
              keeps.arrived old.0 old.1 (ap (λ (w : Slot). w.arrived) same ∙ is)
          | inr none ↦
              let first : tx ≡ a = is_new_one a none (ap is_some found) in
              let same : own_slot d.me stamp false source ≡ v = same_Some (sym (here first) ∙ found) in
              absurd (both_ways false refl (ap (λ (w : Slot). w.arrived) same ∙ is))
        ];
        apart = λ final. elim (cases_Bool (is_some (at a later))) [
          | inr none ↦ none
          | inl some ↦
              let first : tx ≡ a = is_new_one a (keeps.apart final) some in
              absurd (both_ways (is_final a d) (subst (λ (x : Tx). is_final x d ≡ false) first not_final) final)
        ];
        second = λ some. elim (found_or_not b d.held) [
          | inl old ↦ more (keeps.second (ap is_some old.1))
          | inr none ↦ (if_second (is_new_one b none some)).1
        ];
      }
        where
          here : tx ≡ a → at a later ≡ Some (own_slot d.me stamp false source)
          here same = at-push_none a d.held ((tx, own_slot d.me stamp false source) ∷ []) (absent a same)
              ∙ rw (subst (λ (x : Tx). tx_eq a x ≡ true) (sym same) (tx_same a)) refl

          own_known : (i : ℕ) → i ≡ me → get_or (own_slot d.me stamp false source).stamps i unknown ≢ unknown
          own_known i same none =
              let is : get_or (set (replicate 16 unknown) me stamp) me unknown ≡ stamp =
              get_or-set_same (replicate 16 unknown) me stamp unknown (omega (arith, length-replicate 16 unknown, mine, few)) in
              let at_me : get_or (set (replicate 16 unknown) me stamp) me unknown ≡ unknown =
              subst (λ (m : ℕ). get_or (set (replicate 16 unknown) m stamp) me unknown ≡ unknown) own
              (subst (λ (m : ℕ). get_or (set (replicate 16 unknown) d.me stamp) m unknown ≡ unknown) same none) in
              omega (arith, is, at_me, small)

          ordered : is_some (at a later) ≡ true → is_some (at b later) ≡ true → is_before (keys_of d.held ++ tx ∷ []) a b ≡ true
          ordered some_a some_b =
              elim (found_or_not a d.held) [
                | inl first ↦ elim (found_or_not b d.held) [
                  | inl second ↦ before_more a b (keys_of d.held) (tx ∷ []) (keeps.order (ap is_some first.1) (ap is_some second.1))
                  | inr none ↦ before_more a b (keys_of d.held) (tx ∷ [])
                      (before_alone a b (keys_of d.held) (holds_key a d.held ∙ ap is_some first.1) (holds_key b d.held ∙ none))
                ]
                | inr none_a ↦
                    let first : tx ≡ a = is_new_one a none_a some_a in
                    elim (found_or_not b d.held) [
                      | inl second ↦ absurd (not_first first (owns (keeps.second (ap is_some second.1))))
                      | inr none_b ↦ absurd (not_first first (if_second (is_new_one b none_b some_b)).0)
                    ]
              ]

    -- ---- a change that leaves transactions and known stamps
    pub keeps_map : (had' : Type 0) (g : Tx × Slot → Tx × Slot) → ((e : Tx × Slot) → (g e).0 ≡ e.0)
        → ((v : Slot) (i : ℕ) → get_or v.stamps i unknown ≢ unknown → get_or (g (a, v)).1.stamps i unknown ≢ unknown)
        → ((v : Slot) → at a d.held ≡ Some v → (g (a, v)).1.arrived ≡ true → (v.arrived ≡ true) ⊎ had') → (had → had') → Keeps
        (record d { held = map g d.held }) K had' all
    keeps_map had' g same known arrives more = record {
      known = λ i k. elim (keeps.known i k) [
        | inl final ↦ inl final
        | inr found ↦ inr ((g (a, found.0)).1, at-map a g same d.held found.0 found.1, known found.0 i found.2)
      ];
      order = λ some_a some_b. subst (λ (ts : List Tx). is_before ts a b ≡ true) (sym (keys-map g same d.held))
          (keeps.order (sym (is-map a g same d.held) ∙ some_a) (sym (is-map b g same d.held) ∙ some_b));
      arrived = λ v found is. elim (found_or_not a d.held) [
        | inr none ↦ absurd (both_ways (is_some (at a (map g d.held))) (is-map a g same d.held ∙ none) (ap is_some found))
        | inl old ↦
            let value : (g (a, old.0)).1 ≡ v = same_Some (sym (at-map a g same d.held old.0 old.1) ∙ found) in
            elim (arrives old.0 old.1 (ap (λ (w : Slot). w.arrived) value ∙ is)) [
              | inl before ↦ more (keeps.arrived old.0 old.1 before)
              | inr now ↦ now
            ]
      ];
      apart = λ final. is-map a g same d.held ∙ keeps.apart final;
      second = λ some. keeps.second (sym (is-map b g same d.held) ∙ some);
    }

    -- ---- what is settled
    abbrev stays : List Tx → Tx × Slot → Bool
    stays finals e = not (list_any (tx_eq e.0) finals)

    pub keeps_settled : (txs : List Tx) → Keeps (settled txs d) K had all
    keeps_settled txs =
        elim (cases_Bool (list_any (tx_eq a) (insert_all tx_eq d.finals txs))) [
          | inl final ↦
              let gone : is_some (at a (settled txs d).held) ≡ false = at-none a (stays (insert_all tx_eq d.finals txs))
              (λ v. not_from_true (list_any (tx_eq a) (insert_all tx_eq d.finals txs)) final) d.held in
              record {
                known = λ i k. inl final;
                order = λ some_a some_b. some_or _ (at a (settled txs d).held) some_a gone;
                arrived = λ v found is. some_or _ (at a (settled txs d).held) (ap is_some found) gone;
                apart = λ is. gone;
                second = λ some. keeps.second (still b some);
              }
          | inr open' ↦
              let passes : (v : Slot) → stays (insert_all tx_eq d.finals txs) (a, v) ≡ true = λ v. not_from_false
              (list_any (tx_eq a) (insert_all tx_eq d.finals txs)) open' in
              record {
                known = λ i k. elim (keeps.known i k) [
                  | inl final ↦ inl (stays_final a d.finals txs final)
                  | inr found ↦ inr (found.0, at-filter a (stays (insert_all tx_eq d.finals txs)) d.held found.0 found.1 (passes found.0), found.2)
                ];
                order = λ some_a some_b. elim (found_or_not a d.held) [
                  | inl found ↦ before_filter a b (stays (insert_all tx_eq d.finals txs)) found.0 d.held found.1 (passes found.0)
                      (keeps.order (ap is_some found.1) (still b some_b))
                  | inr none ↦ some_or _ (at a d.held) (still a some_a) none
                ];
                arrived = λ v found is. elim (found_or_not a d.held) [
                  | inl old ↦
                      let same : old.0 ≡ v = same_Some (sym (at-filter a (stays (insert_all tx_eq d.finals txs)) d.held old.0 old.1 (passes old.0)) ∙ found) in
                      keeps.arrived old.0 old.1 (ap (λ (w : Slot). w.arrived) same ∙ is)
                  | inr none ↦ some_or _ (at a d.held) (still a (ap is_some found)) none
                ];
                apart = λ final. absurd (both_ways (list_any (tx_eq a) (insert_all tx_eq d.finals txs)) open' final);
                second = λ some. keeps.second (still b some);
              }
        ]
      where
        still : (t : Tx) → is_some (at t (settled txs d).held) ≡ true → is_some (at t d.held) ≡ true
        still t some = elim (cases_Bool (is_some (at t d.held))) [
          | inl is ↦ is
          | inr none ↦ some_or _ (at t (settled txs d).held) some (at-unfilter t (stays (insert_all tx_eq d.finals txs)) d.held none)
        ]
