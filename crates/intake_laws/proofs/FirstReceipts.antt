-- In a first lifetime: where a receipt of the first transaction comes from, and what a call leaves that brings none.
use Rattle.std.proofs.Common.{◌≡◌, ◌≢◌, ℕ, ◌<◌, ◌≤◌, List, [], true, sym, subst, ◌∙◌, ◌⊎◌, inl, inr}
use Rattle.std.specs.Prelude.{Contains}
use Rattle.std.proofs.lemmas.Bool.{cases_eq, or_left, or_right}
use Rattle.std.proofs.lemmas.List.Folds.{list_any-append}
use Rattle.std.proofs.lemmas.List.Elements.{Contains-append_cases}
use Rattle.seq_base.specs.declared.tx.Tx.{Tx}
use Rattle.seq_base.specs.Tx.{tx_eq}
use Rattle.seq_base.specs.Lists.{holds}
use Rattle.intake.specs.declared.slot.Receipt.{Receipt}
use Rattle.intake.specs.Desk.{Desk}
use Rattle.intake_laws.specs.Past.{Call, Past, desk_after, arriving_by, own_receipt, peer_receipt, receipts_by, with_call}
use Rattle.intake_laws.proofs.LeastStamps.{Contains-none}
use Rattle.intake_laws.proofs.Slots.{receipt_at}
use Rattle.intake_laws.proofs.Sounds.{Sound, own_by, others_by}
use Rattle.intake_laws.proofs.Keeps.{Keeps, keeps_clocks}

-- what has arrived stays so, and what arrives now has arrived then
module _ (a : Tx) (p : Past) (call : Call) where
  pub stays_had : holds a p.arrivals ≡ true → holds a (with_call p call).arrivals ≡ true
  stays_had had = list_any-append (λ (t : Tx). tx_eq t a) p.arrivals (arriving_by call p.desk) ∙ or_left (holds a p.arrivals)
      (holds a (arriving_by call p.desk)) had

  pub now_had : holds a (arriving_by call p.desk) ≡ true → holds a (with_call p call).arrivals ≡ true
  now_had arrives = list_any-append (λ (t : Tx). tx_eq t a) p.arrivals (arriving_by call p.desk) ∙ or_right (holds a p.arrivals)
      (holds a (arriving_by call p.desk)) arrives

module _ (n f me : ℕ) (mine : me < n) (few : n ≤ 16) (a b : Tx) where
  -- whose receipt of the first is known
  abbrev pub Heard : Past → ℕ → Type 0
  Heard p i = (x : ℕ) × Contains (p.receipts i) (receipt_at a x)

  abbrev pub Had : Past → Type 0
  Had p = holds a p.arrivals ≡ true

  module _ (Knows : Past → Type 0) (stays_so : (p : Past) (call : Call) → Knows p → Knows (with_call p call)) (owns : (p : Past) → Knows p → Heard p me) where
    abbrev pub KeepsBoth : Past → Type 0
    KeepsBoth p = Keeps n me mine few a b p.desk (Heard p) (Had p) (Knows p)

    module _ (p : Past) (call : Call) (sound : Sound n f me p) (keeps : KeepsBoth p) where
      -- where a receipt of the first comes from
      pub news : (i : ℕ) → Heard (with_call p call) i → Heard p i ⊎
          (((i ≡ me) × ((x : ℕ) × Contains (own_receipt call p.desk) (receipt_at a x))) ⊎
          ((i ≢ me) × ((x : ℕ) × Contains (peer_receipt i call p.desk) (receipt_at a x))))
      news i heard =
          elim (Contains-append_cases (p.receipts i) (receipts_by i call p.desk) (receipt_at a heard.0) heard.1) [
            | inl old ↦ inl (heard.0, old)
            | inr new ↦ elim (cases_eq i me) [
              | inl same ↦ inr (inl (
                same,
                (
                  heard.0,
                  subst (λ (rs : List Receipt). Contains rs (receipt_at a heard.0)) (own_by n f me p.desk call sound.fits)
                      (subst (λ (j : ℕ). Contains (receipts_by j call p.desk) (receipt_at a heard.0)) same new),
                ),
              ))
              | inr other ↦ inr (inr (
                other,
                (
                  heard.0,
                  subst (λ (rs : List Receipt). Contains rs (receipt_at a heard.0))
                      (others_by n f me p.desk call i sound.fits other) new,
                ),
              ))
            ]
          ]

    module _ (p : Past) (call : Call) where
      pub finish : (e : Desk) → desk_after call p.desk ≡ e → Keeps n me mine few a b e (Heard (with_call p call)) (Had (with_call p call))
          (Knows (with_call p call)) → KeepsBoth (with_call p call)
      finish e is keeps = subst (λ (g : Desk). Keeps n me mine few a b g (Heard (with_call p call)) (Had (with_call p call)) (Knows (with_call p call)))
          (sym is) keeps

      -- nothing is learned, and the desk keeps what it holds
      pub quiet : (e : Desk) → Sound n f me p → KeepsBoth p → own_receipt call p.desk ≡ [] → ((i : ℕ) → peer_receipt i call p.desk ≡ []) → (i : ℕ) → Heard
          (with_call p call) i → Heard p i
      quiet e sound keeps no_own no_peer i heard =
          elim (news p call sound keeps i heard) [
            | inl old ↦ old
            | inr new ↦ elim new [
              | inl mine' ↦ absurd (Contains-none _ (subst (λ (rs : List Receipt). Contains rs (receipt_at a mine'.1.0)) no_own mine'.1.1))
              | inr other ↦ absurd (Contains-none _ (subst (λ (rs : List Receipt). Contains rs (receipt_at a other.1.0)) (no_peer i) other.1.1))
            ]
          ]

      pub same_desk : Sound n f me p → KeepsBoth p → own_receipt call p.desk ≡ [] → ((i : ℕ) → peer_receipt i call p.desk ≡ []) → (e : Desk)
          → desk_after call p.desk ≡ e → e.held ≡ p.desk.held → e.finals ≡ p.desk.finals
          → KeepsBoth (with_call p call)
      same_desk sound keeps no_own no_peer e is held finals =
          finish e is (keeps_clocks n me mine few a b p.desk e (Heard p) (Heard (with_call p call)) (Had p) (Had (with_call p call)) (Knows p)
          (Knows (with_call p call)) held finals
          (quiet e sound keeps no_own no_peer) (stays_had a p call) (stays_so p call) keeps)
