-- A cut of a journal does not change when the journal grows.
use Rattle.std.proofs.Common.{◌≡◌, ℕ, zero, suc, ◌+◌, ◌<◌, ◌≤◌, true, List, [], ◌∷◌, ◌++◌, refl, ap, inl, inr, arith}
use Rattle.std.proofs.lemmas.Bool.{cases_Bool}
use Rattle.node_core.specs.declared.entry.Entry.{Entry}
use Rattle.round_rules.specs.Journals.{before_tick, events_of, is_tick, ticks_in}

-- the entries before a tick that has come
pub cut_stays : (k : ℕ) (journal more : List Entry) → k < ticks_in (events_of journal) → before_tick k (journal ++ more) ≡ before_tick k journal
cut_stays k [] more lt = absurd (omega (arith, lt))
cut_stays zero (e ∷ es) more lt = elim (cases_Bool (is_tick e.event)) [
  | inl so ↦ rw so refl
  | inr not_so ↦
      (let rest : 0 < 0 + ticks_in (events_of es) = rw not_so at lt in
      rw not_so (ap (λ (l : List Entry). e ∷ l) (cut_stays 0 es more (omega (arith, rest)))))
]
cut_stays (suc k) (e ∷ es) more lt = elim (cases_Bool (is_tick e.event)) [
  | inl so ↦
      (let rest : suc k < 1 + ticks_in (events_of es) = rw so at lt in
      rw so (ap (λ (l : List Entry). e ∷ l) (cut_stays k es more (omega (arith, rest)))))
  | inr not_so ↦
      (let rest : suc k < 0 + ticks_in (events_of es) = rw not_so at lt in
      rw not_so (ap (λ (l : List Entry). e ∷ l) (cut_stays (suc k) es more (omega (arith, rest)))))
]

-- before a tick that has not come is the whole journal
pub cut_whole : (k : ℕ) (journal : List Entry) → ticks_in (events_of journal) ≤ k → before_tick k journal ≡ journal
cut_whole zero [] le = refl
cut_whole (suc k) [] le = refl
cut_whole zero (e ∷ es) le = elim (cases_Bool (is_tick e.event)) [
  | inl so ↦ (let rest : 1 + ticks_in (events_of es) ≤ 0 = rw so at le in absurd (omega (arith, rest)))
  | inr not_so ↦
      (let rest : 0 + ticks_in (events_of es) ≤ 0 = rw not_so at le in
      rw not_so (ap (λ (l : List Entry). e ∷ l) (cut_whole 0 es (omega (arith, rest)))))
]
cut_whole (suc k) (e ∷ es) le = elim (cases_Bool (is_tick e.event)) [
  | inl so ↦ (let rest : 1 + ticks_in (events_of es) ≤ suc k = rw so at le in rw so (ap (λ (l : List Entry). e ∷ l) (cut_whole k es (omega (arith, rest)))))
  | inr not_so ↦
      (let rest : 0 + ticks_in (events_of es) ≤ suc k = rw not_so at le in
      rw not_so (ap (λ (l : List Entry). e ∷ l) (cut_whole (suc k) es (omega (arith, rest)))))
]

-- the cut before the tick that comes next is the whole journal so far
pub cut_here : (k : ℕ) (journal : List Entry) (tick : Entry) (more : List Entry) → ticks_in (events_of journal) ≡ k
    → is_tick tick.event ≡ true → before_tick k (journal ++ tick ∷ more) ≡ journal
cut_here zero [] tick more is so = rw so refl
cut_here (suc k) [] tick more is so = absurd (omega (arith, is))
cut_here zero (e ∷ es) tick more is so = elim (cases_Bool (is_tick e.event)) [
  | inl yes_so ↦ (let rest : 1 + ticks_in (events_of es) ≡ 0 = rw yes_so at is in absurd (omega (arith, rest)))
  | inr not_so ↦
      (let rest : 0 + ticks_in (events_of es) ≡ 0 = rw not_so at is in
      rw not_so (ap (λ (l : List Entry). e ∷ l) (cut_here 0 es tick more (omega (arith, rest)) so)))
]
cut_here (suc k) (e ∷ es) tick more is so = elim (cases_Bool (is_tick e.event)) [
  | inl yes_so ↦
      (let rest : 1 + ticks_in (events_of es) ≡ suc k = rw yes_so at is in
      rw yes_so (ap (λ (l : List Entry). e ∷ l) (cut_here k es tick more (omega (arith, rest)) so)))
  | inr not_so ↦
      (let rest : 0 + ticks_in (events_of es) ≡ suc k = rw not_so at is in
      rw not_so (ap (λ (l : List Entry). e ∷ l) (cut_here (suc k) es tick more (omega (arith, rest)) so)))
]
