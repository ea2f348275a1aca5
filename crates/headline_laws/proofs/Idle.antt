-- The record of a run in which nothing was delivered to any replica is sound, whatever arrived.
use Rattle.std.proofs.Common.{◌≡◌, ℕ, zero, suc, ◌<◌, List, [], ◌∷◌, ◌++◌, get_or, refl, sym, ap, subst, ◌∙◌, inl, inr, arith, slice_get}
use Rattle.std.specs.Prelude.{All, replicate}
use Rattle.std.specs.Option.{option_map_or}
use Rattle.std.specs.declared.option.Option.{Option}
use Rattle.std.proofs.lemmas.List.Elements.{All-nil}
use Rattle.std.proofs.lemmas.Option.{none-some}
use Rattle.seq_base.specs.declared.tx.Tx.{Tx}
use Rattle.seq_base.specs.Lists.{AreDistinct}
use Rattle.seq_base.specs.Setting.{Parameters, IsValid}
use Rattle.seq_base.specs.Tx.{FitsTx}
use Rattle.count_set.specs.Sets.{size_of, is_among}
use Rattle.node_core.specs.declared.entry.Entry.{Entry}
use Rattle.run_record.specs.declared.record.Head.{Head}
use Rattle.run_record.specs.declared.record.Journal.{Journal}
use Rattle.run_record.specs.declared.record.RunRecord.{RunRecord}
use Rattle.node_core.specs.Rows.{Check}
use Rattle.node_core.specs.Readable.{IsReadable}
use Rattle.journal_rules.specs.Obeys.{scale_of}
use Rattle.journal_rules.specs.Rules.{Scale, IsLawful, commit_view_of, finals_of}
use Rattle.run_verdict.specs.Shown.{HasEntry}
use Rattle.headline_laws.specs.Examples.{idle, waiting}
use Rattle.headline_laws.specs.Premises.{IsSound}
use Rattle.journal_rules.specs.Records.{journal_in, arrivals_in, batches_in}

none_there : {X : Type 0} (before : List X) (x : X) (after : List X) → [] ≡ before ++ x ∷ after → ⊥
none_there [] x after is = cc
none_there (y ∷ before) x after is = cc

no_entries : (n r : ℕ) → option_map_or (λ (j : Journal). j.entries) (slice_get (replicate n (record { entries = [] })) r) [] ≡ []
no_entries zero r = refl
no_entries (suc n) zero = refl
no_entries (suc n) (suc r) = no_entries n r

nothing_in : {X : Type 0} (x : X) (n r : ℕ) → get_or (replicate n x) r x ≡ x
nothing_in x zero r = refl
nothing_in x (suc n) zero = refl
nothing_in x (suc n) (suc r) = nothing_in x n r

none_faulty : (n : ℕ) → size_of n (is_among []) ≡ 0
none_faulty zero = refl
none_faulty (suc n) = omega (arith, none_faulty n)

is_lawful : (by : Scale) → IsLawful by []
is_lawful by before e after is = absurd (none_there before e after is)

no_head : (n r : ℕ) → option_map_or (λ (h : Head). h.commit) (slice_get (replicate n (record { view = 0; commit = 0 })) r) 0 ≡ 0
no_head zero r = refl
no_head (suc n) zero = refl
no_head (suc n) (suc r) = no_head n r

module _ (fits : Check) (s : Parameters) (arrivals : List (List Tx)) (valid : IsValid s)
    (distinct : (r : ℕ) → r < s.n → AreDistinct (arrivals_in (waiting s arrivals) r))
    (fit : (r : ℕ) → r < s.n → All FitsTx (arrivals_in (waiting s arrivals) r)) where
  abbrev run : RunRecord
  run = waiting s arrivals

  empty : (r : ℕ) → journal_in run r ≡ []
  empty r = no_entries s.n r

  no_batches : (r : ℕ) → batches_in run r ≡ []
  no_batches r = nothing_in [] s.n r

  no_entry : (r at : ℕ) (e : Entry) → HasEntry run r at e → ⊥
  no_entry r at e has =
      let none : has.journal.entries ≡ [] =
      sym (ap (λ (o : Option Journal). option_map_or (λ (j : Journal). j.entries) o []) has.journal_is) ∙ empty r in
      absurd (none-some e (sym (ap (λ (es : List Entry). slice_get es at) none) ∙ has.entry_is))

  pub waiting_is_sound : IsSound fits run
  waiting_is_sound = record {
    lawful = record {
      valid = valid;
      few_faulty = omega (arith, none_faulty s.n);
      distinct = λ r honest. distinct r honest.below;
      fit = λ r honest. fit r honest.below;
      reported = λ r honest. rw (empty r) (All-nil (λ (e : Entry). IsReadable e.event));
      obeys = λ r honest. record {
        journal = subst (IsLawful (scale_of fits run r)) (sym (empty r)) (is_lawful (scale_of fits run r));
        head = no_head s.n r ∙ sym (ap (commit_view_of s) (empty r));
        list = no_batches r ∙ sym (ap (finals_of s) (empty r));
      };
    };
    unforged = λ found. no_entry found.0.receiver found.0.entry found.1.entry found.1.has;
    uncollided = λ found. elim found [
      | inl both ↦ no_entry both.0.receiver both.0.entry both.2.one.entry both.2.one.has
      | inr alone ↦ no_entry alone.0.receiver alone.0.entry alone.1.received.entry alone.1.received.has
    ];
  }

pub idle_is_sound : (fits : Check) (s : Parameters) → IsValid s → IsSound fits (idle s)
idle_is_sound fits s valid =
    waiting_is_sound fits s (replicate s.n []) valid
    (λ r below. subst AreDistinct (sym (nothing_in [] s.n r)) (λ i j d less inside. absurd (omega (arith, inside))))
    (λ r below. subst (All FitsTx) (sym (nothing_in [] s.n r)) (All-nil FitsTx))
