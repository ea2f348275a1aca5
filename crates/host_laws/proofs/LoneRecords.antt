-- The record of a single replica that was given one tick.
use Rattle.std.proofs.Common.{◌≡◌, ◌<◌, ℕ, zero, suc, List, [], ◌∷◌, length, false, Option, Some, slice_get, refl, sym, ap, subst, ◌∙◌, arith, inl, inr}
use Rattle.std.specs.Prelude.{All, IfSome}
use Rattle.std.specs.List.{flat_map}
use Rattle.std.specs.Option.{option_map}
use Rattle.std.proofs.lemmas.List.Elements.{All-cons, All-nil}
use Rattle.std.proofs.lemmas.Option.{same_Some, slice_get-map}
use Rattle.seq_base.specs.declared.tx.Tx.{Tx}
use Rattle.seq_base.specs.Lists.{AreDistinct}
use Rattle.seq_base.specs.Setting.{IsValid}
use Rattle.count_set.specs.Sets.{is_among}
use Rattle.node_core.specs.declared.event.Event.{Event}
use Rattle.node_core.specs.declared.event.Event.TheVariants.{Deliver, Tick}
use Rattle.node_core.specs.declared.entry.Entry.{Entry}
use Rattle.run_record.specs.declared.record.Journal.{Journal}
use Rattle.run_record.specs.declared.record.RunRecord.{RunRecord}
use Rattle.run_verdict.specs.Shown.{HasEntry, IsCollided, IsForged}
use Rattle.journal_rules.specs.JournalPrefixes.{arrived_by}
use Rattle.lifetime_laws.specs.Joined.{IsFromReplica}
use Rattle.host_laws.specs.Examples.{lone_common, lone_role}
use Rattle.host_laws.specs.Hosted.{AreHosted, IsFed, IsHosted, arrivals_of, fits_of_all, hosted_run, role_of}
use Rattle.host_laws.specs.Hosts.{Host, events_in}
use Rattle.host_laws.specs.Roles.{Role, Secret}
use Rattle.host_laws.specs.Steps.{Deed, IsHostRun}

lone_valid : (secret : Secret) → IsValid (lone_common secret).setting
lone_valid secret = record {
  replicas = record { some = omega arith; few = omega arith };
  gamma = record { positive = omega arith; small = omega arith; above_half = omega arith; at_most_one = omega arith };
  resilience = record { enough = omega arith };
}

module _ (secret : Secret) (host : Host) (events : events_in host.journal ≡ Tick 0 ∷ []) where
  abbrev run : RunRecord
  run = hosted_run (lone_common secret).setting [] (host ∷ [])

  no_arrivals : arrivals_of host ≡ []
  no_arrivals = ap (λ (es : List Event). flat_map arrived_by es) events

  fed : IsFed 1 host
  fed = record {
    from = subst (λ (es : List Event). All (IsFromReplica 1) es) (sym events) (All-cons (IsFromReplica 1) (Tick 0) [] tt (All-nil (IsFromReplica 1)));
    distinct = subst AreDistinct (sym no_arrivals) (λ i j d less inside. absurd (omega (arith, inside)));
    few = (let size : length (arrivals_of host) ≡ 0 = ap (λ (txs : List Tx). length txs) no_arrivals in omega (arith, size));
  }

  -- the only entry delivered nothing
  at_event : (k : ℕ) (from : ℕ) (bytes : List ℕ) → slice_get (Tick 0 ∷ []) k ≡ Some (Deliver from bytes) → ⊥
  at_event zero from bytes is = cc
  at_event (suc k) from bytes is = cc

  entry_none : (k : ℕ) (e : Entry) (from : ℕ) (bytes : List ℕ) → slice_get host.journal k ≡ Some e → e.event ≡ Deliver from bytes → ⊥
  entry_none k e from bytes at is =
      at_event k from bytes
      (ap (λ (es : List Event). slice_get es k) (sym events) ∙ slice_get-map (λ (t : Entry). t.event) host.journal k
      ∙ ap (option_map (λ (t : Entry). t.event)) at ∙ ap Some is)

  journal_of_one : (r : ℕ) (journal : Journal) → r < 1 → slice_get run.journals r ≡ Some journal → host.journal ≡ journal.entries
  journal_of_one zero journal below is = ap (λ (j : Journal). j.entries) (same_Some (record { entries = host.journal }) journal is)
  journal_of_one (suc r) journal below is = absurd (omega (arith, below))

  none_delivered : (r k : ℕ) (e : Entry) (from : ℕ) (bytes : List ℕ) → HasEntry run r k e → e.event ≡ Deliver from bytes → ⊥
  none_delivered r k e from bytes has is =
      entry_none k e from bytes (ap (λ (es : List Entry). slice_get es k) (journal_of_one r has.journal has.honest.below has.journal_is) ∙ has.entry_is) is

  pub only_unforged : ¬ IsForged (fits_of_all (lone_common secret)) run
  only_unforged found =
      none_delivered found.0.receiver found.0.entry found.1.entry found.1.delivers.from found.1.delivers.bytes found.1.has found.1.delivers.event

  pub only_uncollided : ¬ IsCollided run
  only_uncollided found = elim found [
    | inl both ↦
        none_delivered both.0.receiver both.0.entry both.2.one.entry both.2.one.delivers.from both.2.one.delivers.bytes both.2.one.has both.2.one.delivers.event
    | inr alone ↦
        let r = alone.1.received in
        none_delivered alone.0.receiver alone.0.entry r.entry r.delivers.from r.delivers.bytes r.has r.delivers.event
  ]

pub only_hosted : (secret : Secret) (steps : List (Deed × Host)) (host : Host) → IsHostRun secret steps host → host.role ≡ Some (lone_role secret)
    → events_in host.journal ≡ Tick 0 ∷ [] → AreHosted (lone_common secret) [] (host ∷ [])
only_hosted secret steps host run role events = record {
  valid = lone_valid secret;
  count = refl;
  few_faulty = omega arith;
  hosted = hosted;
}
  where
    first : IsHosted (lone_common secret) 0 host
    first = record {
      secret = secret;
      steps = steps;
      run = run;
      role = subst (λ (o : Option Role). IfSome o (λ own. own ≡ role_of (lone_common secret) 0)) (sym role) refl;
      fed = fed secret host events;
    }

    hosted : (r : ℕ) (h : Host) → r < 1 → is_among [] r ≡ false → slice_get (host ∷ []) r ≡ Some h → IsHosted (lone_common secret) r h
    hosted zero h below honest at = subst (λ (g : Host). IsHosted (lone_common secret) 0 g) (same_Some host h at) first
    hosted (suc r) h below honest at = absurd (omega (arith, below))
