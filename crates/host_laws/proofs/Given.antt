-- What a host gave earlier is a prefix of what it gives later.
use Rattle.std.proofs.Common.{◌≡◌, ◌+◌, ℕ, List, [], ◌++◌, length, get_or, Option, Some, slice_get, refl, sym, ap, subst, ◌∙◌, arith, inl, inr}
use Rattle.std.specs.Prelude.{All, IfSome}
use Rattle.std.specs.List.{flat_map}
use Rattle.std.proofs.lemmas.List.{append-nil, length-append, get_or_append_left}
use Rattle.std.proofs.lemmas.Grind.{flat_map-append}
use Rattle.std.proofs.lemmas.Option.{get_or_from_slice_get}
use Rattle.seq_base.specs.declared.tx.Tx.{Tx}
use Rattle.seq_base.specs.Setting.{IsValid}
use Rattle.chain_store.specs.Chains as chains
use Rattle.seal_kit.specs.Seals.{capacity_of}
use Rattle.node_core.specs.declared.event.Event.{Event}
use Rattle.node_core.specs.declared.entry.Entry.{Entry}
use Rattle.node_core.specs.Rows.{Check}
use Rattle.run_record.specs.declared.record.RunRecord.{RunRecord}
use Rattle.run_verdict.specs.Shown.{IsHonest}
use Rattle.journal_rules.specs.JournalPrefixes.{arrived_by}
use Rattle.journal_rules.specs.Records.{journal_in}
use Rattle.journal_rules.specs.Rules.{Scale, finals_of}
use Rattle.journal_laws.specs.Standing.{MayCome}
use Rattle.lifetime_laws.specs.Joined.{IsFromReplica}
use Rattle.replica_box.specs.Seats.{finals_at}
use Rattle.headline_laws.specs.Headline.{Begins}
use Rattle.headline_laws.specs.Premises.{IsSound}
use Rattle.host_laws.specs.Below.{LogLaws, NodeLaws}
use Rattle.host_laws.specs.Roles.{Role, Secret, gives_for}
use Rattle.host_laws.specs.Hosts.{Host, events_in, new_host}
use Rattle.host_laws.specs.Hosted.{AreHosted, Common, IsFed, fits_of_all, hosted_run, role_of, scale_for}
use Rattle.host_laws.specs.Steps.{Deed, IsHostRun, Lead}
use Rattle.host_laws.proofs.HostLogs.{events_append}
use Rattle.host_laws.proofs.HostRuns.{good_run}
use Rattle.host_laws.proofs.HostStands.{IsGood, Stands, state_for}
use Rattle.host_laws.proofs.HostedReplicas.{hosted, journal_is, shown}
use Rattle.host_laws.proofs.Later.{lead_grows, lead_keeps_role}

-- the law on records
abbrev pub BatchesStay : Type 0
BatchesStay =
    (fits : Check) (run : RunRecord) (r : ℕ) (before more after : List Entry) → IsSound fits run → IsHonest run r → journal_in run r ≡ (before ++ more) ++ after
    → Begins (finals_of run.setting before) (finals_of run.setting (before ++ more))

-- a host that has not acted has given no batch
none_given : (secret : Secret) (host : Host) → IsGood secret host → host.journal ≡ [] → host.batches ≡ []
unfolding chains.chain_state_of
none_given secret host (inl is) none = ap (λ (h : Host). h.batches) is
none_given secret host (inr s) none = s.is_of.batches_are ∙ ap (λ (j : List Entry). finals_at (state_for secret s.role (events_in j)).known) none

first_ones : (P : Event → Type 0) (xs ys : List Event) → All P (xs ++ ys) → All P xs
first_ones P xs ys all = λ i d less.
    let size : length (xs ++ ys) ≡ length xs + length ys = length-append xs ys in
    subst P (get_or_append_left xs ys d i less) (all i d (omega (arith, less, size)))

module _ (nodes : NodeLaws) (secret : Secret) (earlier later : Host) (s : Stands secret earlier) (more : List Entry)
    (is : later.journal ≡ earlier.journal ++ more) (valid : IsValid s.role.setting) (fed : IsFed s.role.setting.n later) where
  abbrev by : Scale
  by = scale_for s.role later

  events_are : events_in later.journal ≡ events_in earlier.journal ++ events_in more
  events_are = ap events_in is ∙ events_append earlier.journal more

  come_from : All (IsFromReplica s.role.setting.n) (events_in earlier.journal)
  come_from =
      first_ones (IsFromReplica s.role.setting.n) (events_in earlier.journal) (events_in more)
      (subst (λ (es : List Event). All (IsFromReplica s.role.setting.n) es) events_are fed.from)

  may_come : MayCome by s.role.views s.role.me (events_in earlier.journal)
  may_come = record {
    wide = s.is_of.owner.narrow.1.1.1.1.0;
    own = refl;
    replica = omega (arith, s.is_of.owner.can.number, valid.replicas.few);
    few = fed.few;
    come = nodes.come s.role.setting (events_in earlier.journal) s.is_of.each come_from;
    rest = flat_map arrived_by (events_in more);
    begins = ap (λ (es : List Event). flat_map arrived_by es) events_are ∙ flat_map-append arrived_by (events_in earlier.journal) (events_in more);
  }

  -- what the earlier host gave is what its journal shows
  pub shown_earlier : earlier.batches ≡ finals_of s.role.setting earlier.journal
  shown_earlier =
      let at = nodes.reported (gives_for secret s.role) by s.role.views s.role.me (capacity_of s.role.height) (events_in earlier.journal) may_come in
      s.is_of.batches_are ∙ at.finals ∙ ap (finals_of s.role.setting) (sym s.is_of.turns)

module _ (laws : LogLaws) (nodes : NodeLaws) (stay : BatchesStay) (common : Common) (faulty : List ℕ) (hosts : List Host) (h : AreHosted common faulty hosts)
    (sound : IsSound (fits_of_all common) (hosted_run common.setting faulty hosts)) (r : ℕ) (honest : IsHonest (hosted_run common.setting faulty hosts) r)
    (secret : Secret) (before after : List (Deed × Host)) (earlier : Host) (run : IsHostRun secret before earlier)
    (lead : Lead secret earlier after (get_or hosts r new_host)) where
  abbrev later : Host
  later = get_or hosts r new_host

  abbrev all : RunRecord
  all = hosted_run common.setting faulty hosts

  good : IsGood secret earlier
  good = good_run laws secret before earlier run

  given : (s : Stands secret earlier) → s.role ≡ role_of common r → Begins earlier.batches later.batches
  given s role =
      let grown = lead_grows secret earlier after later lead in
      let fed : IsFed common.setting.n later = (hosted laws nodes common faulty hosts h r honest).fed in
      let here : earlier.batches ≡ finals_of common.setting earlier.journal =
      shown_earlier nodes secret earlier later s grown.more grown.is (subst (λ (o : Role). IsValid o.setting) (sym role) h.valid)
      (subst (λ (o : Role). IsFed o.setting.n later) (sym role) fed)
      ∙ ap (λ (o : Role). finals_of o.setting earlier.journal) role in
      let parts : journal_in all r ≡ (earlier.journal ++ grown.more) ++ [] =
      sym (journal_is laws nodes common faulty hosts h r honest) ∙ grown.is ∙ sym (append-nil (earlier.journal ++ grown.more)) in
      let b = stay (fits_of_all common) all r earlier.journal grown.more [] sound honest parts in
      let end : later.batches ≡ finals_of common.setting (earlier.journal ++ grown.more) =
      (shown laws nodes common faulty hosts h r honest).batches ∙ ap (finals_of common.setting) grown.is in
      (b.0, end ∙ b.1 ∙ ap (λ (list : List (List Tx)). list ++ b.0) (sym here))

  pub given_stay : Begins earlier.batches later.batches
  given_stay = elim (lead_keeps_role laws secret earlier after later good lead) [
    | inl none ↦ (later.batches, ap (λ (list : List (List Tx)). list ++ later.batches) (sym (none_given secret earlier good none)))
    | inr same ↦ by same good
  ]
    where
      by : later.role ≡ earlier.role → IsGood secret earlier → Begins earlier.batches later.batches
      by same (inl is) = (later.batches, ap (λ (list : List (List Tx)). list ++ later.batches) (sym (ap (λ (h : Host). h.batches) is)))
      by same (inr s) =
          given s (subst (λ (o : Option Role). IfSome o (λ own. own ≡ role_of common r)) (same ∙ s.role_is)
          (hosted laws nodes common faulty hosts h r honest).role)

-- the same, for the host at its place
pub given_later : (laws : LogLaws) (nodes : NodeLaws) → BatchesStay → (common : Common) (faulty : List ℕ) (hosts : List Host) → AreHosted common faulty hosts
    → IsSound (fits_of_all common) (hosted_run common.setting faulty hosts)
    → (r : ℕ) (secret : Secret) (before after : List (Deed × Host)) (earlier later : Host) → IsHonest (hosted_run common.setting faulty hosts) r
    → slice_get hosts r ≡ Some later
    → IsHostRun secret before earlier → Lead secret earlier after later → Begins earlier.batches later.batches
given_later laws nodes stay common faulty hosts h sound r secret before after earlier later honest at run lead =
    let here : get_or hosts r new_host ≡ later = get_or_from_slice_get hosts r later new_host at in
    subst (λ (l : Host). Begins earlier.batches l.batches) here
    (given_stay laws nodes stay common faulty hosts h sound r honest secret before after earlier run
    (subst (λ (l : Host). Lead secret earlier after l) (sym here) lead))
