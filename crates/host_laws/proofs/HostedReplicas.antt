-- The record of hosted replicas is sound.
use Rattle.std.proofs.Common.{◌≡◌, ℕ, zero, suc, List, [], ◌∷◌, ◌++◌, map, get_or, Option, Some, slice_get, refl, sym, ap, subst, ◌∙◌, arith, inl, inr}
use Rattle.std.specs.Prelude.{All, IfSome}
use Rattle.std.specs.List.{AllByRecursion, flat_map}
use Rattle.std.specs.Option.{option_map, option_map_or}
use Rattle.std.proofs.lemmas.List.{append-nil}
use Rattle.std.proofs.lemmas.List.Elements.{All-append, All-cons, All-nil}
use Rattle.std.proofs.lemmas.Option.{get_or_from_slice_get, slice_get-get_or, slice_get-map}
use Rattle.seq_base.specs.declared.tx.Tx.{Tx}
use Rattle.seq_base.specs.Lists.{AreDistinct}
use Rattle.seq_base.specs.Setting.{IsValid, Parameters}
use Rattle.seq_base.specs.Tx.{FitsTx}
use Rattle.seal_kit.specs.Seals.{capacity_of}
use Rattle.node_core.specs.declared.event.Event.{Event}
use Rattle.node_core.specs.declared.event.Event.TheVariants.{Arrived, Deliver, Tick}
use Rattle.node_core.specs.declared.entry.Entry.{Entry}
use Rattle.node_core.specs.Readable.{IsReadable}
use Rattle.node_core.specs.Runs.{AllCome, CanCome}
use Rattle.run_record.specs.declared.record.Head.{Head}
use Rattle.run_record.specs.declared.record.Journal.{Journal}
use Rattle.run_record.specs.declared.record.RunRecord.{RunRecord}
use Rattle.run_verdict.specs.Shown.{IsCollided, IsForged, IsHonest}
use Rattle.journal_rules.specs.JournalPrefixes.{arrived_by}
use Rattle.journal_rules.specs.Obeys.{Obeys, scale_of}
use Rattle.journal_rules.specs.Records.{arrivals_in, batches_in, commit_in, journal_in}
use Rattle.journal_rules.specs.Rules.{IsLawful, Scale, commit_view_of, finals_of}
use Rattle.journal_laws.specs.Standing.{MayCome}
use Rattle.durable_node.specs.Log.{CanBeKept}
use Rattle.headline_laws.specs.Premises.{IsLawfulRun, IsSound}
use Rattle.host_laws.specs.Below.{LogLaws, NodeLaws}
use Rattle.host_laws.specs.Roles.{Role, Secret, gives_for}
use Rattle.host_laws.specs.Hosts.{Host, events_in, new_host}
use Rattle.host_laws.specs.Hosted.{AreHosted, Common, IsFed, IsHosted, arrivals_of, fits_of_all, hosted_run, role_of, scale_for}
use Rattle.host_laws.specs.Steps.{turns_on}
use Rattle.host_laws.proofs.HostRuns.{good_run}
use Rattle.host_laws.proofs.HostStands.{IsGood, Stands}

-- what the journal of a replica in this role, over these arrivals, shows of it
pub record IsShown (role : Role) (host : Host) : Type 0 where
  pub journal : IsLawful (scale_for role host) host.journal
  pub head : host.head.commit ≡ commit_view_of role.setting host.journal
  pub batches : host.batches ≡ finals_of role.setting host.journal
  pub fit : All FitsTx (arrivals_of host)
  pub readable : All (λ e. IsReadable e.event) host.journal

none_there : (before : List Entry) (e : Entry) (after : List Entry) → [] ≡ before ++ e ∷ after → ⊥
none_there [] e after is = cc
none_there (d ∷ before) e after is = cc

-- a host that was never opened
pub new_is_shown : (role : Role) → IsShown role new_host
new_is_shown role = record {
  journal = λ before e after is. absurd (none_there before e after is);
  head = refl;
  batches = refl;
  fit = All-nil FitsTx;
  readable = All-nil (λ (e : Entry). IsReadable e.event);
}

all_txs : (txs : List Tx) → AllByRecursion FitsTx txs → All FitsTx txs
all_txs [] all = All-nil FitsTx
all_txs (tx ∷ txs) all = All-cons FitsTx tx txs all.0 (all_txs txs all.1)

fit_arrived : (e : Event) → CanBeKept e → All FitsTx (arrived_by e)
fit_arrived (Arrived txs) can = all_txs txs can.narrow
fit_arrived (Deliver from bytes) can = All-nil FitsTx
fit_arrived (Tick floor) can = All-nil FitsTx

all_fit : (journal : List Entry) → All CanBeKept (events_in journal) → All FitsTx (flat_map arrived_by (events_in journal))
all_fit [] all = All-nil FitsTx
all_fit (e ∷ journal) all =
    All-append FitsTx (arrived_by e.event) (flat_map arrived_by (events_in journal)) (fit_arrived e.event (all zero e.event (omega arith)))
    (all_fit journal (λ i d less. all (suc i) d (omega (arith, less))))

one_readable : (s : Parameters) (e : Event) → CanCome s e → IsReadable e
one_readable s (Arrived txs) can = tt
one_readable s (Deliver from bytes) can = can.1
one_readable s (Tick floor) can = tt

all_readable : (s : Parameters) (journal : List Entry) → All (CanCome s) (events_in journal) → All (λ e. IsReadable e.event) journal
all_readable s [] all = All-nil (λ (e : Entry). IsReadable e.event)
all_readable s (e ∷ journal) all =
    All-cons (λ (d : Entry). IsReadable d.event) e journal (one_readable s e.event (all zero e.event (omega arith)))
    (all_readable s journal (λ i d less. all (suc i) d (omega (arith, less))))

module _ (nodes : NodeLaws) (secret : Secret) (host : Host) (s : Stands secret host) (valid : IsValid s.role.setting) (fed : IsFed s.role.setting.n host) where
  abbrev by : Scale
  by = scale_for s.role host

  all_come : AllCome s.role.setting (events_in host.journal)
  all_come = nodes.come s.role.setting (events_in host.journal) s.is_of.each fed.from

  may_come : MayCome by s.role.views s.role.me (events_in host.journal)
  may_come = record {
    wide = s.is_of.owner.narrow.1.1.1.1.0;
    own = refl;
    replica = omega (arith, s.is_of.owner.can.number, valid.replicas.few);
    few = fed.few;
    come = all_come;
    rest = [];
    begins = sym (append-nil (arrivals_of host));
  }

  pub stands_shown : IsShown s.role host
  stands_shown =
      let at = nodes.reported (gives_for secret s.role) by s.role.views s.role.me (capacity_of s.role.height) (events_in host.journal) may_come in
      let turns : turns_on secret s.role (events_in host.journal) ≡ host.journal = sym s.is_of.turns in
      record {
        journal = subst (λ (j : List Entry). IsLawful by j) turns
            (nodes.lawful (gives_for secret s.role) by s.role.views s.role.me (capacity_of s.role.height) (events_in host.journal) may_come);
        head = ap (λ (h : Head). h.commit) s.is_of.head_is ∙ at.view ∙ ap (commit_view_of s.role.setting) turns;
        batches = s.is_of.batches_are ∙ at.finals ∙ ap (finals_of s.role.setting) turns;
        fit = all_fit host.journal s.is_of.each;
        readable = all_readable s.role.setting host.journal all_come;
      }

-- a host in its role
pub shown_in : (nodes : NodeLaws) (secret : Secret) (host : Host) (role : Role) → IsGood secret host → IfSome host.role (λ own. own ≡ role)
    → IsValid role.setting → IsFed role.setting.n host → IsShown role host
shown_in nodes secret host role (inl is) own valid fed = subst (λ (h : Host). IsShown role h) (sym is) (new_is_shown role)
shown_in nodes secret host role (inr s) own valid fed =
    let same : s.role ≡ role = subst (λ (r : Option Role). IfSome r (λ o. o ≡ role)) s.role_is own in
    subst (λ (r : Role). IsShown r host) same
    (stands_shown nodes secret host s (subst (λ (r : Role). IsValid r.setting) (sym same) valid) (subst (λ (r : Role). IsFed r.setting.n host) (sym same) fed))

-- ---- the record

module _ (laws : LogLaws) (nodes : NodeLaws) (common : Common) (faulty : List ℕ) (hosts : List Host) (h : AreHosted common faulty hosts) where
  abbrev pub run : RunRecord
  run = hosted_run common.setting faulty hosts

  module _ (r : ℕ) (honest : IsHonest run r) where
    abbrev pub host : Host
    host = get_or hosts r new_host

    found : slice_get hosts r ≡ Some host
    found = slice_get-get_or hosts r new_host (omega (arith, honest.below, h.count))

    pub hosted : IsHosted common r host
    hosted = h.hosted r host honest.below honest.correct found

    pub shown : IsShown (role_of common r) host
    shown = shown_in nodes hosted.secret host (role_of common r) (good_run laws hosted.secret hosted.steps host hosted.run) hosted.role h.valid hosted.fed

    arrivals_are : arrivals_of host ≡ arrivals_in run r
    arrivals_are =
        sym (get_or_from_slice_get (map arrivals_of hosts) r (arrivals_of host) [] (slice_get-map arrivals_of hosts r ∙ ap (option_map arrivals_of) found))

    batches_are : host.batches ≡ batches_in run r
    batches_are =
        sym (get_or_from_slice_get (map (λ (g : Host). g.batches) hosts) r host.batches []
        (slice_get-map (λ (g : Host). g.batches) hosts r ∙ ap (option_map (λ (g : Host). g.batches)) found))

    pub journal_is : host.journal ≡ journal_in run r
    journal_is =
        let f : Host → Journal = λ g. record { entries = g.journal } in
        sym (ap (λ (o : Option Journal). option_map_or (λ (j : Journal). j.entries) o []) (slice_get-map f hosts r ∙ ap (option_map f) found))

    commit_is : host.head.commit ≡ commit_in run r
    commit_is =
        sym (ap (λ (o : Option Head). option_map_or (λ (d : Head). d.commit) o 0)
        (slice_get-map (λ (g : Host). g.head) hosts r ∙ ap (option_map (λ (g : Host). g.head)) found))

    obeys : Obeys (fits_of_all common) run r
    obeys = record {
      journal = subst (λ (j : List Entry). IsLawful (scale_of (fits_of_all common) run r) j) journal_is
          (subst (λ (list : List Tx). IsLawful (record { fits = fits_of_all common; setting = common.setting; replica = r; arrivals = list }) host.journal)
          arrivals_are shown.journal);
      head = sym commit_is ∙ shown.head ∙ ap (commit_view_of common.setting) journal_is;
      list = sym batches_are ∙ shown.batches ∙ ap (finals_of common.setting) journal_is;
    }

  pub is_lawful : IsLawfulRun (fits_of_all common) run
  is_lawful = record {
    valid = h.valid;
    few_faulty = h.few_faulty;
    distinct = λ r honest. subst (λ (list : List Tx). AreDistinct list) (arrivals_are r honest) (hosted r honest).fed.distinct;
    fit = λ r honest. subst (λ (list : List Tx). All FitsTx list) (arrivals_are r honest) (shown r honest).fit;
    reported = λ r honest. subst (λ (j : List Entry). All (λ e. IsReadable e.event) j) (journal_is r honest) (shown r honest).readable;
    obeys = obeys;
  }

  pub is_sound : (¬ IsForged (fits_of_all common) run) → (¬ IsCollided run) → IsSound (fits_of_all common) run
  is_sound unforged uncollided = record { lawful = is_lawful; unforged = unforged; uncollided = uncollided }
