-- Replicas whose hosts keep their promises, and the record of their run.
use Rattle.std.specs.Prelude.{◌≡◌, ◌<◌, ◌≤◌, ◌^◌, ℕ, List, length, map, false, Some, IfSome, slice_get, All}
use Rattle.std.specs.List.{flat_map}
use Rattle.seq_base.specs.declared.tx.Tx.{Tx}
use Rattle.seq_base.specs.Lists.{AreDistinct}
use Rattle.seq_base.specs.Setting.{IsValid, Parameters}
use Rattle.hss_seal.specs.Any.{any_publics_fit}
use Rattle.seal_kit.specs.declared.height.Height.{Height}
use Rattle.count_set.specs.Sets.{is_among, size_of}
use Rattle.node_core.specs.Rows.{Check}
use Rattle.run_record.specs.declared.record.RunRecord.{RunRecord}
use Rattle.run_verdict.specs.Shown.{IsCollided, IsForged, IsHonest}
use Rattle.journal_rules.specs.JournalPrefixes.{arrived_by}
use Rattle.journal_rules.specs.Rules.{Scale}
use Rattle.lifetime_laws.specs.Joined.{IsFromReplica}
use Rattle.host_laws.specs.Roles.{Role, Secret, fits_for}
use Rattle.host_laws.specs.Hosts.{Host, events_in}
use Rattle.host_laws.specs.Steps.{Deed, IsHostRun, Lead}

-- the transactions that arrived, in their order
abbrev pub arrivals_of : Host → List Tx
arrivals_of host = flat_map arrived_by (events_in host.journal)

-- What a host passes on comes from one of n replicas, and the transactions differ and are fewer than 2^32.
pub record IsFed (n : ℕ) (host : Host) : Type 0 where
  pub from : All (IsFromReplica n) (events_in host.journal)
  pub distinct : AreDistinct (arrivals_of host)
  pub few : length (arrivals_of host) < 2 ^ 32

-- what the journal of a replica in this role is checked against
abbrev pub scale_for : Role → Host → Scale
scale_for role host = record { fits = fits_for role; setting = role.setting; replica = role.me; arrivals = arrivals_of host }

-- what all replicas of a run have in common
pub record Common : Type 0 where
  pub setting : Parameters
  pub views : ℕ
  pub height : Height
  pub publics : List (List ℕ)

abbrev pub fits_of_all : Common → Check
fits_of_all common = any_publics_fit common.height common.publics

abbrev pub role_of : Common → ℕ → Role
role_of common r = record { setting = common.setting; views = common.views; me = r; height = common.height; publics = common.publics }

-- The host of a replica, after some steps of its run: it opened the replica in this role, or never.
pub record IsHosted (common : Common) (r : ℕ) (host : Host) : Type 0 where
  pub secret : Secret
  pub steps : List (Deed × Host)
  pub run : IsHostRun secret steps host
  pub role : IfSome host.role (λ role. role ≡ role_of common r)
  pub fed : IsFed common.setting.n host

-- One host for each replica. At most f replicas are faulty: of their hosts nothing is known.
pub record AreHosted (common : Common) (faulty : List ℕ) (hosts : List Host) : Type 0 where
  pub valid : IsValid common.setting
  pub count : length hosts ≡ common.setting.n
  pub few_faulty : size_of common.setting.n (is_among faulty) ≤ common.setting.f
  pub hosted : (r : ℕ) (host : Host) → r < common.setting.n → is_among faulty r ≡ false → slice_get hosts r ≡ Some host → IsHosted common r host

-- The record of their run: what arrived at each replica, its turns, its views and the batches that it gave last. No law asks
-- for the numbers of turns and ticks.
abbrev pub hosted_run : Parameters → List ℕ → List Host → RunRecord
hosted_run s faulty hosts = record {
  setting = s;
  faulty = faulty;
  arrivals = map arrivals_of hosts;
  journals = map (λ h. record { entries = h.journal }) hosts;
  heads = map (λ h. h.head) hosts;
  batches = map (λ h. h.batches) hosts;
  turns = 0;
  ticks = 0;
}

-- They are hosted so, and the record of their run shows no forged seal and no two blocks with the same digest.
pub record AreSoundlyHosted (common : Common) (faulty : List ℕ) (hosts : List Host) : Type 0 where
  pub hosted : AreHosted common faulty hosts
  pub unforged : ¬ IsForged (fits_of_all common) (hosted_run common.setting faulty hosts)
  pub uncollided : ¬ IsCollided (hosted_run common.setting faulty hosts)

-- The host of an honest replica, and what it was at an earlier moment of its run.
pub record AreMoments (common : Common) (faulty : List ℕ) (hosts : List Host) (earlier later : Host) : Type 0 where
  pub replica : ℕ
  pub honest : IsHonest (hosted_run common.setting faulty hosts) replica
  pub is : slice_get hosts replica ≡ Some later
  pub secret : Secret
  pub before : List (Deed × Host)
  pub after : List (Deed × Host)
  pub run : IsHostRun secret before earlier
  pub lead : Lead secret earlier after later
