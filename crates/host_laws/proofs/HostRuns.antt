-- Every host of a run stands as `HostStands` says.
use Rattle.std.proofs.Common.{◌≡◌, ◌≤◌, ◌⊎◌, ℕ, List, [], ◌∷◌, ◌++◌, length, take, slice_get, refl, sym, ap, subst, ◌∙◌, arith, inl, inr}
use Rattle.std.specs.Prelude.{Contains}
use Rattle.std.specs.List.{flat_map}
use Rattle.std.proofs.lemmas.List.Elements.{All-contains}
use Rattle.std.proofs.lemmas.Option.{same_Some}
use Rattle.journal_rules.specs.Sealed.{sealed_in}
use Rattle.host_laws.specs.Below.{LogLaws}
use Rattle.host_laws.specs.Roles.{Role, Secret, header_for}
use Rattle.host_laws.specs.Hosts.{File, Found, Written, Closed, Running, Host, Signed, events_in, log_of, new_host}
use Rattle.host_laws.specs.Steps.{Appends, Deed, Opening, Truncating, Appending, Syncing, Preparing, Acting, TakingOut, Receiving, Refused, Stopping, Does, IsHostRun, Lead, Stops, Syncs, Truncates}
use Rattle.host_laws.proofs.Calls.{prepared, received, running_is, still, taken_out}
use Rattle.host_laws.proofs.HostLogs.{whole_log}
use Rattle.host_laws.proofs.HostStands.{FileIs, IsGood, IsRunning, Stands}
use Rattle.host_laws.proofs.Opening.{opened}
use Rattle.host_laws.proofs.SignedLeaves.{IsAtLeaf}
use Rattle.host_laws.proofs.Turning.{turned}
use Rattle.host_laws.proofs.Writing.{appended, stopped, synced, truncated}
use Rattle.node_core.specs.declared.entry.Entry.{Entry}
use Rattle.durable_node.specs.Incarnations.{IsPrefixOf}
use Rattle.replica_box.specs.Hosting.{record_for}
use Rattle.replica_box.specs.Seats.{Seat}

-- a host that was never opened is not open
pub not_open : (old : Host) (seat : Seat) (file : File) → old ≡ new_host → old.phase ≡ Running seat file → ⊥
not_open old seat file is was = let clash : Closed [] ≡ Running seat file = subst (λ (h : Host). h.phase ≡ Running seat file) is was in cc

module _ (laws : LogLaws) (secret : Secret) where
  with_file : (role : Role) (seat : Seat) (file next : File) (journal : List Entry) → IsRunning secret role seat file journal
      → FileIs secret role seat journal next → IsRunning secret role seat next journal
  with_file role seat file next journal r is = record { header = r.header; fits = r.fits; gives = r.gives; line = r.line; file_is = is }

  truncates : (old new : Host) → Stands secret old → Truncates old new → Stands secret new
  truncates old new s t =
      let file : File = Found t.log t.used in
      let next : File = Written (take t.used t.log) t.used in
      let r = running_is secret s.role old.phase t.seat file old.journal t.was s.phase in
      subst (λ (h : Host). Stands secret h) (sym t.is)
      (still secret old t.seat next s (with_file s.role t.seat file next old.journal r
      (truncated laws secret s.role t.seat old.journal t.log t.used r.file_is)))

  appends : (old new : Host) → Stands secret old → Appends old new → Stands secret new
  appends old new s a =
      let file : File = Written a.bytes a.durable in
      let next : File = Written a.more a.durable in
      let r = running_is secret s.role old.phase a.seat file old.journal a.was s.phase in
      subst (λ (h : Host). Stands secret h) (sym a.is)
      (still secret old a.seat next s
      (with_file s.role a.seat file next old.journal r
      (appended laws secret s.role a.seat old.journal a.bytes a.more a.durable r.file_is a.grown
      (subst (λ (bytes : List ℕ). IsPrefixOf a.more bytes)
      (whole_log laws.records (header_for s.role) (events_in old.journal) a.seat.ready a.seat.digest r.line)
      (subst (λ (h : List ℕ). IsPrefixOf a.more (log_of h (events_in old.journal) ++ flat_map record_for a.seat.ready)) r.header a.within))
      (subst (λ (h : List ℕ). (length a.more ≤ length h) ⊎ (length h ≤ a.durable)) r.header a.header_first))))

  syncs : (old new : Host) → Stands secret old → Syncs old new → Stands secret new
  syncs old new s a =
      let file : File = Written a.bytes a.durable in
      let next : File = Written a.bytes a.more in
      let r = running_is secret s.role old.phase a.seat file old.journal a.was s.phase in
      subst (λ (h : Host). Stands secret h) (sym a.is)
      (still secret old a.seat next s (with_file s.role a.seat file next old.journal r
      (synced laws secret s.role a.seat old.journal a.bytes a.durable a.more r.file_is a.grown a.within)))

  stops : (old new : Host) → Stands secret old → Stops old new → Stands secret new
  stops old new s t =
      let r = running_is secret s.role old.phase t.seat t.file old.journal t.was s.phase in
      subst (λ (h : Host). Stands secret h) (sym t.is)
      (record {
        role = s.role;
        role_is = s.role_is;
        is_of = s.is_of;
        seals = s.seals;
        phase = stopped laws secret s.role t.seat old.journal t.file t.left r.file_is t.leaves;
      })

  pub good_step : (deed : Deed) (old new : Host) → IsGood secret old → Does secret deed old new → IsGood secret new
  good_step (Opening role) old new good d = inr (opened laws secret role old new good d)
  good_step Truncating old new (inl is) d = absurd (not_open old d.seat (Found d.log d.used) is d.was)
  good_step Truncating old new (inr s) d = inr (truncates old new s d)
  good_step Appending old new (inl is) d = absurd (not_open old d.seat (Written d.bytes d.durable) is d.was)
  good_step Appending old new (inr s) d = inr (appends old new s d)
  good_step Syncing old new (inl is) d = absurd (not_open old d.seat (Written d.bytes d.durable) is d.was)
  good_step Syncing old new (inr s) d = inr (syncs old new s d)
  good_step (Preparing event) old new (inl is) d = absurd (not_open old d.seat d.file is d.was)
  good_step (Preparing event) old new (inr s) d = inr (prepared laws secret event old new s d)
  good_step (Acting first reason) old new (inl is) d = absurd (not_open old d.0.seat d.0.file is d.0.was)
  good_step (Acting first reason) old new (inr s) d = inr (turned laws secret old s first reason new d.0 d.1)
  good_step TakingOut old new (inl is) d = absurd (not_open old d.seat d.file is d.was)
  good_step TakingOut old new (inr s) d = inr (taken_out laws secret old new s d)
  good_step Receiving old new (inl is) d = absurd (not_open old d.seat d.file is d.was)
  good_step Receiving old new (inr s) d = inr (received secret old new s d)
  good_step Refused old new good d = subst (λ (h : Host). IsGood secret h) (sym d) good
  good_step Stopping old new (inl is) d = absurd (not_open old d.seat d.file is d.was)
  good_step Stopping old new (inr s) d = inr (stops old new s d)

  pub good_later : (old : Host) (steps : List (Deed × Host)) (last : Host) → IsGood secret old → Lead secret old steps last → IsGood secret last
  good_later old [] last good is = subst (λ (h : Host). IsGood secret h) (sym is) good
  good_later old (step ∷ steps) last good lead = good_later step.1 steps last (good_step step.0 old step.1 good lead.0) lead.1

  pub good_run : (steps : List (Deed × Host)) (host : Host) → IsHostRun secret steps host → IsGood secret host
  good_run steps host run = good_later new_host steps host (inl refl) run

  -- ---- no leaf seals two statements

  at_leaf : (host : Host) (s : Signed) → IsGood secret host → Contains host.seals s → IsAtLeaf (sealed_in host.journal) s
  at_leaf host s (inl is) inside = absurd (none_in (subst (λ (h : Host). Contains h.seals s) is inside))
    where
      none_in : Contains [] s → ⊥
      none_in (k, inside, at) = absurd (omega (arith, inside))
  at_leaf host s (inr stands) inside = All-contains (IsAtLeaf (sealed_in host.journal)) host.seals s stands.seals inside

  pub one_statement : (steps : List (Deed × Host)) (host : Host) (a b : Signed) → IsHostRun secret steps host → Contains host.seals a → Contains host.seals b
      → a.leaf ≡ b.leaf → a.statement ≡ b.statement
  one_statement steps host a b run one other same =
      let good = good_run steps host run in
      same_Some a.statement b.statement
      (sym (at_leaf host a good one) ∙ ap (slice_get (sealed_in host.journal)) same ∙ at_leaf host b good other)
