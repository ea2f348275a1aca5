-- The start of a run with keepers.
use Rattle.std.proofs.Common.{◌≡◌, ℕ, suc, ◌+◌, ◌<◌, ◌≤◌, get_or, length, List, [], ◌∷◌, ◌++◌, Option, Some, None, map, refl, ap, sym, subst, ◌∙◌, arith, inl, inr}
use Rattle.std.specs.Prelude.{remove, slice_get}
use Rattle.std.specs.List.{range_with_len}
use Rattle.std.proofs.lemmas.List.{append-nil, length-map}
use Rattle.std.proofs.lemmas.List.FromFn.{length-map-range_with_len}
use Rattle.std.proofs.lemmas.Option.{same_Some, slice_get-map}
use Rattle.fault_script.specs.Sealing.{Signer, signer}
use Rattle.plan_text.specs.declared.plan.Plan.{Plan}
use Rattle.replica_seat.specs.Kits.{kit_of}
use Rattle.replica_seat.specs.Opening.{fresh_replica}
use Rattle.replica_seat.specs.Seats.{Replica, replica_of}
use Rattle.replay_run.specs.Kept.{AreKept, IsKeptBy, Meant, header_at}
use Rattle.replay_run.specs.Play.{start_of}
use Rattle.replay_run.specs.World.{Net, World, world_of}
use Rattle.replay_run.specs.declared.keepers.Keeping.{Keeping}
use Rattle.restart_run.proofs.StartCounts.{once_at_first}
use Rattle.restart_run.proofs.Places.{pushed, range_at}
use Rattle.restart_run.specs.Counts.{starts_before}
use Rattle.restart_run.specs.New.{AreBegun, HadFaults, IsBegun}
use Rattle.restart_run.specs.Started.{AreStarted, Ground, lifetimes_of}
use Rattle.seal_kit.specs.Seals.{capacity_of}

-- ---- what a run begins with

pub start_turns : (plan : Plan) (kit : List Signer) → (start_of plan kit).turns ≡ 0
unfolding start_of
start_turns plan kit = refl

pub start_ticks : (plan : Plan) (kit : List Signer) → (start_of plan kit).ticks ≡ 0
unfolding start_of
start_ticks plan kit = refl

start_replicas : (plan : Plan) (kit : List Signer) → (start_of plan kit).replicas ≡ map (fresh_replica plan) kit
unfolding start_of
start_replicas plan kit = refl

-- ---- what is at a place of a mapped list

pub map_at : {X Y : Type 0} (f : X → Y) (xs : List X) (at : ℕ) (y : Y) → slice_get (map f xs) at ≡ Some y → (x : X) × (slice_get xs at ≡ Some x) × (y ≡ f x)
map_at {X} f xs at y has = of_found (slice_get xs at) refl
  where
    of_found : (found : Option X) → slice_get xs at ≡ found → (x : X) × (slice_get xs at ≡ Some x) × (y ≡ f x)
    of_found None is = (let none : slice_get (map f xs) at ≡ None = rw (slice_get-map, is) refl in absurd (let e = sym none ∙ has in cc))
    of_found (Some x) is = (let some : slice_get (map f xs) at ≡ Some (f x) = rw (slice_get-map, is) refl in (x, is, sym (same_Some (f x) y (sym some ∙ has))))

-- ---- all are kept

module _ {K S : Type 0} (g : Ground K S) where
  begun_one : (least : ℕ → ℕ) (at : ℕ) (k : Keeping K) → IsBegun g.keeps g.plan (least at) at k
      → IsKeptBy g.keeps g.fits g.plan (lifetimes_of g (starts_before g.plan.restarts 0) least) at k
      (fresh_replica g.plan (signer at (capacity_of g.plan.height) (g.gives at) 0))
  begun_one least at k begun = record {
    faults = begun.faults;
    honest = λ h. (
      begun.on h,
      record {
        number = refl;
        gives = refl;
        log = begun.bytes h ∙ sym (append-nil (header_at g.plan at));
        durable_size = begun.durable_size h;
        each = λ i d below. absurd (omega (arith, below));
        state = refl;
        starts = begun.openings h ∙ sym (once_at_first g.plan.restarts at);
      },
      begun.digest h,
    );
  }

  -- the replica at a place of a new kit
  fresh_at : (n at : ℕ) (r : Replica) → slice_get (map (fresh_replica g.plan) (kit_of g.gives (capacity_of g.plan.height) n)) at ≡ Some r
      → r ≡ fresh_replica g.plan (signer at (capacity_of g.plan.height) (g.gives at) 0)
  fresh_at n at r has =
      let capacity = capacity_of g.plan.height in
      let s = map_at (fresh_replica g.plan) (kit_of g.gives capacity n) at r has in
      let i = map_at (λ (x : ℕ). signer x capacity (g.gives x) 0) (range_with_len 0 n) at s.0 s.1 in
      let is : i.0 ≡ at = (let e = range_at 0 n at i.0 i.1 in omega (arith, e)) in
      s.2 ∙ ap (fresh_replica g.plan) (i.2 ∙ ap (λ (x : ℕ). signer x capacity (g.gives x) 0) is)

  pub start_kept : (least : ℕ → ℕ) (keepers : List (Keeping K)) (net : Net S) → AreBegun g.keeps g.plan least keepers
      → world_of g.means net ≡ start_of g.plan (kit_of g.gives (capacity_of g.plan.height) g.plan.setting.n)
      → AreStarted g (starts_before g.plan.restarts 0) least keepers net
  start_kept least keepers net begun started =
      let lifetimes = lifetimes_of g (starts_before g.plan.restarts 0) least in
      let kit = kit_of g.gives (capacity_of g.plan.height) g.plan.setting.n in
      let same : map (replica_of g.means) net.seats ≡ map (fresh_replica g.plan) kit = ap (λ (w : World). w.replicas) started ∙ start_replicas g.plan kit in
      subst (AreKept g.keeps g.fits g.plan lifetimes keepers) (sym same) (record {
        count = begun.count ∙ sym (length-map kit (fresh_replica g.plan)
            ∙ length-map-range_with_len (λ (x : ℕ). signer x (capacity_of g.plan.height) (g.gives x) 0) 0 g.plan.setting.n);
        each = λ at k r has_k has_r. subst (IsKeptBy g.keeps g.fits g.plan lifetimes at k) (sym (fresh_at g.plan.setting.n at r has_r))
            (begun_one least at k (begun.each at k has_k));
      })

-- ---- one keeper more

pub begun_more : {K : Type 0} (m : Meant K) (plan : Plan) (least : ℕ → ℕ) (old new : List (Keeping K)) (k : Keeping K) (n : ℕ)
    → new ≡ old ++ k ∷ [] → length old ≡ n
    → IsBegun m plan (least n) n k → ((at : ℕ) (x : Keeping K) → slice_get old at ≡ Some x → IsBegun m plan (least at) at x)
    → (at : ℕ) (x : Keeping K) → slice_get new at ≡ Some x → IsBegun m plan (least at) at x
begun_more m plan least old new k n is count one each at x has =
    elim (pushed old k x at (ap (λ (ks : List (Keeping _)). slice_get ks at) (sym is) ∙ has)) [
      | inl before ↦ each at x before
      | inr last ↦ subst (λ (p : ℕ). IsBegun m plan (least p) p x) (sym (last.0 ∙ count)) (subst (IsBegun m plan (least n) n) last.1 one)
    ]

-- fewer faults may be asked
pub less_begun : {K : Type 0} (m : Meant K) (plan : Plan) (least base at : ℕ) (k : Keeping K) → least ≤ base → IsBegun m plan base at k
    → IsBegun m plan least at k
less_begun m plan least base at k fewer begun = record {
  faults = (let a = begun.faults in omega arith);
  on = begun.on;
  bytes = begun.bytes;
  digest = begun.digest;
  durable_size = begun.durable_size;
  openings = begun.openings;
}

-- ---- faults of the first keeper, and of those after it

pub first_faults : {K : Type 0} (m : Meant K) (least : ℕ → ℕ) (from : ℕ) (keepers : List K) (d : K) → 0 < length keepers → HadFaults m least from keepers
    → least from ≤ m.faults (get_or keepers 0 d)
first_faults m least from [] d some had = absurd (omega arith)
first_faults m least from (k ∷ ks) d some had = (let same : from + 0 ≡ from = omega arith in subst (λ (p : ℕ). least p ≤ m.faults k) same (had 0 k refl))

pub later_faults : {K : Type 0} (m : Meant K) (least : ℕ → ℕ) (from : ℕ) (keepers left : List K) → left ≡ remove keepers 0 → HadFaults m least from keepers
    → HadFaults m least (from + 1) left
later_faults {K} m least from keepers left is had = subst (HadFaults m least (from + 1)) (sym is) (following keepers had)
  where
    following : (ks : List K) → HadFaults m least from ks → HadFaults m least (from + 1) (remove ks 0)
    following [] had = λ at k here. absurd (cc)
    following (k ∷ ks) had = λ at x here.
        (let same : from + suc at ≡ (from + 1) + at = omega arith in subst (λ (p : ℕ). least p ≤ m.faults x) same (had (suc at) x here))
