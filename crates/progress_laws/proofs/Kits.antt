-- The sealers of a kit: they have made nothing, and if their seals fit, they are those that a clean run needs.
use Rattle.std.proofs.Common.{◌≡◌, ℕ, zero, suc, map, ◌+◌, ◌<◌, ◌≤◌, List, length, true, Some, refl, sym, ap, subst, ◌∙◌, arith}
use Rattle.std.specs.List.{AllByRecursion as Each, range_with_len}
use Rattle.std.proofs.lemmas.List.Elements.{All-from_recursion}
use Rattle.plan_text.specs.declared.plan.Plan.{Plan}
use Rattle.lawful_runs.specs.Lawful.{AreMadeFor}
use Rattle.std.proofs.lemmas.List.{length-map}
use Rattle.std.proofs.lemmas.Option.{slice_get_within, same_Some}
use Rattle.fault_script.specs.Sealing.{Signer, signer}
use Rattle.seal_kit.specs.Seals.{longest_seal}
use Rattle.std.specs.Prelude.{slice_get}
use Rattle.node_core.specs.Reported.{Gives}
use Rattle.node_core.specs.Rows.{Check}
use Rattle.replica_seat.specs.Kits.{kit_of}
use Rattle.progress_laws.specs.Clean.{SealsFit}
use Rattle.std.proofs.lemmas.List.FromFn.{length-range_with_len}
use Rattle.progress_laws.proofs.Items.{got_map}
use Rattle.round_rules.proofs.Places.{range_at}

-- a sealer of the replica: it has made no seal and can make enough, and its seals fit and are short
pub record IsSealerOf (fits : Check) (replica : ℕ) (s : Signer) : Type 0 where
  pub own : s.replica ≡ replica
  pub fresh : s.made ≡ 0
  pub room : 20 ≤ s.capacity
  pub fit : (number : ℕ) (bytes : List ℕ) → fits replica bytes (s.gives number bytes) ≡ true
  pub short : (number : ℕ) (bytes : List ℕ) → length (s.gives number bytes) ≤ longest_seal

-- one for each replica
pub record AreSealers (fits : Check) (n : ℕ) (sealers : List Signer) : Type 0 where
  pub count : length sealers ≡ n
  pub each : (r : ℕ) (s : Signer) → slice_get sealers r ≡ Some s → IsSealerOf fits r s

-- the sealer at a replica's place is the replica's
at_place : (gives : ℕ → Gives) (capacity n r : ℕ) (s : Signer) → slice_get (kit_of gives capacity n) r ≡ Some s → (r < n) × (signer r capacity (gives r) 0 ≡ s)
at_place gives capacity n r s found =
    let (x, at_x, is) = got_map (λ r. signer r capacity (gives r) 0) (range_with_len 0 n) r s found in
    let inside : r < length (range_with_len 0 n) = slice_get_within (range_with_len 0 n) r x at_x in
    let below : r < n = omega (arith, inside, length-range_with_len 0 n) in
    let same : x ≡ r = same_Some x r (sym at_x ∙ range_at 0 n r below ∙ (let zero_is : 0 + r ≡ r = omega arith in ap Some zero_is)) in
    (below, ap (λ (y : ℕ). signer y capacity (gives y) 0) (sym same) ∙ is)

pub are_sealers : (fits : Check) (gives : ℕ → Gives) (capacity n : ℕ) → 20 ≤ capacity → SealsFit fits n gives → AreSealers fits n (kit_of gives capacity n)
are_sealers fits gives capacity n room seals = record {
  count = length-map (range_with_len 0 n) (λ r. signer r capacity (gives r) 0) ∙ length-range_with_len 0 n;
  each = λ r s found.
      let (below, is) = at_place gives capacity n r s found in
      subst (IsSealerOf fits r) is
      (record {
        own = refl;
        fresh = refl;
        room = room;
        fit = λ number bytes. seals.fit r number bytes below;
        short = λ number bytes. seals.short r number bytes below;
      });
}

-- ---- they were made for the plan

made_from : (gives : ℕ → Gives) (capacity from count n : ℕ) → from + count ≡ n
    → (length (map (λ r. signer r capacity (gives r) 0) (range_with_len from count)) ≡ count)
    × Each (λ (s : Signer). s.replica < n) (map (λ r. signer r capacity (gives r) 0) (range_with_len from count))
    × Each (λ (s : Signer). s.made ≡ 0) (map (λ r. signer r capacity (gives r) 0) (range_with_len from count))
made_from gives capacity from zero n ends = (refl, tt, tt)
made_from gives capacity from (suc count) n ends =
    let (counted, below, fresh) = made_from gives capacity (from + 1) count n (omega (arith, ends)) in
    (ap suc counted, (omega (arith, ends), below), (refl, fresh))

pub kit_is_made : (gives : ℕ → Gives) (capacity : ℕ) (plan : Plan) → AreMadeFor plan (kit_of gives capacity plan.setting.n)
kit_is_made gives capacity plan =
    let kit = kit_of gives capacity plan.setting.n in
    let (counted, below, fresh) = made_from gives capacity 0 plan.setting.n plan.setting.n (omega arith) in
    record {
      count = counted;
      below = All-from_recursion (λ (s : Signer). s.replica < plan.setting.n) kit below;
      own = λ at s found. sym (ap (λ (x : Signer). x.replica) (at_place gives capacity plan.setting.n at s found).1);
      fresh = All-from_recursion (λ (s : Signer). s.made ≡ 0) kit fresh;
    }
