-- Fairness of one session, up to its marker, for what replicas received first over the sessions.
use Rattle.std.proofs.Common.{◌≡◌, ◌≢◌, ℕ, ◌+◌, ◌*◌, ◌<◌, ◌≤◌, List, [], ◌++◌, length, Bool, true, false, not, sym, ap, subst, ◌∙◌, arith}
use Rattle.std.specs.Prelude.{◌⊎◌}
use Rattle.std.proofs.lemmas.Bool.{and_parts, and_from, not-true}
use Rattle.std.proofs.lemmas.List.{get_or_append_left}
use Rattle.std.proofs.Math.Nat.{mul-le-mul_left}
use Rattle.seq_base.specs.declared.tx.Tx.{Tx}
use Rattle.seq_base.specs.Lists.{holds}
use Rattle.seq_base.specs.Setting.{Parameters, IsValid}
use Rattle.count_set.specs.Sets.{size_of}
use Rattle.batch_laws.specs.Batches.{StandsIn}
use Rattle.batch_laws.specs.Pairs.{StandsUpTo}
use Rattle.fair_laws.proofs.OwedEdges.{ranks_without_earlier}
use Rattle.majority_graph.specs.Weights.{ranks_above}
use Rattle.chain_laws.specs.Received.{Arrivals, Received, followed, is_before, honest_before}
use Rattle.chain_laws.specs.Blocks.{Chain, final_list}
use Rattle.chain_laws.specs.Keeping.{AreBlocks}
use Rattle.chain_laws.specs.Proposed.{IsProposedAt, IsSolidAt}
use Rattle.chain_laws.specs.FinalClaims.{IsFairAt, WhereFirstOver}
use Rattle.chain_laws.proofs.JointPositions.{within_list}
use Rattle.chain_laws.proofs.Members.{size_within}
use Rattle.session_rules.specs.Cuts.{cut_at}
use Rattle.session_laws.proofs.CutLists.{cut_begins}

-- ---- places in the cut

pub stands_longer : (batches more : List (List Tx)) (i : ℕ) (t : Tx) → StandsIn batches i t → StandsIn (batches ++ more) i t
stands_longer batches more i t stands = ap (holds t) (get_or_append_left batches more [] i (within_list batches i t stands)) ∙ stands

pub stands_shorter : (batches more : List (List Tx)) (i : ℕ) (t : Tx) → i < length batches → StandsIn (batches ++ more) i t → StandsIn batches i t
stands_shorter batches more i t inside stands = sym (ap (holds t) (get_or_append_left batches more [] i inside)) ∙ stands

-- what holds up to a batch of the cut holds of the cut
up_to_cut : (m : Tx) (batches : List (List Tx)) (j : ℕ) (a b : Tx) → StandsIn (cut_at m batches) j b
    → (StandsIn batches j b → StandsUpTo batches j a) → StandsUpTo (cut_at m batches) j a
up_to_cut m batches j a b stands fair =
    let cut : List (List Tx) = cut_at m batches in
    let (rest, is) = cut_begins m batches in
    let inside : j < length cut = within_list cut j b stands in
    let whole : StandsIn batches j b = subst (λ (list : List (List Tx)). StandsIn list j b) (sym is) (stands_longer cut rest j b stands) in
    let (i, found, order) = fair whole in (
      i,
      stands_shorter cut rest i a (omega (arith, inside, order)) (subst (λ (list : List (List Tx)). StandsIn list i a) is found),
      order,
    )

-- ---- who received a first

pub ranks_from_before : (a b : Tx) (list : List Tx) → a ≢ b → is_before list a b ≡ true → ranks_above a b list ≡ true
ranks_from_before a b list apart before = ranks_without_earlier b a list (λ same. apart (sym same)) ∙ before

pub before_from_ranks : (a b : Tx) (list : List Tx) → a ≢ b → ranks_above a b list ≡ true → is_before list a b ≡ true
before_from_ranks a b list apart ranks = sym (ranks_without_earlier b a list (λ same. apart (sym same))) ∙ ranks

-- where each honest replica that has a before b in one list has it so in the other
module _ (s : Parameters) (faulty : ℕ → Bool) (all some : Arrivals) (a b : Tx)
    (carries : (r : ℕ) → r < s.n → faulty r ≡ false → is_before (all r) a b ≡ true → is_before (some r) a b ≡ true) where
  still_before : (r : ℕ) → r < s.n → honest_before faulty all a b r ≡ true → honest_before faulty some a b r ≡ true
  still_before r below before =
      let parts = and_parts (not (faulty r)) (is_before (all r) a b) before in
      and_from (not (faulty r)) (is_before (some r) a b) parts.0 (carries r below (not-true (faulty r) parts.0) parts.1)

  received_there : Received s faulty all a b → Received s faulty some a b
  received_there received =
      let was : ℕ = size_of s.n (honest_before faulty all a b) in
      let is : ℕ = size_of s.n (honest_before faulty some a b) in
      let more : was ≤ is = size_within s.n (honest_before faulty all a b) (honest_before faulty some a b) still_before in
      let grown : s.q * (was + size_of s.n faulty) ≤ s.q * (is + size_of s.n faulty) = mul-le-mul_left s.q (omega (arith, more)) in
      record { enough = omega (arith, received.enough, grown) }

-- the laws of one chain
abbrev pub FinalListsAreFair : Type 0
FinalListsAreFair = (s : Parameters) (faulty : ℕ → Bool) (arrivals : Arrivals) (chain : Chain) (number j : ℕ) (a b : Tx)
    → WhereFirstOver s faulty arrivals chain a b (IsFairAt s chain number j a b)

abbrev pub BlocksStayBlocks : Type 0
BlocksStayBlocks = (s : Parameters) (faulty : ℕ → Bool) (arrivals more : Arrivals) (chain : Chain) → AreBlocks s faulty arrivals chain
    → AreBlocks s faulty (followed arrivals more) chain

-- Each honest replica that received a before b over the sessions still has a before b if this list follows what arrived in
-- the session. Then the cut is fair.
pub cut_is_fair : FinalListsAreFair → BlocksStayBlocks → (s : Parameters) (faulty : ℕ → Bool) (arrivals all : Arrivals) (chain : Chain) (m : Tx)
    (number j : ℕ) (a b : Tx) → IsValid s → size_of s.n faulty ≤ s.f → AreBlocks s faulty arrivals chain → Received s faulty all a b
    → ((r : ℕ) → r < s.n → faulty r ≡ false → is_before (all r) a b ≡ true → is_before (followed arrivals all r) a b ≡ true)
    → StandsIn (cut_at m (final_list s chain)) j b → IsProposedAt s chain number b
    → IsSolidAt s chain number b ⊎ IsProposedAt s chain number a → StandsUpTo (cut_at m (final_list s chain)) j a
cut_is_fair fair longer s faulty arrivals all chain m number j a b valid few blocks received carries stands proposed owed =
    up_to_cut m (final_list s chain) j a b stands (λ whole.
    fair s faulty (followed arrivals all) chain number j a b valid few (longer s faulty arrivals all chain blocks)
    (received_there s faulty all (followed arrivals all) a b carries received) whole proposed owed)
