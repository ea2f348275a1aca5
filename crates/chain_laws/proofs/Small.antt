-- The example's two blocks meet the rules.
use Rattle.std.proofs.Common.{◌≡◌, zero, suc, List, [], ◌∷◌, true, refl, sym, subst, arith}
use Rattle.std.specs.Prelude.{All}
use Rattle.std.proofs.lemmas.Bool.{false≢true}
use Rattle.std.proofs.lemmas.List.Elements.{All-from_recursion}
use Rattle.std.proofs.lemmas.Option.{none-some, same_Some}
use Rattle.seq_base.specs.declared.tx.Tx.{Tx}
use Rattle.seq_base.specs.declared.order.SealedOrder.{SealedOrder}
use Rattle.seq_base.specs.Limits.{IsShort}
use Rattle.seq_base.specs.Lists.{listed}
use Rattle.seq_base.specs.Setting.{threshold_of, solid_of}
use Rattle.count_set.specs.Sets.{AreReplicas}
use Rattle.majority_graph.specs.Examples.{third, five}
use Rattle.batch_laws.proofs.WalkJoins.{walk_edge}
use Rattle.fair_laws.specs.Kept.{IsSolid, IsCandidate, IsKept, LeadsOn, GiveEdge}
use Rattle.chain_state.specs.Standings.{fits}
use Rattle.chain_laws.specs.Examples.{is_last}
use Rattle.chain_laws.specs.Blocks.{Chain, fresh_in, standing_of}
use Rattle.chain_laws.specs.SmallChain.{arrived, one, two, both}
use Rattle.chain_laws.specs.Keeping.{IsHonestOver, IsBlockOver, AreBlocks}

abbrev IsFit : Chain → List SealedOrder → Type 0
IsFit chain orders = All (λ sealed. fits (standing_of five chain) sealed.order ≡ true) orders

abbrev AreHonest : Chain → List SealedOrder → Type 0
AreHonest chain orders = All (λ sealed. IsHonestOver five is_last arrived chain sealed.order) orders

short_one : All (λ sealed. IsShort sealed.order) one
short_one =
    All-from_recursion (λ (sealed : SealedOrder). IsShort sealed.order) one (
      record { fresh = (omega arith); late = (omega arith) },
      (
        record { fresh = (omega arith); late = (omega arith) },
        (record { fresh = (omega arith); late = (omega arith) }, (record { fresh = (omega arith); late = (omega arith) }, tt)),
      ),
    )

short_two : All (λ sealed. IsShort sealed.order) two
short_two =
    All-from_recursion (λ (sealed : SealedOrder). IsShort sealed.order) two (
      record { fresh = (omega arith); late = (omega arith) },
      (
        record { fresh = (omega arith); late = (omega arith) },
        (record { fresh = (omega arith); late = (omega arith) }, (record { fresh = (omega arith); late = (omega arith) }, tt)),
      ),
    )

fit_one : IsFit [] one
fit_one = All-from_recursion (λ (sealed : SealedOrder). fits (standing_of five []) sealed.order ≡ true) one (refl, (refl, (refl, (refl, tt))))

fit_two : IsFit (one ∷ []) two
fit_two = All-from_recursion (λ (sealed : SealedOrder). fits (standing_of five (one ∷ [])) sealed.order ≡ true) two (refl, (refl, (refl, (refl, tt))))

honest_one : AreHonest [] one
honest_one = All-from_recursion (λ (sealed : SealedOrder). IsHonestOver five is_last arrived [] sealed.order) one (
  (λ honest. record { known = 3; is = refl }),
  ((λ honest. record { known = 1; is = refl }), ((λ honest. record { known = 1; is = refl }), ((λ honest. absurd (false≢true (sym honest))), tt))),
)

honest_two : AreHonest (one ∷ []) two
honest_two = All-from_recursion (λ (sealed : SealedOrder). IsHonestOver five is_last arrived (one ∷ []) sealed.order) two (
  (λ honest. record { known = 3; is = refl }),
  ((λ honest. record { known = 3; is = refl }), ((λ honest. record { known = 3; is = refl }), ((λ honest. absurd (false≢true (sym honest))), tt))),
)

module _ (replicas : AreReplicas 5 (0 ∷ 1 ∷ 2 ∷ 4 ∷ [])) where
  block_one : IsBlockOver five is_last arrived [] one
  block_one = record { quorum = refl; replicas = replicas; short = short_one; fit = fit_one; honest = honest_one }

  block_two : IsBlockOver five is_last arrived (one ∷ []) two
  block_two = record { quorum = refl; replicas = replicas; short = short_two; fit = fit_two; honest = honest_two }

  pub both_are_blocks : AreBlocks five is_last arrived both
  both_are_blocks zero orders found = subst (λ (x : List SealedOrder). IsBlockOver five is_last arrived [] x) (same_Some one orders found) block_one
  both_are_blocks (suc zero) orders found =
      subst (λ (x : List SealedOrder). IsBlockOver five is_last arrived (one ∷ []) x) (same_Some two orders found) block_two
  both_are_blocks (suc (suc k)) orders found = absurd (none-some orders found)

-- both lead to the third, which is solid
threshold : threshold_of five ≡ 2
threshold = refl

solid_count : solid_of five ≡ 3
solid_count = refl

third_count : listed (fresh_in one) third ≡ 4
third_count = refl

pub kept_by_one : (t : Tx) → listed (fresh_in one) t ≡ 2 → GiveEdge five (fresh_in one) t third → IsKept five (fresh_in one) t
kept_by_one t count edge =
    let candidate : IsCandidate five (fresh_in one) t = omega (arith, threshold, count) in
    let solid : IsSolid five (fresh_in one) third = omega (arith, solid_count, third_count) in
    let end : IsCandidate five (fresh_in one) third = omega (arith, threshold, third_count) in
    let step : LeadsOn five (fresh_in one) t third = record { «from» = candidate; to = end; edge = edge } in
    record { candidate = candidate; leads = (third, solid, walk_edge (LeadsOn five (fresh_in one)) t third step) }
