-- View 1, before its block is proposed: the states of the replicas, and the messages in transit.
use Rattle.std.proofs.Common.{◌≡◌, ℕ, ◌≤◌, List, [], true, Ok, refl, ap, arith}
use Rattle.seq_base.specs.declared.block.Cert.{Cert}
use Rattle.seq_base.specs.declared.order.SealedOrder.{SealedOrder}
use Rattle.seq_base.specs.Blocks.{first_cert}
use Rattle.seq_base.specs.Setting.{Parameters, leader_of}
use Rattle.seq_base.specs.Spelling.{call_spelling}
use Rattle.seq_base.specs.Writable.{IsWritableCert}
use Rattle.wire_view.specs.Views.{Call}
use Rattle.wire_view.specs.Messages.{read_of}
use Rattle.wire_view.specs.declared.messages.MessageView.{MessageView}
use Rattle.wire_view.specs.declared.messages.MessageView.TheVariants as messages
use Rattle.node_core.specs.State.{State}
use Rattle.replica_seat.specs.declared.seat.Envelope.{Envelope}
use Rattle.run_verdict.specs.Parts.{Part, part}
use Rattle.progress_laws.proofs.Chains.{IsChain}
use Rattle.progress_laws.proofs.StateSummary.{Rest, standing, state_at, higher}
use Rattle.progress_laws.proofs.CallSteps.{IsCall}
use Rattle.progress_laws.proofs.Messages.{IsGoodOrder}
use Rattle.progress_laws.proofs.Phases.{Course}
use Rattle.progress_laws.proofs.Underway.{Sealed}

-- the chain before the first block
pub no_chain : IsChain []
no_chain = record {
  views = λ k b found. absurd (cc);
  certs = λ k b found. absurd (cc);
  parents = λ k b found. absurd (cc);
  above = λ k b found. absurd (cc);
  apart = λ j k a b at_j at_k same. absurd (cc);
}

pub from_one : 1 ≤ 1
from_one = omega arith

pub higher_first : (high : Cert) → high ≡ first_cert → higher high first_cert ≡ first_cert
higher_first high is = ap (λ (c : Cert). higher c first_cert) is

pub first_written : IsWritableCert first_cert
first_written = record { view = omega arith; block = refl; few = omega arith; ascending = tt; each = tt }

module _ (course : Course) where
  abbrev s : Parameters
  s = course.plan.setting

  abbrev L : ℕ
  L = leader_of s 1

  abbrev Seal : Part → Type 0
  Seal = Sealed course

  abbrev at : ℕ → Rest → ℕ → ℕ → State
  at i rest made capacity = state_at (standing s course.plan.views i (course.lists i) [] 1 rest) made capacity

  -- ---- the states of the replicas in view 1

  pub record Opens (ordered asked proposed most : ℕ) (i : ℕ) (st : State) : Type 0 where
    pub rest : Rest
    pub made : ℕ
    pub capacity : ℕ
    pub is : st ≡ at i rest made capacity
    pub high : rest.high ≡ first_cert
    pub ordered_is : rest.ordered ≡ ordered
    pub voted : rest.voted ≡ 0
    pub asked_low : rest.asked ≤ asked
    pub proposed_is : rest.proposed ≡ proposed
    pub boxes : rest.boxes ≡ []
    pub few_made : made ≤ most
    pub room : 20 ≤ capacity

  -- the state after the leader has asked
  pub record Asked (ordered proposed most : ℕ) (i : ℕ) (st : State) : Type 0 where
    pub opens : Opens ordered 1 proposed most i st
    pub lead : i ≡ L → (opens.rest.asked ≡ 1) × (opens.rest.ask_cert ≡ first_cert) × (opens.rest.orders ≡ [])

  -- all have called, and the leader has received no call yet
  pub record Called (i : ℕ) (st : State) : Type 0 where
    pub opens : Opens 0 0 0 1 i st
    pub none : opens.rest.gathered ≡ []

  -- ---- messages

  -- a call of one kind, from a replica to another
  pub record IsCallOf (kind : ℕ) (make : Call → MessageView) (by to : ℕ) (e : Envelope) : Type 0 where
    pub from : e.from ≡ by
    pub to_is : e.to ≡ to
    pub seal : List ℕ
    pub read : read_of e.bytes ≡ Ok (make (record { kind = kind; replica = by; view = 1; cert = first_cert; seal = seal }))
    pub seal_fits : course.fits by (call_spelling kind by 1 first_cert) seal ≡ true
    pub was_sealed : Seal (part by (call_spelling kind by 1 first_cert) seal)

  abbrev pub Calls : ℕ → Envelope → Type 0
  Calls i e = IsCallOf 1 messages.NewView i L e

  abbrev pub Asks : ℕ → Envelope → Type 0
  Asks i e = IsCallOf 2 messages.Ask L i e

  pub record Orders (i : ℕ) (e : Envelope) : Type 0 where
    pub from : e.from ≡ i
    pub to : e.to ≡ L
    pub sealed : SealedOrder
    pub read : read_of e.bytes ≡ Ok (messages.Order sealed)
    pub own : sealed.order.replica ≡ i
    pub good : IsGoodOrder course.fits s course.lists Seal [] sealed

  pub is_call : (me kind by : ℕ) (seal : List ℕ) → course.fits by (call_spelling kind by 1 first_cert) seal ≡ true
      → IsCall course.fits (course.gives me) s course.plan.views me (course.lists me) [] no_chain kind by 1
      (record { kind = kind; replica = by; view = 1; cert = first_cert; seal = seal })
  is_call me kind by seal sealed =
      record { kind_is = refl; own = refl; view = refl; below = omega arith; stored = omega arith; block = refl; good = refl; seal_fits = sealed }
