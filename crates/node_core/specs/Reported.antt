-- The output of a turn: what is sealed and sent.
use Rattle.std.specs.Prelude.{◌≡◌, ℕ, ◌+◌, List, [], ◌∷◌, ◌++◌, map, Bool, true, false, nat_eq, Option, Some, None, if◌then◌else◌}
use Rattle.std.specs.List.{range_with_len}
use Rattle.seq_base.specs.declared.kinds.TheConstants.{VERSION}
use Rattle.seq_base.specs.declared.digest.Digest.{Digest}
use Rattle.seq_base.specs.declared.message.Outgoing.{Outgoing}
use Rattle.seq_base.specs.declared.message.Message.TheVariants.{Fetch}
use Rattle.seq_base.specs.Spelling.{message_spelling, seal_spelling}
use Rattle.node_core.specs.declared.event.Reason.{Reason}
use Rattle.node_core.specs.declared.event.Reason.TheVariants.{Done, Orphan}
use Rattle.node_core.specs.declared.turned.Turned.{Turned}
use Rattle.node_core.specs.declared.sending.Receivers.{Receivers}
use Rattle.node_core.specs.declared.sending.Receivers.TheVariants.{One, Each}
use Rattle.node_core.specs.State.{Known, State, kept_of}

-- the seal that a replica's sealer gives under a number for bytes
abbrev pub Gives : Type 0
Gives = ℕ → List ℕ → List ℕ

-- the output of a turn, and the state after it
pub record Outcome : Type 0 where
  pub reported : Turned
  pub state : State

abbrev pub reported : State → Reason → List (List ℕ) → List Outgoing → Turned
reported s reason sealed sends = record { reason = reason; kept = kept_of s.known; sealed = sealed; sends = sends }

-- nothing is sealed, and nothing sent
abbrev pub quiet : State → Reason → Outcome
quiet s reason = record { reported = reported s reason [] []; state = s }

-- the same bytes to each of these replicas
abbrev pub to_each : List ℕ → List ℕ → List Outgoing
to_each receivers bytes = map (λ to. record { to = to; bytes = bytes }) receivers

-- replicas 0 to n-1
abbrev pub everyone : Known → List ℕ
everyone s = range_with_len 0 s.setting.n

abbrev pub replicas_of : Receivers → List ℕ
replicas_of (One to) = to ∷ []
replicas_of (Each count) = range_with_len 0 count

-- a statement with its seal, after the version
abbrev pub sealed_bytes : List ℕ → List ℕ → List ℕ
sealed_bytes statement seal = VERSION ∷ statement ++ seal_spelling seal

-- the sealer is spent
abbrev pub is_spent : State → Bool
is_spent s = nat_eq s.made s.capacity

-- one more seal was made
abbrev pub one_more_made : State → State
one_more_made s = record { known = s.known; made = s.made + 1; capacity = s.capacity }

-- the result of a call for a seal, and the state after it
abbrev pub IsSealed : Gives → State → List ℕ → Option (List ℕ) → State → Type 0
IsSealed gives s statement None after = (is_spent s ≡ true) × (after ≡ s)
IsSealed gives s statement (Some seal) after = (is_spent s ≡ false) × (seal ≡ gives s.made statement) × (after ≡ one_more_made s)

-- A statement is sealed and sent. If the sealer is spent, it is left out.
abbrev pub sealed_to : Gives → State → List ℕ → List ℕ → Outcome
sealed_to gives s statement receivers =
    if is_spent s then quiet s Done
    else record {
      reported = reported s Done (statement ∷ []) (to_each receivers (sealed_bytes statement (gives s.made statement)));
      state = one_more_made s;
    }

-- the replica is asked for a block
abbrev pub fetched_from : ℕ → Digest → State → Outcome
fetched_from from block s = record { reported = reported s Orphan [] (to_each (from ∷ []) (message_spelling (Fetch block))); state = s }
