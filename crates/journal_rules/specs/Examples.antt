-- Journals of one entry each, from a run of five replicas one of which may be faulty, and the rule that each breaks.
use Rattle.std.specs.Prelude.{◌≢◌, ℕ, List, [], ◌∷◌, true, false, replicate, None}
use Rattle.seq_base.specs.declared.kinds.TheConstants.{NEW_VIEW, ORDER, VOTE}
use Rattle.seq_base.specs.declared.tx.Tx.{Tx}
use Rattle.seq_base.specs.declared.digest.Digest.{Digest}
use Rattle.seq_base.specs.declared.message.Message.{Message}
use Rattle.seq_base.specs.declared.message.Message.TheVariants as messages
use Rattle.seq_base.specs.Setting.{Parameters, parameters}
use Rattle.seq_base.specs.Spelling.{message_spelling}
use Rattle.node_core.specs.declared.event.Event.{Event}
use Rattle.node_core.specs.declared.event.Event.TheVariants.{Arrived, Deliver, Tick}
use Rattle.node_core.specs.declared.event.Reason.{Reason}
use Rattle.node_core.specs.declared.event.Reason.TheVariants.{Done, Repeat}
use Rattle.node_core.specs.declared.entry.Entry.{Entry}
use Rattle.node_core.specs.Rows.{Check}
use Rattle.journal_rules.specs.Rules.{Scale, IsLawful, Keeps}

abbrev pub five : Parameters
five = parameters 5 1 1 1

-- no seal fits; every seal fits
abbrev pub none_fits : Check
none_fits replica bytes seal = false

abbrev pub all_fit : Check
all_fit replica bytes seal = true

abbrev pub tx : Tx
tx = record { client = 1; number = 1; payload = 0 }

abbrev pub entry : Event → Reason → ℕ → List (List ℕ) → Entry
entry event reason kept sealed = record { event = event; turned = record { reason = reason; kept = kept; sealed = sealed; sends = [] } }

-- a transaction arrived, but none is counted as known
abbrev pub forgetting : Entry
forgetting = entry (Arrived (tx ∷ [])) Done 0 []

-- it is counted as known, although the turn has the reason Repeat
abbrev pub taking_without_doing : Entry
taking_without_doing = entry (Arrived (tx ∷ [])) Repeat 1 []

-- a NewView statement for view 1, sealed twice
abbrev pub call : List ℕ
call = NEW_VIEW ∷ 0 ∷ 0 ∷ 0 ∷ 0 ∷ 1 ∷ []

abbrev pub calling_twice : Entry
calling_twice = entry (Tick 0) Done 0 (call ∷ call ∷ [])

-- a NewView statement for view 1 that names replica 1
abbrev pub naming_another : Entry
naming_another = entry (Tick 0) Done 0 ((NEW_VIEW ∷ 1 ∷ 0 ∷ 0 ∷ 0 ∷ 1 ∷ []) ∷ [])

-- a vote of replica 0
abbrev pub vote_for : ℕ → Digest → Message
vote_for view block = messages.Vote (record { replica = 0; view = view; block = block; seal = [] }) None

abbrev pub taking_vote : ℕ → Digest → Entry
taking_vote view block = entry (Deliver 0 (message_spelling (vote_for view block))) Done 0 []

-- a digest that no stored block has
abbrev pub unknown : Digest
unknown = record { 0 = replicate 32 1 }

-- a statement with the kind and the view of a local order, and no order after them
abbrev pub sealing_no_order : Entry
sealing_no_order = entry (Tick 0) Done 0 ((ORDER ∷ 0 ∷ 0 ∷ 0 ∷ 0 ∷ 1 ∷ []) ∷ [])

-- a statement with the kind and the view of a vote, although no block was delivered
abbrev pub voting_for_nothing : Entry
voting_for_nothing = entry (Tick 0) Done 0 ((VOTE ∷ 0 ∷ 0 ∷ 0 ∷ 0 ∷ 1 ∷ []) ∷ [])

-- what the journal of replica 0 is checked against, where one transaction arrives
abbrev pub one_arrives : Check → Scale
one_arrives fits = record { fits = fits; setting = five; replica = 0; arrivals = tx ∷ [] }

-- After a lawful journal, an entry breaks one rule and keeps the others.
abbrev pub BreaksAloneAfter : Scale → List Entry → Entry → ℕ → Type 0
BreaksAloneAfter by before e rule = IsLawful by before × (¬ Keeps by before e rule) × ((k : ℕ) → k ≢ rule → Keeps by before e k)

-- The same for the first entry of a journal.
abbrev pub BreaksAlone : Scale → Entry → ℕ → Type 0
BreaksAlone by e rule = BreaksAloneAfter by [] e rule
