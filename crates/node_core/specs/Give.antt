-- Fetch and Give: a block that a replica lacks.
use Rattle.std.specs.Prelude.{ℕ, List, [], ◌∷◌, not, Option, Some, None}
use Rattle.seq_base.specs.declared.digest.Digest.{Digest}
use Rattle.seq_base.specs.declared.block.Block.{Block}
use Rattle.seq_base.specs.declared.message.Message.TheVariants as messages
use Rattle.seq_base.specs.Spelling.{message_spelling}
use Rattle.block_store.specs.Store.{block_digest, block_at, is_stored, clashes}
use Rattle.node_core.specs.declared.event.Reason.{Reason}
use Rattle.node_core.specs.declared.event.Reason.TheVariants.{Done, ViewLimit, BadCert, Orphan, Misfit, Clash, Repeat}
use Rattle.node_core.specs.State.{Known, State, knowing, has_view}
use Rattle.node_core.specs.See.{taken}
use Rattle.node_core.specs.Reported.{Outcome, reported, quiet, to_each, fetched_from}
use Rattle.node_core.specs.Rows.{Check, Row, first_reason, is_bad, is_fit}

-- the bytes of the Give message of a block
abbrev pub give_bytes : Block → List ℕ
give_bytes block = message_spelling (messages.Give block)

-- Fetch. Orphan: the block is not stored or is the first block. Done: its Give message is sent.
abbrev pub fetch_of : State → ℕ → Option Block → Outcome
fetch_of s from None = quiet s Orphan
fetch_of s from (Some block) = record { reported = reported s Done [] (to_each (from ∷ []) (give_bytes block)); state = s }

abbrev pub on_fetch : State → ℕ → Digest → Outcome
on_fetch s from block = fetch_of s from (block_at s.known.store block)

abbrev pub give_rows : Check → Known → Block → List Row
give_rows fits s block =
    (not (has_view s block.view), ViewLimit)
    ∷ (is_bad fits s block.cert block.view, BadCert)
    ∷ (not (is_stored s.store block.cert.block), Orphan)
    ∷ []

abbrev pub give_reason : Check → Known → Block → Reason
give_reason fits s block = first_reason (give_rows fits s block)

-- the tests after these, for the case that none of these holds
abbrev pub given_rows : Check → Known → Block → List Row
given_rows fits s block =
    (not (is_fit fits s block), Misfit)
    ∷ (clashes s.store (block_digest block) block, Clash)
    ∷ (is_stored s.store (block_digest block), Repeat)
    ∷ []

abbrev pub given_reason : Check → Known → Block → Reason
given_reason fits s block = first_reason (given_rows fits s block)

-- Done: See(the certificate), and the block is stored.
unfoldable pub give_done : State → Block → Outcome
give_done s block = quiet (knowing s (taken block s.known)) Done

abbrev pub given_for : State → Block → Reason → Outcome
given_for s block Done = give_done s block
given_for s block reason = quiet s reason

abbrev pub give_for : Check → State → ℕ → Block → Reason → Outcome
give_for fits s from block Done = given_for s block (given_reason fits s.known block)
give_for fits s from block Orphan = fetched_from from block.cert.block s
give_for fits s from block reason = quiet s reason

abbrev pub on_give : Check → State → ℕ → Block → Outcome
on_give fits s from block = give_for fits s from block (give_reason fits s.known block)
