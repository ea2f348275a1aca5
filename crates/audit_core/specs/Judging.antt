-- The least rule that an entry breaks, and the state after it, from the state before it.
use Rattle.std.specs.Prelude.{ℕ, ◌+◌, List, [], ◌∷◌, length, take, drop, get_or, Bool, ◌&&◌, ◌||◌, ◌==◌, not, Option, Some, None, if◌then◌else◌}
use Rattle.std.specs.List.{list_all}
use Rattle.std.specs.Cmp.Lexicographic.{pointwise}
use Rattle.seq_base.specs.declared.kinds.TheConstants.{ORDER}
use Rattle.seq_base.specs.declared.tx.Tx.{Tx}
use Rattle.seq_base.specs.declared.digest.Digest.{Digest}
use Rattle.seq_base.specs.Spelling.{order_spelling}
use Rattle.seq_base.specs.Tx.{tx_eq}
use Rattle.block_store.specs.Store.{is_stored}
use Rattle.chain_state.specs.Standings.{order_drawn}
use Rattle.chain_store.specs.Chains.{Stored, chain_state_of}
use Rattle.hotstuff_core.specs.Rules.{view_at}
use Rattle.node_core.specs.declared.entry.Entry.{Entry}
use Rattle.node_core.specs.Rows.{Check}
use Rattle.journal_rules.specs.JournalPrefixes.{arrived_by}
use Rattle.journal_rules.specs.Rules.{ballots_by, replica_named, view_named, parent_named}
use Rattle.journal_rules.specs.Sealed.{marks_in}
use Rattle.journal_rules.specs.Shown.{is_done}
use Rattle.journal_rules.specs.Tests.{are_own, is_none, first_false}
use Rattle.audit_core.specs.declared.carried.Carried.{Carried}
use Rattle.audit_core.specs.Bringing.{carried_in, brings_on, taken}
use Rattle.audit_core.specs.Audited.{Audited, stored_of}
use Rattle.audit_core.specs.Marking.{are_new, marked}
use Rattle.audit_core.specs.Voting.{rises_from, last_view, vote_on}

-- rule 1: the arrivals continue the arrival list, and all of them are counted as known
abbrev pub goes_on : List Tx → ℕ → ℕ → List Tx → Bool
goes_on arrivals from kept list = (kept == from + length list) && pointwise tx_eq list (take (length list) (drop from arrivals))

-- an entry that is not Done has no arrivals and seals nothing
abbrev pub is_idle : Entry → Bool
is_idle e = is_done e.turned.reason || (is_none (arrived_by e.event) && is_none e.turned.sealed)

-- rule 2
abbrev pub takes_on : Check → Audited → Entry → Bool
takes_on fits j e = is_idle e && (are_own j.replica e.turned.sealed && (are_new j.marks (marks_in e.turned.sealed) && brings_on fits (stored_of j) e))

-- what an entry delivers, if it keeps rule 2
abbrev pub taken_on : Check → Audited → Entry → Option Carried
taken_on fits j e = if takes_on fits j e then Some (carried_in e) else None

-- A statement is the spelling of the order that is drawn over this parent for the replica and the view that it names.
abbrev pub drawn_over : Stored → List Tx → List ℕ → Digest → Bool
drawn_over s known statement parent = pointwise ◌==◌ statement
    (order_spelling (order_drawn (replica_named statement) (view_named statement) parent known (chain_state_of s parent)))

-- the parent that it names is stored
abbrev pub drawn_on : Stored → List Tx → List ℕ → Bool
drawn_on s known statement = is_stored s.blocks (parent_named statement) && drawn_over s known statement (parent_named statement)

-- the stored blocks after an entry
abbrev pub stored_after : Audited → Entry → Stored
stored_after j e = stored_of (taken (carried_in e) j)

-- rule 3: each statement with the kind of an order is the one drawn from these arrivals
abbrev pub are_drawn : Stored → List Tx → List (List ℕ) → Bool
are_drawn s known statements = list_all (λ statement. not (get_or statement 0 0 == ORDER) || drawn_on s known statement) statements

-- rules 4 and 5: each vote is checked against the lock and the blocks before the entry
abbrev pub rises_on : Audited → Entry → Bool
rises_on j e = rises_from (view_at j.store j.safety.lock) j.safety.voted (ballots_by e)

abbrev pub votes_on : Audited → Entry → Bool
votes_on j e = list_all (vote_on j (carried_in e)) (ballots_by e)

-- the least of rules 3 to 5 that an entry breaks, if it delivers this
abbrev pub sealed_rule : Audited → Entry → Carried → Option ℕ
sealed_rule j e b = first_false 3 (
    are_drawn (stored_of (taken b j)) (take j.kept j.arrivals) e.turned.sealed
    ∷ rises_on j e
    ∷ list_all (vote_on j b) (ballots_by e)
    ∷ [])

-- the least rule that the entry breaks
unfoldable pub rule_on : Check → Audited → Entry → Option ℕ
rule_on fits j e = first_false 1 (
    goes_on j.arrivals j.kept e.turned.kept (arrived_by e.event)
    ∷ takes_on fits j e
    ∷ are_drawn (stored_after j e) (take e.turned.kept j.arrivals) e.turned.sealed
    ∷ rises_on j e
    ∷ votes_on j e
    ∷ [])

-- the state after an entry that keeps all rules
abbrev pub next_on : Audited → Entry → Audited
next_on j e =
    let next = taken (carried_in e) j in
    record next {
      kept = j.kept + length (arrived_by e.event);
      safety = record next.safety { voted = last_view j.safety.voted (ballots_by e) };
      marks = marked j.marks (marks_in e.turned.sealed);
    }
