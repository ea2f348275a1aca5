-- The rules as tests on an entry, from what the prefix before it shows. If that prefix keeps all rules, a test is true
-- exactly where its rule is kept.
use Rattle.std.specs.Prelude.{ℕ, suc, List, [], ◌∷◌, ◌++◌, length, map, take, get_or, Bool, true, false, ◌&&◌, ◌||◌, ◌==◌, not, nat_lt, Option, Some, None, option_map, is_some, if◌then◌else◌}
use Rattle.std.specs.List.{list_all, list_any}
use Rattle.std.specs.Option.{option_map_or, option_or}
use Rattle.std.specs.Cmp.Lexicographic.{pointwise}
use Rattle.seq_base.specs.declared.kinds.TheConstants.{ORDER}
use Rattle.seq_base.specs.declared.block.Block.{Block}
use Rattle.seq_base.specs.declared.digest.Digest.{Digest}
use Rattle.seq_base.specs.Blocks.{digest_eq, first_digest, block_eq}
use Rattle.seq_base.specs.Setting.{quorum_of}
use Rattle.seq_base.specs.Spelling.{order_spelling, vote_spelling}
use Rattle.seq_base.specs.Tx.{tx_eq}
use Rattle.chain_state.specs.Standings.{fits as fits_chain}
use Rattle.quorum_cert.specs.Certificates.{is_good}
use Rattle.wire_view.specs.declared.messages.MessageView.{MessageView}
use Rattle.wire_view.specs.declared.messages.MessageView.TheVariants.{NewView, Ask, Order, Propose, Vote, Fetch, Give}
use Rattle.agreement_laws.specs.Journals.{Named, Message, Ballot}
use Rattle.agreement_laws.specs.JournalPrefixes.{block_at, chain, stored_by}
use Rattle.agreement_laws.specs.JournalPrefixes.{sealed_in as ballots_in}
use Rattle.node_core.specs.declared.entry.Entry.{Entry}
use Rattle.node_core.specs.Rows.{is_sealed}
use Rattle.node_core.specs.Delivered.{message_in}
use Rattle.journal_rules.specs.Chained.{standing_at}
use Rattle.journal_rules.specs.JournalPrefixes.{arrived_by, arrived_in}
use Rattle.journal_rules.specs.Rules.{Scale, Place, up_to, stored_in, lock_in, ballots_by, replica_named, parent_named, order_named}
use Rattle.journal_rules.specs.Sealed.{Mark, sealed_in, marks_in}
use Rattle.journal_rules.specs.Shown.{is_done, shown}

-- each element passes with each later one
abbrev pub all_pairs : {X : Type 0} → (X → X → Bool) → List X → Bool
all_pairs p [] = true
all_pairs p (x ∷ xs) = list_all (p x) xs && all_pairs p xs

-- ---- rule 1

abbrev pub knows : Scale → List Entry → Entry → Bool
knows by before e =
    pointwise tx_eq (arrived_in (up_to before e)) (take e.turned.kept by.arrivals) && (e.turned.kept == length (arrived_in (up_to before e)))

-- ---- rule 2

-- a block with this digest is stored, with this view
abbrev pub is_stored_at : List Named → Digest → ℕ → Bool
is_stored_at blocks d v = option_map_or (λ (b : Named). b.view == v) (block_at blocks d) false

abbrev pub is_valid_in : Scale → List Entry → Block → Bool
is_valid_in by prefix b =
    is_good by.fits by.setting b.cert && (is_stored_at (stored_in prefix) b.cert.block b.cert.view && (nat_lt b.cert.view b.view
    && ((length b.orders == quorum_of by.setting)
    && (list_all (λ sealed. (sealed.order.view == b.view) && (digest_eq sealed.order.parent b.cert.block && nat_lt sealed.order.replica by.setting.n)) b.orders
    && (list_all (is_sealed by.fits) b.orders
    && list_all (λ sealed. fits_chain (standing_at by.setting prefix b.cert.block) sealed.order) b.orders)))))

abbrev pub may_be_done : Scale → List Entry → Option MessageView → Bool
may_be_done by prefix None = true
may_be_done by prefix (Some (NewView call)) = is_good by.fits by.setting call.cert && is_stored_at (stored_in prefix) call.cert.block call.cert.view
may_be_done by prefix (Some (Ask call)) = is_good by.fits by.setting call.cert && is_stored_at (stored_in prefix) call.cert.block call.cert.view
may_be_done by prefix (Some (Order sealed)) = true
may_be_done by prefix (Some (Propose proposed)) = is_valid_in by prefix proposed.block
may_be_done by prefix (Some (Vote voted)) =
    nat_lt voted.vote.replica by.setting.n
    && (by.fits voted.vote.replica (vote_spelling voted.vote.replica voted.vote.view voted.vote.block) voted.vote.seal
    && is_stored_at (stored_in prefix) voted.vote.block voted.vote.view)
may_be_done by prefix (Some (Fetch block)) = true
may_be_done by prefix (Some (Give block)) = is_valid_in by prefix block

-- a block without its digest
abbrev pub block_named : Named → Block
block_named b = record { view = b.view; cert = b.cert; orders = b.orders }

abbrev pub named_eq : Named → Named → Bool
named_eq a b = digest_eq a.digest b.digest && block_eq (block_named a) (block_named b)

-- no other stored block has its digest, including the first block
abbrev pub stands_alone : List Entry → Option Named → Bool
stands_alone prefix None = true
stands_alone prefix (Some b) = not (digest_eq b.digest first_digest) && list_all (λ c. not (digest_eq c.digest b.digest) || named_eq c b) (stored_in prefix)

abbrev pub mark_eq : Mark → Mark → Bool
mark_eq a b = (a.kind == b.kind) && (a.view == b.view)

-- no mark occurs twice
abbrev pub are_apart : List Mark → Bool
are_apart marks = all_pairs (λ a b. not (mark_eq a b)) marks

abbrev pub is_none : {X : Type 0} → List X → Bool
is_none [] = true
is_none (x ∷ xs) = false

-- each names this replica
abbrev pub are_own : ℕ → List (List ℕ) → Bool
are_own replica statements = list_all (λ statement. replica_named statement == replica) statements

abbrev pub takes : Scale → List Entry → Entry → Bool
takes by before e =
    (is_done e.turned.reason || (is_none (arrived_by e.event) && is_none e.turned.sealed))
    && (are_own by.replica e.turned.sealed
    && (are_apart (marks_in (sealed_in (up_to before e)))
    && ((not (is_done e.turned.reason) || may_be_done by before (message_in e.event)) && stands_alone before (stored_by (shown e)))))

-- ---- rule 3

abbrev pub is_drawn : Scale → List Entry → Entry → List ℕ → Bool
is_drawn by before e statement =
    is_some (block_at (stored_in (up_to before e)) (parent_named statement)) && pointwise ◌==◌ statement (order_spelling (order_named by before e statement))

abbrev pub draws : Scale → List Entry → Entry → Bool
draws by before e = list_all (λ statement. not (get_or statement 0 0 == ORDER) || is_drawn by before e statement) e.turned.sealed

-- ---- rule 4

-- each view is above all before it
abbrev pub rise : List Ballot → Bool
rise votes = all_pairs (λ earlier later. nat_lt earlier.view later.view) votes

abbrev pub rises : Scale → List Entry → Entry → Bool
rises by before e =
    rise (ballots_in (map shown (up_to before e))) && list_all (λ v. nat_lt (lock_in by.setting before).view v.view) (ballots_by e)

-- ---- rule 5

-- a block on the chain of this one, including the first block and this one
abbrev pub is_after : List Named → Named → Named → Bool
is_after blocks b a =
    digest_eq a.digest b.digest || (digest_eq a.digest first_digest
    || list_any (λ (c : Named). digest_eq a.digest c.digest) (option_map_or (chain blocks) (block_at blocks b.cert.block) []))

abbrev pub is_safe : List Named → Named → Named → Bool
is_safe blocks b locked = nat_lt locked.view b.cert.view || is_after blocks b locked

abbrev pub is_vote_for : List Named → Named → Message → Ballot → Bool
is_vote_for blocks locked (Message.NewView c) v = false
is_vote_for blocks locked (Message.Ask c) v = false
is_vote_for blocks locked (Message.Propose b) v = digest_eq v.block b.digest && ((v.view == b.view) && is_safe blocks b locked)
is_vote_for blocks locked (Message.Give b) v = false
is_vote_for blocks locked (Message.Vote r w d) v = false
is_vote_for blocks locked Message.Other v = false

abbrev pub votes : Scale → List Entry → Entry → Bool
votes by before e = list_all (is_vote_for (stored_in before) (lock_in by.setting before) (shown e).message) (ballots_by e)

-- ---- all of them

-- the number of the first test that fails; the first of these tests has this number
abbrev pub first_false : ℕ → List Bool → Option ℕ
first_false number [] = None
first_false number (t ∷ ts) = if t then first_false (suc number) ts else Some number

-- the least rule that an entry breaks
unfoldable pub broken_by : Scale → List Entry → Entry → Option ℕ
broken_by by before e =
    first_false 1 (knows by before e ∷ takes by before e ∷ draws by before e ∷ rises by before e ∷ votes by before e ∷ [])

abbrev pub place : ℕ → ℕ → Place
place entry rule = record { entry = entry; rule = rule }

-- the first place in these entries, which follow a prefix
unfoldable pub broken_from : Scale → List Entry → List Entry → Option Place
broken_from by before [] = None
broken_from by before (e ∷ entries) = option_or (option_map (place (length before)) (broken_by by before e)) (broken_from by (before ++ e ∷ []) entries)

abbrev pub first_broken : Scale → List Entry → Option Place
first_broken by journal = broken_from by [] journal
