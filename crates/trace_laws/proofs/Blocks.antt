-- The blocks that a journal shows are within the fields of messages, and so are its commit and its final batches.
use Rattle.std.proofs.Common.{◌≡◌, ◌<◌, ◌≤◌, ◌^◌, Bool, true, false, List, [], ◌∷◌, length, map, Option, Some, None, IfSome, Ok, Err, Result, refl, sym, subst, arith, if◌then◌else◌}
use Rattle.std.specs.Prelude.{All}
use Rattle.std.specs.List.{AllByRecursion, cons_option, filter_map}
use Rattle.std.specs.Result.{result_ok}
use Rattle.std.proofs.lemmas.List.{length-map}
use Rattle.std.proofs.lemmas.List.Elements.{All-cons, All-from_recursion, All-head, All-map, All-nil, All-tail}
use Rattle.seq_base.specs.declared.block.Block.{Block}
use Rattle.seq_base.specs.declared.order.SealedOrder.{SealedOrder}
use Rattle.seq_base.specs.declared.tx.Tx.{Tx}
use Rattle.seq_base.specs.Lists.{AreFresh}
use Rattle.seq_base.specs.Setting.{Parameters}
use Rattle.seq_base.specs.Tx.{FitsTx}
use Rattle.seq_base.specs.Writable.{IsWritable, IsWritableBlock, IsWritableOrder}
use Rattle.wire_view.specs.Messages.{message_of, read_of}
use Rattle.wire_view.specs.declared.fault.WireFault.{WireFault}
use Rattle.wire_view.specs.declared.messages.MessageView.{MessageView}
use Rattle.wire_view.specs.declared.messages.MessageView.TheVariants as messages
use Rattle.majority_graph.specs.Graph.{IsGraph}
use Rattle.chain_state.specs.Lists.{BlockLists}
use Rattle.chain_state.specs.Proposals.{final_of, proposals}
use Rattle.chain_state.specs.Standings.{finals, standing_for}
use Rattle.agreement_laws.specs.JournalPrefixes.{block_of, committed_chain, stored, stored_by}
use Rattle.agreement_laws.specs.Journals.{Named, first_block}
use Rattle.node_core.specs.declared.event.Event.{Event}
use Rattle.node_core.specs.declared.event.Event.TheVariants.{Arrived, Deliver, Tick}
use Rattle.node_core.specs.declared.entry.Entry.{Entry}
use Rattle.node_core.specs.Delivered.{message_in}
use Rattle.node_core.specs.Readable.{IsReadable}
use Rattle.journal_rules.specs.Chained.{lists_in}
use Rattle.journal_rules.specs.Rules.{commit_view_of, finals_of}
use Rattle.journal_rules.specs.Shown.{is_done, named, shown, shown_message}
use Rattle.trace_laws.proofs.Batches.{IsShort, finals_short}
use Rattle.trace_laws.proofs.Chains.{chain_all, commit_is}

-- its view is within its field, and its fresh lists are short lists of transactions within their fields
record IsWithin (b : Named) : Type 0 where
  view : b.view < 2 ^ 32
  fresh : AreFresh (lists_in b).fresh
  each : All (All FitsTx) (lists_in b).fresh

-- ---- blocks that were read

short_orders : (orders : List SealedOrder) → AllByRecursion IsWritableOrder orders → All (λ list. length list ≤ 128) (map (λ sealed. sealed.order.fresh) orders)
short_orders [] all = All-nil (λ (list : List Tx). length list ≤ 128)
short_orders (o ∷ orders) all =
    All-cons (λ (list : List Tx). length list ≤ 128) o.order.fresh (map (λ sealed. sealed.order.fresh) orders) all.0.fresh.few (short_orders orders all.1)

fit_orders : (orders : List SealedOrder) → AllByRecursion IsWritableOrder orders → All (All FitsTx) (map (λ sealed. sealed.order.fresh) orders)
fit_orders [] all = All-nil (All FitsTx)
fit_orders (o ∷ orders) all =
    All-cons (All FitsTx) o.order.fresh (map (λ sealed. sealed.order.fresh) orders)
    (All-from_recursion FitsTx o.order.fresh all.0.fresh.each) (fit_orders orders all.1)

written : (b : Block) → IsWritableBlock b → IsWithin (named b)
written b w =
    let size : length (map (λ (sealed : SealedOrder). sealed.order.fresh) b.orders) ≡ length b.orders = length-map b.orders (λ sealed. sealed.order.fresh) in
    record {
      view = w.view;
      fresh = record { few = omega (arith, size, w.few); short = short_orders b.orders w.each };
      each = fit_orders b.orders w.each;
    }

shown_within : (m : MessageView) → IsWritable (message_of m) → IfSome (block_of (shown_message (Some m))) IsWithin
shown_within (messages.NewView call) w = tt
shown_within (messages.Ask call) w = tt
shown_within (messages.Order sealed) w = tt
shown_within (messages.Propose proposed) w = written proposed.block w.1
shown_within (messages.Vote voted) w = tt
shown_within (messages.Fetch block) w = tt
shown_within (messages.Give block) w = written block w

read_within : (r : Result MessageView WireFault) → ((m : MessageView) → r ≡ Ok m → IsWritable (message_of m))
    → IfSome (block_of (shown_message (result_ok r))) IsWithin
read_within (Ok m) can = shown_within m (can m refl)
read_within (Err fault) can = tt

event_within : (e : Event) → IsReadable e → IfSome (block_of (shown_message (message_in e))) IsWithin
event_within (Arrived list) can = tt
event_within (Deliver from bytes) can = read_within (read_of bytes) can
event_within (Tick floor) can = tt

-- ---- blocks that are stored

all_stored : (journal : List Entry) → All (λ e. IsReadable e.event) journal → All IsWithin (filter_map stored_by (map shown journal))
all_stored [] all = All-nil IsWithin
all_stored (e ∷ journal) all =
    by (is_done e.turned.reason) (block_of (shown_message (message_in e.event)))
    (event_within e.event (All-head (λ (x : Entry). IsReadable x.event) e journal all))
    (all_stored journal (All-tail (λ (x : Entry). IsReadable x.event) e journal all))
  where
    by : (t : Bool) (o : Option Named) → IfSome o IsWithin → All IsWithin (filter_map stored_by (map shown journal))
        → All IsWithin (cons_option (if t then o else None) (filter_map stored_by (map shown journal)))
    by true None some others = others
    by true (Some b) some others = All-cons IsWithin b (filter_map stored_by (map shown journal)) some others
    by false o some others = others

within : (journal : List Entry) → All (λ e. IsReadable e.event) journal → All IsWithin (stored (map shown journal))
within journal all =
    All-cons IsWithin first_block (filter_map stored_by (map shown journal))
    (record { view = omega arith; fresh = record { few = omega arith; short = All-nil (λ (list : List Tx). length list ≤ 128) }; each = All-nil (All FitsTx) })
    (all_stored journal all)

-- ---- the commit and the final batches

pub commit_within : (s : Parameters) (journal : List Entry) → All (λ e. IsReadable e.event) journal → commit_view_of s journal < 2 ^ 32
commit_within s journal all = (commit_is IsWithin s (map shown journal) (within journal all)).view

module _ (graphs : (s : Parameters) (chain : List BlockLists) → All (λ b. AreFresh b.fresh) chain → All IsGraph (proposals s chain))
    (computed : (s : Parameters) (chain : List BlockLists) → finals (standing_for s chain) ≡ final_of s chain) where
  pub finals_within : (s : Parameters) (journal : List Entry) → All (λ e. IsReadable e.event) journal → All (IsShort FitsTx) (finals_of s journal)
  finals_within s journal all =
      let blocks : List Named = committed_chain s (map shown journal) in
      let each : All IsWithin blocks = chain_all IsWithin s (map shown journal) (within journal all) in
      subst (All (IsShort FitsTx)) (sym (computed s (map lists_in blocks)))
      (finals_short graphs FitsTx s (map lists_in blocks)
      (All-map (λ (c : BlockLists). AreFresh c.fresh) lists_in blocks (λ i d inside. (each i d inside).fresh))
      (All-map (λ (c : BlockLists). All (All FitsTx) c.fresh) lists_in blocks (λ i d inside. (each i d inside).each)))
