-- The journals of lifetimes, joined, are those of the turns on all that was logged.
use Rattle.std.proofs.Common.{◌≡◌, ℕ, ◌<◌, List, [], ◌∷◌, ◌++◌, get_or, length, drop, refl, sym, ap, ◌∙◌, append_assoc}
use Rattle.std.specs.Prelude.{All, Ok}
use Rattle.std.proofs.lemmas.List.{drop_at}
use Rattle.seq_base.specs.Setting.{Parameters}
use Rattle.seq_base.specs.Spelling.{message_spelling}
use Rattle.seq_base.specs.Writable.{IsWritable}
use Rattle.wire_view.specs.declared.messages.MessageView.{MessageView}
use Rattle.wire_view.specs.Messages.{message_of, read_of, view_of}
use Rattle.node_core.specs.declared.event.Event.{Event}
use Rattle.node_core.specs.declared.event.Event.TheVariants.{Arrived, Deliver, Tick}
use Rattle.node_core.specs.declared.entry.Entry.{Entry}
use Rattle.node_core.specs.Rows.{Check}
use Rattle.node_core.specs.Runs.{AllCome, CanCome, journal_of, state_after}
use Rattle.node_core.specs.State.{State}
use Rattle.node_core.specs.Reported.{Gives}
use Rattle.durable_node.specs.Incarnations.{FollowOn, IsPrefixOf, Lifetime, logged}
use Rattle.durable_node.specs.Log.{CanBeKept}
use Rattle.durable_node.proofs.Lifetimes.{journal-append}
use Rattle.lifetime_laws.proofs.Later.{answers, left_prefix}
use Rattle.lifetime_laws.specs.Joined.{AreLived, IsFromReplica, joined_journal, last_lifetime, recovered}

module _ (fits : Check) (gives : Gives) (opening : State) where
  abbrev over : List Event → List Entry
  over events = journal_of fits gives opening events

  -- what a lifetime found is what the one before it had logged, and what its start recovered
  found_is : (lifetime next : Lifetime) → IsPrefixOf (logged lifetime) next.found
      → over next.found ≡ over (logged lifetime) ++ recovered fits gives opening lifetime next
  found_is lifetime next prefix =
      let log = logged lifetime in
      let more : drop (length log) next.found ≡ prefix.more = ap (λ (es : List Event). drop (length log) es) prefix.is
      ∙ drop_at log prefix.more (length log) refl in
      ap over prefix.is ∙ journal-append fits gives opening log prefix.more
      ∙ ap (λ (es : List Event). over log ++ journal_of fits gives (state_after fits gives opening log) es) (sym more)

  -- whatever the first lifetime found
  all_joined : (lifetime : Lifetime) (lifetimes : List Lifetime) → AreLived fits gives opening lifetime lifetimes → FollowOn lifetime lifetimes
      → over lifetime.found ++ joined_journal fits gives opening lifetime lifetimes ≡ over (logged (last_lifetime lifetime lifetimes))
  all_joined lifetime [] lived follow = sym (answers fits gives opening lifetime lived.0)
  all_joined lifetime (next ∷ lifetimes) lived follow =
      let rest = recovered fits gives opening lifetime next in
      let later = joined_journal fits gives opening next lifetimes in
      sym (append_assoc (over lifetime.found) (lifetime.turns ++ rest) later)
      ∙ ap (λ (j : List Entry). j ++ later)
      (sym (append_assoc (over lifetime.found) lifetime.turns rest) ∙ ap (λ (j : List Entry). j ++ rest) (sym (answers fits gives opening lifetime lived.0))
      ∙ sym (found_is lifetime next (left_prefix lifetime next.found follow.0)))
      ∙ all_joined next lifetimes lived.1 follow.1

  pub joined : (lifetime : Lifetime) (lifetimes : List Lifetime) → lifetime.found ≡ [] → AreLived fits gives opening lifetime lifetimes
      → FollowOn lifetime lifetimes
      → joined_journal fits gives opening lifetime lifetimes ≡ over (logged (last_lifetime lifetime lifetimes))
  joined lifetime lifetimes none lived follow =
      ap (λ (es : List Event). over es ++ joined_journal fits gives opening lifetime lifetimes) (sym none) ∙ all_joined lifetime lifetimes lived follow

-- ---- what may come

-- what is read is written back: the law of the layer below
abbrev pub Spelled : Type 0
Spelled = (bytes : List ℕ) (view : MessageView) → All (λ b. b < 256) bytes → read_of bytes ≡ Ok view
    → IsWritable (message_of view) × (bytes ≡ message_spelling (message_of view)) × (view ≡ view_of (message_of view))

one_comes : Spelled → (setting : Parameters) (e : Event) → CanBeKept e → IsFromReplica setting.n e → CanCome setting e
one_comes spelled setting (Arrived list) can from = tt
one_comes spelled setting (Deliver sender bytes) can from = (from, λ m read. (spelled bytes m can.narrow.1 read).0)
one_comes spelled setting (Tick floor) can from = tt

pub all_come : Spelled → (setting : Parameters) (events : List Event) → All CanBeKept events → All (IsFromReplica setting.n) events → AllCome setting events
all_come spelled setting events can from = λ i d less. one_comes spelled setting (get_or events i d) (can i d less) (from i d less)
