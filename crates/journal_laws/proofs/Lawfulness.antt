-- The journal of each run is lawful: turn by turn, from the opening state.
use Rattle.std.proofs.Common.{◌≡◌, ◌≢◌, Some, None, Option, ℕ, ◌+◌, ◌^◌, ◌<◌, ◌≤◌, List, [], ◌∷◌, ◌++◌, length, map, take, get_or, min, Bool, true, false, nat_eq, refl, sym, ap, subst, ◌∙◌, arith, append_assoc}
use Rattle.std.specs.Prelude.{if◌then◌else◌, All, Result, Ok, Err, ◌↔◌, IsSome, is_some}
use Rattle.std.specs.List.{AllPairs, flat_map, list_all}
use Rattle.std.specs.Option.{option_map_or}
use Rattle.std.proofs.lemmas.Bool.{and_parts, ltb-true}
use Rattle.std.proofs.lemmas.Bool.Decides.{nat_tests}
use Rattle.std.proofs.lemmas.Grind.{flat_map-append}
use Rattle.std.proofs.lemmas.List.{append-nil, take_at, map-append, length-append}
use Rattle.std.proofs.lemmas.List.Sums.{fold-append}
use Rattle.std.proofs.lemmas.List.Elements.{All-nil, All-cons, All-head, All-tail, All-weaker, filter_map-append}
use Rattle.std.proofs.lemmas.Option.{none-some, same_Some}
use Rattle.seq_base.specs.declared.kinds.TheConstants.{ORDER}
use Rattle.seq_base.specs.declared.tx.Tx.{Tx}
use Rattle.seq_base.specs.declared.digest.Digest.{Digest}
use Rattle.seq_base.specs.declared.block.Block.{Block}
use Rattle.seq_base.specs.declared.block.Cert.{Cert}
use Rattle.seq_base.specs.declared.order.LocalOrder.{LocalOrder}
use Rattle.seq_base.specs.declared.order.SealedOrder.{SealedOrder}
use Rattle.seq_base.specs.Blocks.{digest_eq, digest_eq_decides}
use Rattle.seq_base.specs.Setting.{Parameters, quorum_of}
use Rattle.seq_base.specs.Spelling.{order_spelling}
use Rattle.seq_base.specs.Writable.{IsWritableBlock}
use Rattle.block_store.specs.Store.{with_block}
use Rattle.chain_store.specs.Chains.{chain_state_of}
use Rattle.chain_store.proofs.ChainStates.{led_at_first}
use Rattle.chain_state.specs.Standings.{Standings, fits as fits_chain, finals, order_drawn, standing_for}
use Rattle.quorum_cert.specs.Certificates.{is_good}
use Rattle.quorum_cert.specs.Quorums.{IsGood}
use Rattle.wire_view.specs.declared.fault.WireFault.{WireFault}
use Rattle.wire_view.specs.declared.messages.MessageView.{MessageView}
use Rattle.wire_view.specs.declared.messages.MessageView.TheVariants as messages
use Rattle.wire_view.specs.Messages.{read_of}
use Rattle.agreement_laws.specs.Journals.{Named, Ballot, Entry as Shown}
use Rattle.agreement_laws.specs.JournalPrefixes.{chain, stored, lock, commit, block_at as shown_at}
use Rattle.agreement_laws.specs.JournalPrefixes.{block_of as block_named_in, stored_by as stored_named, sealed_in as ballots_in}
use Rattle.agreement_laws.specs.Lawful.{EachEntry, KeepsVotingRule as Agrees, IsLawfulVote, IsValidBlock, MayBeDone as MayAgree}
use Rattle.agreement_laws.proofs.Lists.{when_some}
use Rattle.node_core.specs.declared.event.Event.{Event}
use Rattle.node_core.specs.declared.event.Event.TheVariants.{Arrived, Deliver, Tick}
use Rattle.node_core.specs.declared.entry.Entry.{Entry}
use Rattle.node_core.specs.Delivered.{message_in}
use Rattle.node_core.specs.Rows.{Check, is_placed, is_sealed, lists_fit}
use Rattle.node_core.specs.Runs.{CanCome, AllCome, opening_state, journal_of, state_after}
use Rattle.node_core.specs.State.{Known, State}
use Rattle.node_core.specs.Reported.{Gives, Outcome}
use Rattle.node_core.specs.Turn.{turn_of}
use Rattle.std.specs.Result.{result_ok}
use Rattle.journal_rules.specs.Chained.{lists_in, standing_at}
use Rattle.journal_rules.specs.JournalPrefixes.{arrived_by, arrived_in}
use Rattle.journal_rules.specs.Rules.{Scale, up_to, stored_in, Knows, IsValidIn, MayBeDone, StandsAlone, IsDrawn, Draws, Rises, Votes, KeepsAll, IsLawful, replica_named, view_named, parent_named}
use Rattle.journal_rules.specs.Sealed.{Mark, mark_of, marks_in, sealed_in}
use Rattle.journal_rules.specs.Shown.{is_done, named, shown, shown_message}
use Rattle.journal_rules.proofs.Alone.{alone_when}
use Rattle.journal_rules.proofs.Blocks.{block_of, stored_by, with_stored, blocks_in}
use Rattle.journal_rules.proofs.ChainTies.{StandsForOneMore, state_stands}
use Rattle.journal_rules.proofs.Ends.{each_none, each_more, pairs_prefix}
use Rattle.journal_rules.proofs.GrownStores.{tied_at_first}
use Rattle.journal_rules.proofs.FirstBroken.{keep_all}
use Rattle.journal_rules.proofs.OrderNames.{replica_of_order, view_of_order, parent_of_order}
use Rattle.journal_rules.proofs.BlockInvariants.{FreshWithin, store_more}
use Rattle.journal_rules.specs.Stores.{at, StoreKept}
use Rattle.journal_rules.proofs.Stores.{at_digest, at_view, stored_found, stored_long}
use Rattle.journal_laws.specs.Sealed.{AreSealedOnce}
use Rattle.journal_laws.specs.Standing.{MayCome, StandsAt}
use Rattle.journal_laws.proofs.Apart.{marks_apart}
use Rattle.journal_laws.proofs.Marks.{InBounds}
use Rattle.journal_laws.proofs.StateInvariant.{TiedTo}
use Rattle.journal_laws.proofs.TurnSeals.{turn_seals}
use Rattle.journal_laws.proofs.TurnTies.{Laws, ComesFrom, WasTaken, WasDone, IsDrawnBy, IsOwn, TurnTies, byte_is}
use Rattle.journal_laws.proofs.TurnKinds.{turn_ties}
use Rattle.journal_laws.proofs.Votes.{votes_at_first}

-- ---- a prefix with one more entry

arrived_more : (prior : List Entry) (e : Entry) → arrived_in (prior ++ e ∷ []) ≡ arrived_in prior ++ arrived_by e.event
arrived_more prior e = flat_map-append (λ (x : Entry). arrived_by x.event) prior (e ∷ [])
    ∙ ap (λ (ts : List Tx). arrived_in prior ++ ts) (append-nil (arrived_by e.event))

blocks_more : (prior : List Entry) (e : Entry) → blocks_in (prior ++ e ∷ []) ≡ with_stored (blocks_in prior) (stored_by e)
blocks_more prior e = fold-append (λ (bs : List Block) (x : Entry). with_stored bs (stored_by x)) [] prior (e ∷ [])

shown_more : (prior : List Entry) (e : Entry) → map shown (prior ++ e ∷ []) ≡ map shown prior ++ shown e ∷ []
shown_more prior e = map-append shown prior (e ∷ [])

tied_more : (s : Parameters) (known : Known) (prior : List Entry) (e : Entry)
    → TiedTo s known (with_stored (blocks_in prior) (stored_by e)) (arrived_in prior ++ arrived_by e.event) (map shown prior ++ shown e ∷ [])
    → TiedTo s known (blocks_in (prior ++ e ∷ [])) (arrived_in (prior ++ e ∷ [])) (map shown (prior ++ e ∷ []))
tied_more s known prior e ties =
    subst (λ (bs : List Block). TiedTo s known bs (arrived_in (prior ++ e ∷ [])) (map shown (prior ++ e ∷ []))) (sym (blocks_more prior e))
    (subst (λ (ts : List Tx). TiedTo s known (with_stored (blocks_in prior) (stored_by e)) ts (map shown (prior ++ e ∷ []))) (sym (arrived_more prior e))
    (subst (TiedTo s known (with_stored (blocks_in prior) (stored_by e)) (arrived_in prior ++ arrived_by e.event)) (sym (shown_more prior e)) ties))

all_pass : {X : Type 0} (p : X → Bool) (xs : List X) → list_all p xs ≡ true → All (λ x. p x ≡ true) xs
all_pass p [] is = All-nil (λ x. p x ≡ true)
all_pass p (x ∷ xs) is = let parts = and_parts (p x) (list_all p xs) is in All-cons (λ y. p y ≡ true) x xs parts.0 (all_pass p xs parts.1)

-- The chain state of a stored block is that of the chain that the prefix shows.
module _ (one_more : StandsForOneMore) (s : Parameters) (known : Known) (prior : List Entry)
    (tied : TiedTo s known (blocks_in prior) (arrived_in prior) (map shown prior)) (kept : StoreKept known.store) where
  state_is : (d : Digest) (n : Named) → at known.store d ≡ Some n
      → chain_state_of (record { setting = known.setting; blocks = known.store }) d ≡ standing_at s prior d
  state_is d n found =
      ap (λ (p : Parameters). chain_state_of (record { setting = p; blocks = known.store }) d) tied.setting
      ∙ state_stands one_more s known.store (stored (map shown prior)) tied.safe.stores kept d n found
      ∙ ap (λ (o : Option Named). standing_for s (map lists_in (option_map_or (chain (stored (map shown prior))) o []))) (sym (tied.safe.stores.same d ∙ found))

-- ---- what was Done is lawful

module _ (one_more : StandsForOneMore) (by : Scale) (known : Known) (prior : List Entry)
    (tied : TiedTo by.setting known (blocks_in prior) (arrived_in prior) (map shown prior)) (kept : StoreKept known.store)
    (good : (fits : Check) (s : Parameters) (c : Cert) → (is_good fits s c ≡ true) ↔ IsGood fits s c) where
  cert_good : (c : Cert) → is_good by.fits known.setting c ≡ true → IsGood by.fits by.setting c
  cert_good c is = subst (λ (p : Parameters). IsGood by.fits p c) tied.setting ((good by.fits known.setting c).0 is)

  valid_in : (b : Block) → IsValidBlock by.setting (map shown prior) (named b) → WasTaken by.fits known b → IsValidIn by prior b
  valid_in b plain was =
      let count_rest = and_parts (nat_eq (length b.orders) (quorum_of known.setting)) _ was.fit in
      let placed_rest = and_parts (list_all (λ sealed. is_placed known b sealed.order) b.orders) _ count_rest.1 in
      let lists_seals = and_parts (list_all (λ sealed. lists_fit known b.cert.block sealed.order) b.orders)
      (list_all (is_sealed by.fits) b.orders) placed_rest.1 in
      let placed : All (λ sealed. is_placed known b sealed.order ≡ true) b.orders =
      all_pass (λ (sealed : SealedOrder). is_placed known b sealed.order) b.orders placed_rest.0 in
      let parent : (n : Named) × (at known.store b.cert.block ≡ Some n) = stored_found known.store b.cert.block was.parent in
      record {
        good = cert_good b.cert was.good;
        parent = plain.parent;
        below = plain.below;
        count = rw (← tied.setting) (let same : nat_eq (length b.orders) (quorum_of known.setting) ≡ true = count_rest.0 in grind (arith, nat_tests));
        views = All-weaker (λ sealed. is_placed known b sealed.order ≡ true) (λ sealed. sealed.order.view ≡ b.view)
            (λ sealed is. let parts = and_parts (nat_eq sealed.order.view b.view) _ is in
            (let same : nat_eq sealed.order.view b.view ≡ true = parts.0 in grind (arith, nat_tests))) b.orders placed;
        parents = All-weaker (λ sealed. is_placed known b sealed.order ≡ true) (λ sealed. sealed.order.parent ≡ b.cert.block)
            (λ sealed is. let parts = and_parts (nat_eq sealed.order.view b.view) _ is in
            (digest_eq_decides sealed.order.parent b.cert.block).0 (and_parts (digest_eq sealed.order.parent b.cert.block) _ parts.1).0)
            b.orders placed;
        replicas = All-weaker (λ sealed. is_placed known b sealed.order ≡ true) (λ sealed. sealed.order.replica < by.setting.n)
            (λ sealed is. let parts = and_parts (nat_eq sealed.order.view b.view) _ is in
            subst (λ (p : Parameters). sealed.order.replica < p.n) tied.setting
            (ltb-true _ _ (and_parts (digest_eq sealed.order.parent b.cert.block) _ parts.1).1)) b.orders placed;
        seals = all_pass (is_sealed by.fits) b.orders lists_seals.1;
        lists = subst (λ (c : Standings). All (λ sealed. fits_chain c sealed.order ≡ true) b.orders)
            (state_is one_more by.setting known prior tied kept b.cert.block parent.0 parent.1)
            (all_pass (λ (sealed : SealedOrder). lists_fit known b.cert.block sealed.order) b.orders lists_seals.0);
      }

  was_lawful : (m : Option MessageView) → WasDone by.fits known m → MayAgree by.setting (map shown prior) (shown_message m) → MayBeDone by prior m
  was_lawful None was plain = tt
  was_lawful (Some (messages.NewView call)) was plain = (cert_good call.cert was, plain.1)
  was_lawful (Some (messages.Ask call)) was plain = (cert_good call.cert was, plain.1)
  was_lawful (Some (messages.Order sealed)) was plain = tt
  was_lawful (Some (messages.Propose proposed)) was plain = valid_in proposed.block plain was
  was_lawful (Some (messages.Vote voted)) was plain = (plain.0, was, plain.1)
  was_lawful (Some (messages.Fetch block)) was plain = tt
  was_lawful (Some (messages.Give block)) was plain = valid_in block plain was

  alone_in : (m : Option MessageView) → WasDone by.fits known m → (b : Named) → block_named_in (shown_message m) ≡ Some b → StandsAlone prior b
  alone_in None was b is = absurd (none-some b is)
  alone_in (Some (messages.NewView call)) was b is = absurd (none-some b is)
  alone_in (Some (messages.Ask call)) was b is = absurd (none-some b is)
  alone_in (Some (messages.Order sealed)) was b is = absurd (none-some b is)
  alone_in (Some (messages.Propose proposed)) was b is =
      subst (StandsAlone prior) (same_Some (named proposed.block) b is) (alone_when known.store prior tied.safe.stores proposed.block was.alone)
  alone_in (Some (messages.Vote voted)) was b is = absurd (none-some b is)
  alone_in (Some (messages.Fetch block)) was b is = absurd (none-some b is)
  alone_in (Some (messages.Give block)) was b is =
      subst (StandsAlone prior) (same_Some (named block) b is) (alone_when known.store prior tied.safe.stores block was.alone)

-- ---- drawn orders

module _ (one_more : StandsForOneMore) (by : Scale) (known : Known) (before : List Entry) (e : Entry)
    (tied : TiedTo by.setting known (blocks_in (up_to before e)) (arrived_in (up_to before e)) (map shown (up_to before e))) (kept : StoreKept known.store)
    (few : known.me < 256) (wide : known.views < 2 ^ 32) (prefix : known.prefix ≡ take e.turned.kept by.arrivals) where
  drawn_in : (statement : List ℕ) → IsDrawnBy known statement → IsDrawn by before e statement
  drawn_in statement d =
      let o : LocalOrder = d.order in
      let txs : List Tx = take e.turned.kept by.arrivals in
      let prior : List Entry = up_to before e in
      let parent : (n : Named) × (at known.store o.parent ≡ Some n) = stored_found known.store o.parent d.stored in
      let replica_is : o.replica ≡ replica_named statement = sym (ap replica_named d.spelled ∙ replica_of_order o (rw d.own few)) in
      let view_is : o.view ≡ view_named statement = sym (ap view_named d.spelled ∙ view_of_order o (omega (arith, d.below, wide))) in
      let parent_is : o.parent ≡ parent_named statement = sym (ap parent_named d.spelled ∙ parent_of_order o (stored_long known.store o.parent d.stored)) in
      let now : o ≡ order_drawn o.replica o.view o.parent txs (standing_at by.setting prior o.parent) =
      d.drawn ∙ ap (λ (ts : List Tx). order_drawn o.replica o.view o.parent ts
      (chain_state_of (record { setting = known.setting; blocks = known.store }) o.parent)) prefix
      ∙ ap (order_drawn o.replica o.view o.parent txs) (state_is one_more by.setting known prior tied kept o.parent parent.0 parent.1) in
      record {
        stored = subst (λ (p : Digest). IsSome (shown_at (stored_in prior) p)) parent_is (ap is_some (tied.safe.stores.same o.parent ∙ parent.1));
        spelled = d.spelled ∙ ap order_spelling (now
            ∙ ap (λ (r : ℕ). order_drawn r o.view o.parent txs (standing_at by.setting prior o.parent)) replica_is
            ∙ ap (λ (v : ℕ). order_drawn (replica_named statement) v o.parent txs (standing_at by.setting prior o.parent)) view_is
            ∙ ap (λ (p : Digest). order_drawn (replica_named statement) (view_named statement) p txs (standing_at by.setting prior p)) parent_is);
      }

  draws_in : All (IsOwn known) e.turned.sealed → Draws by before e
  draws_in own = All-weaker (IsOwn known) (λ statement. get_or statement 0 0 ≡ ORDER → IsDrawn by before e statement)
      (λ statement o is. drawn_in statement (o.drawn is)) e.turned.sealed own

  own_in : by.replica ≡ known.me → All (IsOwn known) e.turned.sealed → All (λ statement. replica_named statement ≡ by.replica) e.turned.sealed
  own_in whose own = All-weaker (IsOwn known) (λ statement. replica_named statement ≡ by.replica)
      (λ statement o. o.named ∙ byte_is known.me few ∙ sym whose) e.turned.sealed own

-- ---- what is stored

kept_more : (laws : Laws) (short : FreshWithin) (fits : Check) (s : Parameters) (known : Known) (e : Event) → CanCome s e → (done : Bool)
    → (done ≡ true → WasDone fits known (message_in e)) → StoreKept known.store
    → StoreKept (with_stored known.store (if done then block_of (message_in e) else None))
kept_more laws short fits s known e comes false was kept = kept
kept_more laws short fits s known (Arrived list) comes true was kept = kept
kept_more laws short fits s known (Tick floor) comes true was kept = kept
kept_more laws short fits s known (Deliver from bytes) comes true was kept = by (read_of bytes) refl (was refl)
  where
    one : (b : Block) → IsWritableBlock b → WasTaken fits known b → StoreKept (with_block b known.store)
    one b shape w = store_more short known.store b (laws.stay known.store b) (laws.found known.store b w.alone) shape w.parent w.alone kept

    by : (r : Result MessageView WireFault) → read_of bytes ≡ r → WasDone fits known (result_ok r)
        → StoreKept (with_stored known.store (block_of (result_ok r)))
    by (Err fault) is was = kept
    by (Ok (messages.NewView call)) is was = kept
    by (Ok (messages.Ask call)) is was = kept
    by (Ok (messages.Order sealed)) is was = kept
    by (Ok (messages.Propose proposed)) is was = one proposed.block (comes.1 (messages.Propose proposed) is).1 was
    by (Ok (messages.Vote voted)) is was = kept
    by (Ok (messages.Fetch block)) is was = kept
    by (Ok (messages.Give block)) is was = one block (comes.1 (messages.Give block) is) was

-- ---- what holds of each prefix of a run

-- what holds of an entry, besides the laws of agreement
pub record IsSo (by : Scale) (before : List Entry) (e : Entry) : Type 0 where
  pub knows : Knows by before e
  pub idle : is_done e.turned.reason ≡ false → (arrived_by e.event ≡ []) × (e.turned.sealed ≡ [])
  pub own : All (λ statement. replica_named statement ≡ by.replica) e.turned.sealed
  pub done : is_done e.turned.reason ≡ true → MayBeDone by before (message_in e.event)
  pub alone : (b : Named) → stored_named (shown e) ≡ Some b → StandsAlone before b
  pub draws : Draws by before e

pub record Holds (by : Scale) (me : ℕ) (state : State) (prior : List Entry) : Type 0 where
  pub own : state.known.me ≡ me
  pub tied : TiedTo by.setting state.known (blocks_in prior) (arrived_in prior) (map shown prior)
  pub bounds : InBounds state.known
  pub kept : StoreKept state.known.store
  pub entries : EachEntry (IsSo by) prior

module _ (laws : Laws) (one_more : StandsForOneMore) (short : FreshWithin) (gives : Gives) (by : Scale) (me : ℕ)
    (small : length by.arrivals < 2 ^ 32) (whose : by.replica ≡ me) (few : me < 256) where
  holds_more : (state : State) (prior : List Entry) (e : Event) (rest : List Tx) → CanCome by.setting e
      → by.arrivals ≡ arrived_in prior ++ (arrived_by e ++ rest) → Holds by me state prior
      → Holds by me (turn_of by.fits gives state e).state (prior ++ record { event = e; turned = (turn_of by.fits gives state e).reported } ∷ [])
  holds_more state prior e rest comes begins h =
      let o : Outcome = turn_of by.fits gives state e in
      let entry : Entry = record { event = e; turned = o.reported } in
      let ties : TurnTies by.fits by.setting state.known (blocks_in prior) (arrived_in prior) (map shown prior) (message_in e) (arrived_by e) o =
      turn_ties laws by.fits gives by.setting state (blocks_in prior) (arrived_in prior) (map shown prior) h.tied h.bounds e (comes_from e comes) in
      let tied : TiedTo by.setting o.state.known (blocks_in (prior ++ entry ∷ [])) (arrived_in (prior ++ entry ∷ []))
      (map shown (prior ++ entry ∷ [])) = tied_more by.setting o.state.known prior entry ties.tied in
      let kept_now : StoreKept o.state.known.store =
      subst StoreKept (ap (λ (bs : List Block). with_stored bs (stored_by entry)) h.tied.store ∙ sym ties.tied.store)
      (kept_more laws short by.fits by.setting state.known e comes (is_done o.reported.reason) ties.done h.kept) in
      let now : List Tx = arrived_in (prior ++ entry ∷ []) in
      let split : by.arrivals ≡ now ++ rest = begins ∙ sym (append_assoc (arrived_in prior) (arrived_by e) rest)
      ∙ ap (λ (ts : List Tx). ts ++ rest) (sym (arrived_more prior entry)) in
      let fewer : length now ≤ length by.arrivals =
      (let sum : length by.arrivals ≡ length now + length rest = ap (λ (ts : List Tx). length ts) split ∙ length-append now rest in omega (arith, sum)) in
      let prefix_length : length o.state.known.prefix ≡ length now = ap (λ (ts : List Tx). length ts) tied.prefix in
      let kept : o.reported.kept ≡ length now = ties.kept ∙ min_is (length o.state.known.prefix) (length now) prefix_length (omega (arith, fewer, small)) in
      let known_now : now ≡ take o.reported.kept by.arrivals = sym (ap (take o.reported.kept) split ∙ take_at now rest o.reported.kept (sym kept)) in
      let own : o.state.known.me ≡ me = ties.me ∙ h.own in
      let bounds : InBounds o.state.known = (turn_seals by.fits gives state e h.bounds).bounds in
      let was : is_done o.reported.reason ≡ true → WasDone by.fits state.known (message_in e) = ties.done in
      record {
        own = own;
        tied = tied;
        bounds = bounds;
        kept = kept_now;
        entries = each_more (IsSo by) prior entry h.entries (record {
          knows = record { first = known_now; all = kept };
          idle = ties.idle;
          own = own_in one_more by o.state.known prior entry tied kept_now (rw own few) bounds.wide (tied.prefix ∙ known_now) (whose ∙ sym own) ties.own;
          done = λ done. was_lawful one_more by state.known prior h.tied h.kept laws.good (message_in e) (was done)
              (ties.tied.lawful.done (map shown prior) (shown entry) [] refl done);
          alone = λ b is. (let parts = when_some (is_done o.reported.reason) (block_named_in (shown_message (message_in e))) b is in
              alone_in one_more by state.known prior h.tied h.kept laws.good (message_in e) (was parts.0) b parts.1);
          draws = draws_in one_more by o.state.known prior entry tied kept_now (rw own few) bounds.wide (tied.prefix ∙ known_now) ties.own;
        });
      }
    where
      comes_from : (e : Event) → CanCome by.setting e → ComesFrom by.setting e
      comes_from (Arrived list) c = tt
      comes_from (Deliver from bytes) c = c.0
      comes_from (Tick floor) c = tt

      min_is : (m n : ℕ) → m ≡ n → n < 2 ^ 32 → min m 4294967295 ≡ n
      min_is m n same below = omega (arith, same, below)

  pub run_holds : (state : State) (prior : List Entry) (events : List Event) (rest : List Tx) → AllCome by.setting events
      → by.arrivals ≡ arrived_in prior ++ (flat_map arrived_by events ++ rest) → Holds by me state prior
      → Holds by me (state_after by.fits gives state events) (prior ++ journal_of by.fits gives state events)
  run_holds state prior [] rest comes begins h = subst (Holds by me state) (sym (append-nil prior)) h
  run_holds state prior (e ∷ es) rest comes begins h =
      let o : Outcome = turn_of by.fits gives state e in
      let entry : Entry = record { event = e; turned = o.reported } in
      let begins_here : by.arrivals ≡ arrived_in prior ++ (arrived_by e ++ (flat_map arrived_by es ++ rest)) =
      begins ∙ ap (λ (ts : List Tx). arrived_in prior ++ ts) (append_assoc (arrived_by e) (flat_map arrived_by es) rest) in
      let now : Holds by me o.state (prior ++ entry ∷ []) =
      holds_more state prior e (flat_map arrived_by es ++ rest) (All-head (CanCome by.setting) e es comes) begins_here h in
      let begins_now : by.arrivals ≡ arrived_in (prior ++ entry ∷ []) ++ (flat_map arrived_by es ++ rest) =
      begins_here ∙ sym (append_assoc (arrived_in prior) (arrived_by e) (flat_map arrived_by es ++ rest))
      ∙ ap (λ (ts : List Tx). ts ++ (flat_map arrived_by es ++ rest)) (sym (arrived_more prior entry)) in
      subst (Holds by me (state_after by.fits gives o.state es)) (append_assoc prior (entry ∷ []) (journal_of by.fits gives o.state es))
      (run_holds o.state (prior ++ entry ∷ []) es rest (All-tail (CanCome by.setting) e es comes) begins_now now)

-- ---- the opening state

opening_agrees : (s : Parameters) → Agrees s []
opening_agrees s = record {
  done = each_none (λ before e. e.is_done ≡ true → MayAgree s before e.message);
  votes = each_none (λ before e. All (IsLawfulVote s before e) e.sealed);
  ascending = λ i j d less inside. absurd (omega (arith, inside));
}

pub opening_holds : (by : Scale) (views me capacity : ℕ) → views < 2 ^ 32 → Holds by me (opening_state by.setting views me capacity) []
opening_holds by views me capacity wide = record {
  own = refl;
  tied = record {
    setting = refl;
    store = refl;
    safe = record { stores = tied_at_first; at_lock = refl; at_commit = refl; low = omega arith };
    votes = votes_at_first by.setting;
    prefix = refl;
    voted = All-nil (λ b. b.view ≤ 0);
    lawful = opening_agrees by.setting;
  };
  kept = record { led = led_at_first; fresh = λ d b found. absurd (cc) };
  bounds = record { ordered = omega arith; proposed = omega arith; view = omega arith; asked = omega arith; voted = omega arith; wide = wide };
  entries = each_none (IsSo by);
}

-- ---- all rules

-- what the laws of agreement assume of an entry, and that no two statements have the same mark
module _ (by : Scale) (journal : List Entry) (agrees : Agrees by.setting (map shown journal)) (marks : AllPairs (λ a b. a ≢ b) (marks_in (sealed_in journal)))
    (before : List Entry) (e : Entry) (after : List Entry) (is : journal ≡ before ++ e ∷ after) where
  whole : journal ≡ up_to before e ++ after
  whole = is ∙ sym (append_assoc before (e ∷ []) after)

  lawful_votes : All (IsLawfulVote by.setting (map shown before) (shown e)) (shown e).sealed
  lawful_votes = agrees.votes (map shown before) (shown e) (map shown after) (ap (map shown) is ∙ map-append shown before (e ∷ after))

  votes_keep : Votes by before e
  votes_keep k d inside = let v = lawful_votes k d inside in
      record { block = v.block; delivered = v.delivered; digest = v.digest; view = v.own_view; rule = v.rule }

  rises_keep : Rises by before e
  rises_keep = record {
    rise = pairs_prefix (λ earlier later. earlier.view < later.view) (ballots_in (map shown (up_to before e))) (ballots_in (map shown after))
        (subst (λ (vs : List Ballot). AllPairs (λ earlier later. earlier.view < later.view) vs)
        (ap (λ (es : List Entry). ballots_in (map shown es)) whole ∙ ap ballots_in (map-append shown (up_to before e) after)
        ∙ flat_map-append (λ (x : Shown). x.sealed) (map shown (up_to before e)) (map shown after))
        agrees.ascending);
    above_lock = λ k d inside. (lawful_votes k d inside).above_lock;
  }

  marks_keep : AllPairs (λ a b. a ≢ b) (marks_in (sealed_in (up_to before e)))
  marks_keep = pairs_prefix (λ a b. a ≢ b) (marks_in (sealed_in (up_to before e))) (marks_in (sealed_in after))
      (subst (λ (ms : List Mark). AllPairs (λ a b. a ≢ b) ms)
      (ap (λ (es : List Entry). marks_in (sealed_in es)) whole ∙ ap marks_in (flat_map-append (λ (x : Entry). x.turned.sealed) (up_to before e) after)
      ∙ filter_map-append mark_of (sealed_in (up_to before e)) (sealed_in after))
      marks)

  keeps_all : IsSo by before e → KeepsAll by before e
  keeps_all so = keep_all by before e so.knows
      (record { idle = so.idle; own = so.own; once = marks_keep; done = so.done; alone = so.alone }) so.draws rises_keep votes_keep

module _ (laws : Laws) (one_more : StandsForOneMore) (short : FreshWithin) (gives : Gives) (by : Scale) (views me capacity : ℕ)
    (events : List Event) (may : MayCome by views me events) where
  abbrev start : State
  start = opening_state by.setting views me capacity

  abbrev journal : List Entry
  journal = journal_of by.fits gives start events

  abbrev end : State
  end = state_after by.fits gives start events

  ends_so : Holds by me end journal
  ends_so = run_holds laws one_more short gives by me may.few may.own may.replica start [] events may.rest may.come may.begins
      (opening_holds by views me capacity may.wide)

  pub is_lawful : AreSealedOnce views (sealed_in journal) → IsLawful by journal
  is_lawful once before e after is = keeps_all by journal ends_so.tied.lawful (marks_apart views (sealed_in journal) once) before e after is
      (ends_so.entries before e after is)

  pub stands : StandsAt by end journal
  stands =
      let prior : List Shown = map shown journal in
      let known : Known = end.known in
      let safe = ends_so.tied.safe in
      record {
        lock = sym (at_digest known.store known.safety.lock (lock by.setting prior) safe.at_lock);
        commit = sym (at_digest known.store known.safety.committed (commit by.setting prior) safe.at_commit);
        view = at_view known.store known.safety.committed (commit by.setting prior) safe.at_commit;
        finals = ap (λ (p : Parameters). finals (chain_state_of (record { setting = p; blocks = known.store }) known.safety.committed)) ends_so.tied.setting
            ∙ ap finals (state_stands one_more by.setting known.store (stored prior) safe.stores ends_so.kept known.safety.committed
            (commit by.setting prior) safe.at_commit);
      }
