-- The blocks of committed chains: each has its orders over the blocks before it, and honest ones are drawn over these.
use Rattle.std.proofs.Common.{◌≡◌, ℕ, suc, ◌<◌, List, [], ◌∷◌, ◌++◌, map, take, drop, get_or, true, Some, refl, sym, ap, subst, ◌∙◌, arith}
use Rattle.std.specs.Prelude.{All, Contains, IsSome}
use Rattle.std.proofs.Math.Seq.{split_at as split_at_place}
use Rattle.std.proofs.lemmas.List.{take-map, append-nil}
use Rattle.std.proofs.lemmas.List.Elements.{All-map, All-take, All-weaker, All-contains, All-from_recursion}
use Rattle.std.proofs.lemmas.Option.{slice_get_within, get_or_from_slice_get}
use Rattle.seq_base.specs.declared.kinds.TheConstants.{ORDER}
use Rattle.seq_base.specs.declared.tx.Tx.{Tx}
use Rattle.seq_base.specs.declared.block.Block.{Block}
use Rattle.seq_base.specs.declared.digest.Digest.{Digest}
use Rattle.seq_base.specs.declared.message.Message.{Message}
use Rattle.seq_base.specs.declared.order.LocalOrder.{LocalOrder}
use Rattle.seq_base.specs.declared.order.SealedOrder.{SealedOrder}
use Rattle.seq_base.specs.Limits.{IsShort}
use Rattle.seq_base.specs.Setting.{Parameters}
use Rattle.seq_base.specs.Spelling.{order_spelling, seal_spelling}
use Rattle.seq_base.specs.Tx.{FitsTx}
use Rattle.seq_base.specs.Writable.{IsWritableBlock, IsWritableOrder}
use Rattle.chain_state.specs.Standings.{Standings, fits as fits_chain, order_drawn}
use Rattle.wire_view.specs.declared.messages.MessageView.{MessageView}
use Rattle.agreement_laws.specs.Journals.{Named}
use Rattle.agreement_laws.specs.JournalPrefixes.{block_at, stored, committed_chain}
use Rattle.agreement_laws.proofs.Blocks.{found_at}
use Rattle.agreement_laws.proofs.Lists.{in_any, split_at, moved, all_from, at_split}
use Rattle.chain_laws.specs.Blocks.{Chain, standing_of}
use Rattle.chain_laws.specs.Keeping.{IsDrawnOver, IsHonestOver, IsBlockOver, AreBlocks}
use Rattle.chain_laws.proofs.Positions.{image_place}
use Rattle.node_core.specs.declared.entry.Entry.{Entry}
use Rattle.run_record.specs.declared.record.RunRecord.{RunRecord}
use Rattle.node_core.specs.Rows.{Check, is_sealed}
use Rattle.journal_rules.specs.Chained.{chain_at, standing_at}
use Rattle.journal_rules.specs.Obeys.{scale_of}
use Rattle.journal_rules.specs.Rules.{IsDrawn, IsValidIn, up_to, order_named, view_named, parent_named}
use Rattle.node_core.specs.Delivered.{message_in}
use Rattle.journal_rules.specs.Shown.{named, shown}
use Rattle.node_core.specs.Delivered.{block_in}
use Rattle.run_verdict.specs.Parts.{order_part}
use Rattle.run_verdict.specs.Shown.{IsHonest}
use Rattle.headline_laws.specs.Premises.{IsSound}
use Rattle.journal_rules.specs.Records.{journal_in, arrivals_in}
use Rattle.headline_laws.specs.Records.{faulty_in, committed_in}
use Rattle.headline_laws.proofs.Carried.{was_carried}
use Rattle.headline_laws.proofs.Entries.{IsSealedIn, was_sealed_by}
use Rattle.headline_laws.proofs.Orders.{ascending_keys, order_stands, bare, bare_is_writable, distinct_prefix, writable_list, some_of}
use Rattle.headline_laws.proofs.JournalChains.{Laws, orders_of, IsHonestPrefix, whole_prefix, chain_at_is, standing_is, stands_after}

module _ (laws : Laws) (fits : Check) (run : RunRecord) (sound : IsSound fits run) where
  abbrev s : Parameters
  s = run.setting

  -- two writable orders with the same spelling are equal
  same_order : (one other : LocalOrder) → IsWritableOrder (bare one) → IsWritableOrder (bare other) → order_spelling one ≡ order_spelling other → one ≡ other
  same_order one other w v same =
      let spelled : Message.Order (bare one) ≡ Message.Order (bare other) =
      laws.spelled (Message.Order (bare one)) (Message.Order (bare other)) w v (ap (λ (bytes : List ℕ). 2 ∷ (bytes ++ seal_spelling [])) same) in
      let orders : bare one ≡ bare other = cc in
      ap (λ (o : SealedOrder). o.order) orders

  -- A block that an entry of an honest journal delivered, in the prefix before it, and the chain of its parent wherever
  -- the parent is stored.
  record IsCarriedOver (b : Block) (over : List Named) : Type 0 where
    replica : ℕ
    honest : IsHonest run replica
    entry : Entry
    inside : Contains (journal_in run replica) entry
    message : MessageView
    delivered : message_in entry.event ≡ Some message
    brings : block_in message ≡ Some b
    before : List Entry
    valid : IsValidIn (scale_of fits run replica) before b
    shape : IsWritableBlock b
    own : chain_at before b.cert.block ≡ over
    others : (prefix : List Entry) → IsHonestPrefix laws fits run sound prefix → (p : Named)
        → block_at (stored (map shown prefix)) b.cert.block ≡ Some p → chain_at prefix b.cert.block ≡ over

  -- An order that an honest replica sealed was drawn, after a prefix of its journal.
  record WasDrawn (q : ℕ) (order : LocalOrder) : Type 0 where
    signs : IsHonest run q
    before : List Entry
    entry : Entry
    is_prefix : IsHonestPrefix laws fits run sound (up_to before entry)
    drawn : IsDrawn (scale_of fits run q) before entry (order_spelling order)

  was_drawn : (q : ℕ) → IsHonest run q → (order : LocalOrder) → IsSealedIn run q (order_spelling order) → WasDrawn q order
  was_drawn q signs order has =
      let split = split_at (journal_in run q) has.entry has.inside in
      record {
        signs = signs;
        before = split.before;
        entry = has.entry;
        is_prefix = record { replica = q; honest = signs; rest = split.after; is = split.is ∙ moved split.before has.entry split.after };
        drawn = All-contains (λ statement. get_or statement 0 0 ≡ ORDER → IsDrawn (scale_of fits run q) split.before has.entry statement)
            has.entry.turned.sealed (order_spelling order)
            ((sound.lawful.obeys q signs).journal split.before has.entry split.after split.is 3) has.sealed refl;
      }

  -- It is the one that is drawn for what its statement names.
  order_is : (q : ℕ) (order : LocalOrder) → IsWritableOrder (bare order) → (w : WasDrawn q order)
      → order ≡ order_drawn order.replica order.view order.parent (take w.entry.turned.kept (arrivals_in run q))
      (standing_at s (up_to w.before w.entry) order.parent)
  order_is q order writable w =
      let txs : List Tx = take w.entry.turned.kept (arrivals_in run q) in
      let prefix : List Entry = up_to w.before w.entry in
      let statement : List ℕ = order_spelling order in
      let drawn : LocalOrder = order_drawn order.replica order.view order.parent txs (standing_at s prefix order.parent) in
      let named : order_named (scale_of fits run q) w.before w.entry statement ≡ drawn =
      ap (λ (r : ℕ). order_drawn r (view_named statement) (parent_named statement) txs (standing_at s prefix (parent_named statement)))
      (laws.replica order writable.replica)
      ∙ ap (λ (v : ℕ). order_drawn order.replica v (parent_named statement) txs (standing_at s prefix (parent_named statement))) (laws.view order writable.view)
      ∙ ap (λ (p : Digest). order_drawn order.replica order.view p txs (standing_at s prefix p)) (laws.parent order writable.parent) in
      let can : IsWritableOrder (bare drawn) = record {
        replica = writable.replica;
        view = writable.view;
        parent = writable.parent;
        fresh = writable_list 128 _ txs (distinct_prefix w.entry.turned.kept (arrivals_in run q) (sound.lawful.distinct q w.signs))
            (All-take FitsTx w.entry.turned.kept (arrivals_in run q) (sound.lawful.fit q w.signs));
        late = writable_list 256 _ txs (distinct_prefix w.entry.turned.kept (arrivals_in run q) (sound.lawful.distinct q w.signs))
            (All-take FitsTx w.entry.turned.kept (arrivals_in run q) (sound.lawful.fit q w.signs));
        seal = omega arith;
      } in
      same_order order drawn writable can (w.drawn.spelled ∙ ap order_spelling named)

  -- If its parent has this chain, it is drawn over it.
  drawn_over : (q : ℕ) (order : LocalOrder) → IsWritableOrder (bare order) → (w : WasDrawn q order) → (d : Digest) → order.parent ≡ d → (over : List Named)
      → ((p : Named) → block_at (stored (map shown (up_to w.before w.entry))) d ≡ Some p → chain_at (up_to w.before w.entry) d ≡ over)
      → IsDrawnOver s (orders_of over) (arrivals_in run q) order
  drawn_over q order writable w d parent over chains =
      let prefix : List Entry = up_to w.before w.entry in
      let at_parent = some_of (block_at (stored (map shown prefix)) d)
      (subst (λ (e : Digest). IsSome (block_at (stored (map shown prefix)) e)) (laws.parent order writable.parent ∙ parent) w.drawn.stored) in
      let standing : standing_at s prefix order.parent ≡ standing_of s (orders_of over) =
      ap (standing_at s prefix) parent ∙ standing_is laws fits run sound prefix d over (chains at_parent.0 at_parent.1) in
      record {
        known = w.entry.turned.kept;
        is = order_is q order writable w ∙ ap (order_drawn order.replica order.view order.parent (take w.entry.turned.kept (arrivals_in run q))) standing;
      }

  honest_over : (b : Block) (over : List Named) → IsCarriedOver b over → (sealed : SealedOrder) → Contains b.orders sealed
      → IsHonestOver s (faulty_in run) (arrivals_in run) (orders_of over) sealed.order
  honest_over b over t sealed inside correct =
      let order : LocalOrder = sealed.order in
      let signs : IsHonest run order.replica =
      record { below = All-contains (λ o. o.order.replica < s.n) b.orders sealed t.valid.replicas inside; correct = correct } in
      let has = was_sealed_by fits run sound.unforged t.replica t.entry t.message (order_part sealed) t.honest t.inside t.delivered
      (order_stands t.message b t.brings sealed inside) signs
      (All-contains (λ o. is_sealed fits o ≡ true) b.orders sealed t.valid.seals inside) in
      let writable = bare_is_writable sealed (All-contains IsWritableOrder b.orders sealed (All-from_recursion IsWritableOrder b.orders t.shape.each) inside) in
      let w = was_drawn order.replica signs order has in
      drawn_over order.replica order writable w b.cert.block
      (All-contains (λ o. o.order.parent ≡ b.cert.block) b.orders sealed t.valid.parents inside) over
      (t.others (up_to w.before w.entry) w.is_prefix)

  block_over : (b : Block) (over : List Named) → IsCarriedOver b over → IsBlockOver s (faulty_in run) (arrivals_in run) (orders_of over) b.orders
  block_over b over t = record {
    quorum = t.valid.count;
    replicas = record {
      distinct = (ascending_keys (λ (o : SealedOrder). o.order.replica) 0 b.orders t.shape.ascending).1;
      below = All-map (λ r. r < s.n) (λ (o : SealedOrder). o.order.replica) b.orders t.valid.replicas;
    };
    short = All-weaker IsWritableOrder (λ (o : SealedOrder). IsShort o.order) (λ o w. record { fresh = w.fresh.few; late = w.late.few }) b.orders
        (All-from_recursion IsWritableOrder b.orders t.shape.each);
    fit = subst (λ (c : Standings). All (λ (o : SealedOrder). fits_chain c o.order ≡ true) b.orders)
        (standing_is laws fits run sound t.before b.cert.block over t.own) t.valid.lists;
    honest = all_from (λ (o : SealedOrder). IsHonestOver s (faulty_in run) (arrivals_in run) (orders_of over) o.order) b.orders (honest_over b over t);
  }

  -- Each block of the committed chain is one over those before it.
  carried_over : (r : ℕ) → IsHonest run r → (before after : List Named) (n : Named) → committed_chain s (map shown (journal_in run r)) ≡ before ++ n ∷ after
      → (b : Block) × (named b ≡ n) × IsCarriedOver b before
  carried_over r honest before after n is =
      let journal : List Entry = journal_in run r in
      let all : IsHonestPrefix laws fits run sound journal = whole_prefix laws fits run sound r honest in
      let stands = stands_after laws fits run sound r honest before after n is in
      let was = was_carried (scale_of fits run r) journal (sound.lawful.obeys r honest).journal (sound.lawful.reported r honest) journal []
      (sym (append-nil journal)) stands.entry n stands.inside stands.done stands.carries in
      let b : Block = was.brings.block in
      let d : Digest = b.cert.block in
      let parent = was.plainly.parent in
      let digest : stands.parent.digest ≡ d = stands.digest ∙ ap (λ (m : Named). m.cert.block) (sym was.brings.same) in
      let own : chain_at was.before d ≡ before =
      chain_at_is laws fits run sound was.before journal
      (record { replica = r; honest = honest; rest = was.entry ∷ was.after; is = was.is }) all d parent.1 stands.parent
      (in_any (λ m. (m.digest ≡ d) × (m.view ≡ b.cert.view)) (stored (map shown was.before)) parent) parent.4.0 stands.is_stored digest
      ∙ stands.chain_before in (
        b,
        was.brings.same,
        record {
          replica = r;
          honest = honest;
          entry = was.entry;
          inside = subst (λ (es : List Entry). Contains es was.entry) (sym was.is) (at_split was.before was.entry was.after);
          message = was.brings.message;
          delivered = was.brings.is;
          brings = was.brings.brings;
          before = was.before;
          valid = was.valid;
          shape = was.shape;
          own = own;
          others = λ prefix t p found.
              (let here = found_at (stored (map shown prefix)) d p found in
              chain_at_is laws fits run sound prefix journal t all d p stands.parent here.0 here.1 stands.is_stored digest ∙ stands.chain_before);
        },
      )

  pub are_blocks : (r : ℕ) → IsHonest run r → AreBlocks s (faulty_in run) (arrivals_in run) (committed_in run r)
  are_blocks r honest k orders found =
      let ns : List Named = committed_chain s (map shown (journal_in run r)) in
      let at = image_place (λ (n : Named). n.orders) ns k orders found in
      let n : Named = at.0 in
      let split : ns ≡ take k ns ++ n ∷ drop (suc k) ns =
      split_at_place ns k n (slice_get_within ns k n at.1) ∙ ap (λ (m : Named). take k ns ++ m ∷ drop (suc k) ns) (get_or_from_slice_get ns k n n at.1) in
      let from = carried_over r honest (take k ns) (drop (suc k) ns) n split in
      let block = block_over from.0 (take k ns) from.2 in
      subst (IsBlockOver s (faulty_in run) (arrivals_in run) (take k (committed_in run r))) (ap (λ (m : Named). m.orders) from.1 ∙ at.2)
      (subst (λ (c : Chain). IsBlockOver s (faulty_in run) (arrivals_in run) c from.0.orders) (sym (take-map (λ (m : Named). m.orders) k ns)) block)
