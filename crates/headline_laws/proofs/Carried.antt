-- The blocks that the prefixes of a lawful journal stored, and the entries that delivered them.
use Rattle.std.proofs.Common.{◌≡◌, ℕ, ◌<◌, ◌^◌, List, ◌∷◌, ◌++◌, map, true, Option, Some, None, Result, Ok, Err, refl, sym, ap, subst, ◌∙◌, inl, inr, arith, append_assoc}
use Rattle.std.specs.Prelude.{All, Contains}
use Rattle.std.specs.Result.{result_ok}
use Rattle.std.proofs.lemmas.List.Elements.{All-contains}
use Rattle.std.proofs.lemmas.Option.{none-some, same_Some}
use Rattle.seq_base.specs.declared.block.Block.{Block}
use Rattle.seq_base.specs.declared.digest.Digest.{Digest}
use Rattle.seq_base.specs.Writable.{IsWritable, IsWritableBlock}
use Rattle.wire_view.specs.Messages.{read_of, message_of}
use Rattle.wire_view.specs.declared.fault.WireFault.{WireFault}
use Rattle.wire_view.specs.declared.messages.MessageView.{MessageView}
use Rattle.wire_view.specs.declared.messages.MessageView.TheVariants.{NewView, Ask, Order, Propose, Vote, Fetch, Give}
use Rattle.agreement_laws.specs.Journals.{Named, Entry as Plain}
use Rattle.agreement_laws.specs.JournalPrefixes.{block_of, stored}
use Rattle.agreement_laws.specs.Lawful.{IsStored, IsValidBlock, MayBeDone as MayBeDonePlainly}
use Rattle.agreement_laws.proofs.Lists.{in_any, Split, split_at, at_split, any_of_map, when_some}
use Rattle.agreement_laws.proofs.Prefixes.{stored_cases}
use Rattle.node_core.specs.declared.event.Event.{Event}
use Rattle.node_core.specs.declared.event.Event.TheVariants.{Arrived, Deliver, Tick}
use Rattle.node_core.specs.declared.entry.Entry.{Entry}
use Rattle.node_core.specs.Readable.{IsReadable}
use Rattle.journal_rules.specs.Rules.{Scale, IsLawful, IsValidIn, MayBeDone}
use Rattle.journal_rules.proofs.Kept.{plainly}
use Rattle.node_core.specs.Delivered.{message_in}
use Rattle.journal_rules.specs.Shown.{is_done, named, shown, shown_message}
use Rattle.node_core.specs.Delivered.{block_in}

-- the real entry of a mapped one
pub record IsShownBy (entries : List Entry) (e : Plain) : Type 0 where
  pub entry : Entry
  pub split : Split entries entry
  pub same : shown entry ≡ e

pub shown_by : (entries : List Entry) (e : Plain) → Contains (map shown entries) e → IsShownBy entries e
shown_by entries e inside =
    let found = any_of_map shown entries e inside in
    record { entry = found.1; split = split_at entries found.1 (in_any (λ z. shown z ≡ e) entries found); same = found.4 }

-- a block that a message delivers
pub record Brings (m : Option MessageView) (b : Named) : Type 0 where
  pub message : MessageView
  pub is : m ≡ Some message
  pub block : Block
  pub brings : block_in message ≡ Some block
  pub same : named block ≡ b

pub brings : (m : Option MessageView) (b : Named) → block_of (shown_message m) ≡ Some b → Brings m b
brings None b found = absurd (none-some b found)
brings (Some (NewView call)) b found = absurd (none-some b found)
brings (Some (Ask call)) b found = absurd (none-some b found)
brings (Some (Order sealed)) b found = absurd (none-some b found)
brings (Some (Propose proposed)) b found =
    record { message = Propose proposed; is = refl; block = proposed.block; brings = refl; same = same_Some (named proposed.block) b found }
brings (Some (Vote voted)) b found = absurd (none-some b found)
brings (Some (Fetch digest)) b found = absurd (none-some b found)
brings (Some (Give block)) b found = record { message = Give block; is = refl; block = block; brings = refl; same = same_Some (named block) b found }

-- what is delivered can be written
readable_in : (event : Event) (m : MessageView) → IsReadable event → message_in event ≡ Some m → IsWritable (message_of m)
readable_in (Arrived txs) m readable is = absurd (none-some m is)
readable_in (Deliver from bytes) m readable is = by (read_of bytes) refl is
  where
    by : (r : Result MessageView WireFault) → read_of bytes ≡ r → result_ok r ≡ Some m → IsWritable (message_of m)
    by (Ok other) read found = readable m (read ∙ ap (λ (n : MessageView). Ok n) (same_Some other m found))
    by (Err fault) read found = absurd (none-some m found)
readable_in (Tick floor) m readable is = absurd (none-some m is)

writable_block : (m : MessageView) (b : Block) → block_in m ≡ Some b → IsWritable (message_of m) → IsWritableBlock b
writable_block (NewView call) b found can = absurd (none-some b found)
writable_block (Ask call) b found can = absurd (none-some b found)
writable_block (Order sealed) b found can = absurd (none-some b found)
writable_block (Propose proposed) b found can = subst IsWritableBlock (same_Some proposed.block b found) can.1
writable_block (Vote voted) b found can = absurd (none-some b found)
writable_block (Fetch digest) b found can = absurd (none-some b found)
writable_block (Give block) b found can = subst IsWritableBlock (same_Some block b found) can

module _ (by : Scale) (journal : List Entry) (lawful : IsLawful by journal) (reported : All (λ e. IsReadable e.event) journal) where
  -- what was delivered to an entry with reason Done, in the prefix before it
  pub record WasDone (before : List Entry) (e : Entry) : Type 0 where
    pub done : MayBeDone by before (message_in e.event)
    pub plainly : MayBeDonePlainly by.setting (map shown before) (shown_message (message_in e.event))

  pub was_done : (before : List Entry) (e : Entry) (after : List Entry) → journal ≡ before ++ e ∷ after → is_done e.turned.reason ≡ true → WasDone before e
  was_done before e after is done =
      let may : MayBeDone by before (message_in e.event) = (lawful before e after is 2).done done in
      record { done = may; plainly = plainly by before (message_in e.event) may }

  -- the entry that delivered a block, and the block itself
  pub record WasCarried (prefix : List Entry) (b : Named) : Type 0 where
    pub before : List Entry
    pub entry : Entry
    pub after : List Entry
    pub is : prefix ≡ before ++ entry ∷ after
    pub brings : Brings (message_in entry.event) b
    pub valid : IsValidIn by before brings.block
    pub plainly : IsValidBlock by.setting (map shown before) (named brings.block)
    pub shape : IsWritableBlock brings.block

  valid_block : (before : List Entry) (m : MessageView) (b : Block) → block_in m ≡ Some b → MayBeDone by before (Some m)
      → MayBeDonePlainly by.setting (map shown before) (shown_message (Some m))
      → IsValidIn by before b × IsValidBlock by.setting (map shown before) (named b)
  valid_block before (NewView call) b found done plainly = absurd (none-some b found)
  valid_block before (Ask call) b found done plainly = absurd (none-some b found)
  valid_block before (Order sealed) b found done plainly = absurd (none-some b found)
  valid_block before (Propose proposed) b found done plainly =
      let same : proposed.block ≡ b = same_Some proposed.block b found in
      (subst (IsValidIn by before) same done, subst (λ (c : Block). IsValidBlock by.setting (map shown before) (named c)) same plainly)
  valid_block before (Vote voted) b found done plainly = absurd (none-some b found)
  valid_block before (Fetch digest) b found done plainly = absurd (none-some b found)
  valid_block before (Give block) b found done plainly =
      let same : block ≡ b = same_Some block b found in
      (subst (IsValidIn by before) same done, subst (λ (c : Block). IsValidBlock by.setting (map shown before) (named c)) same plainly)

  pub was_carried : (prefix rest : List Entry) → journal ≡ prefix ++ rest → (e : Plain) (b : Named) → Contains (map shown prefix) e
      → e.is_done ≡ true → block_of e.message ≡ Some b
      → WasCarried prefix b
  was_carried prefix rest is e b inside done carries =
      let real = shown_by prefix e inside in
      let split = real.split in
      let found = brings (message_in real.entry.event) b (ap (λ (p : Plain). block_of p.message) real.same ∙ carries) in
      let whole : journal ≡ split.before ++ real.entry ∷ (split.after ++ rest) =
      is ∙ ap (λ (es : List Entry). es ++ rest) split.is ∙ append_assoc split.before (real.entry ∷ split.after) rest in
      let was = was_done split.before real.entry (split.after ++ rest) whole (ap (λ (p : Plain). p.is_done) real.same ∙ done) in
      let both = valid_block split.before found.message found.block found.brings (subst (MayBeDone by split.before) found.is was.done)
      (subst (λ (m : Option MessageView). MayBeDonePlainly by.setting (map shown split.before) (shown_message m)) found.is was.plainly) in
      let there : Contains journal real.entry =
      subst (λ (es : List Entry). Contains es real.entry) (sym whole) (at_split split.before real.entry (split.after ++ rest)) in
      let can = readable_in real.entry.event found.message (All-contains (λ e. IsReadable e.event) journal real.entry reported there) found.is in
      record {
        before = split.before;
        entry = real.entry;
        after = split.after;
        is = split.is;
        brings = found;
        valid = both.0;
        plainly = both.1;
        shape = writable_block found.message found.block found.brings can;
      }

  -- the view of a stored block is a number of 32 bits
  pub stored_is_small : (prefix rest : List Entry) → journal ≡ prefix ++ rest → (b : Named) → Contains (stored (map shown prefix)) b → b.view < 2 ^ 32
  stored_is_small prefix rest is b inside = elim (stored_cases (map shown prefix) b inside) [
    | inl same ↦ let view : 0 ≡ b.view = ap (λ (n : Named). n.view) same in omega (arith, view)
    | inr from ↦
        let parts = when_some from.item.is_done (block_of from.item.message) b from.gives in
        let was = was_carried prefix rest is from.item b from.inside parts.0 parts.1 in
        subst (λ (n : Named). n.view < 2 ^ 32) was.brings.same was.shape.view
  ]

  pub view_is_small : (prefix rest : List Entry) → journal ≡ prefix ++ rest → (d : Digest) (view : ℕ) → IsStored (map shown prefix) d view → view < 2 ^ 32
  view_is_small prefix rest is d view found =
      subst (λ (v : ℕ). v < 2 ^ 32) found.4.1
      (stored_is_small prefix rest is found.1 (in_any (λ b. (b.digest ≡ d) × (b.view ≡ view)) (stored (map shown prefix)) found))
