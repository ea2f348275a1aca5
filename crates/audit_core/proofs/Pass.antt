-- One more entry: the least rule that it breaks, from the state of one pass.
use Rattle.std.proofs.Common.{◌≡◌, ℕ, List, [], ◌∷◌, ◌++◌, map, take, Bool, true, false, ◌&&◌, ◌||◌, Option, Some, None, refl, sym, ap, subst, ◌∙◌}
use Rattle.std.specs.Prelude.{not, if◌then◌else◌}
use Rattle.std.specs.Option.{option_map}
use Rattle.std.proofs.lemmas.List.{map-append}
use Rattle.std.proofs.lemmas.Option.{none-some, same_Some}
use Rattle.seq_base.specs.declared.tx.Tx.{Tx}
use Rattle.seq_base.specs.declared.block.Block.{Block}
use Rattle.seq_base.specs.declared.digest.Digest.{Digest}
use Rattle.seq_base.specs.Setting.{Parameters}
use Rattle.seq_base.specs.Writable.{IsWritableBlock}
use Rattle.block_store.specs.Chains.{extends, Extends}
use Rattle.block_store.specs.Store.{block_digest, is_stored, clashes, with_block}
use Rattle.wire_view.specs.declared.messages.MessageView.{MessageView}
use Rattle.wire_view.specs.declared.messages.MessageView.TheVariants.{NewView, Ask, Order, Propose, Vote, Fetch, Give}
use Rattle.agreement_laws.specs.JournalPrefixes.{stored, stored_by as stored_named, block_of as block_named_in}
use Rattle.agreement_laws.specs.Seen.{IsKeptPrefix}
use Rattle.node_core.specs.declared.entry.Entry.{Entry}
use Rattle.node_core.specs.Delivered.{message_in}
use Rattle.journal_rules.specs.Rules.{Scale, Takes, IsValidIn, MayBeDone, up_to, stored_in}
use Rattle.journal_rules.specs.Sealed.{marks_in, sealed_in}
use Rattle.journal_rules.specs.Shown.{is_done, shown, shown_message, named}
use Rattle.journal_rules.specs.Tests.{knows, takes, draws, rises, votes, are_apart, are_own, may_be_done, first_false, broken_by}
use Rattle.journal_rules.proofs.Alone.{alone_shows}
use Rattle.journal_rules.proofs.Blocks.{block_of, stored_by, with_stored}
use Rattle.journal_rules.specs.Stores.{IsTied, StoreKept}
use Rattle.journal_rules.proofs.ChainTies.{StandsForOneMore}
use Rattle.journal_rules.proofs.GrownStores.{grows}
use Rattle.journal_rules.proofs.Kept.{stored_more, stored_same}
use Rattle.journal_rules.proofs.Stores.{found_stored}
use Rattle.journal_rules.proofs.BlockInvariants.{store_more}
use Rattle.audit_core.specs.declared.carried.Carried.{Carried}
use Rattle.audit_core.specs.declared.carried.Carried.TheVariants as carried
use Rattle.audit_core.specs.Bringing.{carried_if, carried_in, brings_on, alone_on, taken}
use Rattle.audit_core.specs.Audited.{Audited, stored_of}
use Rattle.audit_core.specs.Marking.{are_new}
use Rattle.audit_core.specs.Judging.{is_idle, takes_on, stored_after, are_drawn, rises_on, votes_on, rule_on}
use Rattle.audit_core.specs.Stands.{Stands}
use Rattle.audit_core.proofs.DrawnOrders.{draws_reported, votes_reported, stored_with}
use Rattle.audit_core.proofs.EntryTests.{may_reported, alone_reported, knows_reported, rises_reported, marks_reported}
use Rattle.audit_core.proofs.NextPrefix.{Laws}

-- the stored blocks after what is delivered
pub store_is : (j : Audited) (done : Bool) (m : Option MessageView)
    → (taken (carried_if done m) j).store ≡ with_stored j.store (if done then block_of m else None)
store_is j false m = refl
store_is j true None = refl
store_is j true (Some (NewView call)) = refl
store_is j true (Some (Ask call)) = refl
store_is j true (Some (Order sealed)) = refl
store_is j true (Some (Propose proposed)) = refl
store_is j true (Some (Vote voted)) = refl
store_is j true (Some (Fetch block)) = refl
store_is j true (Some (Give block)) = refl

pub setting_is : (j : Audited) (b : Carried) → (taken b j).setting ≡ j.setting
setting_is j carried.Nothing = refl
setting_is j (carried.Cert view block) = refl
setting_is j (carried.Block digest block proposed) = refl
setting_is j (carried.Vote replica view block) = refl

abbrev pub store_after : Audited → Entry → List Block
store_after j e = (taken (carried_in e) j).store

-- the block that an entry stores, under its digest
pub named_by : (done : Bool) (m : Option MessageView)
    → option_map named (if done then block_of m else None) ≡ (if done then block_named_in (shown_message m) else None)
named_by false m = refl
named_by true None = refl
named_by true (Some (NewView call)) = refl
named_by true (Some (Ask call)) = refl
named_by true (Some (Order sealed)) = refl
named_by true (Some (Propose proposed)) = refl
named_by true (Some (Vote voted)) = refl
named_by true (Some (Fetch block)) = refl
named_by true (Some (Give block)) = refl

-- it was valid
valid_by : (by : Scale) (before : List Entry) (done : Bool) (m : Option MessageView) (b : Block)
    → (if done then block_of m else None) ≡ Some b → (done ≡ true → MayBeDone by before m) → IsValidIn by before b
valid_by by before false m b is may = absurd (none-some b is)
valid_by by before true None b is may = absurd (none-some b is)
valid_by by before true (Some (NewView call)) b is may = absurd (none-some b is)
valid_by by before true (Some (Ask call)) b is may = absurd (none-some b is)
valid_by by before true (Some (Order sealed)) b is may = absurd (none-some b is)
valid_by by before true (Some (Propose proposed)) b is may = subst (IsValidIn by before) (same_Some proposed.block b is) (may refl)
valid_by by before true (Some (Vote voted)) b is may = absurd (none-some b is)
valid_by by before true (Some (Fetch block)) b is may = absurd (none-some b is)
valid_by by before true (Some (Give block)) b is may = subst (IsValidIn by before) (same_Some block b is) (may refl)

module _ (laws : Laws) (one_more : StandsForOneMore) (by : Scale) (before : List Entry) (j : Audited) (stands : Stands by before j)
    (e : Entry) (kept : IsKeptPrefix by.setting (map shown before))
    (shape : (b : Block) → stored_by e ≡ Some b → IsWritableBlock b)
    (reach : (child ancestor : Digest) → is_stored j.store child ≡ true → Extends j.store child ancestor → extends j.store child ancestor ≡ true) where
  pub record StoresNext : Type 0 where
    pub tied : IsTied (store_after j e) (stored_in (up_to before e))
    pub led : StoreKept (store_after j e)

  more_shown : map shown (up_to before e) ≡ map shown before ++ shown e ∷ []
  more_shown = map-append shown before (e ∷ [])

  pub stores_next : Takes by before e → StoresNext
  stores_next takes = with_block_of (stored_by e) refl
    where
      with_block_of : (o : Option Block) → stored_by e ≡ o → StoresNext
      with_block_of None is =
          let none : stored_named (shown e) ≡ None = sym (named_by (is_done e.turned.reason) (message_in e.event)) ∙ ap (option_map named) is in
          let store : store_after j e ≡ j.store = store_is j (is_done e.turned.reason) (message_in e.event) ∙ ap (with_stored j.store) is in
          record {
            tied = subst (λ (st : List Block). IsTied st (stored_in (up_to before e))) (sym store)
                (subst (IsTied j.store) (sym (ap stored more_shown ∙ stored_same (map shown before) (shown e) none)) stands.ties.safe_tied.stores);
            led = subst StoreKept (sym store) stands.ties.led;
          }
      with_block_of (Some b) is =
          let some : stored_named (shown e) ≡ Some (named b) = sym (named_by (is_done e.turned.reason) (message_in e.event)) ∙ ap (option_map named) is in
          let store : store_after j e ≡ with_block b j.store = store_is j (is_done e.turned.reason) (message_in e.event) ∙ ap (with_stored j.store) is in
          let valid = valid_by by before (is_done e.turned.reason) (message_in e.event) b is takes.done in
          let clash : clashes j.store (block_digest b) b ≡ false =
          turned (clashes j.store (block_digest b) b)
          ((alone_shows j.store before stands.ties.safe_tied.stores b).1 (takes.alone (named b) some)) in
          let p = stored_with j.store before stands.ties.safe_tied.stores b.cert.block b.cert.view valid.parent in
          record {
            tied = subst (λ (st : List Block). IsTied st (stored_in (up_to before e))) (sym store)
                (subst (IsTied (with_block b j.store)) (sym (ap stored more_shown ∙ stored_more (map shown before) (shown e) (named b) some))
                (grows j.store b (laws.stay j.store b) (laws.found j.store b clash) clash
                (stored_in before) stands.ties.safe_tied.stores p.0 p.1 p.2 valid.below));
            led = subst StoreKept (sym store) (store_more laws.short j.store b (laws.stay j.store b) (laws.found j.store b clash)
                (shape b is) (found_stored j.store b.cert.block p.0 p.1) clash stands.ties.led);
          }
        where
          turned : (t : Bool) → not t ≡ true → t ≡ false
          turned true is = absurd (cc)
          turned false is = refl

  takes_reported : takes_on by.fits j e ≡ takes by before e
  takes_reported =
      ap (λ (r : ℕ). is_idle e && (are_own r e.turned.sealed && (are_new j.marks (marks_in e.turned.sealed) && brings_on by.fits (stored_of j) e)))
      stands.replica
      ∙ ap (λ (t : Bool). is_idle e && (are_own by.replica e.turned.sealed && (t && brings_on by.fits (stored_of j) e))) (marks_reported by before j stands e)
      ∙ ap (λ (t : Bool). is_idle e && (are_own by.replica e.turned.sealed
      && (are_apart (marks_in (sealed_in (up_to before e))) && ((not (is_done e.turned.reason) || t) && alone_on j.store (carried_in e)))))
      (may_reported by before j stands e one_more (message_in e.event))
      ∙ ap (λ (t : Bool). is_idle e && (are_own by.replica e.turned.sealed
      && (are_apart (marks_in (sealed_in (up_to before e))) && ((not (is_done e.turned.reason) || may_be_done by before (message_in e.event)) && t))))
      (alone_reported by before j stands e (is_done e.turned.reason) (message_in e.event))

  -- the orders that are drawn after the entry
  drawn_after : Takes by before e → are_drawn (stored_after j e) (take e.turned.kept j.arrivals) e.turned.sealed ≡ draws by before e
  drawn_after t =
      let next = stores_next t in
      ap (λ (s : Parameters). are_drawn (record { setting = s; blocks = store_after j e }) (take e.turned.kept j.arrivals) e.turned.sealed)
      (setting_is j (carried_in e) ∙ stands.setting)
      ∙ ap (λ (ts : List Tx). are_drawn (record { setting = by.setting; blocks = store_after j e }) (take e.turned.kept ts) e.turned.sealed) stands.arrivals
      ∙ draws_reported one_more by before e (store_after j e) next.tied next.led

  -- The answer is the least rule that is broken.
  pub rule_reported : ((yes : takes by before e ≡ true) → Takes by before e) → rule_on by.fits j e ≡ broken_by by before e
  unfolding rule_on broken_by
  rule_reported second =
      ap (λ (t : Bool). first_false 1
      (t ∷ takes_on by.fits j e ∷ are_drawn (stored_after j e) (take e.turned.kept j.arrivals) e.turned.sealed ∷ rises_on j e ∷ votes_on j e ∷ []))
      (knows_reported by before j stands e)
      ∙ ap (λ (t : Bool). first_false 1
      (knows by before e ∷ t ∷ are_drawn (stored_after j e) (take e.turned.kept j.arrivals) e.turned.sealed ∷ rises_on j e ∷ votes_on j e ∷ []))
      takes_reported
      ∙ ap (λ (t : Bool). first_false 1
      (knows by before e ∷ takes by before e ∷ are_drawn (stored_after j e) (take e.turned.kept j.arrivals) e.turned.sealed ∷ t ∷ votes_on j e ∷ []))
      (rises_reported by before j stands e)
      ∙ further (takes by before e) refl
    where
      further : (t : Bool) → takes by before e ≡ t
          → first_false 1 (knows by before e ∷ t ∷ are_drawn (stored_after j e) (take e.turned.kept j.arrivals) e.turned.sealed
          ∷ rises by before e ∷ votes_on j e ∷ [])
          ≡ first_false 1 (knows by before e ∷ t ∷ draws by before e ∷ rises by before e ∷ votes by before e ∷ [])
      further false is = refl
      further true is =
          let t : Takes by before e = second is in
          ap (λ (d : Bool). first_false 1 (knows by before e ∷ true ∷ d ∷ rises by before e ∷ votes_on j e ∷ [])) (drawn_after t)
          ∙ ap (λ (v : Bool). first_false 1 (knows by before e ∷ true ∷ draws by before e ∷ rises by before e ∷ v ∷ []))
          (votes_reported by before j stands e kept t reach)
