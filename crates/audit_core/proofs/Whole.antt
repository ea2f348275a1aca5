-- The state of one pass before the first entry, with one more entry after a lawful prefix, and at the end of a journal.
use Rattle.std.proofs.Common.{◌≡◌, ℕ, ◌≤◌, List, [], map, Bool, true, false, Option, Some, None, Result, Ok, Err, refl, ap, subst, ◌∙◌, inl, arith}
use Rattle.std.specs.Prelude.{◌↔◌, IfOk, if◌then◌else◌}
use Rattle.std.specs.Cmp.Lexicographic.{pointwise}
use Rattle.seq_base.specs.Tx.{tx_eq}
use Rattle.std.proofs.lemmas.List.Elements.{All-nil}
use Rattle.std.proofs.lemmas.Option.{none-some, same_Some}
use Rattle.std.specs.Result.{result_ok}
use Rattle.seq_base.specs.declared.tx.Tx.{Tx}
use Rattle.seq_base.specs.declared.block.Block.{Block}
use Rattle.seq_base.specs.declared.block.Cert.{Cert}
use Rattle.seq_base.specs.declared.digest.Digest.{Digest}
use Rattle.seq_base.specs.Setting.{Parameters}
use Rattle.seq_base.specs.Writable.{IsWritable, IsWritableBlock}
use Rattle.block_store.specs.Chains.{extends, Extends}
use Rattle.block_store.specs.Store.{is_stored}
use Rattle.chain_state.specs.Standings.{finals}
use Rattle.chain_store.specs.Chains.{chain_state_of}
use Rattle.chain_store.proofs.ChainStates.{led_at_first}
use Rattle.hotstuff_core.specs.Rules.{view_at}
use Rattle.quorum_cert.specs.Certificates.{is_good}
use Rattle.quorum_cert.specs.Quorums.{IsGood}
use Rattle.wire_view.specs.declared.fault.WireFault.{WireFault}
use Rattle.wire_view.specs.declared.messages.MessageView.{MessageView}
use Rattle.wire_view.specs.declared.messages.MessageView.TheVariants.{NewView, Ask, Order, Propose, Vote, Fetch, Give}
use Rattle.wire_view.specs.Messages.{read_of, message_of}
use Rattle.agreement_laws.specs.JournalPrefixes.{stored, commit}
use Rattle.agreement_laws.proofs.Lists.{none_inside}
use Rattle.node_core.specs.declared.event.Event.{Event}
use Rattle.node_core.specs.declared.event.Event.TheVariants.{Arrived, Deliver, Tick}
use Rattle.node_core.specs.declared.entry.Entry.{Entry}
use Rattle.node_core.specs.Delivered.{message_in}
use Rattle.node_core.specs.Readable.{IsReadable}
use Rattle.journal_rules.specs.Rules.{Scale, KeepsAll, up_to, commit_view_of, finals_of}
use Rattle.journal_rules.specs.Shown.{is_done, shown}
use Rattle.journal_rules.specs.Tests.{broken_by}
use Rattle.journal_rules.proofs.Blocks.{block_of, stored_by}
use Rattle.journal_rules.proofs.ChainTies.{StandsForOneMore, state_stands}
use Rattle.journal_rules.proofs.Ends.{each_none, each_more}
use Rattle.journal_rules.proofs.GrownStores.{tied_at_first}
use Rattle.journal_rules.proofs.FirstBroken.{Says, says}
use Rattle.journal_rules.proofs.Kept.{kept_of}
use Rattle.journal_rules.proofs.Law.{shows}
use Rattle.journal_rules.proofs.Stores.{at_view}
use Rattle.audit_core.specs.Audited.{Audited, nothing_audited, stored_of}
use Rattle.audit_core.specs.Judging.{rule_on, next_on}
use Rattle.audit_core.specs.Stands.{HasAudited}
use Rattle.audit_core.proofs.NextState.{alike}
use Rattle.audit_core.proofs.Next.{stands_next}
use Rattle.audit_core.proofs.Pass.{rule_reported}
use Rattle.audit_core.proofs.NextPrefix.{Laws}

-- ---- the start

pub audited_first : (by : Scale) → HasAudited by [] (nothing_audited by.setting by.replica by.arrivals)
audited_first by = record {
  lawful = each_none (KeepsAll by);
  stands = record {
    setting = refl;
    replica = refl;
    arrivals = refl;
    kept = refl;
    begins = refl;
    ties = record {
      high = 0;
      safe_tied = record { stores = tied_at_first; at_lock = refl; at_commit = refl; low = omega arith };
      led = record { led = led_at_first; fresh = λ d b found. absurd (none-some b found) };
      votes_tied = record { same = λ d b at. alike []; none = λ d at. refl; elsewhere = λ d v out. refl };
    };
    voted = record { below = All-nil (λ v. v.view ≤ 0); last = inl refl };
    rise = λ i j d less inside. absurd (omega (arith, inside));
    apart = λ i j d less inside. absurd (omega (arith, inside));
    marks = λ m. ((λ is. absurd (cc)), (λ has. absurd (none_inside m has)));
  };
}

pub begins : (by : Scale) (s : Parameters) (replica : ℕ) (arrivals : List Tx) → by.setting ≡ s → by.replica ≡ replica
    → by.arrivals ≡ arrivals → HasAudited by [] (nothing_audited s replica arrivals)
begins by s replica arrivals setting own list =
    subst (λ (p : Parameters). HasAudited by [] (nothing_audited p replica arrivals)) setting
    (subst (λ (r : ℕ). HasAudited by [] (nothing_audited by.setting r arrivals)) own
    (subst (λ (ts : List Tx). HasAudited by [] (nothing_audited by.setting by.replica ts)) list (audited_first by)))

-- ---- one entry more

-- what an entry stores can be written
written : (done : Bool) (m : Option MessageView) (b : Block) → (if done then block_of m else None) ≡ Some b
    → ((x : MessageView) → m ≡ Some x → IsWritable (message_of x)) → IsWritableBlock b
written false m b is each = absurd (none-some b is)
written true None b is each = absurd (none-some b is)
written true (Some (NewView call)) b is each = absurd (none-some b is)
written true (Some (Ask call)) b is each = absurd (none-some b is)
written true (Some (Order sealed)) b is each = absurd (none-some b is)
written true (Some (Propose proposed)) b is each = subst IsWritableBlock (same_Some proposed.block b is) (each (Propose proposed) refl).1
written true (Some (Vote voted)) b is each = absurd (none-some b is)
written true (Some (Fetch block)) b is each = absurd (none-some b is)
written true (Some (Give block)) b is each = subst IsWritableBlock (same_Some block b is) (each (Give block) refl)

readable : (event : Event) → IsReadable event → (x : MessageView) → message_in event ≡ Some x → IsWritable (message_of x)
readable (Arrived list) can x is = absurd (none-some x is)
readable (Deliver from bytes) can x is = can x (by (read_of bytes) is)
  where
    by : (r : Result MessageView WireFault) → result_ok r ≡ Some x → r ≡ Ok x
    by (Ok m) same = ap (λ (y : MessageView). Ok y) (same_Some m x same)
    by (Err fault) same = absurd (none-some x same)
readable (Tick floor) can x is = absurd (none-some x is)

module _ (laws : Laws) (one_more : StandsForOneMore)
    (good : (fits : ℕ → List ℕ → List ℕ → Bool) (s : Parameters) (c : Cert) → (is_good fits s c ≡ true) ↔ IsGood fits s c)
    (by : Scale) (before : List Entry) (j : Audited) (audited : HasAudited by before j) (e : Entry) (can : IsReadable e.event) where
  shape : (b : Block) → stored_by e ≡ Some b → IsWritableBlock b
  shape b is = written (is_done e.turned.reason) (message_in e.event) b is (readable e.event can)

  module _ (reach : (child ancestor : Digest) → is_stored j.store child ≡ true → Extends j.store child ancestor → extends j.store child ancestor ≡ true) where
    -- The answer is the least rule that is broken.
    pub reported : rule_on by.fits j e ≡ broken_by by before e
    reported = rule_reported laws one_more by before j audited.stands e (kept_of by before audited.lawful) shape reach
        (shows good by before e audited.lawful).two.0

  -- If none is broken, the state belongs to the prefix that ends with the entry.
  pub audited_next : broken_by by before e ≡ None → HasAudited by (up_to before e) (next_on j e)
  audited_next none =
      let keeps : KeepsAll by before e = subst (Says by before e) none (says by before e (shows good by before e audited.lawful)) in
      record {
        lawful = each_more (KeepsAll by) before e audited.lawful keeps;
        stands = stands_next laws by before j audited.stands e audited.lawful keeps shape;
      }

-- ---- the end

module _ (by : Scale) (before : List Entry) (j : Audited) (audited : HasAudited by before j) where
  pub ends_at : view_at j.store j.safety.committed ≡ commit_view_of by.setting before
  ends_at = at_view j.store j.safety.committed (commit by.setting (map shown before)) audited.stands.ties.safe_tied.at_commit

  pub finals_are : StandsForOneMore → finals (chain_state_of (stored_of j) j.safety.committed) ≡ finals_of by.setting before
  finals_are one_more =
      ap (λ (s : Parameters). finals (chain_state_of (record { setting = s; blocks = j.store }) j.safety.committed)) audited.stands.setting
      ∙ ap finals (state_stands one_more by.setting j.store (stored (map shown before)) audited.stands.ties.safe_tied.stores
      audited.stands.ties.led j.safety.committed (commit by.setting (map shown before))
      audited.stands.ties.safe_tied.at_commit)

  pub finals_reported : StandsForOneMore → (batches : List (List Tx)) {E : Type 0} (r : Result Bool E)
      → IfOk r (λ same. same ≡ pointwise (pointwise tx_eq) batches (finals (chain_state_of (stored_of j) j.safety.committed)))
      → IfOk r (λ same. same ≡ pointwise (pointwise tx_eq) batches (finals_of by.setting before))
  finals_reported one_more batches (Ok same) is = is ∙ ap (pointwise (pointwise tx_eq) batches) (finals_are one_more)
  finals_reported one_more batches (Err fault) is = tt
