-- The state of one pass after an entry that keeps the rules belongs to the prefix that ends with it.
use Rattle.std.proofs.Common.{◌≡◌, ℕ, ◌+◌, ◌<◌, List, [], ◌∷◌, ◌++◌, length, map, take, Bool, true, false, Option, Some, None, refl, sym, ap, subst, ◌∙◌, append_assoc}
use Rattle.std.specs.Prelude.{Contains, ◌↔◌, if◌then◌else◌}
use Rattle.std.specs.List.{AllPairs}
use Rattle.std.specs.Option.{option_map}
use Rattle.std.proofs.lemmas.List.{append-nil, length-append, map-append}
use Rattle.seq_base.specs.declared.tx.Tx.{Tx}
use Rattle.seq_base.specs.declared.block.Block.{Block}
use Rattle.seq_base.specs.Setting.{Parameters}
use Rattle.seq_base.specs.Writable.{IsWritableBlock}
use Rattle.block_store.specs.Store.{block_digest, clashes}
use Rattle.wire_view.specs.declared.messages.MessageView.{MessageView}
use Rattle.wire_view.specs.declared.messages.MessageView.TheVariants.{NewView, Ask, Order, Propose, Vote, Fetch, Give}
use Rattle.agreement_laws.specs.Journals.{Ballot, Entry as Plain}
use Rattle.agreement_laws.specs.JournalPrefixes.{sealed_in as ballots_in}
use Rattle.agreement_laws.specs.Lawful.{KeepsVotingRule as Agrees}
use Rattle.node_core.specs.declared.entry.Entry.{Entry}
use Rattle.node_core.specs.Delivered.{message_in}
use Rattle.journal_rules.specs.JournalPrefixes.{arrived_by, arrived_in}
use Rattle.journal_rules.specs.Rules.{Scale, KeepsAll, IsLawful, up_to, ballots_by, lock_in}
use Rattle.journal_rules.specs.Sealed.{Mark, marks_in, sealed_in}
use Rattle.journal_rules.specs.Shown.{is_done, named, shown, shown_message}
use Rattle.journal_rules.proofs.AgreementPremises.{agrees_of}
use Rattle.journal_rules.proofs.Alone.{not_clashing_when}
use Rattle.journal_rules.proofs.Blocks.{block_of, stored_by}
use Rattle.journal_rules.proofs.Ends.{each_more}
use Rattle.audit_core.specs.declared.carried.Carried.{Carried}
use Rattle.audit_core.specs.declared.carried.Carried.TheVariants as carried
use Rattle.audit_core.specs.Bringing.{add_voter, carried_if, carried_in, counted, seen_if, taken}
use Rattle.audit_core.specs.Audited.{Audited}
use Rattle.audit_core.specs.Judging.{next_on}
use Rattle.audit_core.specs.Marking.{marked}
use Rattle.audit_core.specs.Sets.{has_mark, with_mark, voters_of}
use Rattle.audit_core.specs.Stands.{IsLast, Ties, Stands}
use Rattle.audit_core.specs.Voting.{rises_from, last_view}
use Rattle.audit_core.proofs.EntryTests.{arrived_more, ballots_more, marks_more}
use Rattle.audit_core.proofs.MarkSets.{one_voter_more}
use Rattle.audit_core.proofs.Pass.{store_after, setting_is, named_by}
use Rattle.audit_core.proofs.AscendingMarks.{first_rises, rises_show, last_more, one_mark}
use Rattle.audit_core.proofs.NextPrefix.{Laws, ties_still, ties_cert, ties_block, ties_vote}

replica_is : (j : Audited) (b : Carried) → (taken b j).replica ≡ j.replica
replica_is j carried.Nothing = refl
replica_is j (carried.Cert view block) = refl
replica_is j (carried.Block digest block proposed) = refl
replica_is j (carried.Vote replica view block) = refl

arrivals_are : (j : Audited) (b : Carried) → (taken b j).arrivals ≡ j.arrivals
arrivals_are j carried.Nothing = refl
arrivals_are j (carried.Cert view block) = refl
arrivals_are j (carried.Block digest block proposed) = refl
arrivals_are j (carried.Vote replica view block) = refl

-- ---- lists that are extended

last_all : (lock voted : ℕ) (votes new : List Ballot) → IsLast voted votes → rises_from lock voted new ≡ true → IsLast (last_view voted new) (votes ++ new)
last_all lock voted votes [] is rises = subst (IsLast voted) (sym (append-nil votes)) is
last_all lock voted votes (v ∷ new) is rises =
    let parts = first_rises lock voted v new rises in
    subst (IsLast (last_view v.view new)) (append_assoc votes (v ∷ []) new)
    (last_all lock v.view (votes ++ v ∷ []) new (last_more voted votes v is parts.0) parts.1)

marks_all : (met : List (ℕ × ℕ)) (marks new : List Mark) → ((m : Mark) → (has_mark met m ≡ true) ↔ Contains marks m) → (m : Mark)
    → (has_mark (marked met new) m ≡ true) ↔ Contains (marks ++ new) m
marks_all met marks [] same m = (
  (λ has. subst (λ (ms : List Mark). Contains ms m) (sym (append-nil marks)) ((same m).0 has)),
  (λ has. (same m).1 (subst (λ (ms : List Mark). Contains ms m) (append-nil marks) has)),
)
marks_all met marks (n ∷ new) same m =
    let rest = marks_all (with_mark n met) (marks ++ n ∷ []) new (one_mark met marks n same) m in (
      (λ has. subst (λ (ms : List Mark). Contains ms m) (append_assoc marks (n ∷ []) new) (rest.0 has)),
      (λ has. rest.1 (subst (λ (ms : List Mark). Contains ms m) (sym (append_assoc marks (n ∷ []) new)) has)),
    )

-- ---- the entry

module _ (laws : Laws) (by : Scale) (before : List Entry) (j : Audited) (stands : Stands by before j) where
  ties_on : (done : Bool) (m : Option MessageView) (votes : List Ballot)
      → Agrees by.setting (map shown before ++ record { message = shown_message m; is_done = done; sealed = votes } ∷ [])
      → ((b : Block) → (if done then block_of m else None) ≡ Some b → IsWritableBlock b × (clashes j.store (block_digest b) b ≡ false))
      → Ties by.setting (map shown before ++ record { message = shown_message m; is_done = done; sealed = votes } ∷ [])
      (taken (carried_if done m) j).store (taken (carried_if done m) j).safety (voters_of (taken (carried_if done m) j).voters)
  ties_on false m votes agrees takes =
      ties_still laws by.setting (map shown before) j.store j.safety (voters_of j.voters) stands.ties _ agrees refl refl (λ v d. refl)
  ties_on true None votes agrees takes =
      ties_still laws by.setting (map shown before) j.store j.safety (voters_of j.voters) stands.ties _ agrees refl refl (λ v d. refl)
  ties_on true (Some (NewView call)) votes agrees takes =
      ties_cert laws by.setting (map shown before) j.store j.safety (voters_of j.voters) stands.ties _ agrees call.cert.block call.cert.view
      (agrees.done (map shown before) _ [] refl refl).1 refl refl (λ v d. refl)
  ties_on true (Some (Ask call)) votes agrees takes =
      ties_cert laws by.setting (map shown before) j.store j.safety (voters_of j.voters) stands.ties _ agrees call.cert.block call.cert.view
      (agrees.done (map shown before) _ [] refl refl).1 refl refl (λ v d. refl)
  ties_on true (Some (Order sealed)) votes agrees takes =
      ties_still laws by.setting (map shown before) j.store j.safety (voters_of j.voters) stands.ties _ agrees refl refl (λ v d. refl)
  ties_on true (Some (Propose proposed)) votes agrees takes =
      let t = takes proposed.block refl in
      ties_block laws by.setting (map shown before) j.store j.safety (voters_of j.voters) stands.ties _ agrees proposed.block t.0 t.1
      (agrees.done (map shown before) _ [] refl refl) refl refl (λ v d. refl)
  ties_on true (Some (Vote voted)) votes agrees takes =
      subst (λ (p : Parameters). Ties by.setting
      (map shown before ++ record { message = shown_message (Some (Vote voted)); is_done = true; sealed = votes } ∷ []) j.store
      (seen_if p (add_voter voted.vote.replica (voters_of j.voters voted.vote.block)) j.store voted.vote.view voted.vote.block j.safety)
      (voters_of (counted voted.vote.replica voted.vote.block j.voters))) (sym stands.setting)
      (subst (Ties by.setting (map shown before ++ record { message = shown_message (Some (Vote voted)); is_done = true; sealed = votes } ∷ []) j.store
      (seen_if by.setting (add_voter voted.vote.replica (voters_of j.voters voted.vote.block)) j.store voted.vote.view voted.vote.block j.safety))
      (one_voter_more j.voters voted.vote.replica voted.vote.block)
      (ties_vote laws by.setting (map shown before) j.store j.safety (voters_of j.voters) stands.ties voted.vote.replica voted.vote.view
      voted.vote.block votes agrees (agrees.done (map shown before) _ [] refl refl).1))
  ties_on true (Some (Fetch block)) votes agrees takes =
      ties_still laws by.setting (map shown before) j.store j.safety (voters_of j.voters) stands.ties _ agrees refl refl (λ v d. refl)
  ties_on true (Some (Give block)) votes agrees takes =
      let t = takes block refl in
      ties_block laws by.setting (map shown before) j.store j.safety (voters_of j.voters) stands.ties _ agrees block t.0 t.1
      (agrees.done (map shown before) _ [] refl refl) refl refl (λ v d. refl)

  module _ (e : Entry) (lawful : IsLawful by before) (keeps : KeepsAll by before e) (shape : (b : Block) → stored_by e ≡ Some b → IsWritableBlock b) where
    agrees : Agrees by.setting (map shown before ++ shown e ∷ [])
    agrees = subst (Agrees by.setting) (map-append shown before (e ∷ [])) (agrees_of by (before ++ e ∷ []) (each_more (KeepsAll by) before e lawful keeps))

    takes_clean : (b : Block) → stored_by e ≡ Some b → IsWritableBlock b × (clashes j.store (block_digest b) b ≡ false)
    takes_clean b is = (
      shape b is,
      not_clashing_when j.store before stands.ties.safe_tied.stores b
          ((keeps 2).alone _ (sym (named_by (is_done e.turned.reason) (message_in e.event)) ∙ ap (option_map named) is)),
    )

    ties_next : Ties by.setting (map shown (up_to before e)) (store_after j e) (next_on j e).safety (voters_of (next_on j e).voters)
    ties_next =
        let t = ties_on (is_done e.turned.reason) (message_in e.event) (ballots_by e) agrees takes_clean in
        subst (λ (prefix : List Plain). Ties by.setting prefix (store_after j e) (next_on j e).safety (voters_of (next_on j e).voters))
        (sym (map-append shown before (e ∷ []))) (record {
          high = t.high;
          safe_tied = record { stores = t.safe_tied.stores; at_lock = t.safe_tied.at_lock; at_commit = t.safe_tied.at_commit; low = t.safe_tied.low };
          led = t.led;
          votes_tied = t.votes_tied;
        })

    -- It belongs to the prefix that ends with the entry.
    pub stands_next : Stands by (up_to before e) (next_on j e)
    stands_next =
        let prefix : List Tx = arrived_in before in
        let list : List Tx = arrived_by e.event in
        let count : length (arrived_in (up_to before e)) ≡ length prefix + length list =
        ap (λ (ts : List Tx). length ts) (arrived_more by before j stands e) ∙ length-append prefix list in
        let rises = (rises_show (lock_in by.setting before).view j.safety.voted (ballots_in (map shown before)) (ballots_by e) stands.voted stands.rise).1 (
          subst (λ (vs : List Ballot). AllPairs (λ earlier later. earlier.view < later.view) vs) (ballots_more by before j stands e) (keeps 4).rise,
          (keeps 4).above_lock,
        ) in
        record {
          setting = setting_is j (carried_in e) ∙ stands.setting;
          replica = replica_is j (carried_in e) ∙ stands.replica;
          arrivals = arrivals_are j (carried_in e) ∙ stands.arrivals;
          kept = ap (λ (k : ℕ). k + length list) stands.kept ∙ sym count;
          begins = (keeps 1).first ∙ ap (λ (k : ℕ). take k by.arrivals) (keeps 1).all;
          ties = ties_next;
          voted = subst (IsLast (last_view j.safety.voted (ballots_by e))) (sym (ballots_more by before j stands e))
              (last_all (lock_in by.setting before).view j.safety.voted (ballots_in (map shown before)) (ballots_by e) stands.voted rises);
          rise = (keeps 4).rise;
          apart = (keeps 2).once;
          marks = λ m. subst (λ (ms : List Mark). (has_mark (marked j.marks (marks_in e.turned.sealed)) m ≡ true) ↔ Contains ms m)
              (sym (marks_more by before j stands e))
              (marks_all j.marks (marks_in (sealed_in before)) (marks_in e.turned.sealed) stands.marks m);
        }
