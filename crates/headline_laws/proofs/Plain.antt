-- The journals of a record in the form to which the laws of agreement apply.
use Rattle.std.proofs.Common.{◌≡◌, ◌≢◌, ℕ, zero, suc, ◌<◌, ◌^◌, List, [], ◌∷◌, map, Bool, true, false, cond, Option, Some, None, refl, sym, ap, subst, ◌∙◌, inl, inr, arith}
use Rattle.std.specs.Prelude.{Contains}
use Rattle.std.specs.List.{filter_map}
use Rattle.std.proofs.lemmas.Bool.{cases_Bool, both_ways}
use Rattle.std.proofs.lemmas.List.Elements.{All-contains, Contains-append_left, Contains-append_cases}
use Rattle.seq_base.specs.declared.block.Block.{Block}
use Rattle.seq_base.specs.declared.block.Cert.{Cert}
use Rattle.seq_base.specs.declared.block.CertVote.{CertVote}
use Rattle.seq_base.specs.declared.digest.Digest.{Digest}
use Rattle.seq_base.specs.Blocks.{block_eq, block_eq_decides, first_digest}
use Rattle.seq_base.specs.Setting.{Parameters}
use Rattle.seq_base.specs.Spelling.{vote_spelling}
use Rattle.block_store.specs.Store.{block_digest}
use Rattle.quorum_cert.specs.Quorums.{IsGood}
use Rattle.wire_view.specs.declared.messages.MessageView.{MessageView}
use Rattle.wire_view.specs.declared.messages.MessageView.TheVariants.{NewView, Ask, Order, Propose, Vote, Fetch, Give}
use Rattle.agreement_laws.specs.Journals.{Named, Ballot, ballot, Entry as Plain}
use Rattle.agreement_laws.specs.JournalPrefixes.{block_of, sealed_in}
use Rattle.agreement_laws.specs.Lawful.{IsStored, MayBeDone as MayBeDonePlainly}
use Rattle.agreement_laws.specs.Records.{Record, IsHonest as IsPlainlyHonest, IsUnforged, NamesVoter, Carries, delivered, IsSoundRecord as IsPlainlySound}
use Rattle.agreement_laws.proofs.Lists.{in_any, Source, source, kept, none_inside, all_from, any_of_map, at_split}
use Rattle.node_core.specs.declared.entry.Entry.{Entry}
use Rattle.run_record.specs.declared.record.RunRecord.{RunRecord}
use Rattle.node_core.specs.Rows.{Check}
use Rattle.journal_rules.specs.Obeys.{scale_of}
use Rattle.journal_rules.specs.Rules.{MayBeDone}
use Rattle.journal_rules.proofs.AgreementPremises.{agrees_of}
use Rattle.node_core.specs.Delivered.{message_in}
use Rattle.journal_rules.specs.Shown.{named, shown, shown_message, ballot_in}
use Rattle.journal_laws.proofs.TurnTies.{vote_shown}
use Rattle.run_verdict.specs.Collided.{Received, received}
use Rattle.run_verdict.specs.Parts.{Part, part, parts_of, vote_part, cert_parts, block_parts, order_part}
use Rattle.run_verdict.specs.Shown.{IsHonest, IsReceived}
use Rattle.headline_laws.specs.Premises.{IsSound}
use Rattle.journal_rules.specs.Records.{journal_in}
use Rattle.headline_laws.specs.Records.{faulty_in}
use Rattle.headline_laws.proofs.Carried.{brings, shown_by, was_done, view_is_small}
use Rattle.headline_laws.proofs.Entries.{image_inside, in_flat_map, has_entry, delivers, was_sealed_by}

abbrev pub plain : RunRecord → Record
plain run = record { faulty = faulty_in run; journal = λ r. map shown (journal_in run r) }

pub plainly_honest : (run : RunRecord) (r : ℕ) → IsHonest run r → IsPlainlyHonest run.setting (plain run) r
plainly_honest run r honest = record { below = honest.below; honest = honest.correct }

pub truly_honest : (run : RunRecord) (r : ℕ) → IsPlainlyHonest run.setting (plain run) r → IsHonest run r
truly_honest run r honest = record { below = honest.below; correct = honest.honest }

module _ (fits : Check) (run : RunRecord) (sound : IsSound fits run) where
  abbrev s : Parameters
  s = run.setting

  -- a vote that was delivered, and whose seal fits, was sealed by its honest replica
  vote_sealed : (i : ℕ) (e : Entry) (m : MessageView) → IsHonest run i → Contains (journal_in run i) e → message_in e.event ≡ Some m
      → (r view : ℕ) (d : Digest) (seal : List ℕ) → Contains (parts_of m) (part r (vote_spelling r view d) seal) → IsHonest run r
      → fits r (vote_spelling r view d) seal ≡ true
      → view < 2 ^ 32 → Contains (sealed_in (map shown (journal_in run r))) (ballot view d)
  vote_sealed i e m receives inside is r view d seal among signs fit small =
      let has = was_sealed_by fits run sound.unforged i e m (part r (vote_spelling r view d) seal) receives inside is among signs fit in
      in_flat_map (λ (p : Plain). p.sealed) (map shown (journal_in run r)) (shown has.entry) (ballot view d)
      (image_inside shown (journal_in run r) has.entry has.inside)
      (kept ballot_in has.entry.turned.sealed (vote_spelling r view d) (ballot view d) has.sealed (vote_shown r view d small))

  module _ (i : ℕ) (e : Entry) (m : MessageView) (receives : IsHonest run i) (inside : Contains (journal_in run i) e) (is : message_in e.event ≡ Some m) where
    -- the same for the votes of a good certificate
    cert_sealed : (c : Cert) → IsGood fits s c → ((p : Part) → Contains (cert_parts c) p → Contains (parts_of m) p) → c.view < 2 ^ 32
        → (r : ℕ) (v : Ballot) → NamesVoter c r v → IsHonest run r → Contains (sealed_in (map shown (journal_in run r))) v
    cert_sealed c good within small r v (votes, same) signs = elim good [
      | inl first ↦ absurd (none_inside r (subst (λ (vs : List CertVote). Contains (map (λ (w : CertVote). w.replica) vs) r) first.votes votes))
      | inr quorum ↦
          let found = any_of_map (λ (w : CertVote). w.replica) c.votes r votes in
          let vote : CertVote = found.1 in
          let there : Contains c.votes vote = in_any (λ (w : CertVote). w.replica ≡ r) c.votes found in
          let own : vote.replica ≡ r = found.4 in
          subst (λ (b : Ballot). Contains (sealed_in (map shown (journal_in run r))) b) (sym same)
          (subst (λ (q : ℕ). Contains (sealed_in (map shown (journal_in run q))) (ballot c.view c.block)) own
          (vote_sealed i e m receives inside is vote.replica c.view c.block vote.seal
          (within (vote_part c vote) (image_inside (vote_part c) c.votes vote there))
          (subst (IsHonest run) (sym own) signs)
          (All-contains (λ w. fits w.replica (vote_spelling w.replica c.view c.block) w.seal ≡ true) c.votes vote quorum.fit there) small))
    ]

  -- an honest vote in a message that an honest replica accepted
  carried : (i : ℕ) (e : Entry) → IsHonest run i → Contains (journal_in run i) e → (before : List Entry)
      → ((d : Digest) (view : ℕ) → IsStored (map shown before) d view → view < 2 ^ 32)
      → (o : Option MessageView) → message_in e.event ≡ o → MayBeDone (scale_of fits run i) before o → MayBeDonePlainly s (map shown before) (shown_message o)
      → (r : ℕ) (v : Ballot) → IsHonest run r → Carries (shown_message o) r v → Contains (sealed_in (map shown (journal_in run r))) v
  carried i e receives inside before small None is done plainly r v signs carries = absurd carries
  carried i e receives inside before small (Some (NewView call)) is done plainly r v signs carries =
      cert_sealed i e (NewView call) receives inside is call.cert done.0 (λ p. Contains-append_left (cert_parts call.cert) _ p)
      (small call.cert.block call.cert.view plainly.1) r v carries signs
  carried i e receives inside before small (Some (Ask call)) is done plainly r v signs carries =
      cert_sealed i e (Ask call) receives inside is call.cert done.0 (λ p. Contains-append_left (cert_parts call.cert) _ p)
      (small call.cert.block call.cert.view plainly.1) r v carries signs
  carried i e receives inside before small (Some (Order sealed)) is done plainly r v signs carries = absurd carries
  carried i e receives inside before small (Some (Propose proposed)) is done plainly r v signs carries =
      let b : Block = proposed.block in
      cert_sealed i e (Propose proposed) receives inside is b.cert done.good
      (λ p within. Contains-append_left (block_parts b) _ p (Contains-append_left (cert_parts b.cert) (map order_part b.orders) p within))
      (small b.cert.block b.cert.view plainly.parent) r v carries signs
  carried i e receives inside before small (Some (Vote voted)) is done plainly r v signs (own, same) =
      let sealed : (q : ℕ) → voted.vote.replica ≡ q → IsHonest run q
      → Contains (sealed_in (map shown (journal_in run q))) (ballot voted.vote.view voted.vote.block) =
      λ q mine honest. subst (λ (w : ℕ). Contains (sealed_in (map shown (journal_in run w))) (ballot voted.vote.view voted.vote.block)) mine
      (vote_sealed i e (Vote voted) receives inside is voted.vote.replica voted.vote.view voted.vote.block voted.vote.seal
      (0, (omega arith), refl) (subst (IsHonest run) (sym mine) honest) done.1 (small voted.vote.block voted.vote.view plainly.1)) in
      subst (λ (b : Ballot). Contains (sealed_in (map shown (journal_in run r))) b) (sym same) (sealed r own signs)
  carried i e receives inside before small (Some (Fetch digest)) is done plainly r v signs carries = absurd carries
  carried i e receives inside before small (Some (Give block)) is done plainly r v signs carries =
      cert_sealed i e (Give block) receives inside is block.cert done.good (λ p. Contains-append_left (cert_parts block.cert) (map order_part block.orders) p)
      (small block.cert.block block.cert.view plainly.parent) r v carries signs

  plainly_unforged : IsUnforged s (plain run)
  plainly_unforged i p r v receives inside done signs carries =
      let honest = truly_honest run i receives in
      let lawful = (sound.lawful.obeys i honest).journal in
      let real = shown_by (journal_in run i) p inside in
      let split = real.split in
      let was = was_done (scale_of fits run i) (journal_in run i) lawful
      (sound.lawful.reported i honest) split.before real.entry split.after split.is (ap (λ (q : Plain). q.is_done) real.same ∙ done) in
      carried i real.entry honest (subst (λ (es : List Entry). Contains es real.entry) (sym split.is) (at_split split.before real.entry split.after))
      split.before (view_is_small (scale_of fits run i) (journal_in run i) lawful (sound.lawful.reported i honest) split.before
      (real.entry ∷ split.after) split.is)
      (message_in real.entry.event) refl was.done was.plainly r v (truly_honest run r signs)
      (subst (λ (q : Plain). Carries q.message r v) (sym real.same) carries)

  -- the block that was delivered
  record WasReceived (b : Named) : Type 0 where
    block : Block
    same : named block ≡ b
    place : Received
    is : place.block ≡ block
    holds : IsReceived run place

  delivered_by : (n : ℕ) (b : Named) → Contains (delivered n (plain run)) b
      → (r : ℕ) × (r < n) × (faulty_in run r ≡ false) × Source (λ (p : Plain). block_of p.message) (map shown (journal_in run r)) b
  delivered_by zero b inside = absurd (none_inside b inside)
  delivered_by (suc n) b inside =
      elim (Contains-append_cases (delivered n (plain run))
      (cond (faulty_in run n) [] (filter_map (λ (p : Plain). block_of p.message) (map shown (journal_in run n)))) b inside) [
        | inl before ↦ let rest = delivered_by n b before in (rest.0, (omega (arith, rest.1)), rest.2, rest.3)
        | inr own ↦ by (faulty_in run n) refl own
      ]
    where
      by : (t : Bool) → faulty_in run n ≡ t → Contains (cond t [] (filter_map (λ (p : Plain). block_of p.message) (map shown (journal_in run n)))) b
          → (r : ℕ) × (r < suc n) × (faulty_in run r ≡ false) × Source (λ (p : Plain). block_of p.message) (map shown (journal_in run r)) b
      by true is own = absurd (none_inside b own)
      by false is own = (n, (omega arith), is, source (λ (p : Plain). block_of p.message) (map shown (journal_in run n)) b own)

  was_received : (b : Named) → Contains (delivered s.n (plain run)) b → WasReceived b
  was_received b inside =
      let from = delivered_by s.n b inside in
      let r : ℕ = from.0 in
      let honest : IsHonest run r = record { below = from.1; correct = from.2 } in
      let real = shown_by (journal_in run r) from.3.item from.3.inside in
      let found = brings (message_in real.entry.event) b (ap (λ (p : Plain). block_of p.message) real.same ∙ from.3.gives) in
      let split = real.split in
      let entry = has_entry run r real.entry honest
      (subst (λ (es : List Entry). Contains es real.entry) (sym split.is) (at_split split.before real.entry split.after)) in
      record {
        block = found.block;
        same = found.same;
        place = received r entry.0 found.block;
        is = refl;
        holds =
            record { entry = real.entry; message = found.message; has = entry.1; delivers = delivers real.entry found.message found.is; brings = found.brings };
      }

  one_block : (a b : Named) → Contains (delivered s.n (plain run)) a → Contains (delivered s.n (plain run)) b → a.digest ≡ b.digest → a ≡ b
  one_block a b one other same =
      let p = was_received a one in
      let q = was_received b other in
      elim (cases_Bool (block_eq p.block q.block)) [
        | inl so ↦ sym p.same ∙ ap named ((block_eq_decides p.block q.block).0 so) ∙ q.same
        | inr not_so ↦ absurd (sound.uncollided (inl (
          p.place,
          q.place,
          record {
            one = p.holds;
            other = q.holds;
            different = λ equal. both_ways (block_eq p.block q.block) not_so ((block_eq_decides p.block q.block).1 (sym p.is ∙ equal ∙ q.is));
            same_digest = ap block_digest p.is ∙ ap (λ (n : Named). n.digest) p.same ∙ same
                ∙ sym (ap (λ (n : Named). n.digest) q.same) ∙ sym (ap block_digest q.is);
          },
        )))
      ]

  not_first : (b : Named) → Contains (delivered s.n (plain run)) b → b.digest ≢ first_digest
  not_first b inside = λ zero_one.
      (let p = was_received b inside in
      sound.uncollided (inr (
        p.place,
        record {
          received = p.holds;
          zero = ap block_digest p.is ∙ ap (λ (n : Named). n.digest) p.same ∙ zero_one;
        },
      )))

  pub plainly_sound : IsPlainlySound s (plain run)
  plainly_sound = record {
    few_faulty = sound.lawful.few_faulty;
    lawful = λ r honest. agrees_of (scale_of fits run r) (journal_in run r) (sound.lawful.obeys r (truly_honest run r honest)).journal;
    unforged = plainly_unforged;
    uncollided = record { one_block = one_block; not_first = all_from (λ b. b.digest ≢ first_digest) (delivered s.n (plain run)) not_first };
  }
