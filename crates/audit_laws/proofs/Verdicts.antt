-- The verdict on the bare record is that on the record.
use Rattle.std.proofs.Common.{◌≡◌, ℕ, zero, suc, ◌+◌, ◌<◌, ◌≤◌, Bool, true, false, cond, not, ◌&&◌, ◌||◌, List, [], ◌∷◌, ◌++◌, length, get_or, Option, Some, None, refl, sym, ap, subst, ◌∙◌, arith, slice_get}
use Rattle.std.specs.List.{enumerate_from, filter_map, cons_option, flat_map, list_any, range_with_len}
use Rattle.std.specs.Option.{option_or, option_map_or, option_map}
use Rattle.std.proofs.lemmas.Option.{slice_get-get_or, slice_get-map}
use Rattle.std.proofs.Math.ListN.{get_or-map}
use Rattle.std.proofs.lemmas.List.FromFn.{length-map-range_with_len}
use Rattle.seq_base.specs.declared.tx.Tx.{Tx}
use Rattle.count_set.specs.Sets.{is_among}
use Rattle.node_core.specs.declared.entry.Entry.{Entry}
use Rattle.run_record.specs.declared.record.Journal.{Journal}
use Rattle.run_record.specs.declared.record.RunRecord.{RunRecord}
use Rattle.run_record.specs.declared.verdict.CollidedAt.{CollidedAt}
use Rattle.run_record.specs.declared.verdict.ForgedAt.{ForgedAt}
use Rattle.run_record.specs.Done.{due_of, hold_all}
use Rattle.node_core.specs.Rows.{Check}
use Rattle.run_verdict.specs.Collided.{Received, received_at, received_from, received_in, all_received, collision_from, first_collision_of}
use Rattle.run_verdict.specs.Delivered.{honest_in, delivered}
use Rattle.run_verdict.specs.First.{first_of, counted}
use Rattle.run_verdict.specs.Forged.{is_forged, forged_part, forged_from, parts_in, forged_in_entry, forged_in_journal, first_forged_of}
use Rattle.run_verdict.specs.Parts.{Part}
use Rattle.run_verdict.specs.Sealed.{has_sealed, is_sealed_in, was_sealed}
use Rattle.run_verdict.specs.Verdicts.{lists_all, all_list, is_record_done, audited, verdict_of}
use Rattle.trace_form.specs.declared.account.Account.{Account}
use Rattle.trace_form.specs.declared.opening.Span.{Span}
use Rattle.trace_form.specs.Contents.{bare, bared, without_sends}
use Rattle.audit_laws.proofs.Alike.{first_of_same}
use Rattle.audit_laws.proofs.Honest.{shown_honest}
use Rattle.audit_laws.proofs.Items.{is_over, same_over}
use Rattle.audit_laws.proofs.Sendless.{reported}
use Rattle.audit_laws.proofs.Reported.{accounts, account_is}

-- ---- what a journal without sends shows

sealed_reported : (statement : List ℕ) (es : List Entry) → list_any (has_sealed statement) (reported es) ≡ list_any (has_sealed statement) es
sealed_reported statement [] = refl
sealed_reported statement (e ∷ es) = ap (λ (b : Bool). has_sealed statement e || b) (sealed_reported statement es)

sealed_through : (statement : List ℕ) (js : List Journal) (r : ℕ)
    → is_sealed_in statement (slice_get js r) ≡ list_any (has_sealed statement) (get_or js r bare.journal).entries
sealed_through statement [] r = refl
sealed_through statement (j ∷ js) zero = refl
sealed_through statement (j ∷ js) (suc r) = sealed_through statement js r

received_reported : (r n : ℕ) (es : List Entry) → filter_map (received_at r) (enumerate_from n (reported es)) ≡ filter_map (received_at r) (enumerate_from n es)
received_reported r n [] = refl
received_reported r n (e ∷ es) = ap (cons_option (received_at r (n, e))) (received_reported r (n + 1) es)

and_where : (a b c : Bool) → (a ≡ true → b ≡ c) → (a && b) ≡ (a && c)
and_where true b c same = same refl
and_where false b c same = refl

module _ (run : RunRecord) (span : Span) where
  abbrev other : RunRecord
  other = (bared run span).run

  journal_at : (r : ℕ) → honest_in run r ≡ true
      → get_or other.journals r bare.journal ≡ record { entries = reported (get_or run.journals r bare.journal).entries }
  journal_at r honest =
      let is = shown_honest run r honest in
      get_or-map (λ (x : Account). x.journal) (accounts run) r bare ∙ ap (λ (x : Account). x.journal) (account_is run r is.below is.correct span)

  -- ---- forged seals

  sealed_alike : (signer : ℕ) (statement : List ℕ) → honest_in run signer ≡ true
      → was_sealed other.journals signer statement ≡ was_sealed run.journals signer statement
  sealed_alike signer statement honest =
      sealed_through statement other.journals signer
      ∙ ap (λ (j : Journal). list_any (has_sealed statement) j.entries) (journal_at signer honest)
      ∙ sealed_reported statement (get_or run.journals signer bare.journal).entries
      ∙ sym (sealed_through statement run.journals signer)

  module _ (check : Check) where
    forged_alike : (p : Part) → is_forged check other p ≡ is_forged check run p
    forged_alike p =
        ap (λ (b : Bool). b && check p.signer p.statement p.seal)
        (and_where (honest_in run p.signer) (not (was_sealed other.journals p.signer p.statement)) (not (was_sealed run.journals p.signer p.statement))
        (λ honest. ap not (sealed_alike p.signer p.statement honest)))

    part_alike : (receiver entry : ℕ) (p : ℕ × Part) → forged_part check other receiver entry p ≡ forged_part check run receiver entry p
    part_alike receiver entry p =
        ap (λ (b : Bool). cond b (Some (record { receiver = receiver; entry = entry; part = p.0; signer = p.1.signer })) None) (forged_alike p.1)

    entry_alike : (receiver n : ℕ) (e : Entry) → forged_in_entry check other receiver (n, without_sends e) ≡ forged_in_entry check run receiver (n, e)
    unfolding forged_in_entry forged_from
    entry_alike receiver n e =
        first_of_same (forged_part check other receiver (counted n)) (forged_part check run receiver (counted n))
        (part_alike receiver (counted n)) (enumerate_from 0 (parts_in (delivered e)))

    entries_alike : (receiver n : ℕ) (es : List Entry)
        → first_of (forged_in_entry check other receiver) (enumerate_from n (reported es)) ≡ first_of (forged_in_entry check run receiver) (enumerate_from n es)
    entries_alike receiver n [] = refl
    entries_alike receiver n (e ∷ es) =
        ap (λ (o : Option ForgedAt). option_or o (first_of (forged_in_entry check other receiver) (enumerate_from (n + 1) (reported es))))
        (entry_alike receiver n e)
        ∙ ap (option_or (forged_in_entry check run receiver (n, e))) (entries_alike receiver (n + 1) es)

    forged_add : RunRecord → ℕ → Journal → Option ForgedAt → Option ForgedAt
    forged_add x r j rest = option_or (forged_in_journal check x (r, j)) rest

    forged_adds : (k r : ℕ) → honest_in run k ≡ true → forged_in_journal check other (r, get_or other.journals k bare.journal)
        ≡ forged_in_journal check run (r, get_or run.journals k bare.journal)
    unfolding forged_in_journal
    forged_adds k r honest =
        ap (λ (j : Journal). forged_in_journal check other (r, j)) (journal_at k honest) ∙ entries_alike r 0 (get_or run.journals k bare.journal).entries

    first_forged_alike : first_forged_of check other ≡ first_forged_of check run
    unfolding first_forged_of forged_in_journal forged_add
    first_forged_alike =
        is_over (honest_in run) (first_of (forged_in_journal check other)) (forged_add other) (λ p ps. refl) 0 other.journals
        ∙ same_over (honest_in run) (forged_add other) (forged_add run) None bare.journal (λ r rest. refl) (λ r rest. refl) 0 other.journals run.journals
        (λ k honest rest. let here : 0 + k ≡ k = omega arith in
        ap (λ (o : Option ForgedAt). option_or o rest) (forged_adds k (0 + k) (subst (λ (r : ℕ). honest_in run r ≡ true) here honest)))
        ∙ sym (is_over (honest_in run) (first_of (forged_in_journal check run)) (forged_add run) (λ p ps. refl) 0 run.journals)

  -- ---- collisions

  received_add : ℕ → Journal → List Received → List Received
  received_add r j rest = received_in (r, j) ++ rest

  received_adds : (k r : ℕ) → honest_in run k ≡ true
      → received_in (r, get_or other.journals k bare.journal) ≡ received_in (r, get_or run.journals k bare.journal)
  unfolding received_from
  received_adds k r honest =
      ap (λ (j : Journal). received_in (r, j)) (journal_at k honest) ∙ received_reported r 0 (get_or run.journals k bare.journal).entries

  received_alike : all_received other ≡ all_received run
  unfolding all_received received_from received_add
  received_alike =
      is_over (honest_in run) (flat_map received_in) received_add (λ p ps. refl) 0 other.journals
      ∙ same_over (honest_in run) received_add received_add [] bare.journal (λ r rest. refl) (λ r rest. refl) 0 other.journals run.journals
      (λ k honest rest. let here : 0 + k ≡ k = omega arith in
      ap (λ (rs : List Received). rs ++ rest) (received_adds k (0 + k) (subst (λ (r : ℕ). honest_in run r ≡ true) here honest)))
      ∙ sym (is_over (honest_in run) (flat_map received_in) received_add (λ p ps. refl) 0 run.journals)

  first_collision_alike : first_collision_of other ≡ first_collision_of run
  unfolding first_collision_of
  first_collision_alike = ap (collision_from []) received_alike

  -- ---- what was finalised

  module _ (shape : run.setting.n ≤ length run.batches) where
    batches_at : (r : ℕ) → r < run.setting.n → is_among run.faulty r ≡ false → slice_get other.batches r ≡ slice_get run.batches r
    batches_at r below correct =
        let here : r < length run.batches = omega (arith, below, shape) in
        let there : r < length (accounts run) = rw (length-map-range_with_len _ 0 run.setting.n) below in
        slice_get-map (λ (x : Account). x.batches) (accounts run) r
        ∙ ap (option_map (λ (x : Account). x.batches)) (slice_get-get_or (accounts run) r bare there)
        ∙ ap (λ (x : Account). Some x.batches) (account_is run r below correct span)
        ∙ sym (slice_get-get_or run.batches r [] here)

    lists_where : (due : List Tx) (r : ℕ) → r < run.setting.n → (b : Bool) → is_among run.faulty r ≡ b
        → (b || lists_all other due r) ≡ (b || lists_all run due r)
    lists_where due r below true is = refl
    lists_where due r below false is = ap (λ (o : Option (List (List Tx))). option_map_or (λ batches. hold_all batches due) o false) (batches_at r below is)

    all_alike : (due : List Tx) (start n : ℕ) → start + n ≤ run.setting.n
        → all_list other due (range_with_len start n) ≡ all_list run due (range_with_len start n)
    all_alike due start zero within = refl
    all_alike due start (suc n) within =
        let below : start < run.setting.n = omega (arith, within) in
        let rest : start + 1 + n ≤ run.setting.n = omega (arith, within) in
        ap (λ (b : Bool). b && all_list other due (range_with_len (start + 1) n)) (lists_where due start below (is_among run.faulty start) refl)
        ∙ ap (λ (b : Bool). (is_among run.faulty start || lists_all run due start) && b) (all_alike due (start + 1) n rest)

    done_alike : is_record_done other ≡ is_record_done run
    unfolding is_record_done
    done_alike =
        (let within : 0 + run.setting.n ≤ run.setting.n = omega arith in
        all_alike (due_of run.setting.n run.faulty run.arrivals) 0 run.setting.n within)

    pub verdict_alike : (check : Check) → verdict_of check other ≡ verdict_of check run
    unfolding verdict_of
    verdict_alike check =
        ap (λ (o : Option ForgedAt). audited o (first_collision_of other) (is_record_done other)) (first_forged_alike check)
        ∙ ap (λ (o : Option CollidedAt). audited (first_forged_of check run) o (is_record_done other)) first_collision_alike
        ∙ ap (audited (first_forged_of check run) (first_collision_of run)) done_alike
