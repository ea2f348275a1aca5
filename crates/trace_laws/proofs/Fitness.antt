-- The contents of the trace of a lawful run fit the form.
use Rattle.std.proofs.Common.{◌≡◌, ◌∙◌, ◌<◌, ◌≤◌, ◌+◌, ◌^◌, ℕ, zero, suc, Bool, true, false, List, [], ◌∷◌, ◌++◌, length, map, get_or, refl, sym, subst, cond, arith}
use Rattle.std.specs.Prelude.{All, slice_get, slice_index_or}
use Rattle.std.specs.Int.{w8, w32, to_be_bytes}
use Rattle.std.specs.List.{AllByRecursion, flat_map, range_with_len}
use Rattle.std.specs.Option.{option_map_or}
use Rattle.std.proofs.lemmas.List.{append-nil}
use Rattle.std.proofs.lemmas.List.FromFn.{length-map-range_with_len}
use Rattle.std.proofs.lemmas.List.Elements.{All-head, All-tail, recursion_from_All}
use Rattle.seq_base.specs.declared.tx.Tx.{Tx}
use Rattle.seq_base.specs.Tx.{FitsTx}
use Rattle.seq_base.specs.Lists.{AreFresh}
use Rattle.seq_base.specs.Setting.{Parameters}
use Rattle.count_set.specs.Sets.{is_among}
use Rattle.majority_graph.specs.Graph.{IsGraph}
use Rattle.chain_state.specs.Lists.{BlockLists}
use Rattle.chain_state.specs.Proposals.{final_of, proposals}
use Rattle.chain_state.specs.Standings.{finals, standing_for}
use Rattle.node_core.specs.Rows.{Check}
use Rattle.node_core.specs.declared.event.Event.{Event}
use Rattle.node_core.specs.declared.event.Event.TheVariants.{Arrived, Deliver, Tick}
use Rattle.node_core.specs.declared.entry.Entry.{Entry}
use Rattle.run_record.specs.declared.record.Head.{Head}
use Rattle.run_record.specs.declared.record.Journal.{Journal}
use Rattle.run_record.specs.declared.record.RunRecord.{RunRecord}
use Rattle.journal_rules.specs.Obeys.{Obeys, scale_of}
use Rattle.journal_rules.specs.Records.{commit_in, journal_in}
use Rattle.headline_laws.specs.Premises.{IsLawfulRun}
use Rattle.replica_seat.specs.Arrivals.{IsArrivalList}
use Rattle.replica_seat.specs.Senders.{IsFrom}
use Rattle.run_verdict.specs.Shown.{IsHonest}
use Rattle.trace_form.specs.declared.account.Account.{Account}
use Rattle.trace_form.specs.declared.opening.Span.{Span}
use Rattle.trace_form.specs.Codes.{reason_code}
use Rattle.trace_form.specs.Contents.{account_of, bare, contents_of, held_of, sendless, without_sends}
use Rattle.trace_form.specs.Fitting.{FitAccounts, FitsAccount, FitsAccountOf, FitsBytes, FitsContents, FitsEntry, FitsEvent, FitsList}
use Rattle.trace_form.specs.Spelling.{account_spelling, accounts_spelling, batches_spelling, bytes_spelling, contents_spelling, entries_spelling, entry_spelling, event_spelling, head_spelling, list_spelling, opening_spelling, statements_spelling}
use Rattle.trace_laws.specs.Form.{FitsForm, FitsTurn, HasShortFloor, IsSpelled, trace_text, view_in}
use Rattle.trace_laws.proofs.JournalArrivals.{ArrivesFitly, IsHeard, all_heard, part_fits}
use Rattle.trace_laws.proofs.Batches.{IsShort}
use Rattle.trace_laws.proofs.Blocks.{commit_within, finals_within}
use Rattle.trace_laws.proofs.Lengths.{each_short, no_more, of_first, of_rest, weaker}

-- ---- one entry

event_short : (e : Event) (n : ℕ) → ArrivesFitly e → IsFrom n e → HasShortFloor e → length (event_spelling e) < 2 ^ 32 → FitsEvent n e
event_short (Arrived list) n heard from floor short = heard
event_short (Deliver sender bytes) n heard from floor short = (
  from,
  omega (arith, of_rest (to_be_bytes w8 sender) (bytes_spelling bytes), of_rest (to_be_bytes w32 (length bytes)) bytes, short),
)
event_short (Tick floor) n heard from low short = low

some_event : (e : Event) → 1 ≤ length (event_spelling e)
some_event (Arrived list) = omega arith
some_event (Deliver from bytes) = omega arith
some_event (Tick floor) = omega arith

some_entry : (e : Entry) → 1 ≤ length (entry_spelling e)
some_entry e =
    let event : List ℕ = event_spelling e.event in
    let code : List ℕ = to_be_bytes w8 (reason_code e.turned.reason) in
    let kept : List ℕ = to_be_bytes w32 e.turned.kept in
    let statements : List ℕ = statements_spelling e.turned.sealed in
    let some : 1 ≤ length (((event ++ code) ++ kept) ++ statements) =
    omega (arith, some_event e.event, of_first event code, of_first (event ++ code) kept, of_first ((event ++ code) ++ kept) statements) in
    some

entry_fits : (n : ℕ) (e : Entry) → IsHeard e → FitsTurn n e → length (entry_spelling (without_sends e)) < 2 ^ 32 → FitsEntry n (without_sends e)
entry_fits n e heard turn short =
    let event : List ℕ = event_spelling e.event in
    let code : List ℕ = to_be_bytes w8 (reason_code e.turned.reason) in
    let kept : List ℕ = to_be_bytes w32 e.turned.kept in
    let statements : List ℕ = statements_spelling e.turned.sealed in
    let each : List ℕ = flat_map bytes_spelling e.turned.sealed in
    let whole : length (((event ++ code) ++ kept) ++ statements) < 2 ^ 32 = short in
    let first : length event < 2 ^ 32 =
    omega (arith, of_first event code, of_first (event ++ code) kept, of_first ((event ++ code) ++ kept) statements, whole) in
    let sealed : length (to_be_bytes w8 (length e.turned.sealed) ++ each) < 2 ^ 32 = omega (arith, of_rest ((event ++ code) ++ kept) statements, whole) in
    record {
      event = event_short e.event n heard.event turn.from turn.floor first;
      kept = heard.kept;
      few = turn.few;
      short = weaker (λ (s : List ℕ). length (bytes_spelling s) < 2 ^ 32) FitsBytes
          (λ s fits. omega (arith, of_rest (to_be_bytes w32 (length s)) s, fits)) e.turned.sealed
          (each_short bytes_spelling (2 ^ 32) e.turned.sealed
          (omega (arith, of_rest (to_be_bytes w8 (length e.turned.sealed)) each, sealed)));
      bare = refl;
    }

entries_fit : (n : ℕ) (es : List Entry) → All IsHeard es → All (FitsTurn n) es → AllByRecursion (λ e. length (entry_spelling e) < 2 ^ 32) (map without_sends es)
    → AllByRecursion (FitsEntry n) (map without_sends es)
entries_fit n [] heard turns short = tt
entries_fit n (e ∷ es) heard turns short = (
  entry_fits n e (All-head IsHeard e es heard) (All-head (FitsTurn n) e es turns) short.0,
  entries_fit n es (All-tail IsHeard e es heard) (All-tail (FitsTurn n) e es turns) short.1,
)

-- ---- one replica

some_list : (txs : List Tx) → 1 ≤ length (list_spelling txs)
some_list txs = omega arith

batches_fit : (batches : List (List Tx)) → All (IsShort FitsTx) batches → AllByRecursion (FitsList false) batches
batches_fit [] all = tt
batches_fit (b ∷ batches) all = (
  (let short : IsShort FitsTx b = All-head (IsShort FitsTx) b batches all in
      record { few = omega (arith, short.few); each = recursion_from_All FitsTx b short.each; apart = λ no. absurd (cc) }),
  batches_fit batches (All-tail (IsShort FitsTx) b batches all),
)

account_fits : (n : ℕ) (a : Account) → All IsHeard a.journal.entries → All (FitsTurn n) a.journal.entries → a.head.view < 2 ^ 32 → a.head.commit < 2 ^ 32
    → All (IsShort FitsTx) a.batches → length (account_spelling (sendless a)) < 2 ^ 32 → FitsAccount n (sendless a)
unfolding entries_spelling batches_spelling
account_fits n a heard turns view commit batches short =
    let es : List Entry = map without_sends a.journal.entries in
    let texts : List ℕ = flat_map entry_spelling es in
    let lists : List ℕ = flat_map list_spelling a.batches in
    let rest : List ℕ = head_spelling a.head ++ batches_spelling a.batches in
    let size : length texts < 2 ^ 32 = omega (arith, of_first (entries_spelling es) rest, of_rest (to_be_bytes w32 (length es)) texts, short) in
    let others : length lists < 2 ^ 32 = omega (
      arith,
      of_rest (entries_spelling es) rest,
      of_rest (head_spelling a.head) (batches_spelling a.batches),
      of_rest (to_be_bytes w32 (length a.batches)) lists,
      short,
    ) in
    record {
      few = omega (arith, no_more entry_spelling some_entry es, size);
      entries = entries_fit n a.journal.entries heard turns (each_short entry_spelling (2 ^ 32) es size);
      view = view;
      commit = commit;
      few_batches = omega (arith, no_more list_spelling some_list a.batches, others);
      batches = batches_fit a.batches batches;
    }

-- ---- a replica's part of a record

held_entries : (journals : List Journal) (r : ℕ)
    → (slice_index_or journals r bare.journal).entries ≡ option_map_or (λ (j : Journal). j.entries) (slice_get journals r) []
held_entries [] r = refl
held_entries (j ∷ journals) zero = refl
held_entries (j ∷ journals) (suc r) = held_entries journals r

held_head : (heads : List Head) (r : ℕ) (f : Head → ℕ) → f bare.head ≡ 0 → f (slice_index_or heads r bare.head) ≡ option_map_or f (slice_get heads r) 0
held_head [] r f none = none
held_head (h ∷ heads) zero f none = refl
held_head (h ∷ heads) (suc r) f none = held_head heads r f none

-- ---- all replicas

module _ (n : ℕ) (run : RunRecord) (fit : (r : ℕ) → r < n → is_among run.faulty r ≡ false
    → length (account_spelling (sendless (held_of run r))) < 2 ^ 32 → FitsAccount n (sendless (held_of run r))) where
  one_fits : (b : Bool) (r : ℕ) → (b ≡ false → FitsAccount n (sendless (held_of run r))) → FitsAccountOf n b (cond b bare (sendless (held_of run r)))
  one_fits true r fits = refl
  one_fits false r fits = fits refl

  one_text : (b : Bool) (a : Account) (more : List ℕ) → b ≡ false → length (cond b [] (account_spelling (cond b bare a)) ++ more) < 2 ^ 32
      → length (account_spelling a) < 2 ^ 32
  one_text true a more honest short = absurd (cc)
  one_text false a more honest short = omega (arith, of_first (account_spelling a) more, short)

  accounts_fit : (count r : ℕ) → r + count ≤ n → length (accounts_spelling run.faulty r (map (account_of run) (range_with_len r count))) < 2 ^ 32
      → FitAccounts n run.faulty r (map (account_of run) (range_with_len r count))
  accounts_fit zero r below short = tt
  accounts_fit (suc count) r below short =
      let next : suc r ≡ r + 1 = omega arith in
      let others : List Account = map (account_of run) (range_with_len (r + 1) count) in
      let own : List ℕ = cond (is_among run.faulty r) [] (account_spelling (account_of run r)) in
      let rest : List ℕ = accounts_spelling run.faulty (suc r) others in
      let shorter : length (accounts_spelling run.faulty (r + 1) others) < 2 ^ 32 =
      subst (λ (k : ℕ). length (accounts_spelling run.faulty k others) < 2 ^ 32) next (omega (arith, of_rest own rest, short)) in (
        one_fits (is_among run.faulty r) r
            (λ honest. fit r (omega (arith, below)) honest (one_text (is_among run.faulty r) (sendless (held_of run r)) rest honest short)),
        subst (λ (k : ℕ). FitAccounts n run.faulty k others) (sym next) (accounts_fit count (r + 1) (omega (arith, below)) shorter),
      )

-- ---- the whole

lists_fit : (lists : List (List Tx)) → ((r : ℕ) → r < length lists → IsArrivalList (get_or lists r [])) → AllByRecursion (FitsList true) lists
lists_fit [] each = tt
lists_fit (list ∷ lists) each = (
  part_fits list [] list [] (sym (append-nil list)) (each 0 (omega arith)),
  lists_fit lists (λ r below. each (suc r) (omega (arith, below))),
)

module _ (graphs : (s : Parameters) (chain : List BlockLists) → All (λ b. AreFresh b.fresh) chain → All IsGraph (proposals s chain))
    (computed : (s : Parameters) (chain : List BlockLists) → finals (standing_for s chain) ≡ final_of s chain)
    (fits : Check) (run : RunRecord) (span : Span) (lawful : IsLawfulRun fits run) (form : FitsForm run span)
    (short : length (trace_text run span) < 2 ^ 32) where
  replica_fits : (r : ℕ) → r < run.setting.n → is_among run.faulty r ≡ false → length (account_spelling (sendless (held_of run r))) < 2 ^ 32
      → FitsAccount run.setting.n (sendless (held_of run r))
  replica_fits r below correct fewer =
      let honest : IsHonest run r = record { below = below; correct = correct } in
      let obeys : Obeys fits run r = lawful.obeys r honest in
      let same : (held_of run r).journal.entries ≡ journal_in run r = held_entries run.journals r in
      let view : (held_of run r).head.view ≡ view_in run r = held_head run.heads r (λ h. h.view) refl in
      let commit : (held_of run r).head.commit ≡ commit_in run r = held_head run.heads r (λ h. h.commit) refl in
      account_fits run.setting.n (held_of run r)
      (subst (All IsHeard) (sym same) (all_heard (scale_of fits run r) (journal_in run r) (form.arrivals r below) obeys.journal))
      (subst (All (FitsTurn run.setting.n)) (sym same) (form.turns r honest))
      (subst (λ (v : ℕ). v < 2 ^ 32) (sym view) (form.views r honest))
      (subst (λ (v : ℕ). v < 2 ^ 32) (sym (commit ∙ obeys.head)) (commit_within run.setting (journal_in run r) (lawful.reported r honest)))
      (subst (All (IsShort FitsTx)) (sym obeys.list) (finals_within graphs computed run.setting (journal_in run r) (lawful.reported r honest)))
      fewer

  contents_fit : FitsContents (contents_of run span)
  unfolding contents_spelling
  contents_fit =
      let accounts : List ℕ = accounts_spelling run.faulty 0 (map (account_of run) (range_with_len 0 run.setting.n)) in
      let arrivals : List ℕ = flat_map list_spelling run.arrivals in
      record {
        opening = form.opening;
        each_arrival = form.each_arrival;
        arrivals = lists_fit run.arrivals (λ r below. form.arrivals r (omega (arith, below, form.each_arrival)));
        each_account = length-map-range_with_len (account_of run) 0 run.setting.n;
        accounts = accounts_fit run.setting.n run replica_fits run.setting.n 0 (omega arith)
            (omega (arith, of_rest (opening_spelling (contents_of run span).opening ++ arrivals) accounts, short));
      }

pub spelled : ((s : Parameters) (chain : List BlockLists) → All (λ b. AreFresh b.fresh) chain → All IsGraph (proposals s chain))
    → ((s : Parameters) (chain : List BlockLists) → finals (standing_for s chain) ≡ final_of s chain)
    → (fits : Check) (run : RunRecord) (span : Span) → IsLawfulRun fits run → FitsForm run span → IsSpelled run span
spelled graphs computed fits run span lawful form short =
    record { contents = contents_of run span; fits = contents_fit graphs computed fits run span lawful form short; is = refl; spelled = refl }
