-- Histories are fair for the order of receipt over the sessions.
use Rattle.std.proofs.Common.{◌≡◌, ◌≢◌, ℕ, zero, suc, ◌+◌, ◌-◌, ◌<◌, ◌≤◌, List, [], ◌++◌, length, Bool, true, false, not, cond, refl}
use Rattle.std.proofs.Common.{sym, ap, subst, ◌∙◌, inl, inr, arith}
use Rattle.std.specs.Prelude.{nat_lt}
use Rattle.std.proofs.lemmas.Bool.{and_parts, cases_Bool, cases_lt, not-true, or_cases, or_parts, false≢true}
use Rattle.std.proofs.lemmas.Bool.Decides.{nat_tests}
use Rattle.std.proofs.lemmas.List.{get_or-append-add, get_or-append_right}
use Rattle.std.proofs.lemmas.List.Folds.{list_any-append, list_any_at}
use Rattle.seq_base.specs.declared.tx.Tx.{Tx}
use Rattle.seq_base.specs.Lists.{holds}
use Rattle.seq_base.specs.Setting.{Parameters}
use Rattle.seq_base.specs.Tx.{tx_eq, tx_eq_decides}
use Rattle.count_set.specs.Sets.{size_of, is_among}
use Rattle.majority_graph.specs.Weights.{ranks_above}
use Rattle.batch_laws.specs.Batches.{StandsIn}
use Rattle.batch_laws.specs.Pairs.{StandsUpTo}
use Rattle.chain_laws.specs.Blocks.{Chain, final_list}
use Rattle.chain_laws.specs.Keeping.{AreBlocks}
use Rattle.chain_laws.specs.Proposed.{IsProposedAt}
use Rattle.chain_laws.specs.Received.{Arrivals, ArrivedAtHonest, followed, is_before}
use Rattle.chain_laws.proofs.JointPositions.{within_list}
use Rattle.run_record.specs.Done.{is_finalised}
use Rattle.run_record.specs.Honest.{is_honest}
use Rattle.run_record.specs.declared.record.RunRecord.{RunRecord}
use Rattle.run_verdict.specs.Shown.{IsHonest}
use Rattle.node_core.specs.Rows.{Check}
use Rattle.journal_rules.specs.Records.{arrivals_in, batches_in}
use Rattle.headline_laws.specs.Premises.{IsSound}
use Rattle.headline_laws.specs.Records.{faulty_in, committed_in}
use Rattle.headline_laws.proofs.FinalPlaces.{finalised_place}
use Rattle.headline_laws.proofs.Orders.{some_of}
use Rattle.session_rules.specs.Cuts.{marker, cut_at, carried_over}
use Rattle.session_laws.specs.Claims.{HistoriesAreFair, NothingEarlierIsLeft, OrderIsPromised, received_up_to}
use Rattle.session_laws.specs.Service.{IsService}
use Rattle.session_laws.specs.Sessions.{Sessions, Starts, History, StartsFrom, cut_of}
use Rattle.session_laws.proofs.CutLists.{marker_counts}
use Rattle.session_laws.proofs.FairCuts.{BlocksStayBlocks, FinalListsAreFair, before_from_ranks, cut_is_fair, ranks_from_before, stands_longer, stands_shorter}
use Rattle.session_laws.proofs.OneHistory.{one_start}
use Rattle.session_laws.proofs.OneSession.{ListsAgree}
use Rattle.session_laws.proofs.Rankings.{holds_one, ranks_either, ranks_filtered, ranks_left, ranks_right}

-- ---- what the crates below say of one record

abbrev pub ChainsAreBlocks : Type 0
ChainsAreBlocks = (fits : Check) (run : RunRecord) (i : ℕ) → IsSound fits run → IsHonest run i
    → AreBlocks run.setting (faulty_in run) (arrivals_in run) (committed_in run i)

abbrev pub ListsAreFinal : Type 0
ListsAreFinal = (fits : Check) (run : RunRecord) (i : ℕ) → IsSound fits run → IsHonest run i → batches_in run i ≡ final_list run.setting (committed_in run i)

abbrev pub ProposalsArrived : Type 0
ProposalsArrived = (s : Parameters) (faulty : ℕ → Bool) (arrivals : Arrivals) (chain : Chain) (number : ℕ) (t : Tx)
    → size_of s.n faulty ≤ s.f → AreBlocks s faulty arrivals chain → IsProposedAt s chain number t → ArrivedAtHonest s faulty arrivals t

-- the test of a replica of a run
honest_if : (run : RunRecord) (r : ℕ) → is_honest run.setting.n run.faulty r ≡ true → IsHonest run r
honest_if run r is =
    let parts = and_parts (nat_lt r run.setting.n) (not (is_among run.faulty r)) is in
    let less : nat_lt r run.setting.n ≡ true = parts.0 in
    record { below = grind (arith, nat_tests, less); correct = not-true (is_among run.faulty r) parts.1 }

pub stands_final : (batches : List (List Tx)) (i : ℕ) (t : Tx) → StandsIn batches i t → is_finalised batches t ≡ true
stands_final batches i t stands = list_any_at (holds t) batches i [] (within_list batches i t stands) stands

module _ (fits : ℕ → Check) (sessions : Sessions) (starts : Starts) (many : ℕ) (service : IsService fits sessions starts many) (agree : ListsAgree) where
  -- ---- what came first stays first

  module _ (a b : Tx) where
    -- in the next session
    next_session : (k r : ℕ) (start : History) → suc k < many → StartsFrom sessions starts (suc k) r start → is_finalised start a ≡ false
        → IsHonest (sessions k) r
        → ((own : History) → StartsFrom sessions starts k r own → is_finalised own a ≡ false → ranks_above a b (arrivals_in (sessions k) r) ≡ true)
        → ranks_above a b (arrivals_in (sessions (suc k)) r) ≡ true
    next_session k r start below started none honest before =
        let sooner : k < many = omega (arith, below) in
        let (started_it, rest, list) = service.carries k r start below honest started in
        let (own, own_is) = some_of (starts k r) started_it in
        let own_started : StartsFrom sessions starts k r own = record { honest = honest; start_is = own_is } in
        let (q, to) = service.ended k r start below started in
        let from : History = to.has.start in
        let parts = or_parts (is_finalised from a) (is_finalised (cut_of sessions k q) a)
        (sym (list_any-append (holds a) from (cut_of sessions k q)) ∙ sym (ap (λ (h : History). is_finalised h a) to.has.is) ∙ none) in
        let same : from ≡ own = one_start fits sessions starts many service agree k sooner q r from own to.has.started own_started in
        let ranks = before own own_started (subst (λ (h : History). is_finalised h a ≡ false) same parts.0) in
        subst (λ (l : List Tx). ranks_above a b l ≡ true) (sym list)
        (ranks_left a b (carried_over start (arrivals_in (sessions k) r)) rest
        (ranks_filtered a b (λ t. not (is_finalised start t)) (arrivals_in (sessions k) r) (ap not none) ranks))

    -- in the list of a later session
    stays_first : (k r : ℕ) (start : History) → k < many → StartsFrom sessions starts k r start → is_finalised start a ≡ false
        → ranks_above a b (received_up_to sessions k r) ≡ true → ranks_above a b (arrivals_in (sessions k) r) ≡ true
    stays_first zero r start below started none ranks = ranks
    stays_first (suc k) r start below started none ranks =
        let received : Bool → List Tx = λ (c : Bool). cond c (received_up_to sessions k r) [] ++ arrivals_in (sessions (suc k)) r in
        elim (cases_Bool (is_honest (sessions k).setting.n (sessions k).faulty r)) [
          | inr not_honest ↦ subst (λ (c : Bool). ranks_above a b (received c) ≡ true) not_honest ranks
          | inl honest ↦ elim (ranks_either a b (received_up_to sessions k r) (arrivals_in (sessions (suc k)) r)
              (subst (λ (c : Bool). ranks_above a b (received c) ≡ true) honest ranks)) [
                | inl earlier ↦
                    next_session k r start below started none (honest_if (sessions k) r honest)
                    (λ own own_started new. stays_first k r own (omega (arith, below)) own_started new earlier)
                | inr here ↦ here
              ]
        ]

    -- in what arrived in the session, followed by all that was received up to it
    comes_first : (k r : ℕ) → k < many → IsHonest (sessions k) r
        → ((own : History) → StartsFrom sessions starts k r own → is_finalised own a ≡ false)
        → ranks_above a b (received_up_to sessions k r) ≡ true → ranks_above a b (arrivals_in (sessions k) r ++ received_up_to sessions k r) ≡ true
    comes_first k r below honest new ranks =
        let arrived : List Tx = arrivals_in (sessions k) r in
        let here : (t : Tx) → holds t arrived ≡ true → ranks_above a b (arrived ++ received_up_to sessions k r) ≡ true =
        λ t held.
        (let (own, started, fresh) = service.new k r t below honest held in
        ranks_left a b arrived (received_up_to sessions k r) (stays_first k r own below started (new own started) ranks)) in
        elim (cases_Bool (holds_one a b arrived)) [
          | inl some ↦ elim (or_cases (holds a arrived) (holds b arrived) some) [
            | inl is_a ↦ here a is_a
            | inr is_b ↦ here b is_b
          ]
          | inr none ↦ ranks_right a b arrived (received_up_to sessions k r) none ranks
        ]

  -- ---- fairness

  module _ (chains : ChainsAreBlocks) (lists : ListsAreFinal) (proposals : ProposalsArrived) (longer : BlocksStayBlocks) (one_chain : FinalListsAreFair)
      (r k number : ℕ) (history : History) (a b : Tx) (below : k < many) (first : OrderIsPromised sessions starts k r history number a b) where
    abbrev run : RunRecord
    run = sessions k

    abbrev start : History
    start = first.has.start

    abbrev cut : History
    cut = cut_of sessions k r

    abbrev sound : IsSound (fits k) run
    sound = service.sound k below

    blocks : AreBlocks run.setting (faulty_in run) (arrivals_in run) (committed_in run r)
    blocks = chains (fits k) run r sound first.has.started.honest

    -- what is not in one start of the session is in none
    new_in : (t : Tx) (i j : ℕ) (one other : History) → StartsFrom sessions starts k i one → StartsFrom sessions starts k j other
        → is_finalised one t ≡ false → is_finalised other t ≡ false
    new_in t i j one other here there none =
        subst (λ (h : History). is_finalised h t ≡ false) (one_start fits sessions starts many service agree k below i j one other here there) none

    -- since b arrived in this session
    b_is_new : is_finalised start b ≡ false
    b_is_new =
        let at = proposals run.setting (faulty_in run) (arrivals_in run) (committed_in run r) number b sound.lawful.few_faulty blocks first.proposed in
        let (own, started, none) = service.new k at.replica b below (record { below = at.below; correct = at.honest }) at.arrived in
        new_in b at.replica r own start started first.has.started none

    first_here : a ≢ b → is_finalised start a ≡ false → (q : ℕ) → q < run.setting.n → faulty_in run q ≡ false
        → is_before (received_up_to sessions k q) a b ≡ true → is_before (followed (arrivals_in run) (received_up_to sessions k) q) a b ≡ true
    first_here apart new q q_below correct before =
        before_from_ranks a b (arrivals_in run q ++ received_up_to sessions k q) apart
        (comes_first a b k q below (record { below = q_below; correct = correct })
        (λ own started. new_in a r q start own first.has.started started new)
        (ranks_from_before a b (received_up_to sessions k q) apart before))

    in_cut : is_finalised start a ≡ false → (j : ℕ) → StandsIn cut j b → StandsUpTo cut j a
    in_cut new j stands = elim (cases_Bool (tx_eq a b)) [
      | inl same ↦ (j, subst (StandsIn cut j) (sym ((tx_eq_decides a b).0 same)) stands, omega arith)
      | inr differ ↦
          let apart : a ≢ b = λ same. false≢true (sym differ ∙ (tx_eq_decides a b).1 same) in
          let list = lists (fits k) run r sound first.has.started.honest in
          subst (λ (batches : History). StandsUpTo (cut_at (marker k) batches) j a) (sym list)
          (cut_is_fair one_chain longer run.setting (faulty_in run) (arrivals_in run) (received_up_to sessions k) (committed_in run r) (marker k) number j a b
          sound.lawful.valid sound.lawful.few_faulty blocks first.received (first_here apart new)
          (subst (λ (batches : History). StandsIn (cut_at (marker k) batches) j b) list stands) first.proposed first.owed)
    ]

    -- at its place in the history
    in_history : (j : ℕ) → StandsIn (start ++ cut) j b → StandsUpTo (start ++ cut) j a
    in_history j stands = elim (cases_lt j (length start)) [
      | inl less ↦ absurd (false≢true (sym b_is_new ∙ stands_final start j b (stands_shorter start cut j b less stands)))
      | inr far ↦ elim (cases_Bool (is_finalised start a)) [
        | inl earlier ↦
            let (i, found) = finalised_place start a earlier in
            (i, stands_longer start cut i a found, omega (arith, within_list start i a found, far))
        | inr new ↦
            let (i, found, order) = in_cut new (j - length start) (sym (ap (holds b) (get_or-append_right start cut (length start) j [] refl far)) ∙ stands) in
            (length start + i, ap (holds a) (get_or-append-add start cut i []) ∙ found, omega (arith, far, order))
      ]
    ]

    in_whole : (j : ℕ) → StandsIn history j b → StandsUpTo history j a
    in_whole j stands =
        subst (λ (h : History). StandsUpTo h j a) (sym first.has.is) (in_history j (subst (λ (h : History). StandsIn h j b) first.has.is stands))

  pub fair : ChainsAreBlocks → ListsAreFinal → ProposalsArrived → BlocksStayBlocks → FinalListsAreFair → HistoriesAreFair sessions starts many
  fair chains lists proposals longer one_chain r k number j history a b below first stands =
      in_whole chains lists proposals longer one_chain r k number history a b below first j stands

-- what comes no later than the marker is in the history with which the session ends
pub nothing_left : (sessions : Sessions) (starts : Starts) (many : ℕ) → HistoriesAreFair sessions starts many → NothingEarlierIsLeft sessions starts many
nothing_left sessions starts many fair r k number history a below ends first =
    let (j, marked) = finalised_place (cut_of sessions k r) (marker k) (marker_counts (marker k) (batches_in (sessions k) r) ends.marked) in
    let place : ℕ = length ends.has.start + j in
    let stands : StandsIn history place (marker k) =
    subst (λ (h : History). StandsIn h place (marker k)) (sym ends.has.is)
    (ap (holds (marker k)) (get_or-append-add ends.has.start (cut_of sessions k r) j []) ∙ marked) in
    let (i, found, order) = fair r k number place history a (marker k) below first stands in
    stands_final history i a found
