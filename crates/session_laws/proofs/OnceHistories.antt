-- What counts of a session is new, so that no history holds a transaction twice.
use Rattle.std.proofs.Common.{◌≡◌, ℕ, zero, suc, ◌<◌, ◌++◌, true, false, sym, subst, ◌∙◌, arith}
use Rattle.std.proofs.lemmas.Bool.{false≢true, false_from_ne_true}
use Rattle.std.proofs.lemmas.List.Concat.{flat_map-append}
use Rattle.std.specs.Prelude.{List}
use Rattle.seq_base.specs.declared.tx.Tx.{Tx}
use Rattle.seq_base.specs.Lists.{holds, AreDistinct}
use Rattle.chain_state.specs.Proposals.{joined}
use Rattle.node_core.specs.Rows.{Check}
use Rattle.run_record.specs.Done.{is_finalised}
use Rattle.journal_rules.specs.Records.{batches_in}
use Rattle.session_rules.specs.Cuts.{marker}
use Rattle.session_laws.specs.Claims.{HistoriesHoldOnce}
use Rattle.session_laws.specs.Service.{IsService}
use Rattle.session_laws.specs.Sessions.{Sessions, Starts, History, StartsFrom, cut_of}
use Rattle.session_laws.proofs.CutLists.{cut_is_held}
use Rattle.session_laws.proofs.DistinctLists.{cut_distinct, distinct_join, held_in_one}
use Rattle.session_laws.proofs.OneHistory.{one_start}
use Rattle.session_laws.proofs.OneSession.{FinalsHaveArrived, ListsAgree, ListsHoldOnce}

module _ (fits : ℕ → Check) (sessions : Sessions) (starts : Starts) (many : ℕ) (service : IsService fits sessions starts many)
    (agree : ListsAgree) (once : ListsHoldOnce) (arrived : FinalsHaveArrived) where
  cut_is_new : (k r : ℕ) (start : History) (t : Tx) → k < many → StartsFrom sessions starts k r start
      → is_finalised (cut_of sessions k r) t ≡ true → is_finalised start t ≡ false
  cut_is_new k r start t below started held =
      let (q, honest, at) = arrived (fits k) (sessions k) (service.sound k below) r t started.honest
      (cut_is_held (marker k) (batches_in (sessions k) r) t held) in
      let (own, own_started, fresh) = service.new k q t below honest at in
      subst (λ (list : History). is_finalised list t ≡ false)
      (one_start fits sessions starts many service agree k below q r own start own_started started) fresh

  grown : (k r : ℕ) (start : History) → k < many → StartsFrom sessions starts k r start → AreDistinct (joined start)
      → AreDistinct (joined (start ++ cut_of sessions k r))
  grown k r start below started before =
      let cut : History = cut_of sessions k r in
      let list = (once (fits k) (sessions k) (service.sound k below)).distinct r started.honest in
      subst AreDistinct (sym (flat_map-append (λ (batch : List Tx). batch) start cut))
      (distinct_join (joined start) (joined cut) before (cut_distinct (marker k) (batches_in (sessions k) r) list)
      (λ t held. false_from_ne_true (holds t (joined start))
      (λ earlier. false≢true (sym (cut_is_new k r start t below started (held_in_one cut t held)) ∙ held_in_one start t earlier))))

  start_once : (k r : ℕ) (start : History) → k < many → StartsFrom sessions starts k r start → AreDistinct (joined start)
  start_once zero r start below started =
      subst (λ (list : History). AreDistinct (joined list)) (sym (service.empty r start started)) (λ i j d less inside. absurd (omega (arith, inside)))
  start_once (suc k) r start below started =
      let (q, to) = service.ended k r start below started in
      let sooner : k < many = omega (arith, below) in
      subst (λ (list : History). AreDistinct (joined list)) (sym to.has.is)
      (grown k q to.has.start sooner to.has.started (start_once k q to.has.start sooner to.has.started))

  pub hold_once : HistoriesHoldOnce sessions starts many
  hold_once r k history below has =
      subst (λ (list : History). AreDistinct (joined list)) (sym has.is)
      (grown k r has.start below has.started (start_once k r has.start below has.started))
