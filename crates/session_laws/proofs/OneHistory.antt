-- All that start a session start it from the same history, and histories are prefixes of one another.
use Rattle.std.proofs.Common.{◌≡◌, ℕ, zero, suc, ◌<◌, ◌++◌, refl, sym, ap, subst, ◌∙◌, inl, inr, arith}
use Rattle.std.specs.Prelude.{◌⊎◌}
use Rattle.std.proofs.lemmas.Bool.{cases_order}
use Rattle.node_core.specs.Rows.{Check}
use Rattle.run_verdict.specs.Shown.{IsHonest}
use Rattle.journal_rules.specs.Records.{batches_in}
use Rattle.headline_laws.specs.Headline.{Begins}
use Rattle.session_rules.specs.Cuts.{marker}
use Rattle.session_laws.specs.Claims.{HistoriesAgree, HistoriesContinue}
use Rattle.session_laws.specs.Service.{IsService}
use Rattle.session_laws.specs.Sessions.{Sessions, Starts, History, StartsFrom, HasHistory, EndsWith, cut_of}
use Rattle.session_laws.proofs.CutLists.{begins_after, begins_longer, begins_same, begins_through, cuts_grow_with, first_cut, same_cut}
use Rattle.session_laws.proofs.OneSession.{ListsAgree}

module _ (fits : ℕ → Check) (sessions : Sessions) (starts : Starts) (many : ℕ) (service : IsService fits sessions starts many) (agree : ListsAgree) where
  agree_in : (k : ℕ) → k < many → (i j : ℕ) → IsHonest (sessions k) i → IsHonest (sessions k) j
      → Begins (batches_in (sessions k) i) (batches_in (sessions k) j) ⊎ Begins (batches_in (sessions k) j) (batches_in (sessions k) i)
  agree_in k below i j one other = agree (fits k) (sessions k) (service.sound k below) i j one other

  pub one_start : (k : ℕ) → k < many → (i j : ℕ) (one other : History) → StartsFrom sessions starts k i one
      → StartsFrom sessions starts k j other → one ≡ other
  one_start zero below i j one other here there = service.empty i one here ∙ sym (service.empty j other there)
  one_start (suc k) below i j one other here there =
      let (p, from) = service.ended k i one below here in
      let (q, to) = service.ended k j other below there in
      let sooner : k < many = omega (arith, below) in
      let lists = agree_in k sooner p q from.has.started.honest to.has.started.honest in
      from.has.is
      ∙ ap (λ (start : History). start ++ cut_of sessions k p)
      (one_start k sooner p q from.has.start to.has.start from.has.started to.has.started)
      ∙ ap (λ (cut : History). to.has.start ++ cut)
      (same_cut (marker k) (batches_in (sessions k) p) (batches_in (sessions k) q) lists from.marked to.marked)
      ∙ sym to.has.is

  -- A replica has ended this session with a history that is a prefix of a later start.
  record EndedBefore (k : ℕ) (later : History) : Type 0 where
    replica : ℕ
    history : History
    ends : EndsWith sessions starts k replica history
    begins : Begins history later

  ended_before : (k l : ℕ) → k < l → l < many → (j : ℕ) (start : History) → StartsFrom sessions starts l j start → EndedBefore k start
  ended_before k zero less below j start there = absurd (omega (arith, less))
  ended_before k (suc l) less below j start there =
      let (q, to) = service.ended l j start below there in
      elim (cases_order k l) [
        | inl same ↦ subst (λ (n : ℕ). EndedBefore n start) (sym same) (record {
          replica = q;
          history = start;
          ends = to;
          begins = begins_same start start refl;
        })
        | inr (inl before) ↦
            let more = ended_before k l before (omega (arith, below)) q to.has.start to.has.started in
            record {
              replica = more.replica;
              history = more.history;
              ends = more.ends;
              begins = subst (Begins more.history) (sym to.has.is) (begins_longer more.history to.has.start (cut_of sessions l q) more.begins);
            }
        | inr (inr after) ↦ absurd (omega (arith, less, after))
      ]

  pub continue : HistoriesContinue sessions starts many
  continue i j k l one other less below here there =
      let was = ended_before k l less below j there.start there.started in
      let before : k < many = omega (arith, less, below) in
      let ended = was.ends.has in
      let same : here.start ≡ ended.start = one_start k before i was.replica here.start ended.start here.started ended.started in
      let cut : Begins (cut_of sessions k i) (cut_of sessions k was.replica) =
      first_cut (marker k) (batches_in (sessions k) i) (batches_in (sessions k) was.replica)
      (agree_in k before i was.replica here.started.honest ended.started.honest) was.ends.marked in
      let up_to : Begins one was.history =
      subst (λ (list : History). Begins list was.history) (sym (here.is ∙ ap (λ (start : History). start ++ cut_of sessions k i) same))
      (subst (Begins (ended.start ++ cut_of sessions k i)) (sym ended.is)
      (begins_after ended.start (cut_of sessions k i) (cut_of sessions k was.replica) cut)) in
      subst (Begins one) (sym there.is)
      (begins_longer one there.start (cut_of sessions l j) (begins_through one was.history there.start up_to was.begins))

  -- two replicas in the same session
  together : (i j k : ℕ) (one other : History) → k < many → HasHistory sessions starts k i one → HasHistory sessions starts k j other
      → Begins one other ⊎ Begins other one
  together i j k one other below here there =
      let start : History = there.start in
      let same : here.start ≡ start = one_start k below i j here.start start here.started there.started in
      let one_is : one ≡ start ++ cut_of sessions k i = here.is ∙ ap (λ (list : History). list ++ cut_of sessions k i) same in
      subst (λ (list : History). Begins list other ⊎ Begins other list) (sym one_is)
      (subst (λ (list : History). Begins (start ++ cut_of sessions k i) list ⊎ Begins list (start ++ cut_of sessions k i)) (sym there.is)
      (elim (agree_in k below i j here.started.honest there.started.honest) [
        | inl begins ↦ inl (begins_after start (cut_of sessions k i) (cut_of sessions k j)
            (cuts_grow_with (marker k) (batches_in (sessions k) i) (batches_in (sessions k) j) begins))
        | inr begins ↦ inr (begins_after start (cut_of sessions k j) (cut_of sessions k i)
            (cuts_grow_with (marker k) (batches_in (sessions k) j) (batches_in (sessions k) i) begins))
      ]))

  pub agreed : HistoriesAgree sessions starts many
  agreed i j k l one other k_below l_below here there = elim (cases_order k l) [
    | inl same ↦ together i j k one other k_below here (subst (λ (n : ℕ). HasHistory sessions starts n j other) (sym same) there)
    | inr (inl less) ↦ inl (continue i j k l one other less l_below here there)
    | inr (inr more) ↦ inr (continue j i l k other one more k_below there here)
  ]
