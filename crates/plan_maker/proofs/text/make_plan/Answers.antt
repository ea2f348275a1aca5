use Rattle.std.proofs.Common.{◌≡◌, ℕ, List, ◌++◌, ◌∙◌, ap, string_bytes, add-one, append_assoc}
use Rattle.seq_base.specs.declared.tx.Tx.{Tx}
use Rattle.plan_maker.specs.Order.{made_order}
use Rattle.plan_maker.specs.Text.{head_text, arrivals_text, arrival_text}
use Rattle.plan_maker.proofs.text.make_plan.Goals as goal

-- a text grows by what is written after it
grown : (old new head before here : List ℕ) → old ≡ head ++ before → new ≡ old ++ here → new ≡ head ++ (before ++ here)
grown old new head before here had written = written ∙ rw (had, append_assoc)

pub loop-replica-preserved : goal.loop-replica-preserved
loop-replica-preserved c =
    let k = c.loop-replica.replica in
    let order : c.deref.result.now ≡ made_order c.args.seed k c.args.count = c.deref.ensures.value ∙ c.in_ok-txs.ensures in
    let written : string_bytes c.write_arrival.new.text ≡ string_bytes c.loop-replica.text ++ arrival_text k (made_order c.args.seed k c.args.count) =
    c.in_ok-write_arrival.ensures ∙ ap (λ (txs : List Tx). string_bytes c.loop-replica.text ++ arrival_text k txs) order in
    rw add-one (grown (string_bytes c.loop-replica.text) (string_bytes c.write_arrival.new.text) (head_text c.args.seed)
    (arrivals_text c.args.seed c.args.count k) (arrival_text k (made_order c.args.seed k c.args.count)) c.loop-replica.invariant written)
