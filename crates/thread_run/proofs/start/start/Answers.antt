use Rattle.std.proofs.Common.{◌≡◌, ℕ, ◌+◌, ◌∙◌, List, All, [], ap, length, map, refl, sym, subst, arith, rules}
use Rattle.std.specs.List.{AllZip, range_with_len}
use Rattle.std.proofs.lemmas.List.{length-map}
use Rattle.std.proofs.lemmas.List.FromFn.{length-range_with_len}
use Rattle.seq_base.specs.declared.tx.Tx.{Tx}
use Rattle.locked_log.specs.History.{Known, Opened as Log}
use Rattle.mailbox.specs.Boxes.{Opened as Box, Sender as SendPass, receiver_in}
use Rattle.fault_script.specs.Sealing.{signer}
use Rattle.plan_text.specs.declared.plan.Arrival.{Arrival}
use Rattle.plan_text.specs.declared.plan.Client.{Client as Sender}
use Rattle.run_record.specs.Done.{due_of}
use Rattle.replica_seat.specs.Seats.{Seated, meaning}
use Rattle.thread_run.specs.Finishing.{column}
use Rattle.thread_run.specs.Starting.{IsDealt, IsNewClient, drivers_from, pass_with, rows_in, workers_from}
use Rattle.thread_run.proofs.InitialPasses.{all_below, rows_even}
use Rattle.thread_run.proofs.InitialState.{begins, seats_count}
use Rattle.thread_run.proofs.start.start.Goals as goal

pub seats_of-requires-clause-replicas : goal.seats_of-requires-clause-replicas
seats_of-requires-clause-replicas g c =
    let below = all_below g.S.Sealer.replica c.args.sealers.items c.args.plan.now.setting.n c.requires.places in
    search rules

pub drivers_of-requires : goal.drivers_of-requires
drivers_of-requires g c =
    let few = c.requires.rules.setting.replicas.few in
    let len = ap length c.in_ok-clients.ensures.mains ∙ length-map c.as_slice-2.result.now (pass_with 2)
    ∙ ap length c.as_slice-2.ensures.value ∙ c.in_ok-logs.ensures.count ∙ c.n-n.ensures.value in
    omega (arith, few, len)

pub sends_of-requires : goal.sends_of-requires
sends_of-requires g c = rows_even c.n-n.result c.in_ok-boxes.field-0.boxes.items (rows_in c.in_ok-boxes.field-0.passes.items) c.in_ok-boxes.ensures.passes

pub open_boxes-requires : goal.open_boxes-requires
open_boxes-requires g c =
    let value = c.n-n.ensures.value in
    let some = c.requires.rules.setting.replicas.some in
    let few = c.requires.rules.setting.replicas.few in
    (omega (arith, value, some), omega (arith, value, few))

pub workers_of-requires-clause-few : goal.workers_of-requires-clause-few
workers_of-requires-clause-few g c =
    let few = c.requires.rules.setting.replicas.few in
    let len = seats_count c.args.plan.now (meaning g.S.Sealer.replica g.S.Sealer.gives)
    (λ x. signer (g.S.Sealer.replica x) (g.S.Sealer.capacity x) (g.S.Sealer.gives x) (g.S.Sealer.made x)) c.args.sealers.items
    c.in_ok-seats.seats.items c.requires.places c.in_ok-seats.ensures in
    omega (arith, few, len)

pub workers_of-requires-clause-own : goal.workers_of-requires-clause-own
workers_of-requires-clause-own g c =
    let len = seats_count c.args.plan.now (meaning g.S.Sealer.replica g.S.Sealer.gives)
    (λ x. signer (g.S.Sealer.replica x) (g.S.Sealer.capacity x) (g.S.Sealer.gives x) (g.S.Sealer.made x)) c.args.sealers.items
    c.in_ok-seats.seats.items c.requires.places c.in_ok-seats.ensures in
    let is = ap length c.in_ok-logs.ensures.own ∙ length-map c.in_ok-logs.field-0.logs.items (pass_with 1) ∙ c.in_ok-logs.ensures.count
    ∙ c.n-n.ensures.value ∙ sym len in
    search rules

pub workers_of-requires-clause-takes : goal.workers_of-requires-clause-takes
workers_of-requires-clause-takes g c =
    let len = seats_count c.args.plan.now (meaning g.S.Sealer.replica g.S.Sealer.gives)
    (λ x. signer (g.S.Sealer.replica x) (g.S.Sealer.capacity x) (g.S.Sealer.gives x) (g.S.Sealer.made x)) c.args.sealers.items
    c.in_ok-seats.seats.items c.requires.places c.in_ok-seats.ensures in
    let is = ap length c.in_ok-boxes.ensures.takes ∙ length-map c.in_ok-boxes.field-0.boxes.items (λ b. receiver_in b [])
    ∙ c.in_ok-boxes.ensures.count ∙ c.n-n.ensures.value ∙ sym len in
    search rules

pub workers_of-requires-clause-sends : goal.workers_of-requires-clause-sends
workers_of-requires-clause-sends g c =
    let len = seats_count c.args.plan.now (meaning g.S.Sealer.replica g.S.Sealer.gives)
    (λ x. signer (g.S.Sealer.replica x) (g.S.Sealer.capacity x) (g.S.Sealer.gives x) (g.S.Sealer.made x)) c.args.sealers.items
    c.in_ok-seats.seats.items c.requires.places c.in_ok-seats.ensures in
    let is = sym (length-map c.in_ok-sends.sends.items (λ v. v.items)) ∙ ap length c.in_ok-sends.ensures
    ∙ length-map (range_with_len 0 c.n-n.result) (λ k. column k (rows_in c.in_ok-boxes.field-0.passes.items))
    ∙ length-range_with_len 0 c.n-n.result ∙ c.n-n.ensures.value ∙ sym len in
    search rules

pub returns : goal.returns
returns g c =
    begins c.args.plan.now _ (meaning g.S.Sealer.replica g.S.Sealer.gives)
    (λ x. signer (g.S.Sealer.replica x) (g.S.Sealer.capacity x) (g.S.Sealer.gives x) (g.S.Sealer.made x)) c.args.sealers.items
    c.in_ok-seats.seats.items c.in_ok-boxes.field-0.takes.items (rows_in c.in_ok-boxes.field-0.passes.items)
    (let some = c.requires.rules.setting.replicas.some in omega (arith, some)) c.requires.places c.in_ok-seats.ensures
    (c.in_ok-logs.ensures.count ∙ c.n-n.ensures.value)
    (subst (λ (k : ℕ). All (λ (l : Log). l.parts ≡ k + 3) c.in_ok-logs.field-0.logs.items) (ap length c.as_slice-senders.ensures) c.in_ok-logs.ensures.parts)
    (c.in_ok-boxes.ensures.count ∙ c.n-n.ensures.value)
    (subst (λ (k : ℕ). All (λ (b : Box). b.senders ≡ k) c.in_ok-boxes.field-0.boxes.items) c.n-n.ensures.value c.in_ok-boxes.ensures.senders)
    c.in_ok-boxes.ensures.takes
    (subst (λ (k : ℕ). AllZip (IsDealt k) c.in_ok-boxes.field-0.boxes.items (rows_in c.in_ok-boxes.field-0.passes.items))
    c.n-n.ensures.value c.in_ok-boxes.ensures.passes)
    (subst (λ (l : List Log). AllZip (IsNewClient l) c.args.plan.now.clients c.in_ok-clients.clients.items) c.as_slice-2.ensures.value
    (subst (λ (l : List Sender). AllZip (IsNewClient c.as_slice-2.result.now) l c.in_ok-clients.clients.items) c.as_slice-senders.ensures
    c.in_ok-clients.ensures.clients))
    (c.in_ok-drivers.ensures ∙ ap (λ (l : List Arrival). drivers_from l 0 c.clients_of.new.mains.items) c.as_slice-3.ensures
    ∙ ap (drivers_from c.args.plan.now.arrivals 0) (c.in_ok-clients.ensures.mains ∙ ap (map (pass_with 2)) c.as_slice-2.ensures.value))
    (c.in_ok-workers.ensures
    ∙ ap (λ (l : List (Known Tx)). workers_from 0 c.in_ok-seats.seats.items l c.in_ok-boxes.field-0.takes.items (rows_in c.in_ok-sends.sends.items))
    c.in_ok-logs.ensures.own
    ∙ ap (λ (l : List (List SendPass)).
    workers_from 0 c.in_ok-seats.seats.items (map (pass_with 1) c.in_ok-logs.field-0.logs.items) c.in_ok-boxes.field-0.takes.items l)
    (c.in_ok-sends.ensures ∙ ap (λ (k : ℕ). map (λ j. column j (rows_in c.in_ok-boxes.field-0.passes.items)) (range_with_len 0 k)) c.n-n.ensures.value))
    (c.in_ok-due.ensures
    ∙ ap (λ (l : List (Seated g.row.S.Denot)). due_of c.args.plan.now.setting.n c.args.plan.now.faulty (map (λ s. s.feed.txs) l)) c.as_slice.ensures.value)
    refl
    refl
