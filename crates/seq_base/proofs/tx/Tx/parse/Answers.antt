use Rattle.std.proofs.lemmas.List.{append_assoc}
use Rattle.seq_base.proofs.Parts.{client_part, number_part, dot_is_there}
use Rattle.seq_base.specs.Dots.{HasNoDot}
use Rattle.seq_base.proofs.tx.Tx.parse.Goals as goal

pub returns-in_err-client-clause-none : goal.returns-in_err-client-clause-none
returns-in_err-client-clause-none c = rw c.from_residual.ensures (λ t fits spelled.
    let none : HasNoDot c.args.text.now = c.in_err-client.ensures.none in
    dot_is_there _ _ (rw (spelled, append_assoc) at none))

pub returns-in_err-number-clause-none : goal.returns-in_err-number-clause-none
returns-in_err-number-clause-none c = rw c.from_residual-in_err-number.ensures (λ t fits spelled.
    let some = c.in_ok-client.ensures.some in
    let none : HasNoDot c.in_ok-client.rest.now = c.in_err-number.ensures.none in
    let parts = client_part c.args.text.now c.in_ok-client.client.now c.in_ok-client.rest.now t fits spelled some.0 some.1 in
    dot_is_there _ _ (rw parts.1 at none))

pub returns-in_err-parse_u32-clause-none : goal.returns-in_err-parse_u32-clause-none
returns-in_err-parse_u32-clause-none c = rw c.from_residual-in_err-parse_u32.ensures (λ t fits spelled.
    let some = c.in_ok-client.ensures.some in
    let parts = client_part c.args.text.now c.in_ok-client.client.now c.in_ok-client.rest.now t fits spelled some.0 some.1 in
    c.in_err-parse_u32.ensures.none t.client fits.client parts.0)

pub returns-in_err-parse_u32-2-clause-none : goal.returns-in_err-parse_u32-2-clause-none
returns-in_err-parse_u32-2-clause-none c = rw c.from_residual-in_err-parse_u32-2.ensures (λ t fits spelled.
    let some = c.in_ok-client.ensures.some in
    let parts = client_part c.args.text.now c.in_ok-client.client.now c.in_ok-client.rest.now t fits spelled some.0 some.1 in
    let more = c.in_ok-number.ensures.some in
    let tail = number_part c.in_ok-client.rest.now c.in_ok-number.number.now c.in_ok-number.payload.now t fits parts.1 more.0 more.1 in
    c.in_err-parse_u32-2.ensures.none t.number fits.number tail.0)

pub returns-in_err-parse_u64-clause-none : goal.returns-in_err-parse_u64-clause-none
returns-in_err-parse_u64-clause-none c = rw c.from_residual-in_err-parse_u64.ensures (λ t fits spelled.
    let some = c.in_ok-client.ensures.some in
    let parts = client_part c.args.text.now c.in_ok-client.client.now c.in_ok-client.rest.now t fits spelled some.0 some.1 in
    let more = c.in_ok-number.ensures.some in
    let tail = number_part c.in_ok-client.rest.now c.in_ok-number.number.now c.in_ok-number.payload.now t fits parts.1 more.0 more.1 in
    c.in_err-parse_u64.ensures.none t.payload fits.payload tail.1)
