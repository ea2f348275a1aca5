use Rattle.std.proofs.Common.{◌≤◌, ◌<◌, ◌+◌, length, ap, sym, ◌∙◌, arith}
use Rattle.std.proofs.lemmas.List.{length-drop, length-take-le}
use Rattle.std.proofs.lemmas.Result.{on_err_weaker, on_ok_weaker}
use Rattle.durable_node.proofs.Headers.{whole_taken}
use Rattle.durable_node.proofs.Held.{held_after, held_torn, on_err}
use Rattle.durable_node.proofs.Owners.{none_taken, opened_once, own_long, own_short}
use Rattle.durable_node.proofs.opening.begin_after.Goals as goal

-- ---- a new or torn log

pub returns-then-size-lt-HEADER_BYTES-clause-kept : goal.returns-then-size-lt-HEADER_BYTES-clause-kept
returns-then-size-lt-HEADER_BYTES-clause-kept g c =
    let old = g.K.Keeper.bytes c.args.keeper.now in
    let short : length old < 76 = omega (arith, c.if-size-lt-HEADER_BYTES.true, c.requires.size) in
    on_ok_weaker c.write_header.result (λ is. is ∙ none_taken c.args.header.now old c.args.whole short c.requires.within) c.write_header.ensures.kept

pub returns-then-size-lt-HEADER_BYTES-clause-unopened : goal.returns-then-size-lt-HEADER_BYTES-clause-unopened
returns-then-size-lt-HEADER_BYTES-clause-unopened g c =
    let old = g.K.Keeper.bytes c.args.keeper.now in
    let short : length old < 76 = omega (arith, c.if-size-lt-HEADER_BYTES.true, c.requires.size) in
    on_err_weaker c.write_header.result
    (λ once. opened_once _ old _ _ (own_short c.args.header.now old c.requires.sized c.requires.own short) once) c.write_header.ensures.once

pub returns-then-size-lt-HEADER_BYTES-clause-refused : goal.returns-then-size-lt-HEADER_BYTES-clause-refused
returns-then-size-lt-HEADER_BYTES-clause-refused g c = λ events prefix.
    let old = g.K.Keeper.bytes c.args.keeper.now in
    let short : length old < 76 = omega (arith, c.if-size-lt-HEADER_BYTES.true, c.requires.size) in
    let torn = own_short c.args.header.now old c.requires.sized c.requires.own short in
    on_err_weaker c.write_header.result (λ is. held_torn c.args.header.now old _ _ _ c.requires.sized c.requires.own short is)
    (c.write_header.ensures.torn torn.1)

-- ---- a log with the header

pub overflow_add-whole : goal.overflow_add-whole
overflow_add-whole g c =
    let old = g.K.Keeper.bytes c.args.keeper.now in
    omega (arith, c.requires.within, c.requires.size, c.ranges.size.fits, c.if-size-lt-HEADER_BYTES.false, length-drop 76 old)

pub begin-requires-clause-within : goal.begin-requires-clause-within
begin-requires-clause-within g c =
    let old = g.K.Keeper.bytes c.args.keeper.now in
    omega (arith, c.requires.within, c.requires.size, c.if-size-lt-HEADER_BYTES.false, length-drop 76 old)

pub returns-in_err-begin-clause-refused : goal.returns-in_err-begin-clause-refused
returns-in_err-begin-clause-refused g c = λ events prefix.
    let old = g.K.Keeper.bytes c.args.keeper.now in
    let long : 76 ≤ length old = omega (arith, c.if-size-lt-HEADER_BYTES.false, c.requires.size) in
    on_err _ _ (held_after c.args.header.now old _ _ _ events c.args.whole c.requires.own long prefix c.in_err-begin.ensures.refused
    c.in_err-begin.ensures.falls)

pub returns-in_ok-begin-clause-kept : goal.returns-in_ok-begin-clause-kept
returns-in_ok-begin-clause-kept g c =
    let old = g.K.Keeper.bytes c.args.keeper.now in
    let long : 76 ≤ length old = omega (arith, c.if-size-lt-HEADER_BYTES.false, c.requires.size) in
    c.in_ok-begin.ensures.cut ∙ whole_taken c.args.header.now old c.args.whole (own_long c.args.header.now old c.requires.own long)

pub returns-in_ok-begin-clause-durable_size : goal.returns-in_ok-begin-clause-durable_size
returns-in_ok-begin-clause-durable_size g c =
    let old = g.K.Keeper.bytes c.args.keeper.now in
    let within : 76 + c.args.whole ≤ length old = omega (arith, c.requires.within, c.requires.size, c.if-size-lt-HEADER_BYTES.false, length-drop 76 old) in
    c.in_ok-begin.ensures.durable_size ∙ sym (ap length c.in_ok-begin.ensures.cut ∙ length-take-le (76 + c.args.whole) old within)
