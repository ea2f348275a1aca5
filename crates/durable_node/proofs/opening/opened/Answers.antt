use Rattle.std.proofs.Common.{length, refl, ap, ◌∙◌, arith}
use Rattle.durable_node.proofs.Headers.{length_header}
use Rattle.durable_node.proofs.Held.{held_same, on_err}
use Rattle.durable_node.proofs.opening.opened.Goals as goal

pub returns-in_err-header-clause-refused : goal.returns-in_err-header-clause-refused
returns-in_err-header-clause-refused g c =
    on_err _ _ (held_same _ _ _ _ _ (length_header c.args.setting c.args.views (g.S.Sealer.replica c.args.sealer) _ c.args.keys.now (omega arith)) refl refl)

pub returns-in_err-log-clause-refused : goal.returns-in_err-log-clause-refused
returns-in_err-log-clause-refused g c =
    on_err _ _ (held_same _ _ _ _ _ (length_header c.args.setting c.args.views (g.S.Sealer.replica c.args.sealer) _ c.args.keys.now (omega arith))
    c.read_all.ensures.bytes c.read_all.ensures.durable_size)

pub returns-in_err-logged-clause-refused : goal.returns-in_err-logged-clause-refused
returns-in_err-logged-clause-refused g c =
    on_err _ _ (held_same _ _ _ _ _ (length_header c.args.setting c.args.views (g.S.Sealer.replica c.args.sealer) _ c.args.keys.now (omega arith))
    c.read_all.ensures.bytes c.read_all.ensures.durable_size)

pub returns-in_err-node-clause-refused : goal.returns-in_err-node-clause-refused
returns-in_err-node-clause-refused g c =
    on_err _ _ (held_same _ _ _ _ _ (length_header c.args.setting c.args.views (g.S.Sealer.replica c.args.sealer) _ c.args.keys.now (omega arith))
    c.read_all.ensures.bytes c.read_all.ensures.durable_size)

pub own_records-requires : goal.own_records-requires
own_records-requires g c = ap length c.as_slice-2.ensures.value ∙ ap length c.in_ok-header.ensures.header
    ∙ length_header c.args.setting c.args.views c.replica.result _ c.args.keys.now (omega arith)

pub begin_after-requires-clause-sized : goal.begin_after-requires-clause-sized
begin_after-requires-clause-sized g c = ap length c.as_slice-4.ensures.value ∙ ap length c.in_ok-header.ensures.header
    ∙ length_header c.args.setting c.args.views c.replica.result _ c.args.keys.now (omega arith)
