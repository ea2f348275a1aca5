use Rattle.std.proofs.Common.{◌≡◌, ◌+◌, arith, sym, ◌∙◌}
use Rattle.std.proofs.lemmas.List.FromFn.{map-range_with_len_more}
use Rattle.seq_base.specs.declared.message.Outgoing.{Outgoing}
use Rattle.std.specs.Prelude.{ℕ, List}
use Rattle.node_core.proofs.sending.to_each.Goals as goal

to_it : List ℕ → ℕ → Outgoing
to_it bytes to = record { to = to; bytes = bytes }

pub loop-to-preserved : goal.loop-to-preserved
unfolding to_it
loop-to-preserved c =
    let start : 0 + c.loop-to.to ≡ c.loop-to.to = omega arith in
    c.in_ok-push.ensures.items
    ∙ rw (c.loop-to.invariant, c.in_ok-outgoing.ensures)
    (sym (map-range_with_len_more (to_it c.args.packet.now) 0 c.loop-to.to c.loop-to.to start))
