use Rattle.replica_box.proofs.verifier.add_all.Goals as goal

-- the last one goes from those that are kept to those that are remembered
pub loop-preserved : goal.loop-preserved
loop-preserved c = λ fits all good. let before = c.loop.invariant fits all good in
    (c.add_last.ensures.rest fits before.0, c.add_last.ensures.good fits before.0 before.1)
