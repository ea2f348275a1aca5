use Rattle.std.proofs.Common.{◌≡◌, ◌+◌, ◌≤◌, length, Some, slice_get, sym, arith}
use Rattle.seq_base.specs.declared.block.CertVote.{CertVote}
use Rattle.run_verdict.specs.Parts.{vote_part}
use Rattle.run_verdict.specs.Forged.{forged_from}
use Rattle.run_verdict.proofs.PartSearch.{forged_stop, forged_go, forged_skip, forged_past}
use Rattle.run_verdict.proofs.forgery.Search.in_cert.Goals as goal
use Rattle.run_verdict.proofs.forgery.Search.in_cert.Goals.{in-Some+else-is_some, in_default}

pub returns-then-is_some : goal.returns-then-is_some
returns-then-is_some g c =
    let check = g.C.Checker.meaning c.args.self.now.checker.now in
    let run = c.args.self.now.run.now in
    let vote : CertVote = record { replica = c.in-Some.vote.0; seal = c.in-Some.vote.1.now } in
    let there : slice_get c.args.cert.now.votes c.loop-k.k ≡ Some vote = sym (rw c.in-Some.is at c.vote.ensures) in
    forged_stop check run c.args.place.receiver c.args.place.entry (vote_part c.args.cert.now) c.args.cert.now.votes c.loop-k.k c.loop-k.k
    (forged_from check run c.args.place.receiver c.args.place.entry 0 _) c.loop-k.invariant
    vote c.in_cert_vote-forged.result there c.in_cert_vote-forged.ensures (sym c.if-is_some.ensures)

pub loop-k-preserved : goal.loop-k-preserved
loop-k-preserved g c =
    let check = g.C.Checker.meaning c.args.self.now.checker.now in
    let run = c.args.self.now.run.now in
    elim c.match-vote.branch [
      | in-Some+else-is_some w ↦
          let vote : CertVote = record { replica = w.in-Some.vote.0; seal = w.in-Some.vote.1.now } in
          let there : slice_get c.args.cert.now.votes c.loop-k.k ≡ Some vote = sym (rw w.in-Some.is at c.vote.ensures) in
          forged_go check run c.args.place.receiver c.args.place.entry (vote_part c.args.cert.now) c.args.cert.now.votes c.loop-k.k c.loop-k.k
          (forged_from check run c.args.place.receiver c.args.place.entry 0 _) c.loop-k.invariant
          (c.loop-k.k + 1) vote w.in_cert_vote-forged.result there w.in_cert_vote-forged.ensures (sym w.if-is_some.ensures) (omega arith)
      | in_default w ↦
          forged_skip check run c.args.place.receiver c.args.place.entry (vote_part c.args.cert.now) c.args.cert.now.votes c.loop-k.k c.loop-k.k
          (forged_from check run c.args.place.receiver c.args.place.entry 0 _) c.loop-k.invariant (c.loop-k.k + 1) (sym (rw w.in_default.is at c.vote.ensures))
    ]

pub returns : goal.returns
returns g c =
    let check = g.C.Checker.meaning c.args.self.now.checker.now in
    let run = c.args.self.now.run.now in
    let past : length c.args.cert.now.votes ≤ c.loop-k.k = rw c.len-k-end.ensures at c.loop-k-test.false in
    forged_past check run c.args.place.receiver c.args.place.entry (vote_part c.args.cert.now) c.args.cert.now.votes c.loop-k.k c.loop-k.k
    (forged_from check run c.args.place.receiver c.args.place.entry 0 _) c.loop-k.invariant past
