use Rattle.std.proofs.Common.{ℕ, List, ◌++◌, length, ap, ◌∙◌}
use Rattle.std.specs.Int.{w8, w32, to_be_bytes}
use Rattle.std.specs.List.{flat_map}
use Rattle.std.proofs.lemmas.List.{take_all}
use Rattle.seq_base.specs.declared.block.CertVote.{CertVote}
use Rattle.seq_base.specs.Spelling.{cert_vote_spelling}
use Rattle.wire_write.proofs.Puts.{three_put, none_put, one_more_put}
use Rattle.wire_write.proofs.parts.put_cert.Goals as goal

pub loop-vote-init : goal.loop-vote-init
loop-vote-init c =
    let cert = c.args.cert.now in
    let out : List ℕ = c.args.out.now.items in
    let view = to_be_bytes w32 cert.view in
    let count = to_be_bytes w8 (length c.as_slice-votes.result.now) in
    none_put out (view ++ cert.block.0 ++ count) c.put_u8_count.new.out.items
    (three_put out view cert.block.0 count c.put_u32.new.out.items c.put_digest.new.out.items c.put_u8_count.new.out.items
    c.in_ok-put_u32.ensures c.in_ok-put_digest.ensures c.in_ok-put_u8_count.ensures)

pub loop-vote-preserved : goal.loop-vote-preserved
loop-vote-preserved c =
    let cert = c.args.cert.now in
    let votes = c.as_slice-votes.result.now in
    one_more_put cert_vote_spelling c.args.out.now.items
    (to_be_bytes w32 cert.view ++ cert.block.0 ++ to_be_bytes w8 (length votes)) c.loop-vote.out.items c.put_cert_vote.new.out.items
    votes c.loop-vote.vote-index c.vote-item.result c.loop-vote-test.true c.loop-vote.invariant
    (c.in_ok-put_cert_vote.ensures ∙ ap (λ (vote : CertVote). c.loop-vote.out.items ++ cert_vote_spelling vote) c.vote-item.is)

pub returns : goal.returns
returns c =
    let cert = c.args.cert.now in
    let out : List ℕ = c.args.out.now.items in
    let prefix : List ℕ = to_be_bytes w32 cert.view ++ cert.block.0 in
    let votes = c.as_slice-votes.result.now in
    c.loop-vote.invariant
    ∙ ap (λ (vs : List CertVote). out ++ (prefix ++ to_be_bytes w8 (length votes) ++ flat_map cert_vote_spelling vs))
    (take_all c.loop-vote.vote-index votes c.loop-vote-test.false)
    ∙ ap (λ (vs : List CertVote). out ++ (prefix ++ to_be_bytes w8 (length vs) ++ flat_map cert_vote_spelling vs)) c.as_slice-votes.ensures
