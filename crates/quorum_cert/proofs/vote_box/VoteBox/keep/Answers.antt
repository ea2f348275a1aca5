use Rattle.std.proofs.Common.{◌≡◌, ◌<◌, ◌≤◌, ℕ, length, false, sym, ap, ◌∙◌, arith}
use Rattle.std.specs.Prelude.{insert}
use Rattle.seq_base.specs.Setting.{quorum_of}
use Rattle.quorum_cert.specs.Boxes.{Box, has_vote, place_in, with_vote}
use Rattle.quorum_cert.proofs.Formed.{more_kept, last_counts, some_wanted}
use Rattle.quorum_cert.proofs.SortedVotes.{rise_inserted}
use Rattle.quorum_cert.proofs.vote_box.VoteBox.keep.Goals as goal

pub invariant_of-self-then-len-quorum : goal.invariant_of-self-then-len-quorum
invariant_of-self-then-len-quorum c =
    let votes = c.self.inside.votes.items in
    let vote = c.args.vote in
    let placed : c.place-place.result ≡ place_in votes vote.replica =
    c.place-place.ensures.place ∙ ap (λ (b : Box). place_in b.votes vote.replica) (sym c.self.view_is) in
    let items : c.insert.new.self.items ≡ with_vote vote votes = c.in_ok-insert.ensures.items ∙ ap (λ (k : ℕ). insert votes k vote) placed in
    let new : has_vote votes vote.replica ≡ false = ap (λ (b : Box). has_vote b.votes vote.replica) c.self.view_is ∙ sym c.has.ensures ∙ c.if-has.false in
    let fewer : length c.insert.new.self.items < quorum_of c.self.inside.setting = omega (arith, c.if-len-quorum.true, c.len.ensures, c.quorum.ensures.value) in
    rw items (more_kept c.self.inside.setting vote votes c.self.invariant new (rw items at fewer))

pub returns-clause-whole : goal.returns-clause-whole
returns-clause-whole c =
    let votes = c.self.inside.votes.items in
    let vote = c.args.vote in
    let placed : c.place-place.result ≡ place_in votes vote.replica =
    c.place-place.ensures.place ∙ ap (λ (b : Box). place_in b.votes vote.replica) (sym c.self.view_is) in
    let items : c.insert.new.self.items ≡ with_vote vote votes = c.in_ok-insert.ensures.items ∙ ap (λ (k : ℕ). insert votes k vote) placed in
    let new : has_vote votes vote.replica ≡ false = ap (λ (b : Box). has_vote b.votes vote.replica) c.self.view_is ∙ sym c.has.ensures ∙ c.if-has.false in
    let of : c.of.result ≡ with_vote vote votes = c.of.ensures ∙ rw c.replace-votes.ensures.value items in
    let enough : quorum_of c.self.inside.setting ≤ length c.insert.new.self.items =
    omega (arith, c.if-len-quorum.false, c.len.ensures, c.quorum.ensures.value) in
    let some : 1 ≤ quorum_of c.self.inside.setting = some_wanted c.self.inside.setting c.quorum.ensures.valid in
    rw (of, ← c.self.view_is)
    (last_counts c.self.inside.setting vote votes c.self.invariant some (rw items at enough), rise_inserted vote votes c.self.invariant.rise new)
