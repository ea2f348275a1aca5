use Rattle.std.proofs.Common.{◌++◌, ◌∷◌}
use Rattle.durable_node.specs.Check.{next_digest}
use Rattle.durable_node.specs.Log.{body_of, digest_after, records_of}
use Rattle.durable_node.proofs.Ends.{found_in, moved_bad, prefixes_agree, never_bad_in, never_both, one_bad, read_whole_log, wrong_bad}
use Rattle.durable_node.proofs.laws.logs_are_read_back.Goals as goal

pub returns : goal.returns
returns c = record {
  whole = read_whole_log;
  cut = found_in;
  good = never_bad_in;
  one_prefix = prefixes_agree;
  one_place = one_bad;
  either = never_both;
  corrupt = wrong_bad;
  moved = moved_bad;
  left_out = λ digest a out e more each differ.
      let other = digest_after digest (a ++ out) in
      moved_bad digest other a e (records_of (next_digest other (body_of e)) more) each differ;
  exchanged = λ digest a between first second more each differ. moved_bad digest (digest_after digest (a ++ first ∷ between)) a second more each differ;
}
