use Rattle.std.proofs.Common.{rules, ◌<◌, length, get_or, arith}
use Rattle.std.proofs.lemmas.Option.{slice_get-get_or}
use Rattle.mailbox.specs.Boxes.{IsSenderOf}
use Rattle.client_logs.proofs.Zips.{zip_length, zip_at}
use Rattle.thread_run.proofs.pairs.compare.Goals as goal

pub bounds-sends-at : goal.bounds-sends-at
bounds-sends-at g c =
    let z = zip_length IsSenderOf _ _ c.requires.senders in
    let p = c.requires.place in
    omega (arith, z, p)

pub all_taken-requires-clause-sender : goal.all_taken-requires-clause-sender
all_taken-requires-clause-sender g c =
    let z = zip_length IsSenderOf _ _ c.requires.senders in
    let p = c.requires.place in
    let there =
    zip_at IsSenderOf c.args.boxes.now c.args.sends.now c.args.at c.index-boxes-at.result c.index-sends-at.result c.requires.senders
    (omega (arith, z, p)) in
    search rules

pub returns-clause-compared : goal.returns-clause-compared
returns-clause-compared g c =
    let z = zip_length IsSenderOf _ _ c.requires.senders in
    let p = c.requires.place in
    let below : c.args.at < length c.args.sends.now = omega (arith, z, p) in record {
      pass = get_or c.args.sends.now c.args.at c.index-sends-at.result;
      there = slice_get-get_or c.args.sends.now c.args.at c.index-sends-at.result below;
      prefix = c.all_taken.ensures.prefix;
      all = c.all_taken.ensures.all;
    }
