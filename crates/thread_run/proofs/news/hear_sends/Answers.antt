use Rattle.std.proofs.Common.{rules, ◌<◌, ◌∙◌, ap, length, sym, arith}
use Rattle.std.specs.Prelude.{Option}
use Rattle.std.specs.Option.{option_map_or}
use Rattle.std.proofs.lemmas.Option.{slice_get-get_or}
use Rattle.mailbox.specs.Boxes.{IsSenderOf, Sender, heard_more}
use Rattle.client_logs.proofs.Zips.{zip_length, zip_at}
use Rattle.thread_run.proofs.news.hear_sends.Goals as goal

pub bounds-sends-at : goal.bounds-sends-at
bounds-sends-at c =
    let z = zip_length IsSenderOf _ _ c.requires.senders in
    let p = c.requires.place in
    omega (arith, z, p)

pub hear-requires-clause-sender : goal.hear-requires-clause-sender
hear-requires-clause-sender c =
    let z = zip_length IsSenderOf _ _ c.requires.senders in
    let p = c.requires.place in
    let there =
    zip_at IsSenderOf c.args.boxes.now c.args.sends.now c.args.at c.index-boxes-at.result c.index-sends-at.result c.requires.senders
    (omega (arith, z, p)) in
    search rules

pub returns-clause-heard : goal.returns-clause-heard
returns-clause-heard c =
    let z = zip_length IsSenderOf _ _ c.requires.senders in
    let p = c.requires.place in
    let below : c.args.at < length c.args.sends.now = omega (arith, z, p) in
    c.hear.ensures.0
    ∙ ap (λ (o : Option Sender). option_map_or (heard_more c.args.take.now) o c.args.take.now)
    (sym (slice_get-get_or c.args.sends.now c.args.at c.index-sends-at.result below))
