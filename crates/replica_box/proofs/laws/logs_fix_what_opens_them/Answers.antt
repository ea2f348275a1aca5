use Rattle.replica_box.proofs.OwnersAgree.{OneOwner, one_header, one_secret, open_alike}
use Rattle.replica_box.proofs.laws.logs_fix_what_opens_them.Goals as goal

pub returns : goal.returns
returns c =
    let law : OneOwner = record { one = c.logs_say_whose_they_are.ensures.one; heights = c.logs_say_whose_they_are.ensures.heights } in
    record { header = one_header law; alike = open_alike; gives = one_secret }
