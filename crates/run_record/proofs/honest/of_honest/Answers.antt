use Rattle.std.proofs.Common.{◌≡◌, false}
use Rattle.run_record.specs.Honest.{is_honest}
use Rattle.run_record.proofs.Honesty.{honest_skip}
use Rattle.run_record.proofs.honest.of_honest.Goals as goal

pub returns-else-is_honest-clause-walk : goal.returns-else-is_honest-clause-walk
returns-else-is_honest-clause-walk g c =
    let not : is_honest c.args.setting.now.n c.args.faulty.now c.args.replica ≡ false = cc in
    honest_skip (is_honest c.args.setting.now.n c.args.faulty.now) c.args.items.now c.args.replica not
