use Rattle.std.proofs.Common.{sym}
use Rattle.trace_form.proofs.keys.key_of.Goals as goal

pub copy_from_slice-requires : goal.copy_from_slice-requires
copy_from_slice-requires c = sym c.requires
