use Rattle.headline_laws.proofs.Parted.{parts}
use Rattle.headline_laws.proofs.examples.lists_may_part_where_blocks_collide.Goals as goal

pub returns : goal.returns
returns c = parts c.spellings_are_read.ensures
