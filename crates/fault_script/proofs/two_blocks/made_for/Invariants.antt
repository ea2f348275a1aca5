use Rattle.std.proofs.Common.{◌≡◌, drop}
use Rattle.fault_script.specs.Twists.{made_for}
use Rattle.fault_script.proofs.two_blocks.made_for.Given as goal

abbrev pub invariant-loop-earlier : goal.invariant-loop-earlier
invariant-loop-earlier l = made_for l.made l.bytes ≡ made_for (drop l.earlier-index l.made) l.bytes
