use Rattle.std.proofs.Common.{◌≡◌, [], drop}
use Rattle.fault_script.specs.Passing.{script_onto}
use Rattle.fault_script.proofs.link.LinkState.new.Given as goal

abbrev pub invariant-loop-link : goal.invariant-loop-link
invariant-loop-link l = script_onto l.script.entries l.from l.to (drop l.link-index l.links) ≡ script_onto [] l.from l.to l.links
