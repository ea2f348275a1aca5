use Rattle.std.proofs.Common.{◌≡◌, false, map, take}
use Rattle.plan_text.specs.Fields.{is_named}
use Rattle.plan_text.proofs.fields.is_among.Given as goal

abbrev pub invariant-loop-name : goal.invariant-loop-name
invariant-loop-name l = is_named (map (λ name. name.now) (take l.name-index l.names)) l.key ≡ false
