use Rattle.std.proofs.Common.{◌≡◌, ◌++◌, take}
use Rattle.std.specs.List.{flat_map}
use Rattle.trace_form.specs.Spelling.{list_spelling}
use Rattle.trace_form.proofs.writing.put_lists.Given as goal

abbrev pub invariant-loop-list : goal.invariant-loop-list
invariant-loop-list l = l.out.items ≡ l.fn.out.items ++ flat_map list_spelling (take l.list-index l.lists)
