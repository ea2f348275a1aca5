use Rattle.std.proofs.Common.{ℕ, length, arith, inl, inr}
use Rattle.std.proofs.lemmas.Bool.{cases_lt}
use Rattle.std.proofs.lemmas.List.{get_or_past}
use Rattle.wire_view.proofs.Exact.{IsBytes}
use Rattle.wire_view.proofs.Whole.{found_so, view_is}
use Rattle.wire_view.proofs.laws.what_is_read_is_spelled.Goals as goal

pub returns : goal.returns
returns c = λ bytes view each read.
    let fits : IsBytes bytes = λ i. elim (cases_lt i (length bytes)) [ inl lt ↦ each i 0 lt | inr le ↦ rw (get_or_past bytes i 0 le) (omega arith) ] in
    let f = found_so bytes view fits read in
    (f.1, f.0, view_is bytes view fits read)
