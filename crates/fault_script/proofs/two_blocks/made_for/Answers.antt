use Rattle.std.proofs.Common.{◌≡◌, ◌<◌, ℕ, true, List, Some, drop, get_or, length, sym, ◌∙◌}
use Rattle.std.specs.Str.{bytes_eq}
use Rattle.std.proofs.lemmas.List.{drop_more}
use Rattle.fault_script.specs.declared.two_blocks.Made.{Made}
use Rattle.fault_script.specs.Twists.{made_for}
use Rattle.fault_script.proofs.two_blocks.made_for.Goals as goal

made_for-here : (ms : List Made) (i : ℕ) (m : Made) (bytes : List ℕ) → i < length ms → m ≡ get_or ms i m → bytes_eq m.first bytes ≡ true
    → made_for (drop i ms) bytes ≡ Some m.second
made_for-here ms i m bytes within is same = rw (drop_more ms i m within, ← is, same)

pub returns-then-eq : goal.returns-then-eq
returns-then-eq c =
    sym (c.loop-earlier.invariant ∙ made_for-here c.args.made.now c.loop-earlier.earlier-index c.earlier-item.result c.args.bytes.now
    c.loop-earlier-test.true c.earlier-item.is (rw (← c.as_slice.ensures) (sym c.if-eq.ensures)))
