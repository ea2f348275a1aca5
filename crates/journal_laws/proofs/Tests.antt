-- What the tests of the table imply if they fail.
use Rattle.std.proofs.Common.{◌≡◌, ℕ, ◌<◌, ◌≤◌, false, nat_le, nat_lt}
use Rattle.std.specs.Prelude.{not}
use Rattle.std.proofs.lemmas.Bool.{and_parts, leb-false, leb-true, ltb-true, not-false, or_parts}
use Rattle.seq_base.specs.declared.block.Cert.{Cert}
use Rattle.node_core.specs.State.{Known, has_view}
use Rattle.node_core.specs.Rows.{Check, is_bad}

pub viewed : (s : Known) (v : ℕ) → not (has_view s v) ≡ false → (0 < v) × (v ≤ s.views)
viewed s v e = let parts = and_parts (nat_lt 0 v) (nat_le v s.views) (not-false (has_view s v) e) in (ltb-true 0 v parts.0, leb-true v s.views parts.1)

pub is_below : (fits : Check) (s : Known) (cert : Cert) (v : ℕ) → is_bad fits s cert v ≡ false → cert.view < v
is_below fits s cert v e = leb-false v cert.view (or_parts (nat_le v cert.view) _ e).0
