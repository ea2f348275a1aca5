-- What the statement of a local order names, after its kind.
use Rattle.std.proofs.Common.{◌≡◌, ℕ, ◌^◌, ◌<◌, List, ◌++◌, length, take, drop, refl, ap, ◌∙◌, arith, append_assoc}
use Rattle.std.specs.Int.{w8, w32, from_be_bytes, to_be_bytes}
use Rattle.std.proofs.lemmas.List.{take_at, drop_at}
use Rattle.std.proofs.lemmas.Nat.{from_be_bytes-to_be_bytes_4}
use Rattle.seq_base.specs.declared.digest.Digest.{Digest}
use Rattle.seq_base.specs.declared.order.LocalOrder.{LocalOrder}
use Rattle.seq_base.specs.Spelling.{order_spelling, txs_spelling}
use Rattle.journal_rules.specs.Rules.{replica_named, view_named, parent_named}

pub replica_of_order : (o : LocalOrder) → o.replica < 256 → replica_named (order_spelling o) ≡ o.replica
replica_of_order o small = omega (arith, small)

pub view_of_order : (o : LocalOrder) → o.view < 2 ^ 32 → view_named (order_spelling o) ≡ o.view
view_of_order o small =
    let rest : List ℕ = o.parent.0 ++ txs_spelling o.fresh ++ txs_spelling o.late in
    ap (λ (xs : List ℕ). from_be_bytes w32 (take 4 xs)) (drop_at (to_be_bytes w8 o.replica) (to_be_bytes w32 o.view ++ rest) 1 refl)
    ∙ ap (from_be_bytes w32) (take_at (to_be_bytes w32 o.view) rest 4 refl)
    ∙ from_be_bytes-to_be_bytes_4 o.view small

abbrev digest_of : List ℕ → Digest
digest_of bytes = record { 0 = bytes }

pub parent_of_order : (o : LocalOrder) → length o.parent.0 ≡ 32 → parent_named (order_spelling o) ≡ o.parent
parent_of_order o long =
    let rest : List ℕ = o.parent.0 ++ txs_spelling o.fresh ++ txs_spelling o.late in
    let following : drop 6 (order_spelling o) ≡ rest = drop_at (to_be_bytes w8 o.replica ++ to_be_bytes w32 o.view) rest 5 refl in
    let named : take 32 (drop 6 (order_spelling o)) ≡ o.parent.0 =
    ap (take 32) (following ∙ append_assoc o.parent.0 (txs_spelling o.fresh) (txs_spelling o.late))
    ∙ take_at o.parent.0 (txs_spelling o.fresh ++ txs_spelling o.late) 32 long in
    ap digest_of named
