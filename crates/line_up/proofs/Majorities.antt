-- Neighbours in a line have the weights that an edge requires.
use Rattle.std.proofs.Common.{◌≡◌, ℕ, ◌+◌, ◌<◌, ◌≤◌, ◌⊎◌, inl, inr, List, length, get_or, Bool, true, false, cond, refl, subst, arith}
use Rattle.std.specs.Prelude.{◌≢◌}
use Rattle.std.specs.List.{AllPairs}
use Rattle.std.specs.Ordering.{is_lt}
use Rattle.std.proofs.lemmas.Bool.Decides.{nat_tests}
use Rattle.std.proofs.lemmas.Option.{slice_get_within, get_or_from_slice_get}
use Rattle.seq_base.specs.declared.tx.Tx.{Tx}
use Rattle.seq_base.specs.Setting.{Parameters, threshold_of}
use Rattle.seq_base.specs.Tx.{tx_cmp}
use Rattle.majority_graph.specs.declared.edge.Edge.TheVariants.{To, From, Missing}
use Rattle.majority_graph.specs.Edges.{outweighs, gives_edge, edge_between}
use Rattle.majority_graph.specs.Weights.{weight}
use Rattle.line_up.specs.Line.{line_of}
use Rattle.line_up.specs.Paths.{HaveMajorities}
use Rattle.line_up.proofs.Lines.{IsDecided, chains}

given : (a b : Bool) → cond a To (cond b From Missing) ≢ Missing → (a ≡ true) ⊎ (b ≡ true)
given true b there = inl refl
given false true there = inr refl
given false false there = absurd (there refl)

weighs : (t f b : ℕ) (rises : Bool) → outweighs t f b rises ≡ true → (t ≤ f) × (b ≤ f)
weighs t f b true gives = (grind (arith, nat_tests), grind (arith, nat_tests))
weighs t f b false gives = (grind (arith, nat_tests), grind (arith, nat_tests))

pub majorities : (s : Parameters) (lists : List (List Tx)) (batch : List Tx) → AllPairs (λ u v. edge_between s lists u v ≢ Missing) batch
    → HaveMajorities s lists (line_of (gives_edge s lists) batch)
majorities s lists batch there k x y here next =
    let line : List Tx = line_of (gives_edge s lists) batch in
    let inside : k + 1 < length line = slice_get_within line (k + 1) y next in
    let decided : AllPairs (IsDecided (gives_edge s lists)) batch =
    λ i j d before within. given (gives_edge s lists (get_or batch i d) (get_or batch j d))
    (gives_edge s lists (get_or batch j d) (get_or batch i d)) (there i j d before within) in
    let gives : gives_edge s lists x y ≡ true =
    subst (λ (z : Tx). gives_edge s lists x z ≡ true) (get_or_from_slice_get line (k + 1) y x next)
    (subst (λ (z : Tx). gives_edge s lists z (get_or line (k + 1) x) ≡ true) (get_or_from_slice_get line k x x here)
    (chains (gives_edge s lists) batch decided k x inside)) in
    let weights = weighs (threshold_of s) (weight lists x y) (weight lists y x) (is_lt (tx_cmp x y)) gives in
    (gives, weights.0, weights.1)
