-- One replica's sealer among those of all.
use Rattle.std.proofs.Common.{◌≡◌, ◌∙◌, ℕ, ◌<◌, List, length, map, All, sym, ap, subst, arith}
use Rattle.std.specs.Prelude.{slice_index_or}
use Rattle.std.specs.List.{range_with_len}
use Rattle.std.proofs.Math.ListN.{get_or}
use Rattle.std.proofs.lemmas.List.{get_or-map}
use Rattle.std.proofs.lemmas.List.FromFn.{get_or-range_with_len}

-- the sealer at an index is that of the replica with this number
pub replica_at : {S : Type 0} (replica : S → ℕ) (n at : ℕ) (sealers : List S) (s d : S) → at < n → length sealers ≡ n → map replica sealers ≡ range_with_len 0 n
    → s ≡ slice_index_or sealers at d → replica s ≡ at
replica_at replica n at sealers s d below count are is =
    ap replica is ∙ sym (get_or-map replica sealers at d 0 (omega (arith, below, count))) ∙ ap (λ (l : List ℕ). get_or l at 0) are
    ∙ get_or-range_with_len 0 n at 0 below ∙ omega arith

-- and makes that replica's seals
pub gives_at : {S : Type 0} (replica : S → ℕ) (gives : S → ℕ → List ℕ → List ℕ) (own : ℕ → ℕ → List ℕ → List ℕ) (at : ℕ) (sealers : List S)
    (s d : S) → at < length sealers
    → All (λ x. gives x ≡ own (replica x)) sealers → s ≡ slice_index_or sealers at d → replica s ≡ at → gives s ≡ own at
gives_at replica gives own at sealers s d below each is whose =
    subst (λ x. gives x ≡ own (replica x)) (sym is) (each at d below) ∙ ap own whose
