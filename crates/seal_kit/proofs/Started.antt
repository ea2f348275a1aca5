-- Sealers that are made one after another, one for each replica.
use Rattle.std.proofs.Common.{◌≡◌, ℕ, ◌+◌, ◌<◌, List, [], ◌∷◌, ◌++◌, refl, ap, sym, ◌∙◌, arith, length-append}
use Rattle.std.specs.List.{range_with_len}
use Rattle.std.proofs.lemmas.List.{map_push}
use Rattle.std.proofs.lemmas.List.Elements.{All-nil, All-push}
use Rattle.seq_base.proofs.Points.{one_number_more}
use Rattle.seal_kit.specs.Seals.{Started}

pub none_started : {S : Type 0} (replica made capacity : S → ℕ) (seals n : ℕ) → Started replica made capacity seals n 0 []
none_started replica made capacity seals n = record { count = refl; replicas = refl; below = All-nil _; fresh = All-nil _; room = All-nil _ }

pub one_started : {S : Type 0} (replica made capacity : S → ℕ) (seals n k : ℕ) (xs : List S) (s : S)
    → Started replica made capacity seals n k xs → replica s ≡ k → k < n → made s ≡ 0 → capacity s ≡ seals
    → Started replica made capacity seals n (k + 1) (xs ++ s ∷ [])
one_started replica made capacity seals n k xs s t r b m c =
    let below : replica s < n = omega (arith, r) in record {
      count = omega (arith, length-append xs (s ∷ []), t.count);
      replicas = map_push replica xs s ∙ ap (λ l. l ++ replica s ∷ []) t.replicas ∙ ap (λ j. range_with_len 0 k ++ j ∷ []) r ∙ sym (one_number_more k);
      below = All-push (λ x. replica x < n) xs s t.below below;
      fresh = All-push (λ x. made x ≡ 0) xs s t.fresh m;
      room = All-push (λ x. capacity x ≡ seals) xs s t.room c;
    }
