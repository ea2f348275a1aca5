-- Values that may be absent.
use Rattle.std.proofs.Common.{◌≡◌, ℕ, zero, suc, List, [], ◌∷◌, true, map, get_or, Option, Some, None, is_some, refl, ap}
use Rattle.std.specs.Prelude.{slice_get}
use Rattle.std.specs.Option.{option_map, option_or}

pub there : {X : Type 0} (o : Option X) → is_some o ≡ true → (x : X) × (o ≡ Some x)
there None some = absurd (cc)
there (Some x) some = (x, refl)

pub mapped : {X Y : Type 0} (f : X → Y) (o : Option X) (y : Y) → option_map f o ≡ Some y → (x : X) × (o ≡ Some x) × (f x ≡ y)
mapped f None y some = absurd (cc)
mapped f (Some x) y some = (x, refl, cc)

pub or_none : {X : Type 0} (o : Option X) → option_or o None ≡ o
or_none None = refl
or_none (Some x) = refl

pub at_map : {X Y : Type 0} (f : X → Y) (xs : List X) (k : ℕ) (x : X) (d : Y) → slice_get xs k ≡ Some x → get_or (map f xs) k d ≡ f x
at_map f [] k x d found = absurd (cc)
at_map f (y ∷ xs) zero x d found = let same : y ≡ x = cc in ap f same
at_map f (y ∷ xs) (suc k) x d found = at_map f xs k x d found
