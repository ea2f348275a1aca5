-- The result of several appends to one list.
use Rattle.std.proofs.Common.{◌≡◌, ℕ, ◌+◌, ◌<◌, List, [], ◌∷◌, ◌++◌, length, take, get_or, sym, ap, ◌∙◌, append_assoc}
use Rattle.std.specs.List.{flat_map}
use Rattle.std.proofs.lemmas.List.{append-nil, flat_map_more, take_more}

pub two_put : (out a b x y : List ℕ) → x ≡ out ++ a → y ≡ x ++ b → y ≡ out ++ (a ++ b)
two_put out a b x y first second = second ∙ ap (λ (prefix : List ℕ). prefix ++ b) first ∙ append_assoc out a b

pub three_put : (out a b c x y z : List ℕ) → x ≡ out ++ a → y ≡ x ++ b → z ≡ y ++ c → z ≡ out ++ (a ++ b ++ c)
three_put out a b c x y z first second third = two_put out (a ++ b) c y z (two_put out a b x y first second) third

-- no element was appended yet
pub none_put : (out head now : List ℕ) → now ≡ out ++ head → now ≡ out ++ (head ++ [])
none_put out head now put = put ∙ ap (λ (tail : List ℕ). out ++ tail) (sym (append-nil head))

-- one more element of a list was appended
pub one_more_put : {X : Type 0} (f : X → List ℕ) (out head now next : List ℕ) (xs : List X) (i : ℕ) (d : X) → i < length xs
    → now ≡ out ++ (head ++ flat_map f (take i xs)) → next ≡ now ++ f (get_or xs i d) → next ≡ out ++ (head ++ flat_map f (take (i + 1) xs))
one_more_put f out head now next xs i d within before put =
    put
    ∙ ap (λ (prefix : List ℕ). prefix ++ f (get_or xs i d)) (before ∙ sym (append_assoc out head (flat_map f (take i xs))))
    ∙ flat_map_more f (out ++ head) (take i xs) (get_or xs i d)
    ∙ append_assoc out head (flat_map f (take i xs ++ get_or xs i d ∷ []))
    ∙ ap (λ ys. out ++ (head ++ flat_map f ys)) (sym (take_more xs i d within))
