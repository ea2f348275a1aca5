-- Lists that are consumed from the front.
use Rattle.std.proofs.Common.{◌≡◌, ◌∙◌, ◌<◌, ◌++◌, List, [], ◌∷◌, ap, append_assoc, append-nil, arith, get_or, length, sym}
use Rattle.std.specs.Prelude.{remove}

-- the first, and the rest
pub first : {A : Type 0} (xs rest : List A) (x : A) → 0 < length xs → x ≡ get_or xs 0 x → rest ≡ remove xs 0 → xs ≡ x ∷ rest
first [] rest x lt is left = absurd (omega (arith, lt))
first {A = A} (y ∷ xs) rest x lt is left = ap (λ (z : A). z ∷ xs) (sym is) ∙ ap (λ (l : List A). x ∷ l) (sym left)

-- What is made of one list from another: some is made, and the rest of what is left.
module _ {A B : Type 0} (parts : List A → List B) where
  -- the first of what is left is used
  pub one_more : (one done more whole : List B) (left rest : List A) (a : A) → parts (a ∷ rest) ≡ one ++ parts rest → more ≡ done ++ one
      → left ≡ a ∷ rest → done ++ parts left ≡ whole
      → more ++ parts rest ≡ whole
  one_more one done more whole left rest a split is prefix all =
      ap (λ (l : List B). l ++ parts rest) is ∙ append_assoc done one (parts rest) ∙ ap (λ (l : List B). done ++ l) (sym split)
      ∙ ap (λ (l : List A). done ++ parts l) (sym prefix) ∙ all

  -- none is left
  pub used_up : (done whole : List B) (left : List A) → parts [] ≡ [] → length left ≡ 0 → done ++ parts left ≡ whole → done ≡ whole
  used_up done whole [] nil none all = sym (ap (λ (l : List B). done ++ l) nil ∙ append-nil done) ∙ all
  used_up done whole (a ∷ left) nil none all = absurd (omega (arith, none))
