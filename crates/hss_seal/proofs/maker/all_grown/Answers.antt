use Rattle.std.proofs.Common.{◌≡◌, List, ◌++◌, ◌∷◌, [], map, length, Result, Ok, ap, sym, ◌∙◌, arith, append_assoc}
use Rattle.std.specs.Vec.Iter.{into_iter_items}
use Rattle.std.proofs.lemmas.List.{append-nil, map-append, nil_from_length}
use Rattle.hss_seal.proofs.maker.all_grown.Goals as goal

-- one more is taken from the front of those that are left
one_more_grown : {T E : Type 0} (keys now : List T) (key : T) (item : Result T E) (left rest grown : List (Result T E))
    → now ≡ keys ++ key ∷ [] → item ≡ Ok key → left ≡ item ∷ rest
    → map Ok keys ++ left ≡ grown → map Ok now ++ rest ≡ grown
one_more_grown keys now key item left rest grown pushed is prefix so_far =
    ap (λ ks. map Ok ks ++ rest) pushed
    ∙ ap (λ l. l ++ rest) (map-append Ok keys (key ∷ []))
    ∙ append_assoc (map Ok keys) (Ok key ∷ []) rest
    ∙ ap (λ i. map Ok keys ++ i ∷ rest) (sym is)
    ∙ ap (λ l. map Ok keys ++ l) (sym prefix)
    ∙ so_far

pub loop-key-preserved : goal.loop-key-preserved
loop-key-preserved g c =
    let steps = c.in-Some.ensures.steps in
    record {
      so_far = one_more_grown c.loop-key.keys.items c.push.new.self.items c.in_ok-key.field-0 c.in-Some.key _ _ c.args.grown.items
          c.in_ok-push.ensures.items c.in_ok-key.was steps.0 c.loop-key.invariant.so_far;
      left = omega (arith, ap length steps.0, steps.1, c.loop-key.invariant.left);
    }

pub returns : goal.returns
returns g c =
    let keys = c.loop-key.keys.items in
    let none = nil_from_length (into_iter_items c.loop-key.key-iterator) (omega (arith, c.in-None.ensures.steps.0, c.loop-key.invariant.left)) in
    sym (append-nil (map Ok keys)) ∙ ap (λ l. map Ok keys ++ l) (sym none) ∙ c.loop-key.invariant.so_far
