use Rattle.std.proofs.Common.{◌≡◌, ◌+◌, ◌++◌, List, [], ◌∷◌, ℕ, get_or, take, sym, ap, subst, ◌∙◌, append_assoc}
use Rattle.std.specs.Int.{w32, to_be_bytes}
use Rattle.std.specs.List.{concat}
use Rattle.std.proofs.lemmas.List.{append-nil, take_more}
use Rattle.std.proofs.lemmas.List.Folds.{concat-append}
use Rattle.sha2.specs.Hashers.{Holds256}
use Rattle.durable_node.specs.Header.{height_number}
use Rattle.replica_box.proofs.owner.owner_keys.Goals as goal

pub loop-public-init : goal.loop-public-init
loop-public-init c =
    let number : c.to_be_bytes.result ≡ to_be_bytes w32 (height_number c.args.height) = c.to_be_bytes.ensures ∙ ap (to_be_bytes w32) c.height_number.ensures in
    subst (Holds256 c.update.new.self) (number ∙ sym (append-nil (to_be_bytes w32 (height_number c.args.height)))) (c.update.ensures _ c.new-hasher.ensures)

pub loop-public-preserved : goal.loop-public-preserved
loop-public-preserved c =
    let publics = c.args.publics.now in
    let k = c.loop-public.public-index in
    let number : List ℕ = to_be_bytes w32 (height_number c.args.height) in
    let next : concat (take (k + 1) publics) ≡ concat (take k publics) ++ get_or publics k [] =
    ap concat (take_more publics k [] c.loop-public-test.true) ∙ concat-append (take k publics) (get_or publics k [] ∷ [])
    ∙ ap (λ (t : List ℕ). concat (take k publics) ++ t) (append-nil (get_or publics k [])) in
    subst (Holds256 c.update-in-loop-public.new.self)
    (append_assoc number (concat (take k publics)) (get_or publics k []) ∙ ap (λ (t : List ℕ). number ++ t) (sym next))
    (c.update-in-loop-public.ensures _ c.loop-public.invariant)
