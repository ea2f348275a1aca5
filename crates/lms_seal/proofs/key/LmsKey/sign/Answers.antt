use Rattle.std.proofs.Common.{◌≡◌, ◌∙◌, ◌++◌, ◌^◌, ◌<◌, ap, sym, subst, arith, length, get_or, List, ℕ}
use Rattle.std.specs.Int.{w32, to_be_bytes}
use Rattle.std.specs.List.{concat}
use Rattle.std.proofs.lemmas.List.{get_or_read}
use Rattle.std.proofs.lemmas.List.FromFn.{length-map-range_with_len, get_or-map-range_with_len}
use Rattle.lm_ots.specs.Ots.{LeafKey, parts_of, random_of, signed_parts, digits_of}
use Rattle.lms_seal.specs.Tree.{kind_of, path_node}
use Rattle.lms_seal.specs.Key.{Key, key_signature}
use Rattle.lms_seal.proofs.key.LmsKey.sign.Goals as goal

pub index-requires : goal.index-requires
index-requires c =
    let key = c.self.inside in
    let below : c.args.leaf < 2 ^ key.levels = subst (λ (k : Key). c.args.leaf < 2 ^ k.levels) (sym c.self.view_is) c.requires in
    let long : length key.keys.items ≡ 2 ^ key.levels = ap length key.are_keys
    ∙ length-map-range_with_len (λ (q : ℕ). record { id = key.id; leaf = q; seed = key.seed }) 0 (2 ^ key.levels) in
    omega (arith, long, below)

pub returns : goal.returns
unfolding key_signature
returns c =
    let key = c.self.inside in
    let leaf = c.args.leaf in
    let below : leaf < 2 ^ key.levels = subst (λ (k : Key). leaf < 2 ^ k.levels) (sym c.self.view_is) c.requires in
    let of_leaf : ℕ → LeafKey = λ q. record { id = key.id; leaf = q; seed = key.seed } in
    let long : length key.keys.items ≡ 2 ^ key.levels = ap length key.are_keys ∙ length-map-range_with_len of_leaf 0 (2 ^ key.levels) in
    let read : c.index.result.now ≡ of_leaf leaf =
    get_or_read key.keys.items leaf c.index.result.now (omega (arith, long, below)) c.index.ensures (of_leaf leaf)
    ∙ ap (λ (l : List LeafKey). get_or l leaf (of_leaf leaf)) key.are_keys
    ∙ get_or-map-range_with_len of_leaf 0 (2 ^ key.levels) leaf leaf (of_leaf leaf) below (omega arith) in
    let signature = c.sign-signature.result in
    let message = c.args.message.now in
    let random : signature.random ≡ random_of key.id leaf key.seed =
    c.sign-signature.ensures.random ∙ ap (λ (k : LeafKey). random_of k.id k.leaf k.seed) read in
    let parts : signature.parts ≡ signed_parts key.id leaf key.seed (digits_of key.id leaf (random_of key.id leaf key.seed) message) =
    c.sign-signature.ensures.parts
    ∙ ap (λ (k : LeafKey). signed_parts k.id k.leaf k.seed (digits_of k.id k.leaf signature.random message)) read
    ∙ ap (λ (r : List ℕ). signed_parts key.id leaf key.seed (digits_of key.id leaf r message)) random in
    let bytes : List ℕ → List (List ℕ) → List ℕ = λ r ps.
    to_be_bytes w32 leaf ++ (to_be_bytes w32 3 ++ r ++ concat ps) ++ to_be_bytes w32 (kind_of key.levels)
    ++ concat (parts_of key.levels (path_node key.id key.seed key.levels leaf)) in
    c.of.ensures ∙ c.in_ok-bytes.ensures
    ∙ ap (λ (r : List ℕ). bytes r signature.parts) random
    ∙ ap (λ (ps : List (List ℕ)). bytes (random_of key.id leaf key.seed) ps) parts
    ∙ ap (λ (k : Key). key_signature k leaf message) c.self.view_is
