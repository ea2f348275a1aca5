use Rattle.std.proofs.Common.{◌≡◌, ◌∙◌, ℕ, List, take, ap, subst}
use Rattle.std.specs.Prelude.{IfOk, codes}
use Rattle.lms_seal.specs.Growing.{growing_of}
use Rattle.hss_seal.specs.Draws.{Seeds, lower_hash}
use Rattle.hss_seal.proofs.seeds.HssSeeds.growing_key.Goals as goal

pub returns : goal.returns
returns c =
    let seeds = c.args.self.now in
    let tree = c.args.tree in
    let height = c.args.height in
    let hash = λ (word bytes : List ℕ). lower_hash word bytes tree in
    let own = ap (λ (s : Seeds). s.lower) c.self.view_is in
    let id : c.prefix-id.result ≡ take 16 (lower_hash (codes "themis-hss-id") seeds.lower tree) =
    c.prefix-id.ensures ∙ ap (take 16) (c.lower_hash.ensures ∙ ap (hash (codes "themis-hss-id")) (c.as_slice.ensures.value ∙ own)) in
    let seed : c.lower_hash-seed.result ≡ lower_hash (codes "themis-hss-seed") seeds.lower tree =
    c.lower_hash-seed.ensures ∙ ap (hash (codes "themis-hss-seed")) (c.as_slice-2.ensures.value ∙ own) in
    subst (λ (i : List ℕ). IfOk c.start.result (λ growing. growing ≡ growing_of i (lower_hash (codes "themis-hss-seed") seeds.lower tree) height)) id
    (subst (λ (s : List ℕ). IfOk c.start.result (λ growing. growing ≡ growing_of c.prefix-id.result s height)) seed c.start.ensures)
