-- One more round, one more link.
use Rattle.std.proofs.Common.{◌≡◌, ℕ, zero, suc, ◌+◌, List, [], ◌∷◌, ◌++◌, map, filter, nat_le, ap, sym, ◌∙◌, arith, append-nil}
use Rattle.std.specs.List.{flat_map, range_with_len}
use Rattle.std.proofs.lemmas.List.{map-append}
use Rattle.std.proofs.lemmas.List.Elements.{filter-append}
use Rattle.std.proofs.lemmas.List.FromFn.{map-range_with_len_more}
use Rattle.std.proofs.lemmas.Grind.{common_steps, flat_map-append}
use Rattle.seq_base.specs.declared.tx.Tx.{Tx}
use Rattle.plan_text.specs.declared.plan.Client.{Client}
use Rattle.plan_text.specs.declared.plan.Plan.{Plan}
use Rattle.fault_script.specs.Passing.{opening}
use Rattle.replica_seat.specs.Feed.{at_turn, round_of}
use Rattle.replica_seat.specs.declared.arrivals.TimedTx.{TimedTx}

range_suc : (a n : ℕ) → range_with_len a (suc n) ≡ range_with_len a n ++ (a + n) ∷ []
range_suc a zero = let e : a ≡ a + 0 = omega arith in ap (λ x. x ∷ []) e
range_suc a (suc n) =
    let e : a + 1 + n ≡ a + suc n = omega arith in
    ap (λ xs. a ∷ xs) (range_suc (a + 1) n ∙ ap (λ x. range_with_len (a + 1) n ++ x ∷ []) e)

rounds_to : (r : ℕ) → range_with_len 1 (r + 1) ≡ range_with_len 1 r ++ (r + 1) ∷ []
rounds_to r =
    let e : r + 1 ≡ suc r = omega arith in
    let f : 1 + r ≡ r + 1 = omega arith in
    ap (range_with_len 1) e ∙ range_suc 1 r ∙ ap (λ x. range_with_len 1 r ++ x ∷ []) f

gives : ℕ → Client → Tx
gives r c = record { client = c.id; number = r; payload = 0 }

round_both : (from before : List Client) (r : ℕ) → round_of (from ++ before) r ≡ round_of from r ++ round_of before r
unfolding gives
round_both from before r =
    ap (map (gives r)) (filter-append (λ (c : Client). nat_le r c.count) from before)
    ∙ map-append (gives r) (filter (λ (c : Client). nat_le r c.count) from) (filter (λ (c : Client). nat_le r c.count) before)

-- a round more is one of these clients and then of those
pub rounds_more : (from before : List Client) (r : ℕ) (list : List TimedTx)
    → ((list ++ at_turn 0 (flat_map (round_of (from ++ before)) (range_with_len 1 r))) ++ at_turn 0 (round_of from (r + 1)))
    ++ at_turn 0 (round_of before (r + 1))
    ≡ list ++ at_turn 0 (flat_map (round_of (from ++ before)) (range_with_len 1 (r + 1)))
rounds_more from before r list =
    let all = flat_map (round_of (from ++ before)) (range_with_len 1 r) in
    let whole : flat_map (round_of (from ++ before)) (range_with_len 1 (r + 1)) ≡ all ++ (round_of from (r + 1) ++ round_of before (r + 1)) =
    ap (flat_map (round_of (from ++ before))) (rounds_to r)
    ∙ flat_map-append (round_of (from ++ before)) (range_with_len 1 r) ((r + 1) ∷ [])
    ∙ ap (λ xs. all ++ xs) (append-nil (round_of (from ++ before) (r + 1)) ∙ round_both from before (r + 1)) in
    rw whole (grind (arith, common_steps))

pub links_more : (plan : Plan) (from to : ℕ)
    → map (opening plan.links from) (range_with_len 0 to) ++ opening plan.links from to ∷ [] ≡ map (opening plan.links from) (range_with_len 0 (to + 1))
links_more plan from to = let e : 0 + to ≡ to = omega arith in sym (map-range_with_len_more (opening plan.links from) 0 to to e)
