-- A final batch holds at most 2,048 transactions, each from a fresh list of a block.
use Rattle.std.proofs.Common.{◌≤◌, ℕ, Bool, true, false, List, [], ◌∷◌, ◌++◌, length, map, arith, if◌then◌else◌}
use Rattle.std.specs.Prelude.{◌==◌, All, fold, nat_le}
use Rattle.std.specs.List.{flat_map, range_with_len}
use Rattle.std.specs.BTreeSet.{insert_key}
use Rattle.std.proofs.lemmas.List.Elements.{All-append, All-cons, All-filter, All-head, All-nil, All-tail}
use Rattle.std.proofs.lemmas.Map.Views.{All-insert_key}
use Rattle.seq_base.specs.declared.tx.Tx.{Tx}
use Rattle.seq_base.specs.Lists.{AreFresh, listed}
use Rattle.seq_base.specs.Setting.{Parameters, threshold_of}
use Rattle.seq_base.specs.Tx.{tx_cmp}
use Rattle.tx_class.specs.Listed.{listed_in}
use Rattle.majority_graph.specs.Graph.{Graph, IsGraph, wanted_of}
use Rattle.majority_graph.proofs.Wanted.{All-wanted_of, length-wanted_of-le}
use Rattle.batch_laws.specs.Batches.{numbered}
use Rattle.batch_laws.specs.Reached.{batches_of, heads_in, number_by_reach, reaches}
use Rattle.fair_laws.specs.Kept.{candidates_of, kept_by, leads_to_solid}
use Rattle.fair_update.specs.Waiting.{is_complete}
use Rattle.chain_state.specs.Lists.{BlockLists}
use Rattle.chain_state.specs.Proposals.{final_batches, graph_over, proposals}

-- ---- what a block proposes

all_inserted : (P : Tx → Type 0) (keys more : List Tx) → All P keys → All P more → All P (fold (insert_key tx_cmp) keys more)
all_inserted P keys [] all rest = all
all_inserted P keys (t ∷ more) all rest =
    all_inserted P (insert_key tx_cmp keys t) more (All-insert_key tx_cmp t P keys all (All-head P t more rest)) (All-tail P t more rest)

all_joined : (P : Tx → Type 0) (lists : List (List Tx)) → All (All P) lists → All P (flat_map (λ list. list) lists)
all_joined P [] all = All-nil P
all_joined P (list ∷ lists) all =
    All-append P list (flat_map (λ l. l) lists) (All-head (All P) list lists all) (all_joined P lists (All-tail (All P) list lists all))

all_kept : (P : Tx → Type 0) (s : Parameters) (lists : List (List Tx)) → All (All P) lists → All P (kept_by s lists)
all_kept P s lists all =
    All-wanted_of P (map (leads_to_solid s lists (candidates_of s lists)) (range_with_len 0 (length (candidates_of s lists)))) (candidates_of s lists)
    (All-filter (λ t. nat_le (threshold_of s) (listed lists t)) P (listed_in lists)
    (all_inserted P [] (flat_map (λ list. list) lists) (All-nil P) (all_joined P lists all)))

-- the vertices of the proposals of a chain
all_proposed : (P : Tx → Type 0) (s : Parameters) (chain : List BlockLists) → All (λ b. All (All P) b.fresh) chain
    → All (λ g. All P g.vertices) (proposals s chain)
all_proposed P s [] all = All-nil (λ (g : Graph). All P g.vertices)
all_proposed P s (b ∷ later) all =
    All-cons (λ (g : Graph). All P g.vertices) (graph_over s (kept_by s b.fresh) (b.fresh ∷ map (λ c. c.late) later)) (proposals s later)
    (all_kept P s b.fresh (All-head (λ (c : BlockLists). All (All P) c.fresh) b later all))
    (all_proposed P s later (All-tail (λ (c : BlockLists). All (All P) c.fresh) b later all))

-- ---- batches

-- at most 2,048 transactions, each with this property
pub record IsShort (P : Tx → Type 0) (txs : List Tx) : Type 0 where
  pub few : length txs ≤ 2048
  pub each : All P txs

short_batches : (P : Tx → Type 0) (g : Graph) → length g.vertices ≤ 2048 → All P g.vertices → All (IsShort P) (batches_of g)
short_batches P g few all =
    let size : ℕ = length g.vertices in
    let numbers : List ℕ = map (number_by_reach (reaches g) size) (range_with_len 0 size) in
    short_each numbers (range_with_len 0 (heads_in (reaches g) size))
  where
    short_each : (numbers cs : List ℕ) → All (IsShort P) (map (numbered numbers g.vertices) cs)
    short_each numbers [] = All-nil (IsShort P)
    short_each numbers (c ∷ cs) =
        let wanted : List Bool = map (λ n. n == c) numbers in
        let fewer : length (wanted_of wanted g.vertices) ≤ length g.vertices = length-wanted_of-le wanted g.vertices in
        All-cons (IsShort P) (numbered numbers g.vertices c) (map (numbered numbers g.vertices) cs)
        (record { few = omega (arith, fewer, few); each = All-wanted_of P wanted g.vertices all })
        (short_each numbers cs)

short_finals : (P : Tx → Type 0) (graphs : List Graph) → All IsGraph graphs → All (λ g. All P g.vertices) graphs → All (IsShort P) (final_batches graphs)
short_finals P [] are all = All-nil (IsShort P)
short_finals P (g ∷ graphs) are all =
    by (is_complete g) (short_finals P graphs (All-tail IsGraph g graphs are) (All-tail (λ (x : Graph). All P x.vertices) g graphs all))
  where
    by : (t : Bool) → All (IsShort P) (final_batches graphs) → All (IsShort P) (if t then batches_of g ++ final_batches graphs else [])
    by true rest = All-append (IsShort P) (batches_of g) (final_batches graphs)
        (short_batches P g (All-head IsGraph g graphs are).few (All-head (λ (x : Graph). All P x.vertices) g graphs all)) rest
    by false rest = All-nil (IsShort P)

-- the final batches of a chain of short lists, with this property of each transaction
pub finals_short : ((s : Parameters) (chain : List BlockLists) → All (λ b. AreFresh b.fresh) chain → All IsGraph (proposals s chain))
    → (P : Tx → Type 0) (s : Parameters) (chain : List BlockLists) → All (λ b. AreFresh b.fresh) chain → All (λ b. All (All P) b.fresh) chain
    → All (IsShort P) (final_batches (proposals s chain))
finals_short graphs P s chain fresh all = short_finals P (proposals s chain) (graphs s chain fresh) (all_proposed P s chain all)
