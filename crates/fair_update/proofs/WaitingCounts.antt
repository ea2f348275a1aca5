-- Waiting transactions and ranks, vertex by vertex.
use Rattle.std.proofs.Common.{◌≡◌, ℕ, ◌+◌, ◌<◌, ◌≤◌, List, [], ◌∷◌, ◌++◌, length, get_or, take, drop, Bool, true, false, Some, refl, sym, ap, ◌∙◌, inl, inr, arith}
use Rattle.std.specs.Prelude.{filter, count_by, slice_get}
use Rattle.std.specs.List.Sorted.{IsStrictlySortedBy}
use Rattle.std.proofs.lemmas.Bool.{cases_eq, cond-true, cond-false}
use Rattle.std.proofs.lemmas.List.{append-nil, take_all, drop_more, take-append-drop, get_or_at, get_or_append_left, get_or_push, length-append, length-take-le}
use Rattle.std.proofs.lemmas.List.Elements.{filter-append, filter_more}
use Rattle.std.proofs.lemmas.List.Kept.{IsStrictlySortedBy-filter}
use Rattle.std.proofs.lemmas.List.Sums.{length-filter, count_by-le-length}
use Rattle.std.proofs.lemmas.Option.{slice_get-get_or, get_or_from_slice_get}
use Rattle.seq_base.specs.declared.tx.Tx.{Tx}
use Rattle.seq_base.specs.Tx.{tx_cmp}
use Rattle.majority_graph.specs.Graph.{Graph, IsGraph}
use Rattle.fair_update.specs.Waiting.{waits, waiting_of}
use Rattle.fair_update.specs.Ranks.{AreCounted}
use Rattle.fair_update.specs.Merging.{AreRanked}
use Rattle.fair_update.proofs.GraphTests.{waits_decides}

-- an item that passes is at the position given by how many before it pass
filter_at : (p : Tx → Bool) (xs : List Tx) (u : ℕ) (x : Tx) → u < length xs → get_or xs u x ≡ x → p x ≡ true
    → slice_get (filter p xs) (count_by p (take u xs)) ≡ Some x
filter_at p xs u x inside here passes =
    let prefix : List Tx = filter p (take u xs) in
    let back : List Tx = filter p (drop (u + 1) xs) in
    let next : drop u xs ≡ x ∷ drop (u + 1) xs = drop_more xs u x inside ∙ ap (λ (y : Tx). y ∷ drop (u + 1) xs) here in
    let rest : filter p (drop u xs) ≡ x ∷ back = ap (filter p) next ∙ cond-true (p x) (x ∷ back) back passes in
    let split : filter p xs ≡ prefix ++ x ∷ back =
    ap (filter p) (sym (take-append-drop u xs)) ∙ filter-append p (take u xs) (drop u xs) ∙ ap (λ (ys : List Tx). prefix ++ ys) rest in
    let long : length prefix ≡ count_by p (take u xs) = length-filter p (take u xs) in
    let within : count_by p (take u xs) < length (filter p xs) = omega (arith, long, length-append prefix (x ∷ back), ap length split) in
    slice_get-get_or (filter p xs) (count_by p (take u xs)) x within
    ∙ ap (λ (y : Tx). Some y) (ap (λ (ys : List Tx). get_or ys (count_by p (take u xs)) x) split ∙ get_or_at prefix x back x (count_by p (take u xs)) long)

module _ (g : Graph) (u : ℕ) (txs : List Tx) (ranks : List ℕ) (counted : AreCounted g u txs ranks) (inside : u < length g.vertices) where
  pub counted_few : length txs ≤ u
  counted_few =
      omega (
        arith,
        ap length counted.txs_are,
        length-filter (waits g) (take u g.vertices),
        count_by-le-length (waits g) (take u g.vertices),
        length-take-le u g.vertices (omega (arith, inside)),
      )

  each_more : (x : ℕ) → x < u + 1 → get_or (ranks ++ length txs ∷ []) x 0 ≡ count_by (waits g) (take x g.vertices)
  each_more x below =
      elim (cases_eq x u) [
        | inl last ↦
            get_or_push ranks (length txs) 0 x (counted.long ∙ sym last) ∙ ap length counted.txs_are ∙ length-filter (waits g) (take u g.vertices)
            ∙ ap (λ (k : ℕ). count_by (waits g) (take k g.vertices)) (sym last)
        | inr before ↦
            get_or_append_left ranks (length txs ∷ []) 0 x (omega (arith, below, before, counted.long)) ∙ counted.each x (omega (arith, below, before))
      ]

  -- one more vertex, which waits or does not
  pub counted_yes : (t : Tx) (txs_now : List Tx) (ranks_now : List ℕ) → get_or g.vertices u t ≡ t → waits g t ≡ true
      → txs_now ≡ txs ++ t ∷ [] → ranks_now ≡ ranks ++ length txs ∷ []
      → AreCounted g (u + 1) txs_now ranks_now
  counted_yes t txs_now ranks_now here is txs_are ranks_are = record {
    txs_are = txs_are ∙ ap (λ (ts : List Tx). ts ++ t ∷ []) counted.txs_are
        ∙ sym (filter_more (waits g) g.vertices u t inside
        ∙ ap (λ (rest : List Tx). filter (waits g) (take u g.vertices) ++ rest)
        (cond-true (waits g (get_or g.vertices u t)) (get_or g.vertices u t ∷ []) [] (ap (waits g) here ∙ is) ∙ ap (λ (x : Tx). x ∷ []) here));
    long = ap length ranks_are ∙ length-append ranks (length txs ∷ []) ∙ ap (λ (n : ℕ). n + 1) counted.long;
    each = λ x below. ap (λ (rs : List ℕ). get_or rs x 0) ranks_are ∙ each_more x below;
  }

  pub counted_no : (t : Tx) (txs_now : List Tx) (ranks_now : List ℕ) → get_or g.vertices u t ≡ t → waits g t ≡ false → txs_now ≡ txs
      → ranks_now ≡ ranks ++ length txs ∷ []
      → AreCounted g (u + 1) txs_now ranks_now
  counted_no t txs_now ranks_now here is txs_are ranks_are = record {
    txs_are = txs_are ∙ counted.txs_are
        ∙ sym (filter_more (waits g) g.vertices u t inside
        ∙ ap (λ (rest : List Tx). filter (waits g) (take u g.vertices) ++ rest)
        (cond-false (waits g (get_or g.vertices u t)) (get_or g.vertices u t ∷ []) [] (ap (waits g) here ∙ is))
        ∙ append-nil (filter (waits g) (take u g.vertices)));
    long = ap length ranks_are ∙ length-append ranks (length txs ∷ []) ∙ ap (λ (n : ℕ). n + 1) counted.long;
    each = λ x below. ap (λ (rs : List ℕ). get_or rs x 0) ranks_are ∙ each_more x below;
  }

-- at the end of the count, these are all that wait
pub all_counted : (g : Graph) (txs : List Tx) (ranks : List ℕ) → AreCounted g (length g.vertices) txs ranks → txs ≡ waiting_of g
all_counted g txs ranks counted = counted.txs_are ∙ ap (filter (waits g)) (take_all (length g.vertices) g.vertices (omega arith))

module _ (g : Graph) (graph : IsGraph g) where
  pub waiting_rises : IsStrictlySortedBy tx_cmp (waiting_of g)
  waiting_rises = IsStrictlySortedBy-filter tx_cmp (waits g) g.vertices graph.ascending

  pub waiting_few : length (waiting_of g) ≤ 2048
  waiting_few = omega (arith, length-filter (waits g) g.vertices, count_by-le-length (waits g) g.vertices, graph.few)

  -- and each vertex of a missing pair has its rank
  pub counted_are_ranked : (txs waiting : List Tx) (ranks : List ℕ) → AreCounted g (length g.vertices) txs ranks → waiting ≡ waiting_of g
      → AreRanked g waiting ranks
  counted_are_ranked txs waiting ranks counted waiting_is = record {
    long = counted.long;
    each = λ u v from to apart missing.
        let t : Tx = get_or g.vertices u (record { client = 0; number = 0; payload = 0 }) in
        let found : slice_get g.vertices u ≡ Some t = slice_get-get_or g.vertices u _ from in
        let is : waits g t ≡ true = (waits_decides g graph t).1 (u, v, record { from = found; to = to; apart = apart; missing = missing }) in
        ap (slice_get waiting) (counted.each u from)
        ∙ ap (λ (ts : List Tx). slice_get ts (count_by (waits g) (take u g.vertices))) waiting_is
        ∙ filter_at (waits g) g.vertices u t from (get_or_from_slice_get g.vertices u t t found) is ∙ sym found;
  }
