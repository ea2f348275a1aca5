-- The computed numbers and lists.
use Rattle.std.proofs.Common.{◌≡◌, ℕ, ◌+◌, ◌<◌, ◌≤◌, List, length, map, get_or, sym, subst, ap, ◌∙◌, arith}
use Rattle.std.specs.List.{range_with_len}
use Rattle.std.proofs.lemmas.List.{length-map, get_or-map, get_or_default, same_lists}
use Rattle.std.proofs.lemmas.List.FromFn.{length-range_with_len, get_or-range_with_len}
use Rattle.majority_graph.specs.Graph.{Graph, IsGraph, IsComplete}
use Rattle.batch_laws.specs.Batches.{IsLine, AreBatches, lists_of}
use Rattle.batch_laws.specs.Reached.{reaches, number_by_reach, heads_in, batches_of}
use Rattle.batch_laws.proofs.AllUsed.{line_by_reach}
use Rattle.batch_laws.proofs.LineLists.{are_batches}
use Rattle.batch_laws.proofs.Reachability.{reaches_show, same_numbers, same_count}

-- numbers that agree on the vertices are the same line
pub line_as : (g : Graph) (one other : ℕ → ℕ) (count : ℕ) → ((u : ℕ) → u < length g.vertices → other u ≡ one u) → IsLine g one count → IsLine g other count
line_as g one other count same line = record {
  numbering = record {
    rises = λ u v from to edge.
        let rise : one u ≤ one v = line.numbering.rises u v from to edge in
        omega (arith, same u from, same v to);
    same = λ u v from to. (
      (λ equal. (line.numbering.same u v from to).0 (sym (same u from) ∙ equal ∙ same v to)),
      (λ both. same u from ∙ (line.numbering.same u v from to).1 both ∙ sym (same v to)),
    );
  };
  below = λ u inside. subst (λ (k : ℕ). k < count) (sym (same u inside)) (line.below u inside);
  used = λ c below. (let u = line.used c below in (u.0, u.1, same u.0 u.1 ∙ u.2));
}

-- the numbers of all vertices in turn
abbrev pub numbers_of : (ℕ → ℕ) → ℕ → List ℕ
numbers_of f all = map f (range_with_len 0 all)

pub numbers_long : (f : ℕ → ℕ) (all : ℕ) → length (numbers_of f all) ≡ all
numbers_long f all = length-map (range_with_len 0 all) f ∙ length-range_with_len 0 all

pub number_at : (f : ℕ → ℕ) (all u : ℕ) → u < all → get_or (numbers_of f all) u 0 ≡ f u
number_at f all u inside =
    get_or-map f (range_with_len 0 all) u 0 0 (omega (arith, length-range_with_len 0 all))
    ∙ ap f (get_or-range_with_len 0 all u 0 inside ∙ (let same : 0 + u ≡ u = omega arith in same))

module _ (g : Graph) (graph : IsGraph g) where
  abbrev number : ℕ → ℕ
  number = number_by_reach (reaches g) (length g.vertices)

  abbrev count : ℕ
  count = heads_in (reaches g) (length g.vertices)

  pub computed_line : IsLine g number count
  computed_line = line_by_reach g graph (reaches g) (reaches_show g graph)

  pub are_batches_of : IsComplete g → AreBatches g (batches_of g)
  are_batches_of complete =
      are_batches g graph complete (numbers_of number (length g.vertices)) count (numbers_long number (length g.vertices))
      (line_as g number (λ u. get_or (numbers_of number (length g.vertices)) u 0) count (number_at number (length g.vertices)) computed_line)

  -- the lists of any numbers that are a line
  pub lists_are_batches_of : IsComplete g → (numbers : List ℕ) (many : ℕ) → length numbers ≡ length g.vertices → IsLine g (λ u. get_or numbers u 0) many
      → lists_of numbers many g.vertices ≡ batches_of g
  lists_are_batches_of complete numbers many long line =
      let same : numbers ≡ numbers_of number (length g.vertices) =
      same_lists numbers (numbers_of number (length g.vertices)) (long ∙ sym (numbers_long number (length g.vertices)))
      (λ k d inside.
      let short : k < length g.vertices = omega (arith, long) in
      get_or_any numbers k d inside
      ∙ same_numbers g graph complete (λ u. get_or numbers u 0) number many count line computed_line k short
      ∙ sym (number_at number (length g.vertices) k short)
      ∙ sym (get_or_any (numbers_of number (length g.vertices)) k d (omega (arith, numbers_long number (length g.vertices))))) in
      let as_many : many ≡ count = same_count g graph complete (λ u. get_or numbers u 0) number many count line computed_line in
      ap (λ (ns : List ℕ). lists_of ns many g.vertices) same ∙ ap (λ (c : ℕ). lists_of (numbers_of number (length g.vertices)) c g.vertices) as_many
    where
      get_or_any : (xs : List ℕ) (k d : ℕ) → k < length xs → get_or xs k d ≡ get_or xs k 0
      get_or_any xs k d inside = get_or_default xs k d 0 inside
