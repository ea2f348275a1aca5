-- Many reads are one, and many writes.
use Rattle.std.proofs.Common.{◌≡◌, ℕ, ◌+◌, ◌≤◌, List, ◌++◌, length, take, drop, Option, Some, None, refl, sym, ap, ◌∙◌, arith}
use Rattle.std.specs.Option.{option_map}
use Rattle.std.proofs.Math.Seq.{take-add}
use Rattle.std.proofs.lemmas.List.{drop-drop, length-drop, append_assoc, take-take, length-take-le}
use Rattle.seq_io.specs.Device.{Reads, Writes}
use Rattle.themis_calls.specs.Moved.{HasRead, Took}

pub read_on : (n k : ℕ) (bytes before after : List ℕ) (old mid new : Option (List ℕ)) → HasRead n bytes old mid
    → Reads k before after mid new → HasRead (n + k) (bytes ++ take k after) old new
read_on n k bytes before after None mid new so_far reads = record {
  given = tt;
  taken = reads.taken ∙ ap (option_map (drop k)) so_far.taken;
}
read_on n k bytes before after (Some left) mid new so_far reads =
    let given : (k ≤ length (drop n left)) × (take k after ≡ take k (drop n left)) = rw so_far.taken at reads.given in
    let within : n + k ≤ length left = omega (arith, given.0, length-drop n left, so_far.given.0) in
    record {
      given = (
        within,
        (ap (λ (prefix : List ℕ). prefix ++ take k after) so_far.given.1 ∙ ap (λ (back : List ℕ). take n left ++ back) given.1 ∙ sym (take-add n k left)),
      );
      taken = reads.taken ∙ ap (option_map (drop k)) so_far.taken ∙ ap (λ (rest : List ℕ). Some rest) (drop-drop k n left);
    }

-- a write goes on with a piece of what is left
pub wrote_on : (text : List ℕ) (n size k : ℕ) (old mid new : Option (List ℕ)) → n + size ≤ length text → Took (take n text) old mid
    → Writes k (take size (drop n text)) mid new → Took (take (n + k) text) old new
wrote_on text n size k None mid new within so_far writes = writes.appended ∙ ap (option_map (λ (w : List ℕ). w ++ take k (take size (drop n text)))) so_far
wrote_on text n size k (Some written) mid new within so_far writes =
    let few : k ≤ size = omega (arith, writes.within, length-take-le size (drop n text) (omega (arith, length-drop n text))) in
    writes.appended ∙ ap (option_map (λ (w : List ℕ). w ++ take k (take size (drop n text)))) so_far
    ∙ ap (λ (all : List ℕ). Some all) (append_assoc written (take n text) (take k (take size (drop n text)))
    ∙ ap (λ (back : List ℕ). written ++ back) (ap (λ (r : List ℕ). take n text ++ r) (take-take k size (drop n text) few) ∙ sym (take-add n k text)))
