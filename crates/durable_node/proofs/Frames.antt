-- Bodies in their records, and the checks of both.
use Rattle.std.proofs.Common.{◌≡◌, ℕ, ◌+◌, ◌^◌, ◌<◌, ◌≤◌, List, ◌++◌, length, take, drop, refl, sym, ap, subst, ◌∙◌, append_assoc, arith, inl, inr}
use Rattle.std.specs.Int.{w32, from_be_bytes, to_be_bytes}
use Rattle.std.proofs.Math.Seq.{take-add}
use Rattle.std.proofs.lemmas.Bool.{cases_lt}
use Rattle.std.proofs.lemmas.List.{take_at, drop_at, drop-take, take-append-le, take-append-drop, length-append, length-take, length-drop}
use Rattle.std.proofs.lemmas.Nat.{from_be_bytes-to_be_bytes_4}
use Rattle.sha2.specs.Sha256.{sha256, digest_bytes}
use Rattle.durable_node.specs.Check.{check_of, next_digest}
use Rattle.durable_node.specs.Log.{HasBody, HasSize, IsCut, body_at, body_size, framed, size_at}

pub check_long : (bytes : List ℕ) → length (check_of bytes) ≡ 8
unfolding check_of sha256 digest_bytes
check_long bytes = refl

last_long : (digest body : List ℕ) → length (take 8 (next_digest digest body)) ≡ 8
unfolding next_digest sha256 digest_bytes
last_long digest body = refl

pub framed_long : (digest body : List ℕ) → length (framed digest body) ≡ 20 + length body
unfolding framed
framed_long digest body =
    let size = to_be_bytes w32 (length body) in
    let check = check_of (digest ++ size) in
    let last = take 8 (next_digest digest body) in
    omega (
      arith,
      length-append ((size ++ check) ++ body) last,
      length-append (size ++ check) body,
      length-append size check,
      check_long (digest ++ size),
      last_long digest body,
    )

-- ---- from the record to its parts

-- bytes start with the record of a body
pub record IsFramed (digest rest body : List ℕ) : Type 0 where
  pub size : body_size rest ≡ length body
  pub has_size : HasSize digest rest
  pub same : body_at rest ≡ body
  pub has_body : HasBody digest rest

parts_of : (digest body more : List ℕ) → length body < 2 ^ 32
    → IsFramed digest
    (to_be_bytes w32 (length body) ++ (check_of (digest ++ to_be_bytes w32 (length body)) ++ (body ++ (take 8 (next_digest digest body) ++ more)))) body
parts_of digest body more small =
    let size = to_be_bytes w32 (length body) in
    let check = check_of (digest ++ size) in
    let last_check = take 8 (next_digest digest body) in
    let after = body ++ (last_check ++ more) in
    let number : from_be_bytes w32 size ≡ length body = from_be_bytes-to_be_bytes_4 (length body) small in
    let rest : drop 8 (check ++ after) ≡ after = drop_at check after 8 (check_long (digest ++ size)) in
    let back : take (from_be_bytes w32 size) (drop 8 (check ++ after)) ≡ body = rw (number, rest) (take_at body (last_check ++ more) (length body) refl) in
    let last : take 8 (drop (from_be_bytes w32 size) (drop 8 (check ++ after))) ≡ last_check =
    rw (number, rest)
    (ap (λ (t : List ℕ). take 8 t) (drop_at body (last_check ++ more) (length body) refl) ∙ take_at last_check more 8 (last_long digest body)) in
    record {
      size = number;
      has_size = take_at check after 8 (check_long (digest ++ size));
      same = back;
      has_body = last ∙ ap (λ (b : List ℕ). take 8 (next_digest digest b)) (sym back);
    }

pub framed_prefix : (digest body more : List ℕ) → length body < 2 ^ 32 → IsFramed digest (framed digest body ++ more) body
unfolding framed
framed_prefix digest body more small =
    let size = to_be_bytes w32 (length body) in
    let check = check_of (digest ++ size) in
    let last = take 8 (next_digest digest body) in
    let apart : framed digest body ++ more ≡ size ++ (check ++ (body ++ (last ++ more))) =
    append_assoc ((size ++ check) ++ body) last more ∙ append_assoc (size ++ check) body (last ++ more) ∙ append_assoc size check (body ++ (last ++ more)) in
    subst (λ (r : List ℕ). IsFramed digest r body) (sym apart) (parts_of digest body more small)

pub framed_in : (digest rest body : List ℕ) → length body < 2 ^ 32 → take (size_at rest) rest ≡ framed digest body → IsFramed digest rest body
framed_in digest rest body small is =
    let whole : rest ≡ framed digest body ++ drop (size_at rest) rest =
    sym (take-append-drop (size_at rest) rest) ∙ ap (λ (t : List ℕ). t ++ drop (size_at rest) rest) is in
    subst (λ (r : List ℕ). IsFramed digest r body) (sym whole) (framed_prefix digest body (drop (size_at rest) rest) small)

pub fits_in : (digest rest body : List ℕ) → length body < 2 ^ 32 → take (size_at rest) rest ≡ framed digest body → size_at rest ≤ length rest
fits_in digest rest body small is =
    let len : length (take (size_at rest) rest) ≡ length (framed digest body) = ap (λ (t : List ℕ). length t) is in
    omega (arith, len, framed_long digest body, (framed_in digest rest body small is).size, length-take (size_at rest) rest)

-- ---- from the parts to the record

glued : (digest size check body last number end : List ℕ) → number ≡ size → check ≡ check_of (digest ++ size) → last ≡ end
    → (size ++ check) ++ (body ++ last) ≡ number ++ check_of (digest ++ number) ++ body ++ end
glued digest size check body last number end is c l = rw (is, c, l) (sym (append_assoc (size ++ check_of (digest ++ size)) body end))

pub framed_back : (digest rest : List ℕ) → to_be_bytes w32 (body_size rest) ≡ take 4 rest → size_at rest ≤ length rest
    → HasSize digest rest → HasBody digest rest
    → take (size_at rest) rest ≡ framed digest (body_at rest)
unfolding framed
framed_back digest rest number whole has_size has_body =
    let n = body_size rest in
    let size : size_at rest ≡ 12 + (n + 8) = omega arith in
    let len : length (body_at rest) ≡ n = omega (arith, whole, length-take n (drop 12 rest), length-drop 12 rest) in
    let head : take 12 rest ≡ take 4 rest ++ take 8 (drop 4 rest) = take-add 4 8 rest in
    let tail : take (n + 8) (drop 12 rest) ≡ body_at rest ++ take 8 (drop n (drop 12 rest)) = take-add n 8 (drop 12 rest) in
    ap (λ (k : ℕ). take k rest) size ∙ take-add 12 (n + 8) rest ∙ ap (λ (t : List ℕ). t ++ take (n + 8) (drop 12 rest)) head
    ∙ ap (λ (t : List ℕ). (take 4 rest ++ take 8 (drop 4 rest)) ++ t) tail
    ∙ glued digest (take 4 rest) (take 8 (drop 4 rest)) (body_at rest) (take 8 (drop n (drop 12 rest)))
    (to_be_bytes w32 (length (body_at rest))) (take 8 (next_digest digest (body_at rest)))
    (ap (λ (k : ℕ). to_be_bytes w32 k) len ∙ number) has_size has_body

-- ---- bytes that are not torn

pub long_enough : (digest rest : List ℕ) → (IsCut digest rest → ⊥) → 12 ≤ length rest
long_enough digest rest whole = elim (cases_lt (length rest) 12) [ inl short ↦ absurd (whole (inl short)) | inr long ↦ long ]

pub whole_of : (digest rest : List ℕ) → (IsCut digest rest → ⊥) → HasSize digest rest → size_at rest ≤ length rest
whole_of digest rest whole has_size = elim (cases_lt (length rest) (size_at rest)) [ inl short ↦ absurd (whole (inr (has_size, short))) | inr long ↦ long ]

-- a whole record is not torn, whatever follows it
pub framed_uncut : (digest body more : List ℕ) → length body < 2 ^ 32 → IsCut digest (framed digest body ++ more) → ⊥
framed_uncut digest body more small cut =
    let size = (framed_prefix digest body more small).size in
    elim cut [
      | inl short ↦ omega (arith, short, length-append (framed digest body) more, framed_long digest body)
      | inr short ↦ omega (arith, short.1, size, length-append (framed digest body) more, framed_long digest body)
    ]

-- the first twelve bytes give the length of a record, whatever follows them
head_same : (r lost : List ℕ) → 12 ≤ length r → (take 4 (r ++ lost) ≡ take 4 r) × (take 8 (drop 4 (r ++ lost)) ≡ take 8 (drop 4 r))
head_same r lost long = (
  take-append-le 4 r lost (omega (arith, long)),
  sym (drop-take 4 8 (r ++ lost)) ∙ ap (λ (t : List ℕ). drop 4 t) (take-append-le 12 r lost long) ∙ drop-take 4 8 r,
)

-- bytes that are not torn start with a record if they do so with more bytes after them
pub framed_alone : (digest r lost body more : List ℕ) → length body < 2 ^ 32 → r ++ lost ≡ framed digest body ++ more → (IsCut digest r → ⊥)
    → take (size_at r) r ≡ framed digest body
framed_alone digest r lost body more small same whole =
    let head = head_same r lost (long_enough digest r whole) in
    let all = subst (λ (t : List ℕ). IsFramed digest t body) (sym same) (framed_prefix digest body more small) in
    let size : body_size r ≡ length body = sym (ap (λ (t : List ℕ). from_be_bytes w32 t) head.0) ∙ all.size in
    let least = whole_of digest r whole (sym head.1 ∙ all.has_size ∙ ap (λ (t : List ℕ). check_of (digest ++ t)) head.0) in
    let n : size_at r ≡ length (framed digest body) = omega (arith, size, framed_long digest body) in
    sym (take-append-le (size_at r) r lost least) ∙ ap (λ (t : List ℕ). take (size_at r) t) same ∙ take_at (framed digest body) more (size_at r) (sym n)

-- ---- a record after another digest

-- the check of its length is the other digest's
pub head_of : (digest body more : List ℕ) → (12 ≤ length (framed digest body ++ more)) × (take 4 (framed digest body ++ more) ≡ to_be_bytes w32 (length body))
    × (take 8 (drop 4 (framed digest body ++ more)) ≡ check_of (digest ++ to_be_bytes w32 (length body)))
unfolding framed
head_of digest body more =
    let size = to_be_bytes w32 (length body) in
    let check = check_of (digest ++ size) in
    let last = take 8 (next_digest digest body) in
    let apart : framed digest body ++ more ≡ size ++ (check ++ (body ++ (last ++ more))) =
    append_assoc ((size ++ check) ++ body) last more ∙ append_assoc (size ++ check) body (last ++ more) ∙ append_assoc size check (body ++ (last ++ more)) in (
      omega (arith, length-append (framed digest body) more, framed_long digest body),
      ap (λ (t : List ℕ). take 4 t) apart ∙ take_at size (check ++ (body ++ (last ++ more))) 4 refl,
      ap (λ (t : List ℕ). take 8 (drop 4 t)) apart ∙ take_at check (body ++ (last ++ more)) 8 (check_long (digest ++ size)),
    )
