-- What is signed fits.
use Rattle.std.proofs.Common.{◌≡◌, ℕ, ◌+◌, ◌*◌, ◌^◌, ◌<◌, List, [], ◌++◌, Bool, true, false, ◌&&◌, ◌||◌, ◌⊎◌, length, get_or, refl, sym, ap, subst, ◌∙◌, arith, rules, tests, eq-eqb, ltb, inl, inr, append_assoc, length-append}
use Rattle.std.proofs.lemmas.List.{append-nil}
use Rattle.std.proofs.lemmas.Slice.Eq.{slice_eq-Decides}
use Rattle.std.proofs.lemmas.Bool.Decides.{Decides-eqb}
use Rattle.std.specs.Int.{w32, to_be_bytes}
use Rattle.std.specs.List.{concat}
use Rattle.std.specs.Str.{bytes_eq}
use Rattle.lm_ots.specs.Ots.{parts_of, candidate_of, random_of, digits_of, signed_part, signed_parts, key_of}
use Rattle.lm_ots.proofs.EachChain.{ends_meet, parts_same}
use Rattle.lm_ots.proofs.EachChain as each
use Rattle.lms_seal.specs.Bytes.{number_at, hash_at}
use Rattle.lms_seal.specs.Tree.{node, leaf_hash, kind_of, public_of, signature_of, path_node}
use Rattle.lms_seal.specs.Fits.{climbed, part_at, path_at, root_of, fits_at, fits, id_of}
use Rattle.lms_seal.proofs.Cut.{cut, number_cut, part_cut, length_joined, AreHashes}
use Rattle.lms_seal.proofs.Lengths.{length_sha256, length_steps, length_node, length_parts, are_hashes}
use Rattle.lms_seal.proofs.Rises.{rises, root_place}
use Rattle.lms_seal.proofs.Climbs.{same_root}

-- a signature of any parts and any path
abbrev laid : ℕ → List ℕ → List (List ℕ) → ℕ → List (List ℕ) → List ℕ
laid q random parts kind path =
    to_be_bytes w32 q ++ (to_be_bytes w32 3 ++ (random ++ (concat parts ++ (to_be_bytes w32 kind ++ concat path))))

-- the bytes up to the parts, and up to the path
abbrev to_parts : ℕ → List ℕ → List ℕ
to_parts q random = to_be_bytes w32 q ++ (to_be_bytes w32 3 ++ random)

abbrev to_kind : ℕ → List ℕ → List (List ℕ) → List ℕ
to_kind q random parts = to_parts q random ++ concat parts

abbrev to_path : ℕ → List ℕ → List (List ℕ) → ℕ → List ℕ
to_path q random parts kind = to_kind q random parts ++ to_be_bytes w32 kind

leaf_of_laid : (q : ℕ) (random : List ℕ) (parts : List (List ℕ)) (kind : ℕ) (path : List (List ℕ)) → q < 2 ^ 32
    → number_at (laid q random parts kind path) 0 ≡ q
leaf_of_laid q random parts kind path small =
    number_cut [] (to_be_bytes w32 3 ++ (random ++ (concat parts ++ (to_be_bytes w32 kind ++ concat path)))) q 0 refl small

ots_kind_of_laid : (q : ℕ) (random : List ℕ) (parts : List (List ℕ)) (kind : ℕ) (path : List (List ℕ)) → number_at (laid q random parts kind path) 4 ≡ 3
ots_kind_of_laid q random parts kind path =
    number_cut (to_be_bytes w32 q) (random ++ (concat parts ++ (to_be_bytes w32 kind ++ concat path))) 3 4 refl (omega arith)

random_of_laid : (q : ℕ) (random : List ℕ) (parts : List (List ℕ)) (kind : ℕ) (path : List (List ℕ)) → length random ≡ 32
    → hash_at (laid q random parts kind path) 8 ≡ random
random_of_laid q random parts kind path l =
    cut (to_be_bytes w32 q ++ to_be_bytes w32 3) random (concat parts ++ (to_be_bytes w32 kind ++ concat path)) 8 40 refl l

at_kind : (q : ℕ) (random : List ℕ) (parts : List (List ℕ)) (kind : ℕ) (path : List (List ℕ))
    → laid q random parts kind path ≡ to_kind q random parts ++ (to_be_bytes w32 kind ++ concat path)
at_kind q random parts kind path = sym (append_assoc (to_parts q random) (concat parts) (to_be_bytes w32 kind ++ concat path))

at_path : (q : ℕ) (random : List ℕ) (parts : List (List ℕ)) (kind : ℕ) (path : List (List ℕ))
    → laid q random parts kind path ≡ to_path q random parts kind ++ (concat path ++ [])
at_path q random parts kind path =
    at_kind q random parts kind path
    ∙ sym (append_assoc (to_kind q random parts) (to_be_bytes w32 kind) (concat path))
    ∙ ap (λ (l : List ℕ). to_path q random parts kind ++ l) (sym (append-nil (concat path)))

length_to_parts : (q : ℕ) (random : List ℕ) → length random ≡ 32 → length (to_parts q random) ≡ 40
length_to_parts q random l = omega (arith, l)

length_to_kind : (q : ℕ) (random : List ℕ) (parts : List (List ℕ)) → length random ≡ 32 → AreHashes parts → length parts ≡ 67
    → length (to_kind q random parts) ≡ 2184
length_to_kind q random parts l each n = omega (arith, length-append (to_parts q random) (concat parts), length_to_parts q random l, length_joined parts each)

length_to_path : (q : ℕ) (random : List ℕ) (parts : List (List ℕ)) (kind : ℕ) → length random ≡ 32 → AreHashes parts → length parts ≡ 67
    → length (to_path q random parts kind) ≡ 2188
length_to_path q random parts kind l each n =
    omega (arith, length-append (to_kind q random parts) (to_be_bytes w32 kind), length_to_kind q random parts l each n)

length_of_laid : (q : ℕ) (random : List ℕ) (parts : List (List ℕ)) (kind : ℕ) (path : List (List ℕ)) → length random ≡ 32 → AreHashes parts
    → length parts ≡ 67 → AreHashes path
    → length (laid q random parts kind path) ≡ 2188 + 32 * length path
length_of_laid q random parts kind path l each n hashes =
    ap length (at_path q random parts kind path)
    ∙ omega (
      arith,
      length-append (to_path q random parts kind) (concat path ++ []),
      length-append (concat path) [],
      length_joined path hashes,
      length_to_path q random parts kind l each n,
    )

kind_of_laid : (q : ℕ) (random : List ℕ) (parts : List (List ℕ)) (kind : ℕ) (path : List (List ℕ)) → length random ≡ 32 → AreHashes parts
    → length parts ≡ 67 → kind < 2 ^ 32
    → number_at (laid q random parts kind path) 2184 ≡ kind
kind_of_laid q random parts kind path l each n small =
    ap (λ (b : List ℕ). number_at b 2184) (at_kind q random parts kind path)
    ∙ number_cut (to_kind q random parts) (concat path) kind 2184 (length_to_kind q random parts l each n) small

part_of_laid : (q : ℕ) (random : List ℕ) (parts : List (List ℕ)) (kind : ℕ) (path : List (List ℕ)) (i : ℕ) → length random ≡ 32
    → AreHashes parts → i < length parts
    → part_at (laid q random parts kind path) i ≡ get_or parts i []
part_of_laid q random parts kind path i l each below =
    part_cut (to_parts q random) (to_be_bytes w32 kind ++ concat path) parts i (40 + 32 * i) each below (omega (arith, length_to_parts q random l))

path_of_laid : (q : ℕ) (random : List ℕ) (parts : List (List ℕ)) (kind : ℕ) (path : List (List ℕ)) (i : ℕ) → length random ≡ 32
    → AreHashes parts → length parts ≡ 67 → AreHashes path → i < length path
    → path_at (laid q random parts kind path) i ≡ get_or path i []
path_of_laid q random parts kind path i l each n hashes below =
    ap (λ (b : List ℕ). hash_at b (2188 + 32 * i)) (at_path q random parts kind path)
    ∙ part_cut (to_path q random parts kind) [] path i (2188 + 32 * i) hashes below (omega (arith, length_to_path q random parts kind l each n))

pub and_true : (a b : Bool) → a ≡ true → b ≡ true → a && b ≡ true
and_true a b ea eb = rw (ea, eb) refl

below_is : (m n : ℕ) → m < n → ltb m n ≡ true
below_is m n h = search (rules, tests)

pub bytes_same : (x y : List ℕ) → x ≡ y → bytes_eq x y ≡ true
bytes_same x y e = (slice_eq-Decides Decides-eqb x y (bytes_eq x y) refl).1 e

-- a tree's own public key
abbrev key_laid : ℕ → List ℕ → List ℕ → List ℕ
key_laid kind id root = to_be_bytes w32 kind ++ to_be_bytes w32 3 ++ id ++ root

id_of_key : (kind : ℕ) (id root : List ℕ) → length id ≡ 16 → id_of (key_laid kind id root) ≡ id
id_of_key kind id root l = cut (to_be_bytes w32 kind ++ to_be_bytes w32 3) id root 8 24 refl l

root_of_key : (kind : ℕ) (id root : List ℕ) → length id ≡ 16 → length root ≡ 32 → hash_at (key_laid kind id root) 24 ≡ root
root_of_key kind id root l lr =
    ap (λ (b : List ℕ). hash_at (to_be_bytes w32 kind ++ to_be_bytes w32 3 ++ id ++ b) 24) (sym (append-nil root))
    ∙ cut (to_be_bytes w32 kind ++ to_be_bytes w32 3 ++ id) root [] 24 56 (omega (arith, l)) lr

pub length_of_key : (kind : ℕ) (id root : List ℕ) → length id ≡ 16 → length root ≡ 32 → length (key_laid kind id root) ≡ 56
length_of_key kind id root l lr = omega (arith, length-append id root, l, lr)

-- the signature of a message, part by part
abbrev parts_in : List ℕ → List ℕ → ℕ → List ℕ → List (List ℕ)
parts_in id seed q message = signed_parts id q seed (digits_of id q (random_of id q seed) message)

abbrev signed : List ℕ → List ℕ → ℕ → ℕ → List ℕ → List ℕ
signed id seed h q message = laid q (random_of id q seed) (parts_in id seed q message) (kind_of h) (parts_of h (path_node id seed h q))

signature_is : (id seed : List ℕ) (h q : ℕ) (message : List ℕ) → signed id seed h q message ≡ signature_of id seed h q message
signature_is id seed h q message =
    let random = random_of id q seed in
    let parts = parts_in id seed q message in
    at_kind q random parts (kind_of h) (parts_of h (path_node id seed h q))
    ∙ sym (append_assoc (to_kind q random parts) (to_be_bytes w32 (kind_of h)) (concat (parts_of h (path_node id seed h q))))

random_long : (id seed : List ℕ) (q : ℕ) → length (random_of id q seed) ≡ 32
random_long id seed q = length_sha256 _

parts_are : (id seed : List ℕ) (q : ℕ) (message : List ℕ) → AreHashes (parts_in id seed q message)
parts_are id seed q message =
    let digits = digits_of id q (random_of id q seed) message in
    are_hashes 67 (signed_part id q seed digits) (λ i below. length_steps id q i 0 _ _ (length_sha256 _))

parts_long : (id seed : List ℕ) (q : ℕ) (message : List ℕ) → length (parts_in id seed q message) ≡ 67
parts_long id seed q message = length_parts 67 (signed_part id q seed (digits_of id q (random_of id q seed) message))

path_are : (id seed : List ℕ) (h q : ℕ) → AreHashes (parts_of h (path_node id seed h q))
path_are id seed h q = are_hashes h (path_node id seed h q) (λ i below. length_node id seed h i _)

path_long : (id seed : List ℕ) (h q : ℕ) → length (parts_of h (path_node id seed h q)) ≡ h
path_long id seed h q = length_parts h (path_node id seed h q)

laid_long : (id seed : List ℕ) (h q : ℕ) (message : List ℕ) → length (signed id seed h q message) ≡ 2188 + 32 * h
laid_long id seed h q message =
    length_of_laid q (random_of id q seed) (parts_in id seed q message) (kind_of h) (parts_of h (path_node id seed h q))
    (random_long id seed q) (parts_are id seed q message) (parts_long id seed q message) (path_are id seed h q)
    ∙ ap (λ (n : ℕ). 2188 + 32 * n) (path_long id seed h q)

-- how long a signature is
pub signed_long : (id seed : List ℕ) (h q : ℕ) (message : List ℕ) → length (signature_of id seed h q message) ≡ 2188 + 32 * h
signed_long id seed h q message = ap length (sym (signature_is id seed h q message)) ∙ laid_long id seed h q message

-- the leaf that is read is the leaf that signed
pub leaf_read : (id seed : List ℕ) (h q : ℕ) (message : List ℕ) → q < 2 ^ 32 → number_at (signature_of id seed h q message) 0 ≡ q
leaf_read id seed h q message small =
    ap (λ (b : List ℕ). number_at b 0) (sym (signature_is id seed h q message))
    ∙ leaf_of_laid q (random_of id q seed) (parts_in id seed q message) (kind_of h) (parts_of h (path_node id seed h q)) small

-- the parts that are read are the parts that were signed
parts_read : (id seed : List ℕ) (h q : ℕ) (message : List ℕ) → parts_in id seed q message ≡ parts_of 67 (part_at (signed id seed h q message))
parts_read id seed h q message =
    let parts = parts_in id seed q message in
    let f = signed_part id q seed (digits_of id q (random_of id q seed) message) in
    parts_same 67 f (part_at (signed id seed h q message)) (λ i below.
    let within : i < length parts = rw (parts_long id seed q message) below in
    sym (part_of_laid q (random_of id q seed) parts (kind_of h) (parts_of h (path_node id seed h q)) i (random_long id seed q)
    (parts_are id seed q message) within ∙ each.part_at 67 i f below))

path_read : (id seed : List ℕ) (h q : ℕ) (message : List ℕ) (i : ℕ) → i < h → path_at (signed id seed h q message) i ≡ path_node id seed h q i
path_read id seed h q message i below =
    let within : i < length (parts_of h (path_node id seed h q)) = rw (path_long id seed h q) below in
    path_of_laid q (random_of id q seed) (parts_in id seed q message) (kind_of h) (parts_of h (path_node id seed h q)) i
    (random_long id seed q) (parts_are id seed q message) (parts_long id seed q message) (path_are id seed h q) within
    ∙ each.part_at h i (path_node id seed h q) below

-- the candidate for the root is the root
root_is : (id seed : List ℕ) (h q : ℕ) (message : List ℕ) → q < 2 ^ h → q < 2 ^ 32 → root_of id h message (signed id seed h q message) ≡ node id seed h h 1
unfolding root_of
root_is id seed h q message below small =
    let s = signed id seed h q message in
    let random = random_of id q seed in
    let parts = parts_in id seed q message in
    let path = parts_of h (path_node id seed h q) in
    let key = candidate_of id q message random parts in
    let leaf = leaf_hash id (2 ^ h + q) key in
    sym (same_root id s h q (number_at s 0) (2 ^ h) message random (hash_at s 8) key leaf (climbed id s (2 ^ h + q) leaf h) parts (parts_of 67 (part_at s))
    (sym (leaf_of_laid q random parts (kind_of h) path small)) refl
    (sym (random_of_laid q random parts (kind_of h) path (random_long id seed q))) (parts_read id seed h q message) refl refl refl)
    ∙ ap (λ (ends : List (List ℕ)). climbed id s (2 ^ h + q) (leaf_hash id (2 ^ h + q) (key_of id q ends)) h)
    (ends_meet id q seed (digits_of id q random message))
    ∙ rises id seed s h q h (path_read id seed h q message)
    ∙ ap (λ (n : ℕ). node id seed h h n) (root_place h q below)

-- what is signed fits at the height of its tree
signed_fits_at : (id seed : List ℕ) (h q : ℕ) (message : List ℕ) → length id ≡ 16 → q < 2 ^ h → q < 2 ^ 32 → kind_of h < 2 ^ 32
    → fits_at h (public_of id seed h) message (signed id seed h q message) ≡ true
signed_fits_at id seed h q message l below small fair =
    let s = signed id seed h q message in
    let random = random_of id q seed in
    let parts = parts_in id seed q message in
    let path = parts_of h (path_node id seed h q) in
    let root = node id seed h h 1 in
    let public = key_laid (kind_of h) id root in
    let long = random_long id seed q in
    let each = parts_are id seed q message in
    let many = parts_long id seed q message in
    let kind : number_at public 0 ≡ kind_of h = number_cut [] (to_be_bytes w32 3 ++ (id ++ root)) (kind_of h) 0 refl fair in
    let ots : number_at public 4 ≡ 3 = number_cut (to_be_bytes w32 (kind_of h)) (id ++ root) 3 4 refl (omega arith) in
    let whole : length s ≡ 2188 + 32 * h = laid_long id seed h q message in
    let inside : number_at s 4 ≡ 3 = ots_kind_of_laid q random parts (kind_of h) path in
    let tree : number_at s 2184 ≡ kind_of h = kind_of_laid q random parts (kind_of h) path long each many fair in
    let leaf : number_at s 0 ≡ q = leaf_of_laid q random parts (kind_of h) path small in
    let same : root_of (id_of public) h message s ≡ hash_at public 24 =
    ap (λ (i : List ℕ). root_of i h message s) (id_of_key (kind_of h) id root l) ∙ root_is id seed h q message below small
    ∙ sym (root_of_key (kind_of h) id root l (length_node id seed h h 1)) in
    and_true _ _
    (and_true _ _
    (and_true _ _
    (and_true _ _
    (and_true _ _
    (and_true _ _ (eq-eqb _ _ kind) (eq-eqb _ _ ots))
    (eq-eqb _ _ whole))
    (eq-eqb _ _ inside))
    (eq-eqb _ _ tree))
    (below_is _ _ (rw leaf below)))
    (bytes_same _ _ same)

or_true : (a b : Bool) → b ≡ true → a || b ≡ true
or_true true b e = refl
or_true false b e = e

or_first : (a b : Bool) → a ≡ true → a || b ≡ true
or_first a b e = rw e refl

fits_five : (id seed : List ℕ) (q : ℕ) (message : List ℕ) → length id ≡ 16 → q < 2 ^ 5
    → fits (public_of id seed 5) message (signature_of id seed 5 q message) ≡ true
unfolding fits
fits_five id seed q message l below =
    and_true _ _ (eq-eqb _ _ (length_of_key 5 id (node id seed 5 5 1) l (length_node id seed 5 5 1)))
    (or_first _ _ (ap (λ (s : List ℕ). fits_at 5 (public_of id seed 5) message s) (sym (signature_is id seed 5 q message))
    ∙ signed_fits_at id seed 5 q message l below (omega arith) (omega arith)))

fits_ten : (id seed : List ℕ) (q : ℕ) (message : List ℕ) → length id ≡ 16 → q < 2 ^ 10
    → fits (public_of id seed 10) message (signature_of id seed 10 q message) ≡ true
unfolding fits
fits_ten id seed q message l below =
    and_true _ _ (eq-eqb _ _ (length_of_key 6 id (node id seed 10 10 1) l (length_node id seed 10 10 1)))
    (or_true _ _ (ap (λ (s : List ℕ). fits_at 10 (public_of id seed 10) message s) (sym (signature_is id seed 10 q message))
    ∙ signed_fits_at id seed 10 q message l below (omega arith) (omega arith)))

-- what a tree of height 5 or 10 signs fits under its public key
pub signed_fits : (id seed : List ℕ) (h q : ℕ) (message : List ℕ) → length id ≡ 16 → (h ≡ 5) ⊎ (h ≡ 10) → q < 2 ^ h
    → fits (public_of id seed h) message (signature_of id seed h q message) ≡ true
signed_fits id seed h q message l height below =
    let P : ℕ → Type 0 = λ n. q < 2 ^ n → fits (public_of id seed n) message (signature_of id seed n q message) ≡ true in
    elim height [
      | inl five ↦ subst P (sym five) (fits_five id seed q message l) below
      | inr ten ↦ subst P (sym ten) (fits_ten id seed q message l) below
    ]
