-- Headers: their length, and that they differ.
use Rattle.std.proofs.Common.{◌≡◌, ℕ, zero, suc, ◌+◌, ◌*◌, ◌^◌, ◌<◌, ◌≤◌, get_or, List, [], ◌∷◌, ◌++◌, length, take, drop, refl, sym, ap, subst, ◌∙◌, arith, append_assoc, inl, inr}
use Rattle.std.specs.Int.{w32, from_be_bytes, to_be_bytes}
use Rattle.std.specs.List.{flat_map, AllByRecursion}
use Rattle.std.specs.Prelude.{All, codes}
use Rattle.std.proofs.lemmas.Bool.{cases_lt}
use Rattle.std.proofs.lemmas.List.{drop-drop, drop-take, drop_at, length-append, length-drop, length-take, length-take-le, get_or_past, take-append-drop, take-take, take_at}
use Rattle.std.proofs.lemmas.Nat.{from_be_bytes-to_be_bytes_4}
use Rattle.sha2.specs.Sha256.{sha256, digest_bytes}
use Rattle.seal_kit.specs.declared.height.Height.{Height}
use Rattle.seal_kit.specs.declared.height.Height.TheVariants.{H5, H10, H5H5, H5H10}
use Rattle.seq_base.specs.Setting.{Parameters}
use Rattle.wire_view.proofs.Exact.{IsBytes}
use Rattle.wire_view.proofs.FieldLaws.{IsBytes-drop, IsBytes-take, wide32}
use Rattle.durable_node.specs.Check.{check_of}
use Rattle.durable_node.specs.Header.{FitsHeader, HasHeader, HasOwner, IsHeaded, IsOwn, header_of, height_number, numbers_of, owner_bytes}

-- ---- lengths

length_check : (bytes : List ℕ) → length (check_of bytes) ≡ 8
unfolding check_of sha256 digest_bytes
length_check bytes = refl

length_numbers : (numbers : List ℕ) → length (flat_map (to_be_bytes w32) numbers) ≡ 4 * length numbers
length_numbers [] = refl
length_numbers (n ∷ ns) = omega (arith, length-append (to_be_bytes w32 n) (flat_map (to_be_bytes w32) ns), length_numbers ns)

length_owner : (s : Parameters) (views me height : ℕ) (keys : List ℕ) → length keys ≡ 32 → length (owner_bytes s views me height keys) ≡ 68
unfolding owner_bytes
length_owner s views me height keys long =
    let numbers = numbers_of s views me height in
    omega (arith, long, length-append (flat_map (to_be_bytes w32) numbers) keys, length_numbers numbers)

pub length_header : (s : Parameters) (views me height : ℕ) (keys : List ℕ) → length keys ≡ 32 → length (header_of s views me height keys) ≡ 76
unfolding header_of
length_header s views me height keys long =
    let owner = owner_bytes s views me height keys in
    omega (arith, length-append owner (check_of owner), length_owner s views me height keys long, length_check owner)

-- ---- two owners have two headers

-- lists joined from two parts, where the first parts are equally long
cut : (a b c d : List ℕ) → length a ≡ length b → a ++ c ≡ b ++ d → (a ≡ b) × (c ≡ d)
cut a b c d len same =
    let n = length a in (
      sym (take_at a c n refl) ∙ ap (λ (t : List ℕ). take n t) same ∙ take_at b d n (sym len),
      sym (drop_at a c n refl) ∙ ap (λ (t : List ℕ). drop n t) same ∙ drop_at b d n (sym len),
    )

number_same : (x y : ℕ) → x < 2 ^ 32 → y < 2 ^ 32 → to_be_bytes w32 x ≡ to_be_bytes w32 y → x ≡ y
number_same x y fx fy same = sym (from_be_bytes-to_be_bytes_4 x fx) ∙ ap (λ (b : List ℕ). from_be_bytes w32 b) same ∙ from_be_bytes-to_be_bytes_4 y fy

numbers_same : (xs ys : List ℕ) → AllByRecursion (λ number. number < 2 ^ 32) xs → AllByRecursion (λ number. number < 2 ^ 32) ys → length xs ≡ length ys
    → flat_map (to_be_bytes w32) xs ≡ flat_map (to_be_bytes w32) ys → xs ≡ ys
numbers_same [] [] fx fy len same = refl
numbers_same [] (y ∷ ys) fx fy len same = absurd (omega (arith, len))
numbers_same (x ∷ xs) [] fx fy len same = absurd (omega (arith, len))
numbers_same (x ∷ xs) (y ∷ ys) fx fy len same =
    let parts = cut (to_be_bytes w32 x) (to_be_bytes w32 y) (flat_map (to_be_bytes w32) xs) (flat_map (to_be_bytes w32) ys) refl same in
    let first : x ≡ y = number_same x y fx.0 fy.0 parts.0 in
    let rest : xs ≡ ys = numbers_same xs ys fx.1 fy.1 (omega (arith, len)) parts.1 in
    ap (λ (n : ℕ). n ∷ xs) first ∙ ap (λ (ns : List ℕ). y ∷ ns) rest

-- the setting that the first four of seven numbers are
setting_in : List ℕ → Parameters
setting_in numbers = record { n = get_or numbers 0 0; f = get_or numbers 1 0; p = get_or numbers 2 0; q = get_or numbers 3 0 }

owner_same : (s t : Parameters) (views later me other height grown : ℕ) (keys more : List ℕ) → FitsHeader s views me height keys
    → FitsHeader t later other grown more
    → owner_bytes s views me height keys ≡ owner_bytes t later other grown more
    → (numbers_of s views me height ≡ numbers_of t later other grown) × (keys ≡ more)
unfolding owner_bytes
owner_same s t views later me other height grown keys more fits also same =
    let a = numbers_of s views me height in
    let b = numbers_of t later other grown in
    let following = cut (codes "THEMISL2") (codes "THEMISL2") (flat_map (to_be_bytes w32) a ++ keys) (flat_map (to_be_bytes w32) b ++ more) refl same in
    let parts = cut (flat_map (to_be_bytes w32) a) (flat_map (to_be_bytes w32) b) keys more refl following.1 in
    (numbers_same a b fits.numbers also.numbers refl parts.0, parts.1)

pub headers_differ : (s t : Parameters) (views later me other height grown : ℕ) (keys more : List ℕ) → FitsHeader s views me height keys
    → FitsHeader t later other grown more
    → header_of s views me height keys ≡ header_of t later other grown more → (s ≡ t) × (views ≡ later) × (me ≡ other) × (height ≡ grown) × (keys ≡ more)
unfolding header_of setting_in
headers_differ s t views later me other height grown keys more fits also same =
    let a = owner_bytes s views me height keys in
    let b = owner_bytes t later other grown more in
    let len : length a ≡ length b = length_owner s views me height keys fits.size ∙ sym (length_owner t later other grown more also.size) in
    let owners = cut a b (check_of a) (check_of b) len same in
    let parts = owner_same s t views later me other height grown keys more fits also owners.0 in (
      ap setting_in parts.0,
      ap (λ (ns : List ℕ). get_or ns 4 0) parts.0,
      ap (λ (ns : List ℕ). get_or ns 5 0) parts.0,
      ap (λ (ns : List ℕ). get_or ns 6 0) parts.0,
      parts.1,
    )

-- ---- logs with headers

pub whole_log : (header log : List ℕ) → HasHeader header log → log ≡ header ++ drop 76 log
whole_log header log has = sym (take-append-drop 76 log) ∙ ap (λ (t : List ℕ). t ++ drop 76 log) has

pub long_log : (header log : List ℕ) → length header ≡ 76 → HasHeader header log → 76 ≤ length log
long_log header log sized has =
    (let len : length (take 76 log) ≡ length header = ap (λ (t : List ℕ). length t) has in omega (arith, len, sized, length-take 76 log))

mark_of : (s : Parameters) (views me height : ℕ) (keys rest : List ℕ) → take 8 (owner_bytes s views me height keys ++ rest) ≡ codes "THEMISL2"
unfolding owner_bytes
mark_of s views me height keys rest = refl

-- a log with some header has an owner
owned_log : (s : Parameters) (views me height : ℕ) (keys log : List ℕ) → length keys ≡ 32 → 76 ≤ length log
    → log ≡ header_of s views me height keys ++ drop 76 log → HasOwner log
unfolding header_of
owned_log s views me height keys log long size is =
    let owner = owner_bytes s views me height keys in
    let rest = check_of owner ++ drop 76 log in
    let parts : log ≡ owner ++ rest = is ∙ append_assoc owner (check_of owner) (drop 76 log) in
    let first : take 68 log ≡ owner = ap (λ (t : List ℕ). take 68 t) parts ∙ take_at owner rest 68 (length_owner s views me height keys long) in
    let last : drop 68 log ≡ rest = ap (λ (t : List ℕ). drop 68 t) parts ∙ drop_at owner rest 68 (length_owner s views me height keys long) in
    record {
      size = size;
      mark = ap (λ (t : List ℕ). take 8 t) parts ∙ mark_of s views me height keys rest;
      check = ap (λ (t : List ℕ). take 8 t) last ∙ take_at (check_of owner) (drop 76 log) 8 (length_check owner) ∙ ap check_of (sym first);
    }

pub has_owner : (s : Parameters) (views me height : ℕ) (keys log : List ℕ) → length keys ≡ 32 → HasHeader (header_of s views me height keys) log → HasOwner log
has_owner s views me height keys log long has =
    (let header = header_of s views me height keys in owned_log s views me height keys log long
    (long_log header log (length_header s views me height keys long) has) (whole_log header log has))

pub one_owner : (s t : Parameters) (views later me other height grown : ℕ) (keys more log : List ℕ) → FitsHeader s views me height keys
    → FitsHeader t later other grown more
    → HasHeader (header_of s views me height keys) log → IsOwn (header_of t later other grown more) log
    → (s ≡ t) × (views ≡ later) × (me ≡ other) × (height ≡ grown) × (keys ≡ more)
one_owner s t views later me other height grown keys more log fits also has (inl own) =
    headers_differ s t views later me other height grown keys more fits also (sym has ∙ own)
one_owner s t views later me other height grown keys more log fits also has (inr torn) =
    absurd (omega (arith, torn.0, long_log (header_of s views me height keys) log (length_header s views me height keys fits.size) has))

-- ---- the owner that a header names

numbers_in : ℕ → List ℕ → List ℕ
numbers_in zero bytes = []
numbers_in (suc n) bytes = from_be_bytes w32 (take 4 bytes) ∷ numbers_in n (drop 4 bytes)

numbers_back : (n : ℕ) (bytes : List ℕ) → IsBytes bytes → length bytes ≡ 4 * n → flat_map (to_be_bytes w32) (numbers_in n bytes) ≡ bytes
unfolding numbers_in
numbers_back zero [] fits len = refl
numbers_back zero (b ∷ bytes) fits len = absurd (omega (arith, len))
numbers_back (suc n) bytes fits len =
    let first : to_be_bytes w32 (from_be_bytes w32 (take 4 bytes)) ≡ take 4 bytes =
    wide32.back (take 4 bytes) (omega (arith, len, length-take 4 bytes)) (IsBytes-take 4 bytes fits) in
    let rest = numbers_back n (drop 4 bytes) (IsBytes-drop 4 bytes fits) (omega (arith, len, length-drop 4 bytes)) in
    ap (λ (t : List ℕ). t ++ flat_map (to_be_bytes w32) (numbers_in n (drop 4 bytes))) first ∙ ap (λ (t : List ℕ). take 4 bytes ++ t) rest
    ∙ take-append-drop 4 bytes

numbers_fit : (n : ℕ) (bytes : List ℕ) → IsBytes bytes → AllByRecursion (λ number. number < 2 ^ 32) (numbers_in n bytes)
unfolding numbers_in
numbers_fit zero bytes fits = tt
numbers_fit (suc n) bytes fits = (wide32.below (take 4 bytes) (IsBytes-take 4 bytes fits), numbers_fit n (drop 4 bytes) (IsBytes-drop 4 bytes fits))

two_parts : (a b : ℕ) (log : List ℕ) → take (a + b) log ≡ take a log ++ take b (drop a log)
two_parts a b log =
    sym (take-append-drop a (take (a + b) log))
    ∙ ap (λ (t : List ℕ). t ++ drop a (take (a + b) log)) (take-take a (a + b) log (omega arith))
    ∙ ap (λ (t : List ℕ). take a log ++ t) (drop-take a b log)

-- the header and the first bytes of the records
pub whole_taken : (header log : List ℕ) (whole : ℕ) → HasHeader header log → take (76 + whole) log ≡ header ++ take whole (drop 76 log)
whole_taken header log whole has = two_parts 76 whole log ∙ ap (λ (t : List ℕ). t ++ take whole (drop 76 log)) has

-- the numbers of a log's header
seven : List ℕ → List ℕ
seven log = numbers_in 7 (take 28 (drop 8 log))

seven_are : (log : List ℕ) → seven log ≡ numbers_of (setting_in (seven log)) (get_or (seven log) 4 0) (get_or (seven log) 5 0) (get_or (seven log) 6 0)
unfolding seven numbers_in setting_in
seven_are log = refl

headed : (log : List ℕ) → IsBytes log → 76 ≤ length log → take 8 log ≡ codes "THEMISL2"
    → take 68 log ≡ owner_bytes (setting_in (seven log)) (get_or (seven log) 4 0) (get_or (seven log) 5 0) (get_or (seven log) 6 0) (take 32 (drop 36 log))
unfolding owner_bytes seven
headed log fits size mark =
    let middle = take 28 (drop 8 log) in
    let back : flat_map (to_be_bytes w32) (seven log) ≡ middle =
    numbers_back 7 middle (IsBytes-take 28 (drop 8 log) (IsBytes-drop 8 log fits)) (omega (arith, size, length-take 28 (drop 8 log), length-drop 8 log)) in
    let numbers : flat_map (to_be_bytes w32)
    (numbers_of (setting_in (seven log)) (get_or (seven log) 4 0) (get_or (seven log) 5 0) (get_or (seven log) 6 0)) ≡ middle =
    ap (λ (ns : List ℕ). flat_map (to_be_bytes w32) ns) (sym (seven_are log)) ∙ back in
    two_parts 8 60 log ∙ ap (λ (t : List ℕ). t ++ take 60 (drop 8 log)) mark
    ∙ ap (λ (t : List ℕ). codes "THEMISL2" ++ t) (two_parts 28 32 (drop 8 log)
    ∙ ap (λ (t : List ℕ). middle ++ take 32 t) (drop-drop 28 8 log) ∙ ap (λ (t : List ℕ). t ++ take 32 (drop 36 log)) (sym numbers))

header_fits : (log : List ℕ) → IsBytes log
    → AllByRecursion (λ number. number < 2 ^ 32)
    (numbers_of (setting_in (seven log)) (get_or (seven log) 4 0) (get_or (seven log) 5 0) (get_or (seven log) 6 0))
unfolding seven
header_fits log fits =
    subst (λ (ns : List ℕ). AllByRecursion (λ number. number < 2 ^ 32) ns) (seven_are log)
    (numbers_fit 7 (take 28 (drop 8 log)) (IsBytes-take 28 (drop 8 log) (IsBytes-drop 8 log fits)))

pub fits_of : (bytes : List ℕ) → All (λ b. b < 256) bytes → IsBytes bytes
fits_of bytes each = λ i. elim (cases_lt i (length bytes)) [ inl lt ↦ each i 0 lt | inr le ↦ rw (get_or_past bytes i 0 le) (omega arith) ]

pub owner_is : (log : List ℕ) → All (λ b. b < 256) log → HasOwner log → IsHeaded log
unfolding header_of
owner_is log each own =
    let numbers = seven log in
    let owner = owner_bytes (setting_in numbers) (get_or numbers 4 0) (get_or numbers 5 0) (get_or numbers 6 0) (take 32 (drop 36 log)) in
    let first : take 68 log ≡ owner = headed log (fits_of log each) own.size own.mark in
    record {
      setting = setting_in numbers;
      views = get_or numbers 4 0;
      replica = get_or numbers 5 0;
      height = get_or numbers 6 0;
      keys = take 32 (drop 36 log);
      fits = record {
        numbers = header_fits log (fits_of log each);
        size = length-take-le 32 (drop 36 log) (omega (arith, own.size, length-drop 36 log));
      };
      header = two_parts 68 8 log ∙ ap (λ (t : List ℕ). take 68 log ++ t) own.check ∙ ap (λ (t : List ℕ). t ++ check_of t) first;
    }

-- ---- heights

pub heights_differ : (height other : Height) → height_number height ≡ height_number other → height ≡ other
heights_differ H5 H5 same = refl
heights_differ H5 H10 same = absurd (omega (arith, same))
heights_differ H5 H5H5 same = absurd (omega (arith, same))
heights_differ H5 H5H10 same = absurd (omega (arith, same))
heights_differ H10 H5 same = absurd (omega (arith, same))
heights_differ H10 H10 same = refl
heights_differ H10 H5H5 same = absurd (omega (arith, same))
heights_differ H10 H5H10 same = absurd (omega (arith, same))
heights_differ H5H5 H5 same = absurd (omega (arith, same))
heights_differ H5H5 H10 same = absurd (omega (arith, same))
heights_differ H5H5 H5H5 same = refl
heights_differ H5H5 H5H10 same = absurd (omega (arith, same))
heights_differ H5H10 H5 same = absurd (omega (arith, same))
heights_differ H5H10 H10 same = absurd (omega (arith, same))
heights_differ H5H10 H5H5 same = absurd (omega (arith, same))
heights_differ H5H10 H5H10 same = refl
