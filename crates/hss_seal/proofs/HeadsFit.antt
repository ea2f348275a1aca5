-- The head of a signature, and what follows it.
use Rattle.std.proofs.Common.{◌≡◌, ℕ, ◌-◌, List, Bool, true, ◌&&◌, length, take, drop, slice_range, refl, ap, ◌∙◌, arith, eq-eqb, length-drop}
use Rattle.std.proofs.Math.Bool.{and_assoc}
use Rattle.std.proofs.lemmas.List.{drop-take, take-take, take_all}
use Rattle.lms_seal.specs.Fits.{fits}
use Rattle.hss_seal.specs.Heads.{head_fits}
use Rattle.hss_seal.specs.Hss.{hss_fits, inner_key, levels_fit, lower_key_fits, message_fits}

-- a signature fits where its head does, and its message
pub parts_fit : (public message signature : List ℕ) → length public ≡ 60
    → head_fits public signature && message_fits message signature ≡ hss_fits public message signature
unfolding hss_fits head_fits
parts_fit public message signature long =
    rw (eq-eqb (length public) 60 long) (and_assoc (levels_fit public signature) (lower_key_fits public signature) (message_fits message signature))

-- where the head is known to fit, the message decides
pub message_decides : (public message signature : List ℕ) → length public ≡ 60 → head_fits public signature ≡ true
    → message_fits message signature ≡ hss_fits public message signature
message_decides public message signature long known = rw known at (parts_fit public message signature long)

-- a signature's head decides whether it has a good one
pub head_decides : (public signature : List ℕ) → head_fits public signature ≡ head_fits public (take 2408 signature)
unfolding head_fits
head_decides public signature =
    let levels : take 4 (take 2408 signature) ≡ take 4 signature = take-take 4 2408 signature (omega arith) in
    let first : slice_range (take 2408 signature) 4 2352 ≡ slice_range signature 4 2352 =
    ap (take 2348) (drop-take 4 2404 signature) ∙ take-take 2348 2404 (drop 4 signature) (omega arith) in
    let inner : slice_range (take 2408 signature) 2352 2408 ≡ slice_range signature 2352 2408 =
    ap (take 56) (drop-take 2352 56 signature) ∙ take-take 56 56 (drop 2352 signature) (omega arith) in
    rw (levels, first, inner) refl

-- the top tree's key, and what it signs
pub lower_key_is : (public signature top inner : List ℕ) (first : Bool) → length public ≡ 60 → top ≡ slice_range public 4 60
    → inner ≡ inner_key signature → first ≡ fits top inner (slice_range signature 4 2352)
    → first ≡ lower_key_fits public signature
lower_key_is public signature top inner first long et ei e =
    let rest : slice_range public 4 60 ≡ drop 4 public = take_all 56 (drop 4 public) (omega (arith, length-drop 4 public)) in
    e ∙ rw (et ∙ rest, ei) refl

-- the lower tree's key, and what it signs
pub message_is : (message signature inner : List ℕ) (second : Bool) → inner ≡ inner_key signature
    → second ≡ fits inner message (take (length signature - 2408) (drop 2408 signature))
    → second ≡ message_fits message signature
unfolding message_fits
message_is message signature inner second ei e =
    let all : take (length signature - 2408) (drop 2408 signature) ≡ drop 2408 signature =
    take_all (length signature - 2408) (drop 2408 signature) (omega (arith, length-drop 2408 signature)) in
    e ∙ rw (ei, all) refl
