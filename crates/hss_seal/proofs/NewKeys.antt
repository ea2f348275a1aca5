-- New keys of all replicas, and the kit that is made of them.
use Rattle.std.proofs.Common.{◌≡◌, ◌∙◌, ℕ, zero, suc, ◌+◌, ◌<◌, ◌≤◌, List, [], ◌∷◌, ◌++◌, map, length, All, Result, Ok, Err, IfOk, refl, sym, ap, subst, arith}
use Rattle.std.specs.Prelude.{drop, get_or, slice_index_or, take}
use Rattle.std.specs.Int.{w32, to_be_bytes}
use Rattle.std.specs.List.{range_with_len}
use Rattle.std.proofs.lemmas.List.{drop_at, length-map, map_more}
use Rattle.std.proofs.lemmas.List.Elements.{All-nil, All-push}
use Rattle.std.proofs.lemmas.List.FromFn.{map-range_with_len_more}
use Rattle.std.proofs.lemmas.Simd.{map-map}
use Rattle.seal_kit.specs.Seals.{Started, capacity_of}
use Rattle.seal_kit.specs.declared.height.Height.{Height}
use Rattle.seal_kit.specs.declared.height.Height.TheVariants.{H5, H10, H5H5, H5H10}
use Rattle.seal_kit.proofs.Started.{none_started, one_started}
use Rattle.lms_seal.specs.Check.{publics_fit}
use Rattle.lms_seal.specs.Draws.{drawn_key}
use Rattle.lms_seal.specs.Key.{key_public}
use Rattle.hss_seal.specs.Any.{any_made, any_capacity, any_replica, any_gives, any_meaning, any_public, any_publics_fit, drawn_sealer, lms_publics, made_fits, made_gives}
use Rattle.hss_seal.specs.Check.{hss_publics_fit}
use Rattle.hss_seal.specs.Kits.{IsKit, drawn_sealers}
use Rattle.hss_seal.specs.declared.any.AnyChecker.{AnyChecker}
use Rattle.hss_seal.specs.declared.any.AnySealer.{AnySealer}

-- ---- keys that were grown

-- where each is that of its replica, they are those of all replicas
each_is : {T E : Type 0} (f : ℕ → T) (at : ℕ) (keys : List T)
    → ((i : ℕ) (d : Result T E) → i < length keys → IfOk (slice_index_or (map Ok keys) i d) (λ k. k ≡ f (at + i)))
    → keys ≡ map f (range_with_len at (length keys))
each_is f at [] each = refl
each_is f at (k ∷ keys) each =
    let here : k ≡ f at = each 0 (Ok k) (omega arith) ∙ ap f (omega arith) in
    let following : keys ≡ map f (range_with_len (at + 1) (length keys)) =
    each_is f (at + 1) keys
    (λ i d below. subst (λ (j : ℕ). IfOk (slice_index_or (map Ok keys) i d) (λ x. x ≡ f j)) (omega arith) (each (suc i) d (omega (arith, below)))) in
    ap (λ x. x ∷ keys) here ∙ ap (λ l. f at ∷ l) following

pub all_are : {T E : Type 0} (f : ℕ → T) (n : ℕ) (keys : List T) (grown : List (Result T E)) → map Ok keys ≡ grown → length grown ≡ n
    → ((i : ℕ) (d : Result T E) → i < n → IfOk (slice_index_or grown i d) (λ k. k ≡ f i)) → keys ≡ map f (range_with_len 0 n)
all_are f n keys grown same count each =
    let long : length keys ≡ n = sym (length-map keys Ok) ∙ ap length same ∙ count in
    each_is f 0 keys (λ i d below. subst (λ (j : ℕ). IfOk (slice_index_or (map Ok keys) i d) (λ k. k ≡ f j)) (omega arith)
    (subst (λ l. IfOk (slice_index_or l i d) (λ k. k ≡ f i)) (sym same) (each i d (omega (arith, below, long)))))
    ∙ ap (λ (k : ℕ). map f (range_with_len 0 k)) long

-- ---- their public keys

pub one_public_more : {T : Type 0} (f : T → List ℕ) (keys : List T) (at : ℕ) (key : T) (public : List ℕ) (old new : List (List ℕ))
    → new ≡ old ++ public ∷ [] → old ≡ map f (take at keys)
    → public ≡ f key → key ≡ get_or keys at key → at < length keys → new ≡ map f (take (at + 1) keys)
one_public_more f keys at key public old new pushed so_far own is below =
    pushed ∙ ap (λ l. l ++ public ∷ []) so_far ∙ ap (λ p. map f (take at keys) ++ p ∷ []) (own ∙ ap f is) ∙ sym (map_more f keys at key below)

-- ---- the kit

pub both_ok : {A E : Type 0} {P Q R : A → Type 0} (r : Result A E) → ((a : A) → P a → Q a → R a) → IfOk r P → IfOk r Q → IfOk r R
both_ok (Ok a) f p q = f a p q
both_ok (Err e) f p q = tt

replica_is : (seed : ℕ) (height : Height) (r : ℕ) → any_replica (drawn_sealer seed height r) ≡ r
replica_is seed H5 r = refl
replica_is seed H10 r = refl
replica_is seed H5H5 r = refl
replica_is seed H5H10 r = refl

is_fresh : (seed : ℕ) (height : Height) (r : ℕ) → any_made (drawn_sealer seed height r) ≡ 0
is_fresh seed H5 r = refl
is_fresh seed H10 r = refl
is_fresh seed H5H5 r = refl
is_fresh seed H5H10 r = refl

has_room : (seed : ℕ) (height : Height) (r : ℕ) → any_capacity (drawn_sealer seed height r) ≡ capacity_of height
has_room seed H5 r = refl
has_room seed H10 r = refl
has_room seed H5H5 r = refl
has_room seed H5H10 r = refl

gives_own : (seed : ℕ) (height : Height) (r : ℕ) → any_gives (drawn_sealer seed height r) ≡ made_gives seed height r
gives_own seed H5 r = refl
gives_own seed H10 r = refl
gives_own seed H5H5 r = refl
gives_own seed H5H10 r = refl

-- the public key of one tree follows the number of levels
one_level_publics : (seed : ℕ) (height : Height) (rs : List ℕ)
    → map (λ r. drop 4 (to_be_bytes w32 1 ++ key_public (drawn_key seed r height))) rs ≡ map (λ r. key_public (drawn_key seed r height)) rs
one_level_publics seed height [] = refl
one_level_publics seed height (r ∷ rs) =
    ap (λ k. k ∷ map (λ r. drop 4 (to_be_bytes w32 1 ++ key_public (drawn_key seed r height))) rs)
    (drop_at (to_be_bytes w32 1) (key_public (drawn_key seed r height)) 4 refl)
    ∙ ap (λ ks. key_public (drawn_key seed r height) ∷ ks) (one_level_publics seed height rs)

one_level_fits : (seed : ℕ) (height : Height) (n : ℕ)
    → publics_fit (map (drop 4) (map (λ r. to_be_bytes w32 1 ++ key_public (drawn_key seed r height)) (range_with_len 0 n)))
    ≡ publics_fit (lms_publics seed height n)
one_level_fits seed height n =
    ap publics_fit (map-map (drop 4) (λ r. to_be_bytes w32 1 ++ key_public (drawn_key seed r height)) (range_with_len 0 n)
    ∙ one_level_publics seed height (range_with_len 0 n))

-- what fits under the public keys of new sealers
new_fit : (seed : ℕ) (height : Height) (n : ℕ) → any_publics_fit height (map any_public (drawn_sealers seed height n)) ≡ made_fits seed height n
new_fit seed H5 n = ap (any_publics_fit H5) (map-map any_public (drawn_sealer seed H5) (range_with_len 0 n)) ∙ one_level_fits seed H5 n
new_fit seed H10 n = ap (any_publics_fit H10) (map-map any_public (drawn_sealer seed H10) (range_with_len 0 n)) ∙ one_level_fits seed H10 n
new_fit seed H5H5 n = ap hss_publics_fit (map-map any_public (drawn_sealer seed H5H5) (range_with_len 0 n))
new_fit seed H5H10 n = ap hss_publics_fit (map-map any_public (drawn_sealer seed H5H10) (range_with_len 0 n))

-- one sealer more
pub one_sealer_more : (seed : ℕ) (height : Height) (at : ℕ) (old new : List AnySealer) (sealer : AnySealer) → new ≡ old ++ sealer ∷ []
    → old ≡ drawn_sealers seed height at → sealer ≡ drawn_sealer seed height at
    → new ≡ drawn_sealers seed height (at + 1)
one_sealer_more seed height at old new sealer pushed so_far is =
    let last : drawn_sealers seed height (at + 1) ≡ drawn_sealers seed height at ++ drawn_sealer seed height at ∷ [] =
    map-range_with_len_more (drawn_sealer seed height) 0 at at (omega arith) in
    pushed ∙ ap (λ (l : List AnySealer). l ++ sealer ∷ []) so_far ∙ ap (λ (x : AnySealer). drawn_sealers seed height at ++ x ∷ []) is ∙ sym last

module _ (seed : ℕ) (height : Height) (n : ℕ) where
  abbrev GivesOwn : AnySealer → Type 0
  GivesOwn s = any_gives s ≡ made_gives seed height (any_replica s)

  abbrev AreFirst : ℕ → List AnySealer → Type 0
  AreFirst k sealers = Started any_replica any_made any_capacity (capacity_of height) n k sealers × All GivesOwn sealers

  first_are : (k : ℕ) → k ≤ n → AreFirst k (drawn_sealers seed height k)
  first_are zero within = (none_started any_replica any_made any_capacity (capacity_of height) n, All-nil _)
  first_are (suc k) within =
      let before = first_are k (omega (arith, within)) in
      let xs : List AnySealer = drawn_sealers seed height k in
      let s : AnySealer = drawn_sealer seed height k in
      let own : GivesOwn s = gives_own seed height k ∙ ap (made_gives seed height) (sym (replica_is seed height k)) in
      let with_one : AreFirst (k + 1) (xs ++ s ∷ []) = (
        one_started any_replica any_made any_capacity (capacity_of height) n k xs s before.0 (replica_is seed height k)
            (omega (arith, within)) (is_fresh seed height k) (has_room seed height k),
        All-push GivesOwn xs s before.1 own,
      ) in
      subst (λ (j : ℕ). AreFirst j (drawn_sealers seed height j)) (omega arith)
      (subst (AreFirst (k + 1)) (one_sealer_more seed height k xs (xs ++ s ∷ []) s refl refl refl) with_one)

  pub kit_is : (sealers made : List AnySealer) (checker : AnyChecker) → sealers ≡ drawn_sealers seed height n → made ≡ sealers
      → any_meaning checker ≡ any_publics_fit height (map any_public sealers)
      → IsKit seed height n made checker
  kit_is sealers made checker are same means =
      let all : AreFirst n made = subst (AreFirst n) (sym (same ∙ are)) (first_are n (omega arith)) in record {
        started = all.0;
        own = all.1;
        fit = means ∙ ap (λ (l : List AnySealer). any_publics_fit height (map any_public l)) are ∙ new_fit seed height n;
      }
