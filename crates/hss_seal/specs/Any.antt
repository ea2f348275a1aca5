-- Sealers and checkers with one tree or with two levels, and what is made of them by the height.
use Rattle.std.specs.Prelude.{ℕ, ◌^◌, ◌++◌, Bool, List, map, drop}
use Rattle.std.specs.Int.{w32, to_be_bytes}
use Rattle.std.specs.List.{range_with_len}
use Rattle.seal_kit.specs.declared.height.Height.{Height}
use Rattle.seal_kit.specs.declared.height.Height.TheVariants.{H5, H10, H5H5, H5H10}
use Rattle.lms_seal.specs.Key.{Key, key_of, key_public, key_seal, one_tree}
use Rattle.lms_seal.specs.Draws.{drawn_key}
use Rattle.lms_seal.specs.Check.{publics_fit}
use Rattle.hss_seal.specs.Draws.{drawn_seeds, seeds_of, top_of}
use Rattle.hss_seal.specs.Hss.{hss_public, hss_capacity, hss_seal_of, two_levels}
use Rattle.hss_seal.specs.Check.{hss_publics_fit}
use Rattle.hss_seal.specs.declared.any.AnySealer.{AnySealer}
use Rattle.hss_seal.specs.declared.any.AnySealer.TheVariants.{One, Two}
use Rattle.hss_seal.specs.declared.any.AnyChecker.{AnyChecker}
use Rattle.hss_seal.specs.declared.any.AnyChecker.TheVariants as check

abbrev pub any_made : AnySealer → ℕ
any_made (One s) = s.made
any_made (Two s) = s.made

abbrev pub any_capacity : AnySealer → ℕ
any_capacity (One s) = 2 ^ s.key.levels
any_capacity (Two s) = hss_capacity s.lower

abbrev pub any_replica : AnySealer → ℕ
any_replica (One s) = s.replica
any_replica (Two s) = s.replica

abbrev pub any_gives : AnySealer → ℕ → List ℕ → List ℕ
any_gives (One s) = key_seal s.key
any_gives (Two s) = hss_seal_of s.seeds s.lower

abbrev pub any_meaning : AnyChecker → ℕ → List ℕ → List ℕ → Bool
any_meaning (check.One c) = publics_fit c
any_meaning (check.Two c) = hss_publics_fit c

-- u32str(1) || the public key of the tree, as RFC 8554 has it for one level (6.1)
abbrev pub one_public : Key → List ℕ
one_public key = to_be_bytes w32 1 ++ key_public key

-- the public key, of 60 bytes: it starts with the number of levels
abbrev pub any_public : AnySealer → List ℕ
any_public (One s) = one_public s.key
any_public (Two s) = hss_public (top_of s.seeds)

-- the new sealer of a replica whose key grows from an identifier of 16 bytes and a seed of 32
abbrev pub any_sealer : List ℕ → List ℕ → Height → ℕ → AnySealer
any_sealer id seed H5 r = One (one_tree (key_of id seed H5) r)
any_sealer id seed H10 r = One (one_tree (key_of id seed H10) r)
any_sealer id seed H5H5 r = Two (two_levels (seeds_of id seed) H5H5 r)
any_sealer id seed H5H10 r = Two (two_levels (seeds_of id seed) H5H10 r)

-- the new sealer of a replica whose key is drawn from the seed of a run
abbrev pub drawn_sealer : ℕ → Height → ℕ → AnySealer
drawn_sealer s H5 r = One (one_tree (drawn_key s r H5) r)
drawn_sealer s H10 r = One (one_tree (drawn_key s r H10) r)
drawn_sealer s H5H5 r = Two (two_levels (drawn_seeds s r) H5H5 r)
drawn_sealer s H5H10 r = Two (two_levels (drawn_seeds s r) H5H10 r)

-- which seals fit by public keys of 60 bytes, key number i for replica i
abbrev pub any_publics_fit : Height → List (List ℕ) → ℕ → List ℕ → List ℕ → Bool
any_publics_fit H5 publics = publics_fit (map (drop 4) publics)
any_publics_fit H10 publics = publics_fit (map (drop 4) publics)
any_publics_fit H5H5 publics = hss_publics_fit publics
any_publics_fit H5H10 publics = hss_publics_fit publics

-- the seals of replica r at a height, with one tree or with two levels
abbrev pub made_gives : ℕ → Height → ℕ → ℕ → List ℕ → List ℕ
made_gives s H5 r = key_seal (drawn_key s r H5)
made_gives s H10 r = key_seal (drawn_key s r H10)
made_gives s H5H5 r = hss_seal_of (drawn_seeds s r) H5H5
made_gives s H5H10 r = hss_seal_of (drawn_seeds s r) H5H10

-- the public keys of replicas 0 to n - 1
abbrev pub lms_publics : ℕ → Height → ℕ → List (List ℕ)
lms_publics s height n = map (λ r. key_public (drawn_key s r height)) (range_with_len 0 n)

abbrev pub hss_publics : ℕ → ℕ → List (List ℕ)
hss_publics s n = map (λ r. hss_public (top_of (drawn_seeds s r))) (range_with_len 0 n)

abbrev pub made_fits : ℕ → Height → ℕ → ℕ → List ℕ → List ℕ → Bool
made_fits s H5 n = publics_fit (lms_publics s H5 n)
made_fits s H10 n = publics_fit (lms_publics s H10 n)
made_fits s H5H5 n = hss_publics_fit (hss_publics s n)
made_fits s H5H10 n = hss_publics_fit (hss_publics s n)
