-- Heads of signatures: the 2,408 bytes before the lower tree's signature. They state the levels, and the lower tree's key
-- with the top tree's signature of it.
use Rattle.std.specs.Prelude.{◌≡◌, ℕ, Bool, ◌&&◌, List, length, true}
use Rattle.hss_seal.specs.Hss.{levels_fit, lower_key_fits}

-- a head fits under a public key: of a whole signature, the one that it starts with
unfoldable pub head_fits : List ℕ → List ℕ → Bool
head_fits public signature = levels_fit public signature && lower_key_fits public signature

-- a head, and the public key under which it was checked
pub record Head : Type 0 where
  pub public : List ℕ
  pub bytes : List ℕ

-- the head is whole, and fits under the key
pub record IsGood (head : Head) : Type 0 where
  pub whole : length head.bytes ≡ 2408
  pub fits : head_fits head.public head.bytes ≡ true
