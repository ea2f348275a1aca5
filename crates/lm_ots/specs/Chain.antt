-- The hashes of LM-OTS and its chains (RFC 8554, section 4), with SHA-256, n = 32 and w = 4.
use Rattle.std.specs.Prelude.{◌≡◌, ℕ, zero, suc, ◌+◌, ◌-◌, List, ◌∷◌, ◌++◌, take, drop}
use Rattle.std.specs.Int.{w16, w32, to_be_bytes}
use Rattle.sha2.specs.Sha256.{sha256}

-- the prefix of each hash: I || u32str(q) || u16str(kind), with I the key's identifier and q the leaf
unfoldable pub head : List ℕ → ℕ → ℕ → List ℕ
head id leaf kind = id ++ to_be_bytes w32 leaf ++ to_be_bytes w16 kind

-- H(I || u32str(q) || u16str(kind) || rest)
abbrev pub hashed : List ℕ → ℕ → ℕ → List ℕ → List ℕ
hashed id leaf kind rest = sha256 (head id leaf kind ++ rest)

-- one step of chain i at position j: H(I || u32str(q) || u16str(i) || u8str(j) || tmp) (4.3)
abbrev pub step : List ℕ → ℕ → ℕ → ℕ → List ℕ → List ℕ
step id leaf i j tmp = hashed id leaf i (j ∷ tmp)

-- x after n steps of chain i, starting at position `from`
unfoldable pub steps : List ℕ → ℕ → ℕ → ℕ → ℕ → List ℕ → List ℕ
steps id leaf i from zero x = x
steps id leaf i from (suc n) x = step id leaf i (from + n) (steps id leaf i from n x)

-- x taken along chain i from one position to another (4.3, 4.5, 4.6)
abbrev pub chain_of : List ℕ → ℕ → ℕ → ℕ → ℕ → List ℕ → List ℕ
chain_of id leaf i from to x = steps id leaf i from (to - from) x

-- the private part x[i] derived from a seed: H(I || u32str(q) || u16str(i) || u8str(0xff) || SEED) (appendix A)
abbrev pub private_part : List ℕ → ℕ → ℕ → List ℕ → List ℕ
private_part id leaf i seed = hashed id leaf i (0xff ∷ seed)

-- the bytes that a step hashes: their prefix, a byte for the position, and the value
pub record IsBlock (start value bytes : List ℕ) : Type 0 where
  pub head : take 22 bytes ≡ start
  pub value_after : drop 23 bytes ≡ value
