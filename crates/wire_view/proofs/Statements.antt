-- The statements of messages that name more than one part.
use Rattle.std.proofs.Common.{◌≡◌, ℕ, List, [], ◌∷◌, ◌++◌, ◌≤◌, length, Result, Ok, refl, sym, ap, subst, ◌∙◌, append_assoc}
use Rattle.std.specs.Int.{w8, w32, to_be_bytes}
use Rattle.seq_base.specs.declared.kinds.TheConstants.{PROPOSE, VOTE}
use Rattle.seq_base.specs.declared.digest.Digest.{Digest}
use Rattle.seq_base.specs.declared.block.Cert.{Cert}
use Rattle.seq_base.specs.declared.block.Block.{Block}
use Rattle.seq_base.specs.Spelling.{call_spelling, propose_spelling, vote_spelling}
use Rattle.wire_view.specs.declared.fault.WireFault.{WireFault}
use Rattle.wire_view.specs.Reading.{byte_at, number_at, digest_at, cert_at, block_at, prefix_of}
use Rattle.wire_view.proofs.Exact.{IsBytes, IsBytes-after, IsExact, prefix_by}
use Rattle.wire_view.proofs.FieldLaws.{byte_exact, digest_exact}
use Rattle.wire_view.proofs.Parts.{view_exact, cert_exact, block_exact}

-- one part after another
pub after_part : {A : Type 0} {text : A → List ℕ} {Fits : A → Type 0} {reads : List ℕ → Result (A × List ℕ) WireFault}
    (exact : IsExact text Fits reads) (prefix bytes whole : List ℕ) (x : A) (rest : List ℕ)
    → IsBytes whole → whole ≡ prefix ++ bytes → reads bytes ≡ Ok (x, rest) → whole ≡ (prefix ++ text x) ++ rest
after_part {A} {text} exact prefix bytes whole x rest fits e read =
    let following : IsBytes bytes = IsBytes-after prefix bytes (subst IsBytes e fits) in
    e ∙ ap (λ (y : List ℕ). prefix ++ y) (exact.takes bytes x rest following read).0 ∙ sym (append_assoc prefix (text x) rest)

pub call_prefix : (kind : ℕ) (whole r0 r1 r2 r3 : List ℕ) (replica view : ℕ) (cert : Cert) → IsBytes whole → whole ≡ kind ∷ r0
    → byte_at r0 ≡ Ok (replica, r1) → number_at w32 r1 ≡ Ok (view, r2) → cert_at r2 ≡ Ok (cert, r3)
    → (length r3 ≤ length whole) × (prefix_of whole r3 ≡ call_spelling kind replica view cert)
call_prefix kind whole r0 r1 r2 r3 replica view cert fits e0 e1 e2 e3 =
    let a = after_part byte_exact (kind ∷ []) r0 whole replica r1 fits e0 e1 in
    let b = after_part view_exact ((kind ∷ []) ++ to_be_bytes w8 replica) r1 whole view r2 fits a e2 in
    prefix_by whole (call_spelling kind replica view cert) r3
    (after_part cert_exact (((kind ∷ []) ++ to_be_bytes w8 replica) ++ to_be_bytes w32 view) r2 whole cert r3 fits b e3)

pub proposed_prefix : (whole r0 r1 r2 : List ℕ) (replica : ℕ) (block : Block) → IsBytes whole → whole ≡ PROPOSE ∷ r0
    → byte_at r0 ≡ Ok (replica, r1) → block_at r1 ≡ Ok (block, r2)
    → (length r2 ≤ length whole) × (prefix_of whole r2 ≡ propose_spelling replica block)
proposed_prefix whole r0 r1 r2 replica block fits e0 e1 e2 =
    let a = after_part byte_exact (PROPOSE ∷ []) r0 whole replica r1 fits e0 e1 in
    prefix_by whole (propose_spelling replica block) r2 (after_part block_exact ((PROPOSE ∷ []) ++ to_be_bytes w8 replica) r1 whole block r2 fits a e2)

pub vote_prefix : (whole r0 r1 r2 r3 : List ℕ) (replica view : ℕ) (block : Digest) → IsBytes whole → whole ≡ VOTE ∷ r0
    → byte_at r0 ≡ Ok (replica, r1) → number_at w32 r1 ≡ Ok (view, r2) → digest_at r2 ≡ Ok (block, r3)
    → (length r3 ≤ length whole) × (prefix_of whole r3 ≡ vote_spelling replica view block)
vote_prefix whole r0 r1 r2 r3 replica view block fits e0 e1 e2 e3 =
    let a = after_part byte_exact (VOTE ∷ []) r0 whole replica r1 fits e0 e1 in
    let b = after_part view_exact ((VOTE ∷ []) ++ to_be_bytes w8 replica) r1 whole view r2 fits a e2 in
    prefix_by whole (vote_spelling replica view block) r3
    (after_part digest_exact (((VOTE ∷ []) ++ to_be_bytes w8 replica) ++ to_be_bytes w32 view) r2 whole block r3 fits b e3)
