-- Two replicas that were given different blocks with the same digest.
use Rattle.std.proofs.Common.{◌≡◌, ◌≢◌, ℕ, ◌<◌, ◌≤◌, List, [], ◌∷◌, Ok, refl, ap, inl, inr, arith}
use Rattle.seq_base.specs.Setting.{Parameters}
use Rattle.seq_base.specs.Spelling.{message_spelling}
use Rattle.seq_base.specs.Writable.{IsWritable, IsWritableBlock}
use Rattle.seq_base.specs.declared.block.Block.{Block}
use Rattle.seq_base.specs.declared.message.Message.{Message}
use Rattle.seq_base.specs.declared.message.Message.TheVariants.{Give}
use Rattle.seq_base.specs.declared.tx.Tx.{Tx}
use Rattle.wire_view.specs.Messages.{read_of, view_of}
use Rattle.block_store.specs.Store.{block_digest}
use Rattle.run_verdict.specs.Collided.{received}
use Rattle.run_verdict.specs.Shown.{IsCollided, IsHonest, IsReceived}
use Rattle.headline_laws.specs.Examples.{given, parted}
use Rattle.headline_laws.specs.Headline.{Agree}

abbrev pub AreRead : Type 0
AreRead = (m : Message) → IsWritable m → read_of (message_spelling m) ≡ Ok (view_of m)

-- the client of the first transaction of a list
abbrev first_client : List (List Tx) → ℕ
first_client [] = 0
first_client ([] ∷ batches) = 0
first_client ((t ∷ batch) ∷ batches) = t.client

honest : (s : Parameters) (a b : Block) (r : ℕ) → r < s.n → IsHonest (parted s a b) r
honest s a b r below = record { below = below; correct = refl }

one : AreRead → (s : Parameters) (a b : Block) → 2 ≤ s.n → IsWritableBlock a → IsReceived (parted s a b) (received 0 0 a)
one read s a b two writable = record {
  entry = given a;
  message = view_of (Give a);
  has = record { journal = record { entries = given a ∷ [] }; honest = honest s a b 0 (omega (arith, two)); journal_is = refl; entry_is = refl };
  delivers = record { from = 0; bytes = message_spelling (Give a); event = refl; read = read (Give a) writable };
  brings = refl;
}

other : AreRead → (s : Parameters) (a b : Block) → 2 ≤ s.n → IsWritableBlock b → IsReceived (parted s a b) (received 1 0 b)
other read s a b two writable = record {
  entry = given b;
  message = view_of (Give b);
  has = record { journal = record { entries = given b ∷ [] }; honest = honest s a b 1 (omega (arith, two)); journal_is = refl; entry_is = refl };
  delivers = record { from = 0; bytes = message_spelling (Give b); event = refl; read = read (Give b) writable };
  brings = refl;
}

pub parts : AreRead → (s : Parameters) (a b : Block) → 2 ≤ s.n → IsWritableBlock a → IsWritableBlock b → a ≢ b → block_digest a ≡ block_digest b
    → IsCollided (parted s a b) × (¬ Agree (parted s a b))
parts read s a b two first second differ same = (
  inl (
    received 0 0 a,
    received 1 0 b,
    record {
      one = one read s a b two first;
      other = other read s a b two second;
      different = differ;
      same_digest = same;
    },
  ),
  λ agree. elim (agree 0 1 (honest s a b 0 (omega (arith, two))) (honest s a b 1 (omega (arith, two)))) [
    | inl begins ↦ absurd (let wrong : 2 ≡ 1 = ap first_client begins.1 in omega (arith, wrong))
    | inr begins ↦ absurd (let wrong : 1 ≡ 2 = ap first_client begins.1 in omega (arith, wrong))
  ],
)
