-- Fronts of bytes and of pieces.
use Rattle.std.proofs.Common.{◌≡◌, ℕ, ◌≤◌, List, ◌++◌, length, take, drop, refl, sym, ap, ◌∙◌, append_assoc}
use Rattle.std.proofs.Math.Seq.{take-length}
use Rattle.std.proofs.lemmas.List.{append-nil, take-append-drop, drop_at}
use Rattle.durable_node.specs.Keeping.{Copies, Grew, Stays}

pub grew_nothing : (piece old : List ℕ) → Grew piece old old
grew_nothing piece old = record { size = 0; grown = sym (append-nil old) }

pub grew_all : (piece old : List ℕ) → Grew piece old (old ++ piece)
grew_all piece old = record { size = length piece; grown = ap (λ (p : List ℕ). old ++ p) (sym (take-length piece)) }

pub stays_same : (least : ℕ) (old : List ℕ) → least ≤ length old → Stays least old old
stays_same least old le = record { size = length old; holds = le; prefix = sym (take-length old) }

-- a log is a front of all bytes
abbrev pub IsRead : List ℕ → List ℕ → Type 0
IsRead all log = all ≡ log ++ drop (length log) all

read_as : (all log more : List ℕ) → all ≡ log ++ more → IsRead all log
read_as all log more e = e ∙ ap (λ (m : List ℕ). log ++ m) (sym (drop_at log more (length log) refl)) ∙ ap (λ (a : List ℕ). log ++ drop (length log) a) (sym e)

-- with what one more read copied
pub read_on : (all log before after : List ℕ) (k : ℕ) → IsRead all log → Copies k (drop (length log) all) before after → IsRead all (log ++ take k after)
read_on all log before after k e copies =
    let rest = drop (length log) all in
    read_as all (log ++ take k after) (drop k rest)
    (e ∙ ap (λ (m : List ℕ). log ++ m) (sym (take-append-drop k rest)) ∙ sym (append_assoc log (take k rest) (drop k rest))
    ∙ ap (λ (p : List ℕ). (log ++ p) ++ drop k rest) (sym copies.given.1))
