-- The text of a generated plan.
use Rattle.std.specs.Prelude.{ℕ, zero, suc, ◌++◌, ◌∷◌, [], List, codes}
use Rattle.std.specs.List.{flat_map}
use Rattle.std.specs.Fmt.{decimal}
use Rattle.seq_base.specs.declared.tx.Tx.{Tx}
use Rattle.seq_base.specs.Tx.{tx_text}
use Rattle.plan_maker.specs.Order.{made_order}

-- the keys before the arrivals; 10 is a line feed
abbrev pub head_text : ℕ → List ℕ
head_text seed = codes "n = 5\nf = 1\np = 1\nq = 1\nseed = " ++ decimal seed
    ++ codes "\nheight = 10\nviews = 200\nticks = 4\nturns = 10000\nprint = \"summary\"\n"

-- 34 is a quotation mark
abbrev pub quoted : Tx → List ℕ
quoted t = 34 ∷ tx_text t ++ 34 ∷ []

-- the first, then each other after a comma and a space
abbrev pub txs_text : List Tx → List ℕ
txs_text [] = []
txs_text (t ∷ ts) = quoted t ++ flat_map (λ u. codes ", " ++ quoted u) ts

abbrev pub arrival_text : ℕ → List Tx → List ℕ
arrival_text replica txs = codes "[[arrival]]\nreplica = " ++ decimal replica ++ codes "\nturn = 0\ntxs = [" ++ txs_text txs ++ codes "]\n"

-- what the first k replicas receive
abbrev pub arrivals_text : ℕ → ℕ → ℕ → List ℕ
arrivals_text seed count zero = []
arrivals_text seed count (suc k) = arrivals_text seed count k ++ arrival_text k (made_order seed k count)

-- the plan of five replicas
unfoldable pub made_plan : ℕ → ℕ → List ℕ
made_plan seed count = head_text seed ++ arrivals_text seed count 5
