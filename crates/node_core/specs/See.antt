-- The changes that a certificate and a block make.
use Rattle.std.specs.Prelude.{ℕ, [], max, nat_lt, if◌then◌else◌}
use Rattle.seq_base.specs.declared.digest.Digest.{Digest}
use Rattle.seq_base.specs.declared.block.Cert.{Cert}
use Rattle.seq_base.specs.declared.block.Block.{Block}
use Rattle.block_store.specs.Store.{with_block}
use Rattle.hotstuff_core.specs.Rules.{seen_in}
use Rattle.node_core.specs.State.{Known}

-- a certificate of a greater view becomes the highest
abbrev pub with_high : Cert → Known → Known
with_high cert s = record s { high = if nat_lt s.high.view cert.view then cert else s.high }

-- the view becomes at least this one, and the lock and the commit move
abbrev pub seen_block : ℕ → Digest → Known → Known
seen_block view block s = record s { view = max s.view view; safety = seen_in s.store view block s.safety }

-- See(cert), for a certificate whose block is stored
abbrev pub seen : Cert → Known → Known
seen cert s = seen_block cert.view cert.block (with_high cert s)

-- AskFor(view): the highest certificate is asked with
abbrev pub asked_for : ℕ → Known → Known
asked_for view s = record s { asked = view; view = view; ask_cert = s.high; orders = [] }

-- a block is taken: its certificate is seen, and it is stored
abbrev pub taken : Block → Known → Known
taken block s = let after : Known = seen block.cert s in record after { store = with_block block s.store }

-- an order for the view is drawn: the view and the last view ordered become it
abbrev pub ordering : ℕ → Known → Known
ordering v s = record s { view = v; ordered = v }
