use Rattle.chain_store.proofs.ChainStates.{alone_in, put_keeps, put_stored, put_chain}
use Rattle.chain_store.proofs.blocks.StoredBlocks.put.Goals as goal

pub invariant_of-self-2 : goal.invariant_of-self-2
invariant_of-self-2 c =
    let inside = c.self.inside in
    let kept = put_keeps inside.setting inside.store c.insert.new.self c.args.self.now c.args.digest.now c.args.block c.self.view_is
    c.self.invariant.0 c.requires.own c.requires.alone c.requires.parent
    c.in_ok-insert.ensures.ok inside.kept.items c.self.invariant.1 in
    (kept.0, kept.1, c.self.invariant.2)

pub returns-clause-stored : goal.returns-clause-stored
returns-clause-stored c =
    let inside = c.self.inside in
    put_stored inside.setting inside.store c.insert.new.self c.args.self.now c.args.digest.now c.args.block c.self.view_is
    c.self.invariant.0 c.requires.own c.requires.alone c.requires.parent
    c.in_ok-insert.ensures.ok (c.stored_blocks_are_found.ensures inside.store c.args.block
    (alone_in inside.setting inside.store c.args.self.now c.args.digest.now c.args.block c.self.view_is c.requires.own c.requires.alone))

pub returns-clause-chain : goal.returns-clause-chain
returns-clause-chain c =
    let inside = c.self.inside in
    put_chain inside.setting inside.store c.insert.new.self c.args.self.now c.args.digest.now c.args.block c.self.view_is c.self.invariant.0
    c.requires.own c.requires.alone c.requires.parent
    c.in_ok-insert.ensures.ok (c.stored_blocks_are_found.ensures inside.store c.args.block
    (alone_in inside.setting inside.store c.args.self.now c.args.digest.now c.args.block c.self.view_is c.requires.own c.requires.alone))
