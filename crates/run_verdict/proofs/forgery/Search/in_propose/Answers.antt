use Rattle.std.proofs.Common.{◌≡◌, ◌+◌, [], ◌∷◌, length, Some, None, sym, ◌∙◌, arith}
use Rattle.std.proofs.lemmas.List.{length-append, length-map}
use Rattle.seq_base.specs.Spelling.{propose_spelling}
use Rattle.run_verdict.specs.Parts.{part, block_parts}
use Rattle.run_verdict.specs.Forged.{forged_from}
use Rattle.run_verdict.proofs.PartSearch.{forged_prefix, forged_after, forged_one}
use Rattle.run_verdict.proofs.forgery.Search.in_propose.Goals as goal

pub returns-in-Some : goal.returns-in-Some
returns-in-Some g c =
    let check = g.C.Checker.meaning c.args.self.now.checker.now in
    let run = c.args.self.now.run.now in
    let found : forged_from check run c.args.place.receiver c.args.place.entry 0 (block_parts c.args.propose.now.block)
    ≡ Some c.in-Some.forged = rw (← c.block-block.ensures) (sym c.in_block.ensures ∙ c.in-Some.is) in
    sym (forged_prefix check run c.args.place.receiver c.args.place.entry 0 (block_parts c.args.propose.now.block)
    (part c.args.propose.now.replica (propose_spelling c.args.propose.now.replica c.args.propose.now.block) c.args.propose.now.seal ∷ [])
    c.in-Some.forged found)

pub returns : goal.returns
returns g c =
    let check = g.C.Checker.meaning c.args.self.now.checker.now in
    let run = c.args.self.now.run.now in
    let propose = c.args.propose.now in
    let own = part propose.replica (propose_spelling propose.replica propose.block) propose.seal in
    let none : forged_from check run c.args.place.receiver c.args.place.entry 0 (block_parts propose.block) ≡ None =
    rw (← c.block-block.ensures) (sym c.in_block.ensures ∙ c.in_default.is) in
    let number : c.len.result + c.len-2.result ≡ 0 + length (block_parts propose.block) =
    rw (length-append, length-map, length-map, c.len.ensures, c.cert.ensures, c.len-2.ensures, c.block-block.ensures) (omega arith) in
    (rw (c.replica.ensures, c.statement.ensures, c.seal.ensures) at c.in_part.ensures)
    ∙ sym (forged_after check run c.args.place.receiver c.args.place.entry 0 (c.len.result + c.len-2.result) (block_parts propose.block) (own ∷ []) none number
    ∙ forged_one check run c.args.place.receiver c.args.place.entry (c.len.result + c.len-2.result) own)
