use Rattle.std.specs.Prelude.{List, ◌++◌, map}
use Rattle.std.proofs.Common.{sym, ap, ◌∙◌}
use Rattle.std.proofs.lemmas.List.{map-append}
use Rattle.seq_base.specs.declared.tx.Tx.{Tx}
use Rattle.chain_state.specs.Proposals.{final_of}
use Rattle.chain_laws.specs.Blocks.{lists_in}
use Rattle.chain_laws.proofs.finals.longer_chains_have_longer_lists.Goals as goal

pub returns : goal.returns
returns c = λ s chain more.
    let found = c.final_lists_go_on.ensures s (map lists_in chain) (map lists_in more) in (
      found.0,
      c.a_state_stands_for_its_chain.ensures.finals s (map lists_in (chain ++ more))
          ∙ ap (final_of s) (map-append lists_in chain more) ∙ found.1
          ∙ ap (λ (list : List (List Tx)). list ++ found.0) (sym (c.a_state_stands_for_its_chain.ensures.finals s (map lists_in chain))),
    )
