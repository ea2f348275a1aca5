-- The votes that an entry sealed, checked against the last vote before, the lock and the stored blocks.
use Rattle.std.specs.Prelude.{ℕ, List, [], ◌∷◌, Bool, true, false, ◌&&◌, ◌==◌, nat_lt}
use Rattle.std.specs.List.{filter_map}
use Rattle.seq_base.specs.Blocks.{digest_eq}
use Rattle.hotstuff_core.specs.Rules.{is_safe}
use Rattle.agreement_laws.specs.Journals.{Ballot}
use Rattle.journal_rules.specs.Shown.{ballot_in}
use Rattle.audit_core.specs.declared.carried.Carried.{Carried}
use Rattle.audit_core.specs.declared.carried.Carried.TheVariants.{Nothing, Cert, Block, Vote}
use Rattle.audit_core.specs.Audited.{Audited}

-- the votes among these statements
abbrev pub votes_in : List (List ℕ) → List Ballot
votes_in statements = filter_map ballot_in statements

-- The view of each vote is above the lock's and above that of the vote before it.
abbrev pub rises_from : ℕ → ℕ → List Ballot → Bool
rises_from lock voted [] = true
rises_from lock voted (v ∷ votes) = nat_lt voted v.view && (nat_lt lock v.view && rises_from lock v.view votes)

-- the view of the last vote
abbrev pub last_view : ℕ → List Ballot → ℕ
last_view voted [] = voted
last_view voted (v ∷ votes) = last_view v.view votes

-- A vote is for the block that is proposed, in its view, and the voting rule allows it.
abbrev pub vote_on : Audited → Carried → Ballot → Bool
vote_on j Nothing v = false
vote_on j (Cert view block) v = false
vote_on j (Block digest block proposed) v = proposed && (digest_eq v.block digest && ((v.view == block.view) && is_safe j.store j.safety block))
vote_on j (Vote replica view block) v = false
