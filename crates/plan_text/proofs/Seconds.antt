-- How a set of keys shows a duplicate.
use Rattle.std.proofs.Common.{◌≡◌, ℕ, ◌==◌, ◌&&◌, Bool, true, false, not, List, refl}
use Rattle.std.specs.BTreeSet.{BTreeSet, contains}
use Rattle.plan_text.specs.declared.plan.Deed.{Deed}
use Rattle.plan_text.specs.declared.plan.DeedKind.{DeedKind}
use Rattle.plan_text.specs.declared.plan.LinkFault.{LinkFault}
use Rattle.plan_text.specs.declared.plan.Restart.{Restart}
use Rattle.plan_text.specs.Deeds.{has_deed, occasion_of, rank_of}
use Rattle.plan_text.specs.Links.{has_link, send_of}
use Rattle.plan_text.specs.Marks.{Marks, two_cmp, three_cmp}
use Rattle.plan_text.specs.Restarts.{has_restart, moment_of}
use Rattle.plan_text.proofs.Marked.{marks_test, two_ties, three_ties}

-- a key that is not new was there, and a new one was not
pub not_new : (added had : Bool) → added ≡ not had → added ≡ false → had ≡ true
not_new added true is none = refl
not_new added false is none = cc

pub is_new : (added had : Bool) → added ≡ not had → added ≡ true → had ≡ false
is_new added true is new = cc
is_new added false is new = refl

pub restart_met : (set : BTreeSet (ℕ × ℕ)) (earlier : List Restart) (replica turn : ℕ) → Marks two_cmp moment_of set earlier
    → contains two_cmp set (replica, turn) ≡ has_restart earlier replica turn
restart_met set earlier replica turn marks =
    marks_test two_cmp moment_of set earlier (replica, turn) (λ (restart : Restart). (replica == restart.replica) && (turn == restart.turn)) marks
    (λ restart. two_ties replica turn restart.replica restart.turn)

pub link_met : (set : BTreeSet (ℕ × ℕ × ℕ)) (earlier : List LinkFault) (from to number : ℕ) → Marks three_cmp send_of set earlier
    → contains three_cmp set (from, to, number) ≡ has_link earlier from to number
link_met set earlier from to number marks =
    marks_test three_cmp send_of set earlier (from, to, number)
    (λ (link : LinkFault). ((from == link.from) && (to == link.to)) && (number == link.number)) marks
    (λ link. three_ties from to number link.from link.to link.number)

pub deed_met : (set : BTreeSet (ℕ × ℕ × ℕ)) (earlier : List Deed) (replica view : ℕ) (kind : DeedKind) → Marks three_cmp occasion_of set earlier
    → contains three_cmp set (replica, view, rank_of kind) ≡ has_deed earlier replica view kind
deed_met set earlier replica view kind marks =
    marks_test three_cmp occasion_of set earlier (replica, view, rank_of kind)
    (λ (deed : Deed). ((replica == deed.replica) && (view == deed.view)) && (rank_of kind == rank_of deed.kind)) marks
    (λ deed. three_ties replica view (rank_of kind) deed.replica deed.view (rank_of deed.kind))
