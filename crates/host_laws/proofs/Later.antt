-- What later hosts of a run have of earlier ones.
use Rattle.std.proofs.Common.{◌≡◌, ◌⊎◌, List, [], ◌∷◌, ◌++◌, Some, refl, sym, ap, ◌∙◌, append_assoc, inl, inr}
use Rattle.std.proofs.lemmas.List.{append-nil}
use Rattle.node_core.specs.declared.entry.Entry.{Entry}
use Rattle.durable_node.specs.Incarnations.{IsPrefixOf}
use Rattle.host_laws.specs.Below.{LogLaws}
use Rattle.host_laws.specs.Roles.{Secret}
use Rattle.host_laws.specs.Hosts.{Host}
use Rattle.host_laws.specs.Steps.{Deed, Opening, Truncating, Appending, Syncing, Preparing, Acting, TakingOut, Receiving, Refused, Stopping, Does, Lead, acted, recovered}
use Rattle.host_laws.proofs.HostRuns.{good_step}
use Rattle.host_laws.proofs.HostStands.{IsGood}
use Rattle.host_laws.proofs.Opening.{one_role}

same_prefix : (a b : List Entry) → b ≡ a → IsPrefixOf a b
same_prefix a b is = record { more = []; is = is ∙ sym (append-nil a) }

-- no step takes a turn out of the journal
grows : (secret : Secret) (deed : Deed) (old new : Host) → Does secret deed old new → IsPrefixOf old.journal new.journal
grows secret (Opening role) old new d = record { more = recovered secret role old.journal d.opened.events; is = ap (λ (h : Host). h.journal) d.is }
grows secret Truncating old new d = same_prefix old.journal new.journal (ap (λ (h : Host). h.journal) d.is)
grows secret Appending old new d = same_prefix old.journal new.journal (ap (λ (h : Host). h.journal) d.is)
grows secret Syncing old new d = same_prefix old.journal new.journal (ap (λ (h : Host). h.journal) d.is)
grows secret (Preparing event) old new d = same_prefix old.journal new.journal (ap (λ (h : Host). h.journal) d.is)
grows secret (Acting first reason) old new d = record { more = acted d.0.seat first; is = ap (λ (h : Host). h.journal) d.0.is }
grows secret TakingOut old new d = same_prefix old.journal new.journal (ap (λ (h : Host). h.journal) d.is)
grows secret Receiving old new d = same_prefix old.journal new.journal (ap (λ (h : Host). h.journal) d.is)
grows secret Refused old new d = same_prefix old.journal new.journal (ap (λ (h : Host). h.journal) d)
grows secret Stopping old new d = same_prefix old.journal new.journal (ap (λ (h : Host). h.journal) d.is)

pub lead_grows : (secret : Secret) (old : Host) (steps : List (Deed × Host)) (last : Host) → Lead secret old steps last → IsPrefixOf old.journal last.journal
lead_grows secret old [] last is = same_prefix old.journal last.journal (ap (λ (h : Host). h.journal) is)
lead_grows secret old (step ∷ steps) last lead =
    let first = grows secret step.0 old step.1 lead.0 in
    let rest = lead_grows secret step.1 steps last lead.1 in
    record { more = first.more ++ rest.more; is = rest.is ∙ ap (λ (j : List Entry). j ++ rest.more) first.is ∙ append_assoc old.journal first.more rest.more }

-- The role stays once a turn with a record was made.
abbrev KeepsRole : Host → Host → Type 0
KeepsRole old new = (old.journal ≡ []) ⊎ (new.role ≡ old.role)

keeps_role : (laws : LogLaws) (secret : Secret) (deed : Deed) (old new : Host) → IsGood secret old → Does secret deed old new → KeepsRole old new
keeps_role laws secret (Opening role) old new (inl is) d = inl (ap (λ (h : Host). h.journal) is)
keeps_role laws secret (Opening role) old new (inr s) d = elim (one_role laws secret role old new s d) [
  | inl none ↦ inl none
  | inr same ↦ inr (ap (λ (h : Host). h.role) d.is ∙ ap Some (sym same) ∙ sym s.role_is)
]
keeps_role laws secret Truncating old new good d = inr (ap (λ (h : Host). h.role) d.is)
keeps_role laws secret Appending old new good d = inr (ap (λ (h : Host). h.role) d.is)
keeps_role laws secret Syncing old new good d = inr (ap (λ (h : Host). h.role) d.is)
keeps_role laws secret (Preparing event) old new good d = inr (ap (λ (h : Host). h.role) d.is)
keeps_role laws secret (Acting first reason) old new good d = inr (ap (λ (h : Host). h.role) d.0.is)
keeps_role laws secret TakingOut old new good d = inr (ap (λ (h : Host). h.role) d.is)
keeps_role laws secret Receiving old new good d = inr (ap (λ (h : Host). h.role) d.is)
keeps_role laws secret Refused old new good d = inr (ap (λ (h : Host). h.role) d)
keeps_role laws secret Stopping old new good d = inr (ap (λ (h : Host). h.role) d.is)

-- a list that continues some entry is not empty
none_before : (a b : List Entry) → IsPrefixOf a b → b ≡ [] → a ≡ []
none_before [] b prefix none = refl
none_before (e ∷ a) b prefix none = absurd (let clash : e ∷ (a ++ prefix.more) ≡ [] = sym prefix.is ∙ none in cc)

pub lead_keeps_role : (laws : LogLaws) (secret : Secret) (old : Host) (steps : List (Deed × Host)) (last : Host) → IsGood secret old
    → Lead secret old steps last
    → (old.journal ≡ []) ⊎ (last.role ≡ old.role)
lead_keeps_role laws secret old [] last good is = inr (ap (λ (h : Host). h.role) is)
lead_keeps_role laws secret old (step ∷ steps) last good lead = elim (keeps_role laws secret step.0 old step.1 good lead.0) [
  | inl none ↦ inl none
  | inr same ↦ elim (lead_keeps_role laws secret step.1 steps last (good_step laws secret step.0 old step.1 good lead.0) lead.1) [
    | inl none ↦ inl (none_before old.journal step.1.journal (grows secret step.0 old step.1 lead.0) none)
    | inr rest ↦ inr (rest ∙ same)
  ]
]
