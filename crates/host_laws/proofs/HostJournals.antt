-- The journal of a host's run.
use Rattle.std.proofs.Common.{◌≡◌, List, Option, Some, refl, sym, subst, ◌∙◌, inl, inr}
use Rattle.std.specs.Prelude.{IfSome}
use Rattle.std.proofs.lemmas.Option.{same_Some}
use Rattle.seq_base.specs.Setting.{IsValid}
use Rattle.journal_rules.specs.Rules.{IsLawful}
use Rattle.host_laws.specs.Below.{LogLaws, NodeLaws}
use Rattle.host_laws.specs.Hosted.{IsFed, scale_for}
use Rattle.host_laws.specs.Hosts.{Host, events_in}
use Rattle.host_laws.specs.Roles.{Role, Secret}
use Rattle.host_laws.specs.Steps.{Deed, IsHostRun, turns_on}
use Rattle.host_laws.proofs.HostRuns.{good_run}
use Rattle.host_laws.proofs.HostStands.{IsGood}
use Rattle.host_laws.proofs.HostedReplicas.{shown_in}

pub turns_of : (laws : LogLaws) (secret : Secret) (steps : List (Deed × Host)) (host : Host) (role : Role) → IsHostRun secret steps host → host.role ≡ Some role
    → host.journal ≡ turns_on secret role (events_in host.journal)
turns_of laws secret steps host role run is = by (good_run laws secret steps host run)
  where
    by : IsGood secret host → host.journal ≡ turns_on secret role (events_in host.journal)
    by (inl new) = subst (λ (h : Host). h.journal ≡ turns_on secret role (events_in h.journal)) (sym new) refl
    by (inr s) = subst (λ (r : Role). host.journal ≡ turns_on secret r (events_in host.journal)) (same_Some s.role role (sym s.role_is ∙ is)) s.is_of.turns

pub lawful_journal : (laws : LogLaws) (nodes : NodeLaws) (secret : Secret) (steps : List (Deed × Host)) (host : Host) (role : Role)
    → IsHostRun secret steps host
    → host.role ≡ Some role
    → IsValid role.setting → IsFed role.setting.n host → IsLawful (scale_for role host) host.journal
lawful_journal laws nodes secret steps host role run is valid fed =
    (shown_in nodes secret host role (good_run laws secret steps host run)
    (subst (λ (r : Option Role). IfSome r (λ own. own ≡ role)) (sym is) refl) valid fed).journal
