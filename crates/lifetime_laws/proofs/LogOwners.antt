-- A log that is passed on has one owner.
use Rattle.std.proofs.Common.{◌≡◌, ℕ, List, [], ◌∷◌, refl, sym, ap, subst, ◌∙◌}
use Rattle.std.specs.List.{AllByRecursion}
use Rattle.seq_base.specs.Setting.{Parameters}
use Rattle.node_core.specs.Rows.{Check}
use Rattle.node_core.specs.Reported.{Gives}
use Rattle.durable_node.specs.Header.{FitsHeader, HasHeader, IsOwn, header_of}
use Rattle.durable_node.specs.Incarnations.{FollowOn, IsLived}
use Rattle.lifetime_laws.proofs.Later.{leaves}
use Rattle.lifetime_laws.specs.Joined.{AreLived}
use Rattle.lifetime_laws.specs.Leaves.{SealsAgree, sealed_over}
use Rattle.lifetime_laws.specs.Passed.{AllFit, AreLed, FitsStart, IsPassedOn, Led, Start, header_for, lifetimes_in, opening_for}

-- a log with a header has one owner: the law of the layer below
abbrev pub OneOwner : Type 0
OneOwner = (s t : Parameters) (views later me other height grown : ℕ) (keys more log : List ℕ) → FitsHeader s views me height keys
    → FitsHeader t later other grown more
    → HasHeader (header_of s views me height keys) log → IsOwn (header_of t later other grown more) log
    → (s ≡ t) × (views ≡ later) × (me ≡ other) × (height ≡ grown) × (keys ≡ more)

start_is : (a b : Start) → (a.setting ≡ b.setting) × (a.views ≡ b.views) × (a.replica ≡ b.replica) × (a.height ≡ b.height) × (a.keys ≡ b.keys) → a ≡ b
start_is a b same =
    ap (λ (s : Parameters). record a { setting = s }) same.0
    ∙ ap (λ (v : ℕ). record a { setting = b.setting; views = v }) same.1
    ∙ ap (λ (r : ℕ). record a { setting = b.setting; views = b.views; replica = r }) same.2
    ∙ ap (λ (h : ℕ). record { setting = b.setting; views = b.views; replica = b.replica; height = h; keys = a.keys }) same.3
    ∙ ap (λ (k : List ℕ). record { setting = b.setting; views = b.views; replica = b.replica; height = b.height; keys = k }) same.4

module _ (one : OneOwner) where
  next_is : (led next : Led) → FitsStart led.start → FitsStart next.start → HasHeader (header_for led.start) led.left
      → IsOwn (header_for next.start) led.left → next.start ≡ led.start
  next_is led next fits also has own =
      let a = led.start in
      let b = next.start in
      sym (start_is a b (one a.setting b.setting a.views b.views a.replica b.replica a.height b.height a.keys b.keys led.left fits also has own))

  each_is : (first : Start) (led : Led) (more : List Led) → led.start ≡ first → AllFit led more → IsPassedOn led more
      → AllByRecursion (λ later. later.start ≡ first) more
  each_is first led [] same fits passed = tt
  each_is first led (next ∷ more) same fits passed =
      let is : next.start ≡ first = next_is led next fits.0 fits.1.0 passed.0 passed.1 ∙ same in
      (is, each_is first next more is fits.1 passed.2)

  pub one_start : (led : Led) (more : List Led) → AllFit led more → IsPassedOn led more → AllByRecursion (λ later. later.start ≡ led.start) more
  one_start led more fits passed = each_is led.start led more refl fits passed

  each_lived : (fits : Check) (gives : Gives) (capacity : ℕ) (first : Start) (more : List Led) → AllByRecursion (λ later. later.start ≡ first) more
      → AllByRecursion (λ l. IsLived fits gives (opening_for capacity l.start) l.lifetime) more
      → AllByRecursion (IsLived fits gives (opening_for capacity first)) (lifetimes_in more)
  each_lived fits gives capacity first [] same lived = tt
  each_lived fits gives capacity first (l ∷ more) same lived =
      (subst (λ (s : Start). IsLived fits gives (opening_for capacity s) l.lifetime) same.0 lived.0, each_lived fits gives capacity first more same.1 lived.1)

  pub one_opening : (fits : Check) (gives : Gives) (capacity : ℕ) (led : Led) (more : List Led) → AllFit led more → IsPassedOn led more
      → AreLed fits gives capacity led more
      → AreLived fits gives (opening_for capacity led.start) led.lifetime (lifetimes_in more)
  one_opening fits gives capacity led more fit passed lived = (lived.0, each_lived fits gives capacity led.start more (one_start led more fit passed) lived.1)

  each_sealed : (fits : Check) (gives : Gives) (capacity : ℕ) (led : Led) (more : List Led) → AllByRecursion (λ later. later.start ≡ led.start) more
      → AllByRecursion (λ lifetime. SealsAgree (sealed_over fits gives (opening_for capacity led.start) led.lifetime)
      (sealed_over fits gives (opening_for capacity led.start) lifetime)) (lifetimes_in more)
      → AllByRecursion (λ l. SealsAgree (sealed_over fits gives (opening_for capacity led.start) led.lifetime)
      (sealed_over fits gives (opening_for capacity l.start) l.lifetime)) more
  each_sealed fits gives capacity led [] same agree = tt
  each_sealed fits gives capacity led (l ∷ more) same agree = (
    subst (λ (s : Start). SealsAgree (sealed_over fits gives (opening_for capacity led.start) led.lifetime)
        (sealed_over fits gives (opening_for capacity s) l.lifetime)) (sym same.0) agree.0,
    each_sealed fits gives capacity led more same.1 agree.1,
  )

  pub leaves_passed : (fits : Check) (gives : Gives) (capacity : ℕ) (led : Led) (more : List Led) → AllFit led more → IsPassedOn led more
      → FollowOn led.lifetime (lifetimes_in more)
      → AllByRecursion (λ l. SealsAgree (sealed_over fits gives (opening_for capacity led.start) led.lifetime)
      (sealed_over fits gives (opening_for capacity l.start) l.lifetime)) more
  leaves_passed fits gives capacity led more fit passed follow =
      each_sealed fits gives capacity led more (one_start led more fit passed)
      (leaves fits gives (opening_for capacity led.start) led.lifetime (lifetimes_in more) follow)
