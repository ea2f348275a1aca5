-- The answers of the steps of one pass, by the results of its tests.
use Rattle.std.proofs.Common.{◌≡◌, ℕ, ◌+◌, List, [], ◌∷◌, length, take, Bool, true, false, ◌&&◌, Option, Some, None, Result, Ok, Err, is_some, ◌||◌, ◌==◌, refl, sym, ap, subst, ◌∙◌}
use Rattle.std.proofs.lemmas.Bool.{and_parts}
use Rattle.std.specs.Prelude.{IfOk, IfSome, IfNone, not, if◌then◌else◌}
use Rattle.std.specs.List.{list_all}
use Rattle.std.specs.Option.{option_map, option_map_or}
use Rattle.seq_base.specs.declared.tx.Tx.{Tx}
use Rattle.seq_base.specs.declared.block.Block.{Block}
use Rattle.seq_base.specs.declared.digest.Digest.{Digest}
use Rattle.seq_base.specs.declared.order.SealedOrder.{SealedOrder}
use Rattle.seq_base.specs.Blocks.{digest_eq, first_digest}
use Rattle.seq_base.specs.Limits.{IsWithin}
use Rattle.block_store.specs.Store.{block_digest, block_at, clashes, is_stored}
use Rattle.chain_state.specs.Standings.{fits as fits_chain}
use Rattle.chain_store.specs.Chains.{Stored, chain_state_of}
use Rattle.hotstuff_core.specs.Rules.{voted_in}
use Rattle.node_core.specs.declared.entry.Entry.{Entry}
use Rattle.node_core.specs.Rows.{Check}
use Rattle.journal_rules.specs.JournalPrefixes.{arrived_by}
use Rattle.journal_rules.specs.Rules.{ballots_by}
use Rattle.journal_rules.specs.Sealed.{marks_in}
use Rattle.journal_rules.specs.Tests.{are_own, first_false}
use Rattle.audit_core.specs.declared.carried.Carried.{Carried}
use Rattle.audit_core.specs.declared.carried.Carried.TheVariants as carried
use Rattle.audit_core.specs.Bringing.{MayTake, block_from, carried_in, carried_on, taken}
use Rattle.audit_core.specs.Audited.{Audited, stored_of}
use Rattle.audit_core.specs.Judging.{goes_on, is_idle, takes_on, taken_on, stored_after, are_drawn, rises_on, votes_on, sealed_rule, rule_on, next_on}
use Rattle.audit_core.specs.Marking.{are_new, marked}
use Rattle.audit_core.specs.Valid.{has_view, shaped_on, valid_on}
use Rattle.audit_core.specs.Voting.{vote_on, last_view}
use Rattle.audit_core.proofs.Composed.{after_steps, breaks_first, breaks_second, kept_is, moved, taken_moved, votes_moved}

-- ---- blocks

pub valid_lists : (fits : Check) (s : Stored) (b c : Block) (orders : List SealedOrder) {E : Type 0} (r : Result Bool E) → b ≡ c
    → orders ≡ b.orders → true ≡ shaped_on fits s c
    → IfOk r (λ fit. fit ≡ list_all (λ sealed. fits_chain (chain_state_of s b.cert.block) sealed.order) orders) → IfOk r (λ valid. valid ≡ valid_on fits s c)
valid_lists fits s b c orders (Ok fit) same list shaped is =
    is
    ∙ ap (list_all (λ sealed. fits_chain (chain_state_of s b.cert.block) sealed.order)) list
    ∙ ap (λ (x : Block). list_all (λ sealed. fits_chain (chain_state_of s x.cert.block) sealed.order) x.orders) same
    ∙ ap (λ (t : Bool). t && list_all (λ sealed. fits_chain (chain_state_of s c.cert.block) sealed.order) c.orders) shaped
valid_lists fits s b c orders (Err fault) same list shaped is = tt

module _ (fits : Check) (s : Stored) (c : Block) where
  pub block_invalid : (proposed : Bool) → valid_on fits s c ≡ false → None ≡ block_from fits s c proposed
  block_invalid proposed fails_so = rw fails_so refl

  abbrev Same : Block → Digest → List Block → Type 0
  Same b d store = (b ≡ c) × (d ≡ block_digest c) × (store ≡ s.blocks)

  clash_is : (b : Block) (d : Digest) (store : List Block) → Same b d store → clashes store d b ≡ clashes s.blocks (block_digest c) c
  clash_is b d store same =
      ap (λ (x : Block). clashes store d x) same.0 ∙ ap (λ (e : Digest). clashes store e c) same.1
      ∙ ap (λ (bs : List Block). clashes bs (block_digest c) c) same.2

  pub block_clashes : (proposed : Bool) (b : Block) (d : Digest) (store : List Block) → b ≡ c → d ≡ block_digest c → store ≡ s.blocks
      → clashes store d b ≡ true → None ≡ block_from fits s c proposed
  block_clashes proposed b d store is_b is_d is_s yes_clash =
      none (valid_on fits s c) (clashes s.blocks (block_digest c) c) (sym (clash_is b d store (is_b, is_d, is_s)) ∙ yes_clash)
    where
      none : (t u : Bool) → u ≡ true → None ≡ (if t && not u then Some (carried.Block (block_digest c) c proposed) else None)
      none true true is = refl
      none false true is = refl
      none t false is = absurd (cc)

  pub block_carried : (proposed : Bool) (b : Block) (d : Digest) (store : List Block) → b ≡ c → d ≡ block_digest c → store ≡ s.blocks
      → valid_on fits s c ≡ true → clashes store d b ≡ false
      → Some (carried.Block d b proposed) ≡ block_from fits s c proposed
  block_carried proposed b d store is_b is_d is_s valid alone =
      ap (λ (e : Digest). Some (carried.Block e b proposed)) is_d
      ∙ ap (λ (x : Block). Some (carried.Block (block_digest c) x proposed)) is_b
      ∙ some (valid_on fits s c) (clashes s.blocks (block_digest c) c) valid (sym (clash_is b d store (is_b, is_d, is_s)) ∙ alone)
    where
      some : (t u : Bool) → t ≡ true → u ≡ false → Some (carried.Block (block_digest c) c proposed)
          ≡ (if t && not u then Some (carried.Block (block_digest c) c proposed) else None)
      some true false yes_t not_u = refl
      some true true yes_t not_u = absurd (cc)
      some false u yes_t not_u = absurd (cc)

  -- what has a view is stored
  stored_there : (d : Digest) (v : ℕ) → has_view s.blocks d v ≡ true → is_stored s.blocks d ≡ true
  stored_there d v has = by (digest_eq d first_digest) (block_at s.blocks d) has
    where
      by : (t : Bool) (o : Option Block) → option_map_or (λ w. w == v) (if t then Some 0 else option_map (λ b. b.view) o) false ≡ true → (t || is_some o) ≡ true
      by true o is = refl
      by false (Some b) is = refl
      by false None is = absurd (cc)

  pub block_taken : (b : Block) (d : Digest) (store : List Block) → b ≡ c → d ≡ block_digest c → store ≡ s.blocks → valid_on fits s c ≡ true
      → clashes store d b ≡ false → IsWithin b
      → IsWithin b × (d ≡ block_digest b) × (is_stored s.blocks b.cert.block ≡ true) × (clashes s.blocks d b ≡ false)
  block_taken b d store is_b is_d is_s valid alone within = (
    within,
    is_d ∙ ap block_digest (sym is_b),
    ap (λ (x : Block). is_stored s.blocks x.cert.block) is_b
        ∙ stored_there c.cert.block c.cert.view
        (and_parts (has_view s.blocks c.cert.block c.cert.view) _ (and_parts _ _ (and_parts _ _ (and_parts _ _ (and_parts _ _ valid).0).1).1).0).0,
    ap (λ (bs : List Block). clashes bs d b) (sym is_s) ∙ alone,
  )

-- ---- rule 2

pub not_idle : (fits : Check) (j : Audited) (e : Entry) → is_idle e ≡ false → None ≡ taken_on fits j e
not_idle fits j e fails_so = rw fails_so refl

pub not_own : (fits : Check) (j : Audited) (e : Entry) → is_idle e ≡ true → are_own j.replica e.turned.sealed ≡ false → None ≡ taken_on fits j e
not_own fits j e idle fails_so = rw (idle, fails_so) refl

pub not_new : (fits : Check) (j : Audited) (e : Entry) → is_idle e ≡ true → are_own j.replica e.turned.sealed ≡ true
    → are_new j.marks (marks_in e.turned.sealed) ≡ false → None ≡ taken_on fits j e
not_new fits j e idle own fails_so = rw (idle, own, fails_so) refl

-- all three hold, and the marks are added: the answer is whether the entry may deliver
pub takes_as : (fits : Check) (j k : Audited) (e : Entry) {E : Type 0} (r : Result (Option Carried) E) → is_idle e ≡ true
    → are_own j.replica e.turned.sealed ≡ true → are_new j.marks (marks_in e.turned.sealed) ≡ true
    → k ≡ record j { marks = marked j.marks (marks_in e.turned.sealed) } → IfOk r (λ found. found ≡ carried_on fits (stored_of k) e)
    → IfOk r (λ found. found ≡ taken_on fits j e)
takes_as fits j k e (Ok found) idle own new same is = is ∙ ap (λ (x : Audited). carried_on fits (stored_of x) e) same ∙ rw (idle, own, new) refl
takes_as fits j k e (Err fault) idle own new same is = tt

pub takes_from : (j k : Audited) (ms : List (ℕ × ℕ)) {E : Type 0} (r : Result (Option Carried) E) → k ≡ record j { marks = ms }
    → IfOk r (λ found. IfSome found (MayTake k.store)) → IfOk r (λ found. IfSome found (MayTake j.store))
takes_from j k ms (Ok (Some b)) same is = subst (λ (x : Audited). MayTake x.store b) same is
takes_from j k ms (Ok None) same is = tt
takes_from j k ms (Err fault) same is = tt

pub takes_with : (P : Type 0) {E : Type 0} (r : Result (Option Carried) E) → P → IfOk r (λ found. IfSome found (λ b. P))
takes_with P (Ok (Some b)) holds = holds
takes_with P (Ok None) holds = tt
takes_with P (Err fault) holds = tt

-- ---- rules 3 to 5

module _ (j k end : Audited) (e : Entry) (b : Carried) (voted : k ≡ record j { safety = voted_in k.safety.voted j.safety }) (takes : end ≡ taken b k) where
  is_moved : end ≡ moved (taken b j) j.kept j.marks k.safety.voted
  is_moved = takes ∙ ap (taken b) voted ∙ taken_moved b j j.kept j.marks k.safety.voted

  arrivals_are : (b : Carried) → (taken b j).arrivals ≡ j.arrivals
  arrivals_are carried.Nothing = refl
  arrivals_are (carried.Cert view block) = refl
  arrivals_are (carried.Block digest block proposed) = refl
  arrivals_are (carried.Vote replica view block) = refl

  three_is : are_drawn (stored_of end) (take end.kept end.arrivals) e.turned.sealed ≡ are_drawn (stored_of (taken b j)) (take j.kept j.arrivals) e.turned.sealed
  three_is =
      ap (λ (x : Audited). are_drawn (stored_of x) (take x.kept x.arrivals) e.turned.sealed) is_moved
      ∙ ap (λ (ts : List Tx). are_drawn (stored_of (taken b j)) (take j.kept ts) e.turned.sealed) (arrivals_are b)

  five_is : list_all (vote_on k b) (ballots_by e) ≡ list_all (vote_on j b) (ballots_by e)
  five_is = ap (λ (x : Audited). list_all (vote_on x b) (ballots_by e)) voted ∙ votes_moved b j j.kept j.marks k.safety.voted (ballots_by e)

  abbrev Three : Bool → Type 0
  Three t = t ≡ are_drawn (stored_of end) (take end.kept end.arrivals) e.turned.sealed

  abbrev Five : Bool → Type 0
  Five t = t ≡ list_all (vote_on k b) (ballots_by e)

  pub third : Three false → Some 3 ≡ sealed_rule j e b
  third fails_so = rw (sym (fails_so ∙ three_is)) refl

  pub fourth : Three true → false ≡ rises_on j e → Some 4 ≡ sealed_rule j e b
  fourth drawn fails_so = rw (sym (drawn ∙ three_is), sym fails_so) refl

  pub fifth : Three true → true ≡ rises_on j e → Five false → Some 5 ≡ sealed_rule j e b
  fifth drawn rises fails_so = rw (sym (drawn ∙ three_is), sym rises, sym (fails_so ∙ five_is)) refl

  pub no_rule : Three true → true ≡ rises_on j e → Five true → None ≡ sealed_rule j e b
  no_rule drawn rises votes = rw (sym (drawn ∙ three_is), sym rises, sym (votes ∙ five_is)) refl

  pub sealed_next : k.safety.voted ≡ last_view j.safety.voted (ballots_by e)
      → end ≡ taken b (record j { safety = voted_in (last_view j.safety.voted (ballots_by e)) j.safety })
  sealed_next last = takes ∙ ap (taken b) voted ∙ ap (λ (v : ℕ). taken b (record j { safety = voted_in v j.safety })) last

-- ---- all rules

module _ (fits : Check) (j : Audited) (e : Entry) where
  pub first_rule : false ≡ goes_on j.arrivals j.kept e.turned.kept (arrived_by e.event) → Some 1 ≡ rule_on fits j e
  first_rule fails_so = sym (breaks_first fits j e (sym fails_so))

  -- the arrivals are known, and rule 2 is checked with them
  module _ (k : Audited) (knows : true ≡ goes_on j.arrivals j.kept e.turned.kept (arrived_by e.event))
      (kept : k ≡ record j { kept = j.kept + length (arrived_by e.event) }) where
    takes_same : takes_on fits k e ≡ takes_on fits j e
    takes_same = ap (λ (x : Audited). takes_on fits x e) kept

    pub second_rule : None ≡ taken_on fits k e → Some 2 ≡ rule_on fits j e
    second_rule fails_so = sym (breaks_second fits j e (sym knows) (sym takes_same ∙ fails (takes_on fits k e) fails_so))
      where
        fails : (t : Bool) → None ≡ (if t then Some (carried_in e) else None) → t ≡ false
        fails true is = absurd (cc)
        fails false is = refl

    module _ (b : Carried) (takes : Some b ≡ taken_on fits k e) (m : Audited) (marks : m ≡ record k { marks = marked k.marks (marks_in e.turned.sealed) }) where
      holds : (t : Bool) → Some b ≡ (if t then Some (carried_in e) else None) → (t ≡ true) × (b ≡ carried_in e)
      holds true is = (refl, (cc))
      holds false is = absurd (cc)

      both : m ≡ moved j (j.kept + length (arrived_by e.event)) (marked j.marks (marks_in e.turned.sealed)) j.safety.voted
      both = marks ∙ ap (λ (x : Audited). record x { marks = marked x.marks (marks_in e.turned.sealed) }) kept

      abbrev with_marks : Audited
      with_marks = moved j (j.kept + length (arrived_by e.event)) (marked j.marks (marks_in e.turned.sealed)) j.safety.voted

      all_true : takes_on fits j e ≡ true
      all_true = sym takes_same ∙ (holds (takes_on fits k e) takes).0

      abbrev three : Bool
      three = are_drawn (stored_after j e) (take e.turned.kept j.arrivals) e.turned.sealed

      three_same : are_drawn (stored_of (taken (carried_in e) with_marks)) (take (j.kept + length (arrived_by e.event)) j.arrivals) e.turned.sealed ≡ three
      three_same =
          ap (λ (x : Audited). are_drawn (stored_of x) (take (j.kept + length (arrived_by e.event)) j.arrivals) e.turned.sealed)
          (taken_moved (carried_in e) j (j.kept + length (arrived_by e.event)) (marked j.marks (marks_in e.turned.sealed)) j.safety.voted)
          ∙ ap (λ (n : ℕ). are_drawn (stored_after j e) (take n j.arrivals) e.turned.sealed) (sym (kept_is fits j e (sym knows)))

      -- the remaining rules
      later : rule_on fits j e ≡ first_false 3 (three ∷ rises_on j e ∷ votes_on j e ∷ [])
      unfolding rule_on
      later = rw (sym knows, all_true) refl

      pub rule_is : sealed_rule m e b ≡ rule_on fits j e
      rule_is =
          ap (λ (x : Audited). sealed_rule x e b) both
          ∙ ap (sealed_rule with_marks e) (holds (takes_on fits k e) takes).1
          ∙ ap (λ (d : Bool). first_false 3 (d ∷ rises_on j e ∷ list_all (vote_on with_marks (carried_in e)) (ballots_by e) ∷ [])) three_same
          ∙ ap (λ (t : Bool). first_false 3 (three ∷ rises_on j e ∷ t ∷ []))
          (votes_moved (carried_in e) j (j.kept + length (arrived_by e.event)) (marked j.marks (marks_in e.turned.sealed)) j.safety.voted (ballots_by e))
          ∙ sym later

      next_is : (end : Audited) → end ≡ taken b (record m { safety = voted_in (last_view m.safety.voted (ballots_by e)) m.safety }) → end ≡ next_on j e
      next_is end is =
          is
          ∙ ap (λ (x : Audited). taken b (record x { safety = voted_in (last_view x.safety.voted (ballots_by e)) x.safety })) both
          ∙ ap (λ (c : Carried). taken c
          (moved j (j.kept + length (arrived_by e.event)) (marked j.marks (marks_in e.turned.sealed)) (last_view j.safety.voted (ballots_by e))))
          (holds (takes_on fits k e) takes).1
          ∙ after_steps fits j e (j.kept + length (arrived_by e.event)) (marked j.marks (marks_in e.turned.sealed))
          (last_view j.safety.voted (ballots_by e)) refl refl refl

      pub rule_ok : {E : Type 0} (r : Result (Option ℕ) E) → IfOk r (λ rule. rule ≡ sealed_rule m e b) → IfOk r (λ rule. rule ≡ rule_on fits j e)
      rule_ok (Ok rule) is = is ∙ rule_is
      rule_ok (Err fault) is = tt

      pub next_ok : {E : Type 0} (r : Result (Option ℕ) E) (end : Audited)
          → IfOk r (λ rule. IfNone rule (end ≡ taken b (record m { safety = voted_in (last_view m.safety.voted (ballots_by e)) m.safety })))
          → IfOk r (λ rule. IfNone rule (end ≡ next_on j e))
      next_ok (Ok None) end is = next_is end is
      next_ok (Ok (Some rule)) end is = tt
      next_ok (Err fault) end is = tt

pub some_holds : {X : Type 0} (P : Type 0) (o : Option X) (x : X) → o ≡ Some x → IfSome o (λ y. P) → P
some_holds P (Some y) x is holds = holds
some_holds P None x is holds = absurd (cc)
