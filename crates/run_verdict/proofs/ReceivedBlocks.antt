-- Blocks that are received one after another, and the first collision among them.
use Rattle.std.proofs.Common.{◌≡◌, ℕ, ◌+◌, ◌<◌, ◌≤◌, List, [], ◌∷◌, ◌++◌, drop, get_or, length, true, false, Bor, Option, Some, None, refl, sym, ap, subst, ◌∙◌, append_assoc}
use Rattle.std.specs.Option.{option_or, is_some, IfNone}
use Rattle.std.specs.BTreeSet.{BTreeSet}
use Rattle.std.specs.BTreeMap.{BTreeMap}
use Rattle.std.proofs.Math.ListN.{drop_of_length-le}
use Rattle.std.proofs.lemmas.List.{append-nil, drop_more}
use Rattle.seq_base.specs.declared.digest.Digest.{Digest}
use Rattle.seq_base.specs.declared.block.Block.{Block}
use Rattle.seq_base.proofs.Options.{or_none}
use Rattle.node_core.specs.declared.entry.Entry.{Entry}
use Rattle.run_record.specs.declared.verdict.CollidedAt.{CollidedAt}
use Rattle.run_verdict.specs.Delivered.{delivered_block}
use Rattle.run_verdict.specs.Collided.{Received, received, received_from, collision_with, collision_from}
use Rattle.run_verdict.specs.Seen.{Knows}

-- what an entry brings, of those that are left
pub received_some : (receiver k : ℕ) (entries : List Entry) (entry : Entry) (block : Block) → k < length entries
    → entry ≡ get_or entries k entry → delivered_block entry ≡ Some block
    → received_from receiver k (drop k entries) ≡ (received receiver k block ∷ []) ++ received_from receiver (k + 1) (drop (k + 1) entries)
unfolding received_from
received_some receiver k entries entry block within is brings = rw (drop_more entries k entry within, ← is, brings) refl

pub received_none : (receiver k : ℕ) (entries : List Entry) (entry : Entry) → k < length entries → entry ≡ get_or entries k entry → delivered_block entry ≡ None
    → received_from receiver k (drop k entries) ≡ received_from receiver (k + 1) (drop (k + 1) entries)
unfolding received_from
received_none receiver k entries entry within is brings = rw (drop_more entries k entry within, ← is, brings) refl

pub received_end : (receiver k : ℕ) (entries : List Entry) → length entries ≤ k → received_from receiver k (drop k entries) ≡ []
unfolding received_from
received_end receiver k entries past = rw (drop_of_length-le entries past) refl

-- one block alone
pub one_block : (before : List Received) (r : Received) → collision_from before (r ∷ []) ≡ collision_with before r
unfolding collision_from
one_block before r = or_none (collision_with before r)

-- some blocks, and then the others
collision_joined : (before more rest : List Received)
    → collision_from before (more ++ rest) ≡ option_or (collision_from before more) (collision_from (before ++ more) rest)
unfolding collision_from
collision_joined before [] rest = ap (λ xs. collision_from xs rest) (sym (append-nil before))
collision_joined before (r ∷ rs) rest =
    rw (collision_joined (before ++ r ∷ []) rs rest, append_assoc before (r ∷ []) rs)
    (either (collision_with before r) (collision_from (before ++ r ∷ []) rs) (collision_from (before ++ (r ∷ rs)) rest))
  where
    either : (o p q : Option CollidedAt) → option_or o (option_or p q) ≡ option_or (option_or o p) q
    either None p q = refl
    either (Some x) p q = refl

-- what is known on the way through all of some blocks, where these are left
pub record Stands (before all left : List Received) (set : BTreeSet (Bor (List ℕ))) (map : BTreeMap Digest (ℕ × ℕ)) : Type 0 where
  pub met : List Received
  pub knows : Knows met set map
  pub joined : met ++ left ≡ before ++ all
  pub collision : collision_from met left ≡ collision_from before all

pub stands_first : (before all : List Received) (set : BTreeSet (Bor (List ℕ))) (map : BTreeMap Digest (ℕ × ℕ)) → Knows before set map
    → Stands before all all set map
stands_first before all set map knows = record { met = before; knows = knows; joined = refl; collision = refl }

module _ (before all left rest more : List Received) (set : BTreeSet (Bor (List ℕ))) (map : BTreeMap Digest (ℕ × ℕ))
    (stands : Stands before all left set map) where
  module _ (answer : Option CollidedAt) (next : left ≡ more ++ rest)
      (reported : (xs : List Received) → Knows xs set map → answer ≡ collision_from xs more) where
    parts : collision_from before all ≡ option_or answer (collision_from (stands.met ++ more) rest)
    parts = sym stands.collision ∙ rw (next, reported stands.met stands.knows) (collision_joined stands.met more rest)

    pub stands_stop : is_some answer ≡ true → answer ≡ collision_from before all
    stands_stop some = first_is answer some ∙ sym parts
      where
        first_is : (o : Option CollidedAt) → is_some o ≡ true → o ≡ option_or o (collision_from (stands.met ++ more) rest)
        first_is None some = cc
        first_is (Some x) some = refl

    pub stands_go : (later : BTreeSet (Bor (List ℕ))) (places : BTreeMap Digest (ℕ × ℕ)) → is_some answer ≡ false
        → ((xs : List Received) → Knows xs set map → IfNone answer (Knows (xs ++ more) later places)) → Stands before all rest later places
    stands_go later places none knows = record {
      met = stands.met ++ more;
      knows = if_none answer (Knows (stands.met ++ more) later places) none (knows stands.met stands.knows);
      joined = append_assoc stands.met more rest ∙ rw (← next) stands.joined;
      collision = second_is answer none ∙ sym parts;
    }
      where
        if_none : (o : Option CollidedAt) (P : Type 0) → is_some o ≡ false → IfNone o P → P
        if_none None P none holds = holds
        if_none (Some x) P none holds = cc

        second_is : (o : Option CollidedAt) → is_some o ≡ false
            → collision_from (stands.met ++ more) rest ≡ option_or o (collision_from (stands.met ++ more) rest)
        second_is None none = refl
        second_is (Some x) none = cc

  pub stands_skip : left ≡ rest → Stands before all rest set map
  stands_skip same = subst (λ xs. Stands before all xs set map) same stands

  pub stands_past : left ≡ [] → None ≡ collision_from before all
  unfolding collision_from
  stands_past none = rw none at stands.collision

  pub stands_all : left ≡ [] → Knows (before ++ all) set map
  stands_all none = subst (λ xs. Knows xs set map) (sym (append-nil stands.met) ∙ (rw none at stands.joined)) stands.knows
