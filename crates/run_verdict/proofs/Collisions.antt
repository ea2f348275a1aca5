-- What is told of collisions is the first of them, and none is told where there is none.
use Rattle.std.proofs.Common.{◌≡◌, ◌≢◌, ◌⊎◌, ℕ, List, [], ◌∷◌, ◌++◌, Bool, true, false, not, Option, Some, None, option_map, refl, sym, ap, subst, ◌∙◌, inl, inr, append_assoc}
use Rattle.std.specs.List.{find}
use Rattle.std.specs.Option.{option_or}
use Rattle.std.proofs.lemmas.Bool.{cases_Bool, and_parts, and_from, and_cases, not-true, not-false, not_from_false, false_from_ne_true}
use Rattle.std.proofs.lemmas.List.{append-nil}
use Rattle.seq_base.specs.declared.block.Block.{Block}
use Rattle.seq_base.specs.Blocks.{block_eq, block_eq_decides, digest_eq, digest_eq_decides, first_digest}
use Rattle.run_record.specs.declared.record.RunRecord.{RunRecord}
use Rattle.run_record.specs.declared.verdict.CollidedAt.{CollidedAt}
use Rattle.block_store.specs.Store.{block_digest}
use Rattle.run_verdict.specs.Collided.{Received, collides, place_of, with_first, is_zero, collision_with, collision_from, all_received, first_collision_of}
use Rattle.run_verdict.specs.Shown.{IsReceived, IsCollided, IsReportedOf, IsFirstCollision, AreDistinguished}
use Rattle.run_verdict.proofs.PlaceOrder.{Among, Rises, among_either, among_first, among_second, earlier_before, before_earlier, first_pass, none_pass}
use Rattle.run_verdict.proofs.Deliveries.{all_rise, received_shows, received_holds}

-- ---- two blocks

collides_shows : (a b : Block) → collides a b ≡ true → (a ≢ b) × (block_digest a ≡ block_digest b)
collides_shows a b holds =
    let parts = and_parts (not (block_eq a b)) (digest_eq (block_digest a) (block_digest b)) holds in
    let other : block_eq a b ≡ false = not-true (block_eq a b) parts.0 in (
      (λ same. let is : block_eq a b ≡ true = (block_eq_decides a b).1 same in cc),
      (digest_eq_decides (block_digest a) (block_digest b)).0 parts.1,
    )

collides_holds : (a b : Block) → a ≢ b → block_digest a ≡ block_digest b → collides a b ≡ true
collides_holds a b different same =
    let other : block_eq a b ≡ false = false_from_ne_true (block_eq a b) (λ is. different ((block_eq_decides a b).0 is)) in
    and_from (not (block_eq a b)) (digest_eq (block_digest a) (block_digest b)) (not_from_false (block_eq a b) other)
    ((digest_eq_decides (block_digest a) (block_digest b)).1 same)

same_block : (a b : Block) → collides a b ≡ false → block_digest a ≡ block_digest b → a ≡ b
same_block a b none same =
    let yes : digest_eq (block_digest a) (block_digest b) ≡ true = (digest_eq_decides (block_digest a) (block_digest b)).1 same in
    elim (and_cases (not (block_eq a b)) (digest_eq (block_digest a) (block_digest b)) none) [
      | inl is ↦ (block_eq_decides a b).0 (not-false (block_eq a b) is)
      | inr fails ↦ cc
    ]

-- ---- one block after others

-- no two of them collide, and none has the zero digest
record Clean (blocks : List Received) : Type 0 where
  apart : (a b : Received) → Among a blocks → Among b blocks → block_digest a.block ≡ block_digest b.block → a.block ≡ b.block
  above : (a : Received) → Among a blocks → block_digest a.block ≢ first_digest

-- a block that makes no collision with those before it
record Joins (before : List Received) (r : Received) : Type 0 where
  above : block_digest r.block ≢ first_digest
  apart : (e : Received) → Among e before → block_digest e.block ≡ block_digest r.block → e.block ≡ r.block

joins : (before : List Received) (r : Received) → collision_with before r ≡ None → Joins before r
unfolding collision_with
joins before r none = elim (cases_Bool (is_zero r.block)) [
  | inl zero ↦
      let reported : CollidedAt = record { first = place_of r; second = None } in
      let some : Some reported ≡ None = rw zero at none in
      cc
  | inr above ↦
      let nobody = lost (find (λ e. collides e.block r.block) before) (rw above at none) in
      record {
        above = λ zero. let is : is_zero r.block ≡ true = (digest_eq_decides (block_digest r.block) first_digest).1 zero in cc;
        apart = λ e within same. same_block e.block r.block (none_pass (λ e. collides e.block r.block) before nobody e within) same;
      }
]
  where
    lost : (o : Option Received) → option_map (with_first r) o ≡ None → o ≡ None
    lost None none = refl
    lost (Some e) none = cc

clean_more : (before : List Received) (r : Received) → Clean before → Joins before r → Clean (before ++ r ∷ [])
clean_more before r clean joined = record {
  apart = λ a b first second same. apart a b (among_either a before (r ∷ []) first) (among_either b before (r ∷ []) second) same;
  above = λ a within. above a (among_either a before (r ∷ []) within);
}
  where
    it : (a : Received) → Among a (r ∷ []) → r ≡ a
    it a (inl is) = is
    it a (inr never) = absurd never

    apart : (a b : Received) → Among a before ⊎ Among a (r ∷ []) → Among b before ⊎ Among b (r ∷ [])
        → block_digest a.block ≡ block_digest b.block → a.block ≡ b.block
    apart a b (inl first) (inl second) same = clean.apart a b first second same
    apart a b (inl first) (inr here) same = let is = it b here in rw (← is) (joined.apart a first (rw (← is) at same))
    apart a b (inr here) (inl second) same = let is = it a here in rw (← is) (sym (joined.apart b second (sym (rw (← is) at same))))
    apart a b (inr here) (inr too) same = ap (λ (x : Received). x.block) (sym (it a here) ∙ it b too)

    above : (a : Received) → Among a before ⊎ Among a (r ∷ []) → block_digest a.block ≢ first_digest
    above a (inl first) = clean.above a first
    above a (inr here) = let is = it a here in rw (← is) joined.above

-- ---- all blocks

record Reported (before blocks : List Received) (reported : CollidedAt) : Type 0 where
  first : List Received
  block : Received
  last : List Received
  split : blocks ≡ first ++ block ∷ last
  shows : collision_with (before ++ first) block ≡ Some reported
  clean : Clean before → Clean (before ++ first)

first_reported : (before blocks : List Received) (reported : CollidedAt) → collision_from before blocks ≡ Some reported → Reported before blocks reported
unfolding collision_from
first_reported before [] reported found = cc
first_reported before (r ∷ rs) reported found = by_answer (collision_with before r) refl (λ rest. first_reported (before ++ r ∷ []) rs reported rest)
  where
    by_answer : (o : Option CollidedAt) → collision_with before r ≡ o
        → (collision_from (before ++ r ∷ []) rs ≡ Some reported → Reported (before ++ r ∷ []) rs reported) → Reported before (r ∷ rs) reported
    by_answer (Some other) is next = record {
      first = [];
      block = r;
      last = rs;
      split = refl;
      shows = rw (append-nil before) (is ∙ (rw is at found));
      clean = λ clean. rw (append-nil before) clean;
    }
    by_answer None is next =
        let t = next (rw is at found) in
        record {
          first = r ∷ t.first;
          block = t.block;
          last = t.last;
          split = ap (λ xs. r ∷ xs) t.split;
          shows = rw (append_assoc before (r ∷ []) t.first) at t.shows;
          clean = λ clean. rw (append_assoc before (r ∷ []) t.first) at (t.clean (clean_more before r clean (joins before r is)));
        }

nothing_reported : (before blocks : List Received) → collision_from before blocks ≡ None → Clean before → Clean (before ++ blocks)
unfolding collision_from
nothing_reported before [] none clean = rw (append-nil before) clean
nothing_reported before (r ∷ rs) none clean =
    let parts = neither (collision_with before r) (collision_from (before ++ r ∷ []) rs) none in
    rw (append_assoc before (r ∷ []) rs) at (nothing_reported (before ++ r ∷ []) rs parts.1 (clean_more before r clean (joins before r parts.0)))
  where
    neither : (o p : Option CollidedAt) → option_or o p ≡ None → (o ≡ None) × (p ≡ None)
    neither None p none = (refl, none)
    neither (Some x) p none = cc

no_blocks : Clean []
no_blocks = record { apart = λ a b first second same. absurd first; above = λ a within. absurd within }

module _ (run : RunRecord) where
  pub no_collision : first_collision_of run ≡ None → ¬ IsCollided run
  unfolding first_collision_of
  no_collision none = λ collided.
      let clean = nothing_reported [] (all_received run) none no_blocks in
      elim collided [
        | inl pair ↦
            let c = pair.2 in
            c.different (clean.apart pair.0 pair.1 (received_holds run pair.0 c.one) (received_holds run pair.1 c.other) c.same_digest)
        | inr zero ↦ clean.above zero.0 (received_holds run zero.0 zero.1.received) zero.1.zero
      ]

  module _ (reported : CollidedAt) (t : Reported [] (all_received run) reported) where
    rises : Rises (t.first ++ t.block ∷ t.last)
    rises = rw t.split at (all_rise run)

    within : (x : Received) → IsReceived run x → Among x (t.first ++ t.block ∷ t.last)
    within x is = rw t.split at (received_holds run x is)

    is_received : (x : Received) → Among x (t.first ++ t.block ∷ t.last) → IsReceived run x
    is_received x among = received_shows run x (rw t.split among)

    block_received : IsReceived run t.block
    block_received = is_received t.block (among_second t.block t.first (t.block ∷ t.last) (inl refl))

    with_earlier : (e : Received) → find (λ x. collides x.block t.block.block) t.first ≡ Some e
        → IsReportedOf run t.block (with_first t.block e) (Some (place_of t.block))
    with_earlier e found =
        let pass = first_pass (λ x. collides x.block t.block.block) t.first e found in
        let among : Among e t.first = rw pass.split (among_second e pass.before (e ∷ pass.following) (inl refl)) in
        let parts = collides_shows e.block t.block.block pass.passes in
        let all : t.first ++ t.block ∷ t.last ≡ pass.before ++ (e ∷ (pass.following ++ t.block ∷ t.last)) =
        ap (λ xs. xs ++ t.block ∷ t.last) pass.split ∙ append_assoc pass.before (e ∷ pass.following) (t.block ∷ t.last) in (
          refl,
          (
            e,
            earlier_before t.first t.block t.last rises e among,
            record {
              one = is_received e (among_first e t.first (t.block ∷ t.last) among);
              other = block_received;
              different = parts.0;
              same_digest = parts.1;
            },
            refl,
            (λ other earlier c.
                let before : Among other pass.before = before_earlier pass.before e (pass.following ++ t.block ∷ t.last)
                (rw all at rises) other (rw all at (within other c.one)) earlier in
                let fails = pass.fail other before in
                let passes = collides_holds other.block t.block.block c.different c.same_digest in
                cc),
          ),
        )

    reported_is : IsReportedOf run t.block reported reported.second
    unfolding collision_with
    reported_is = by_digest (is_zero t.block.block) refl
      where
        by_found : (o : Option Received) → find (λ x. collides x.block t.block.block) t.first ≡ o
            → option_map (with_first t.block) o ≡ Some reported → IsReportedOf run t.block reported reported.second
        by_found None none is = cc
        by_found (Some e) found is =
            let same : with_first t.block e ≡ reported = cc in
            subst (λ c. IsReportedOf run t.block c c.second) same (with_earlier e found)

        by_digest : (b : Bool) → is_zero t.block.block ≡ b → IsReportedOf run t.block reported reported.second
        by_digest true zero =
            let same : record { first = place_of t.block; second = None } ≡ reported =
            one (record { first = place_of t.block; second = None }) (rw zero at t.shows) in
            subst (λ c. IsReportedOf run t.block c c.second) same
            (record { received = block_received; zero = (digest_eq_decides (block_digest t.block.block) first_digest).0 zero }, refl)
          where
            one : (c : CollidedAt) → Some c ≡ Some reported → c ≡ reported
            one c same = cc
        by_digest false above = by_found (find (λ x. collides x.block t.block.block) t.first) refl (rw above at t.shows)

    first_collision : IsFirstCollision run reported
    first_collision =
        let clean = t.clean no_blocks in
        record {
          block = t.block;
          is_reported = reported_is;
          apart = λ a b first second c.
              c.different
              (clean.apart a b (before_earlier t.first t.block t.last rises a (within a c.one) first)
              (before_earlier t.first t.block t.last rises b (within b c.other) second) c.same_digest);
          above = λ r earlier z. clean.above r (before_earlier t.first t.block t.last rises r (within r z.received) earlier) z.zero;
        }

  pub first_collision_is : (reported : CollidedAt) → first_collision_of run ≡ Some reported → IsFirstCollision run reported
  unfolding first_collision_of
  first_collision_is reported found = first_collision reported (first_reported [] (all_received run) reported found)

  -- a first collision is one
  pub collided_from : (reported : CollidedAt) → IsFirstCollision run reported → IsCollided run
  collided_from reported first = by_second reported.second first.is_reported
    where
      by_second : (second : Option (ℕ × ℕ)) → IsReportedOf run first.block reported second → IsCollided run
      by_second None is = inr (first.block, is.0)
      by_second (Some place) is = inl (is.1.0, first.block, is.1.2)

  pub none_collided : (¬ IsCollided run) → first_collision_of run ≡ None
  none_collided never = by_answer (first_collision_of run) refl
    where
      by_answer : (o : Option CollidedAt) → first_collision_of run ≡ o → first_collision_of run ≡ None
      by_answer None is = is
      by_answer (Some reported) is = absurd (never (collided_from reported (first_collision_is reported is)))

  -- where nothing collided, blocks are told apart by their digests
  pub distinguished : (¬ IsCollided run) → AreDistinguished run
  distinguished never = (
    (λ a b first second same. by_block a b first second same (block_eq a.block b.block) refl),
    (λ r is zero. never (inr (r, record { received = is; zero = zero }))),
  )
    where
      by_block : (a b : Received) → IsReceived run a → IsReceived run b → block_digest a.block ≡ block_digest b.block → (equal : Bool)
          → block_eq a.block b.block ≡ equal → a.block ≡ b.block
      by_block a b first second same true is = (block_eq_decides a.block b.block).0 is
      by_block a b first second same false is =
          absurd
          (never
          (inl (
            a,
            b,
            record {
              one = first;
              other = second;
              different = λ one. let yes : block_eq a.block b.block ≡ true = (block_eq_decides a.block b.block).1 one in cc;
              same_digest = same;
            },
          )))
