-- The tests of rules 1 to 4 decide them, if the prefix before keeps all rules.
use Rattle.std.proofs.Common.{◌≡◌, ◌≢◌, ℕ, ◌<◌, Bool, true, false, ◌&&◌, ◌||◌, ◌==◌, List, [], ◌∷◌, length, map, take, get_or, Option, Some, None, refl, sym, ap, subst, ◌∙◌, arith}
use Rattle.std.specs.Prelude.{not, nat_lt, is_some, All}
use Rattle.std.specs.List.{list_all, AllPairs}
use Rattle.std.specs.Option.{option_map_or}
use Rattle.std.specs.Bool.{Decides}
use Rattle.std.specs.Cmp.{unsigned_Decides}
use Rattle.std.specs.Cmp.Lexicographic.{pointwise, pointwise_decides, bytes_decides}
use Rattle.std.proofs.lemmas.Bool.{false≢true}
use Rattle.std.proofs.lemmas.Bool.Decides.{Decides-and, Decides-not, Decides-by_and, Decides-ltb}
use Rattle.std.proofs.lemmas.List.{append-nil}
use Rattle.std.proofs.lemmas.List.Kept.{AllPairs-cons}
use Rattle.seq_base.specs.declared.kinds.TheConstants.{ORDER}
use Rattle.seq_base.specs.declared.block.Block.{Block}
use Rattle.seq_base.specs.declared.block.Cert.{Cert}
use Rattle.seq_base.specs.declared.digest.Digest.{Digest}
use Rattle.seq_base.specs.declared.order.SealedOrder.{SealedOrder}
use Rattle.seq_base.specs.Blocks.{first_digest, digest_eq, digest_eq_decides, block_eq, block_eq_decides}
use Rattle.seq_base.specs.Setting.{Parameters, quorum_of}
use Rattle.seq_base.specs.Spelling.{order_spelling, vote_spelling}
use Rattle.seq_base.specs.Tx.{tx_eq_decides}
use Rattle.quorum_cert.specs.Certificates.{is_good}
use Rattle.quorum_cert.specs.Quorums.{IsGood}
use Rattle.wire_view.specs.declared.messages.MessageView.{MessageView}
use Rattle.wire_view.specs.declared.messages.MessageView.TheVariants.{NewView, Ask, Order, Propose, Vote, Fetch, Give}
use Rattle.chain_state.specs.Standings.{fits as fits_chain}
use Rattle.agreement_laws.specs.Journals.{Named, Ballot}
use Rattle.agreement_laws.specs.JournalPrefixes.{stored_by, block_at}
use Rattle.agreement_laws.specs.JournalPrefixes.{sealed_in as ballots_in}
use Rattle.agreement_laws.specs.Lawful.{IsStored}
use Rattle.agreement_laws.specs.Seen.{IsKeptPrefix}
use Rattle.agreement_laws.proofs.Blocks.{found_at}
use Rattle.agreement_laws.proofs.StoredPrefixes.{at_named}
use Rattle.agreement_laws.proofs.Lists.{any_from}
use Rattle.node_core.specs.declared.entry.Entry.{Entry}
use Rattle.node_core.specs.Delivered.{message_in}
use Rattle.node_core.specs.Rows.{is_sealed}
use Rattle.journal_rules.specs.Chained.{standing_at}
use Rattle.journal_rules.specs.JournalPrefixes.{arrived_by, arrived_in}
use Rattle.journal_rules.specs.Rules.{Scale, up_to, stored_in, lock_in, ballots_by, Knows, Takes, Draws, Rises, IsDrawn, IsValidIn, MayBeDone, StandsAlone, replica_named, parent_named, order_named}
use Rattle.journal_rules.specs.Sealed.{Mark, sealed_in, marks_in}
use Rattle.journal_rules.specs.Shown.{is_done, shown}
use Rattle.journal_rules.specs.Tests.{knows, takes, draws, rises, is_drawn, all_pairs, are_apart, are_own, rise, mark_eq, named_eq, block_named, is_stored_at, is_valid_in, may_be_done, stands_alone, is_none}
use Rattle.journal_rules.proofs.Ends.{first_pairs, rest_pairs}

pub restate : {P Q : Type 0} (t : Bool) → Decides t P → (P → Q) → (Q → P) → Decides t Q
restate t d to from = ((λ yes. to (d.0 yes)), (λ q. d.1 (from q)))

implies : {A B : Type 0} (a b : Bool) → Decides a A → Decides b B → Decides (not a || b) (A → B)
implies true b da db = ((λ yes h. db.0 yes), (λ f. db.1 (f (da.0 refl))))
implies false b da db = ((λ yes h. absurd (false≢true (da.1 h))), (λ f. refl))

pub all_decide : {X : Type 0} (p : X → Bool) (P : X → Type 0) → ((x : X) → Decides (p x) (P x)) → (xs : List X) → Decides (list_all p xs) (All P xs)
all_decide p P each xs = Decides-by_and p P (list_all p) each refl (λ x xs. refl) xs

pub pairs_decide : {X : Type 0} (p : X → X → Bool) (R : X → X → Type 0) → ((x y : X) → Decides (p x y) (R x y)) → (xs : List X)
    → Decides (all_pairs p xs) (AllPairs R xs)
pairs_decide p R each [] = ((λ yes i j d less inside. absurd (omega (arith, inside))), (λ h. refl))
pairs_decide p R each (x ∷ xs) =
    restate (list_all (p x) xs && all_pairs p xs)
    (Decides-and (list_all (p x) xs) (all_pairs p xs) (all_decide (p x) (R x) (each x) xs) (pairs_decide p R each xs))
    (λ both. AllPairs-cons R x xs both.0 both.1) (λ pairs. (first_pairs R x xs pairs, rest_pairs R x xs pairs))

itself : (t : Bool) → Decides t (t ≡ true)
itself t = ((λ is. is), (λ is. is))

-- ---- rule 1

pub first_shows : (by : Scale) (before : List Entry) (e : Entry) → Decides (knows by before e) (Knows by before e)
first_shows by before e =
    restate (knows by before e)
    (Decides-and (pointwise _ (arrived_in (up_to before e)) (take e.turned.kept by.arrivals)) (e.turned.kept == length (arrived_in (up_to before e)))
    (pointwise_decides tx_eq_decides (arrived_in (up_to before e)) (take e.turned.kept by.arrivals))
    (unsigned_Decides e.turned.kept (length (arrived_in (up_to before e)))))
    (λ both. record { first = both.0; all = both.1 }) (λ k. (k.first, k.all))

-- ---- rule 3

drawn_shows : (by : Scale) (before : List Entry) (e : Entry) (statement : List ℕ) → Decides (is_drawn by before e statement) (IsDrawn by before e statement)
drawn_shows by before e statement =
    restate (is_drawn by before e statement)
    (Decides-and (is_some (block_at (stored_in (up_to before e)) (parent_named statement)))
    (pointwise ◌==◌ statement (order_spelling (order_named by before e statement)))
    (itself _) (bytes_decides statement (order_spelling (order_named by before e statement))))
    (λ both. record { stored = both.0; spelled = both.1 }) (λ d. (d.stored, d.spelled))

pub third_shows : (by : Scale) (before : List Entry) (e : Entry) → Decides (draws by before e) (Draws by before e)
third_shows by before e =
    all_decide (λ statement. not (get_or statement 0 0 == ORDER) || is_drawn by before e statement)
    (λ statement. get_or statement 0 0 ≡ ORDER → IsDrawn by before e statement)
    (λ statement. implies (get_or statement 0 0 == ORDER) (is_drawn by before e statement) (unsigned_Decides (get_or statement 0 0) ORDER)
    (drawn_shows by before e statement))
    e.turned.sealed

-- ---- rule 4

pub fourth_shows : (by : Scale) (before : List Entry) (e : Entry) → Decides (rises by before e) (Rises by before e)
fourth_shows by before e =
    restate (rises by before e)
    (Decides-and (rise (ballots_in (map shown (up_to before e)))) (list_all (λ (v : Ballot). nat_lt (lock_in by.setting before).view v.view) (ballots_by e))
    (pairs_decide (λ (a b : Ballot). nat_lt a.view b.view) (λ a b. a.view < b.view) (λ a b. Decides-ltb a.view b.view)
    (ballots_in (map shown (up_to before e))))
    (all_decide (λ (v : Ballot). nat_lt (lock_in by.setting before).view v.view) (λ v. (lock_in by.setting before).view < v.view)
    (λ v. Decides-ltb (lock_in by.setting before).view v.view) (ballots_by e)))
    (λ both. record { rise = both.0; above_lock = both.1 }) (λ r. (r.rise, r.above_lock))

-- ---- rule 2

make_mark : ℕ → ℕ → Mark
make_mark kind view = record { kind = kind; view = view }

pub mark_decides : (a b : Mark) → Decides (mark_eq a b) (a ≡ b)
unfolding make_mark
mark_decides a b =
    restate (mark_eq a b) (Decides-and (a.kind == b.kind) (a.view == b.view) (unsigned_Decides a.kind b.kind) (unsigned_Decides a.view b.view))
    (λ both. ap (λ (k : ℕ). make_mark k a.view) both.0 ∙ ap (λ (v : ℕ). make_mark b.kind v) both.1)
    (λ same. (ap (λ (m : Mark). m.kind) same, ap (λ (m : Mark). m.view) same))

none_decides : {X : Type 0} (xs : List X) → Decides (is_none xs) (xs ≡ [])
none_decides [] = ((λ yes. refl), (λ is. refl))
none_decides (x ∷ xs) = ((λ yes. absurd (false≢true yes)), (λ is. absurd (cc)))

idle_decides : (t u v : Bool) (A B : Type 0) → Decides u A → Decides v B → Decides (t || (u && v)) (t ≡ false → A × B)
idle_decides true u v A B du dv = ((λ yes h. absurd (false≢true (sym h))), (λ f. refl))
idle_decides false u v A B du dv = let d = Decides-and u v du dv in ((λ yes h. d.0 yes), (λ f. d.1 (f refl)))

make_named : Digest → Block → Named
make_named digest b = record { digest = digest; view = b.view; cert = b.cert; orders = b.orders }

named_decides : (a b : Named) → Decides (named_eq a b) (a ≡ b)
unfolding make_named
named_decides a b =
    restate (named_eq a b)
    (Decides-and (digest_eq a.digest b.digest) (block_eq (block_named a) (block_named b)) (digest_eq_decides a.digest b.digest)
    (block_eq_decides (block_named a) (block_named b)))
    (λ both. ap (λ (d : Digest). make_named d (block_named a)) both.0 ∙ ap (λ (x : Block). make_named b.digest x) both.1)
    (λ same. (ap (λ (n : Named). n.digest) same, ap block_named same))

pub alone_decides : (prefix : List Entry) (o : Option Named) → Decides (stands_alone prefix o) ((b : Named) → o ≡ Some b → StandsAlone prefix b)
alone_decides prefix None = ((λ yes b is. absurd (cc)), (λ f. refl))
alone_decides prefix (Some b) =
    restate (stands_alone prefix (Some b))
    (Decides-and (not (digest_eq b.digest first_digest)) (list_all (λ (c : Named). not (digest_eq c.digest b.digest) || named_eq c b) (stored_in prefix))
    (Decides-not (digest_eq b.digest first_digest) (digest_eq_decides b.digest first_digest))
    (all_decide (λ (c : Named). not (digest_eq c.digest b.digest) || named_eq c b) (λ c. c.digest ≡ b.digest → c ≡ b)
    (λ c. implies (digest_eq c.digest b.digest) (named_eq c b) (digest_eq_decides c.digest b.digest) (named_decides c b)) (stored_in prefix)))
    (λ both d is. let same : b ≡ d = cc in subst (StandsAlone prefix) same (record { one = both.1; other = both.0 }))
    (λ f. ((f b refl).other, (f b refl).one))

module _ (good_shows : (fits : ℕ → List ℕ → List ℕ → Bool) (s : Parameters) (c : Cert) → Decides (is_good fits s c) (IsGood fits s c))
    (by : Scale) (before : List Entry) (kept : IsKeptPrefix by.setting (map shown before)) where
  stored_decides : (d : Digest) (v : ℕ) → Decides (is_stored_at (stored_in before) d v) (IsStored (map shown before) d v)
  stored_decides d v = (
    yes (block_at (stored_in before) d) refl,
    λ there.
        let at = at_named by.setting (map shown before) kept (map shown before) [] (sym (append-nil (map shown before))) d v there in
        rw at.2 ((unsigned_Decides at.0.view v).1 at.4),
  )
    where
      yes : (o : Option Named) → block_at (stored_in before) d ≡ o → option_map_or (λ (b : Named). b.view == v) o false ≡ true → IsStored (map shown before) d v
      yes None is never = absurd (false≢true never)
      yes (Some b) is same =
          let f = found_at (stored_in before) d b is in
          any_from (λ (c : Named). (c.digest ≡ d) × (c.view ≡ v)) (stored_in before) b f.0 (f.1, (unsigned_Decides b.view v).0 same)

  orders_decide : (b : Block) → Decides
      (list_all (λ (x : SealedOrder). (x.order.view == b.view) && (digest_eq x.order.parent b.cert.block && nat_lt x.order.replica by.setting.n)) b.orders)
      (All (λ x. (x.order.view ≡ b.view) × ((x.order.parent ≡ b.cert.block) × (x.order.replica < by.setting.n))) b.orders)
  orders_decide b = all_decide
      (λ (x : SealedOrder). (x.order.view == b.view) && (digest_eq x.order.parent b.cert.block && nat_lt x.order.replica by.setting.n))
      (λ x. (x.order.view ≡ b.view) × ((x.order.parent ≡ b.cert.block) × (x.order.replica < by.setting.n)))
      (λ x. Decides-and (x.order.view == b.view) (digest_eq x.order.parent b.cert.block && nat_lt x.order.replica by.setting.n)
      (unsigned_Decides x.order.view b.view)
      (Decides-and (digest_eq x.order.parent b.cert.block) (nat_lt x.order.replica by.setting.n)
      (digest_eq_decides x.order.parent b.cert.block) (Decides-ltb x.order.replica by.setting.n)))
      b.orders

  valid_decides : (b : Block) → Decides (is_valid_in by before b) (IsValidIn by before b)
  valid_decides b =
      restate (is_valid_in by before b)
      (Decides-and (is_good by.fits by.setting b.cert) _ (good_shows by.fits by.setting b.cert)
      (Decides-and (is_stored_at (stored_in before) b.cert.block b.cert.view) _ (stored_decides b.cert.block b.cert.view)
      (Decides-and (nat_lt b.cert.view b.view) _ (Decides-ltb b.cert.view b.view)
      (Decides-and (length b.orders == quorum_of by.setting) _ (unsigned_Decides (length b.orders) (quorum_of by.setting))
      (Decides-and _ _ (orders_decide b)
      (Decides-and (list_all (is_sealed by.fits) b.orders)
      _ (all_decide (is_sealed by.fits) (λ x. is_sealed by.fits x ≡ true) (λ x. itself (is_sealed by.fits x)) b.orders)
      (all_decide (λ (x : SealedOrder). fits_chain (standing_at by.setting before b.cert.block) x.order)
      (λ x. fits_chain (standing_at by.setting before b.cert.block) x.order ≡ true)
      (λ x. itself (fits_chain (standing_at by.setting before b.cert.block) x.order)) b.orders)))))))
      (λ p. record {
        good = p.0;
        parent = p.1.0;
        below = p.1.1.0;
        count = p.1.1.1.0;
        views = λ k d within. (p.1.1.1.1.0 k d within).0;
        parents = λ k d within. (p.1.1.1.1.0 k d within).1.0;
        replicas = λ k d within. (p.1.1.1.1.0 k d within).1.1;
        seals = p.1.1.1.1.1.0;
        lists = p.1.1.1.1.1.1;
      })
      (λ v.
      (v.good, (v.parent, (v.below, (v.count, ((λ k d within. (v.views k d within, (v.parents k d within, v.replicas k d within))), (v.seals, v.lists)))))))

  cert_decides : (c : Cert)
      → Decides (is_good by.fits by.setting c && is_stored_at (stored_in before) c.block c.view)
      (IsGood by.fits by.setting c × IsStored (map shown before) c.block c.view)
  cert_decides c = Decides-and (is_good by.fits by.setting c) (is_stored_at (stored_in before) c.block c.view)
      (good_shows by.fits by.setting c) (stored_decides c.block c.view)

  done_decides : (m : Option MessageView) → Decides (may_be_done by before m) (MayBeDone by before m)
  done_decides None = ((λ yes. tt), (λ h. refl))
  done_decides (Some (NewView call)) = cert_decides call.cert
  done_decides (Some (Ask call)) = cert_decides call.cert
  done_decides (Some (Order sealed)) = ((λ yes. tt), (λ h. refl))
  done_decides (Some (Propose proposed)) = valid_decides proposed.block
  done_decides (Some (Vote voted)) =
      restate (may_be_done by before (Some (Vote voted)))
      (Decides-and (nat_lt voted.vote.replica by.setting.n) _ (Decides-ltb voted.vote.replica by.setting.n)
      (Decides-and (by.fits voted.vote.replica (vote_spelling voted.vote.replica voted.vote.view voted.vote.block) voted.vote.seal) _
      (itself (by.fits voted.vote.replica (vote_spelling voted.vote.replica voted.vote.view voted.vote.block) voted.vote.seal))
      (stored_decides voted.vote.block voted.vote.view)))
      (λ p. (p.0, p.1.0, p.1.1)) (λ t. (t.0, (t.1, t.2)))
  done_decides (Some (Fetch block)) = ((λ yes. tt), (λ h. refl))
  done_decides (Some (Give block)) = valid_decides block

  pub second_shows : (e : Entry) → Decides (takes by before e) (Takes by before e)
  second_shows e =
      restate (takes by before e)
      (Decides-and (is_done e.turned.reason || (is_none (arrived_by e.event) && is_none e.turned.sealed)) _
      (idle_decides (is_done e.turned.reason) (is_none (arrived_by e.event)) (is_none e.turned.sealed) (arrived_by e.event ≡ [])
      (e.turned.sealed ≡ []) (none_decides (arrived_by e.event)) (none_decides e.turned.sealed))
      (Decides-and (are_own by.replica e.turned.sealed) _
      (all_decide (λ statement. replica_named statement == by.replica) (λ statement. replica_named statement ≡ by.replica)
      (λ statement. unsigned_Decides (replica_named statement) by.replica) e.turned.sealed)
      (Decides-and (are_apart (marks_in (sealed_in (up_to before e)))) _
      (pairs_decide (λ (a b : Mark). not (mark_eq a b)) (λ a b. a ≢ b) (λ a b. Decides-not (mark_eq a b) (mark_decides a b))
      (marks_in (sealed_in (up_to before e))))
      (Decides-and (not (is_done e.turned.reason) || may_be_done by before (message_in e.event)) _
      (implies (is_done e.turned.reason) (may_be_done by before (message_in e.event)) (itself (is_done e.turned.reason)) (done_decides (message_in e.event)))
      (alone_decides before (stored_by (shown e)))))))
      (λ p. record { idle = p.0; own = p.1.0; once = p.1.1.0; done = p.1.1.1.0; alone = p.1.1.1.1 })
      (λ t. (t.idle, (t.own, (t.once, (t.done, t.alone)))))
