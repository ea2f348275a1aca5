-- A view begins: a tick makes replicas call for it, the calls are delivered to its leader, which asks for orders, and
-- each replica draws its order.
use Rattle.std.proofs.Common.{◌≡◌, ℕ, suc, ◌+◌, ◌<◌, ◌≤◌, List, [], ◌∷◌, ◌++◌, length, true, false, nat_le, refl, sym, ap, ◌∙◌, arith, length-append}
use Rattle.std.specs.Prelude.{nat_eq, max, filter, if◌then◌else◌}
use Rattle.std.specs.List.{range_with_len}
use Rattle.std.proofs.lemmas.List.Sums.{length-filter}
use Rattle.seq_base.specs.declared.kinds.TheConstants.{NEW_VIEW, ASK}
use Rattle.seq_base.specs.declared.tx.Tx.{Tx}
use Rattle.seq_base.specs.declared.block.Block.{Block}
use Rattle.seq_base.specs.declared.message.Message.TheVariants as messages
use Rattle.seq_base.specs.Setting.{Parameters, leader_of, quorum_of}
use Rattle.seq_base.specs.Spelling.{call_spelling, order_spelling, message_spelling}
use Rattle.quorum_cert.specs.Certificates.{is_good}
use Rattle.wire_view.specs.Views.{Call}
use Rattle.node_core.specs.declared.event.Reason.TheVariants.{Done, OldView}
use Rattle.node_core.specs.State.{Known, Called, has_called, callers_of}
use Rattle.node_core.specs.See.{asked_for, ordering}
use Rattle.node_core.specs.Reported.{Gives, quiet, reported, to_each, sealed_to}
use Rattle.node_core.specs.Rows.{Check}
use Rattle.node_core.specs.NewView.{new_view_rows, new_view_reason, new_view_done, joined, asks, on_new_view}
use Rattle.node_core.specs.Ask.{ask_rows, ask_reason, ask_done, order_of_view, on_ask}
use Rattle.node_core.specs.Turn.{on_tick}
use Rattle.progress_laws.proofs.Chains.{IsChain, digest_at, is_stored_at}
use Rattle.progress_laws.proofs.StateSummary.{eq_yes, eq_no, lt_yes, lt_no, le_yes, le_no, passes_all, Rest, standing, state_at, higher, saw, sees, no_bad}
use Rattle.progress_laws.proofs.ProposeStep.{order_over}
use Rattle.std.proofs.lemmas.Bool.{and_from, not_from_true, or_from, or_right}

-- ---- calls of one view, from consecutive replicas

abbrev pub AreCalls : ℕ → ℕ → List Called → Type 0
AreCalls v i [] = Unit {0}
AreCalls v i (c ∷ cs) = (c.view ≡ v) × (c.replica ≡ i) × AreCalls v (suc i) cs

pub calls_more : (v i : ℕ) (cs : List Called) (r : ℕ) → AreCalls v i cs → r ≡ i + length cs → AreCalls v i (cs ++ record { view = v; replica = r } ∷ [])
calls_more v i [] r calls is = (refl, omega (arith, is), tt)
calls_more v i (c ∷ cs) r calls is = (calls.0, calls.1, calls_more v (suc i) cs r calls.2 (omega (arith, is)))

filter_calls : (v i : ℕ) (cs : List Called) → AreCalls v i cs → filter (λ c. nat_eq c.view v) cs ≡ cs
filter_calls v i [] calls = refl
filter_calls v i (c ∷ cs) calls = rw (eq_yes c.view v calls.0) (ap (λ ds. c ∷ ds) (filter_calls v (suc i) cs calls.2))

pub callers_are : (v i : ℕ) (cs : List Called) → AreCalls v i cs → callers_of cs v ≡ length cs
callers_are v i cs calls = sym (length-filter (λ (c : Called). nat_eq c.view v) cs) ∙ ap length (filter_calls v i cs calls)

pub not_called : (v i r : ℕ) (cs : List Called) → AreCalls v i cs → i + length cs ≤ r → has_called cs v r ≡ false
not_called v i r [] calls above = refl
not_called v i r (c ∷ cs) calls above =
    let other : nat_eq c.replica r ≡ false = eq_no c.replica r (λ same. omega (arith, same, calls.1, above)) in
    let this : nat_eq c.view v ≡ true = eq_yes c.view v calls.0 in
    rw (this, other) (not_called v (suc i) r cs calls.2 (omega (arith, above)))

module _ (fits : Check) (gives : Gives) (s : Parameters) (views me : ℕ) (list : List Tx) (bs : List Block) (chain : IsChain bs) where
  -- ---- a tick

  -- A replica calls for the next view.
  pub ticks : (v floor : ℕ) (rest : Rest) (made capacity : ℕ) → floor ≤ v → v < views → made < capacity
      → on_tick gives (state_at (standing s views me list bs v rest) made capacity) floor
      ≡ record {
        reported = reported (state_at (standing s views me list bs (v + 1) rest) made capacity) Done (call_spelling NEW_VIEW me (v + 1) rest.high ∷ [])
            (record {
              to = leader_of s (v + 1);
              bytes = message_spelling (messages.NewView me (v + 1) rest.high (gives made (call_spelling NEW_VIEW me (v + 1) rest.high)));
            }
            ∷ []);
        state = state_at (standing s views me list bs (v + 1) rest) (made + 1) capacity;
      }
  unfolding on_tick
  ticks v floor rest made capacity low inside room =
      let same : max v floor ≡ v = omega (arith, low) in
      rw (same, le_no views v inside, eq_no made capacity (λ e. omega (arith, e, room)))

  -- ---- calls

  -- a call for a view, with a good certificate of a stored block
  pub record IsCall (kind replica v : ℕ) (call : Call) : Type 0 where
    pub kind_is : call.kind ≡ kind
    pub own : call.replica ≡ replica
    pub view : call.view ≡ v
    pub below : call.cert.view < v
    pub stored : call.cert.view ≤ length bs
    pub block : call.cert.block ≡ digest_at bs call.cert.view
    pub good : is_good fits s call.cert ≡ true
    pub seal_fits : fits replica (call_spelling call.kind call.replica call.view call.cert) call.seal ≡ true

  module _ (v : ℕ) (some : 1 ≤ v) (inside : v ≤ views) where
    abbrev before : Rest → Known
    before rest = standing s views me list bs v rest

    module _ (replica : ℕ) (call : Call) (is : IsCall 1 replica v call) (leads : leader_of s v ≡ me) where
      -- A call after the quorum has no effect.
      pub call_late : (rest : Rest) (made capacity : ℕ) → rest.asked ≡ v
          → on_new_view fits gives (state_at (before rest) made capacity) replica call ≡ quiet (state_at (before rest) made capacity) OldView
      call_late rest made capacity asked = rw (late)
        where
          late : new_view_reason fits (before rest) replica call ≡ OldView
          late = rw (
            eq_yes call.replica replica is.own,
            lt_yes 0 call.view (omega (arith, is.view, some)),
            le_yes call.view views (omega (arith, is.view, inside)),
            eq_yes (leader_of s call.view) me (ap (leader_of s) is.view ∙ leads),
            lt_no call.view v (omega (arith, is.view)),
            or_right (nat_le call.view rest.high.view) (nat_le call.view rest.asked) (le_yes call.view rest.asked (omega (arith, is.view, asked))),
          )

      in_time : (rest : Rest) → rest.high.view < v → rest.asked < v → AreCalls v 0 rest.gathered → length rest.gathered ≤ replica
          → new_view_reason fits (before rest) replica call ≡ Done
      in_time rest high asked calls few = passes_all (new_view_rows fits (before rest) replica call) (
        not_from_true _ (eq_yes call.replica replica is.own),
        (
          not_from_true _ (and_from _ _ (lt_yes 0 call.view (omega (arith, is.view, some))) (le_yes call.view views (omega (arith, is.view, inside)))),
          (
            not_from_true _ (eq_yes _ me (ap (leader_of s) is.view ∙ leads)),
            (
              or_from _ _ (lt_no call.view v (omega (arith, is.view)))
                  (or_from _ _ (le_no call.view rest.high.view (omega (arith, is.view, high)))
                  (le_no call.view rest.asked (omega (arith, is.view, asked)))),
              (
                not_from_true _ is.seal_fits,
                (
                  no_bad s views me list bs chain fits (before rest) call.cert call.view refl refl
                      (omega (arith, is.view, is.below)) is.stored is.block is.good,
                  (
                    not_from_true _ (rw is.block (is_stored_at bs chain call.cert.view is.stored)),
                    (
                      rw is.view (not_called v 0 replica rest.gathered calls (omega (arith, few))),
                      tt,
                    ),
                  ),
                ),
              ),
            ),
          ),
        ),
      )

      abbrev pub after_call : Rest → Rest
      after_call rest = record (saw call.cert rest) { gathered = rest.gathered ++ record { view = v; replica = replica } ∷ [] }

      joins : (rest : Rest) → rest.high.view ≤ call.cert.view → joined replica call (before rest) ≡ before (after_call rest)
      joins rest high =
          ap (λ (k : Known). record k { gathered = k.gathered ++ record { view = call.view; replica = replica } ∷ [] })
          (sees s views me list bs chain v rest call.cert (omega (arith, is.below)) is.stored is.block high)
          ∙ ap (λ (x : ℕ). record (before (saw call.cert rest)) { gathered = rest.gathered ++ record { view = x; replica = replica } ∷ [] }) is.view

      many : (rest : Rest) → AreCalls v 0 rest.gathered → length rest.gathered ≡ replica → callers_of (after_call rest).gathered v ≡ length rest.gathered + 1
      many rest calls turn =
          callers_are v 0 (after_call rest).gathered (calls_more v 0 rest.gathered replica calls (omega (arith, turn)))
          ∙ length-append rest.gathered (record { view = v; replica = replica } ∷ [])

      -- A call that does not complete the quorum is stored.
      pub call_kept : (rest : Rest) (made capacity : ℕ) → rest.high.view ≤ call.cert.view → rest.asked < v → AreCalls v 0 rest.gathered
          → length rest.gathered ≡ replica
          → length rest.gathered + 1 < quorum_of s
          → on_new_view fits gives (state_at (before rest) made capacity) replica call ≡ quiet (state_at (before (after_call rest)) made capacity) Done
      unfolding new_view_done
      call_kept rest made capacity high asked calls turn few =
          rw (in_time rest (omega (arith, high, is.below)) asked calls (omega (arith, turn)))
          (ap (λ (k : Known). if nat_eq (callers_of k.gathered call.view) (quorum_of k.setting)
          then asks gives (state_at (asked_for call.view k) made capacity) else quiet (state_at k made capacity) Done)
          (joins rest high)
          ∙ rw (is.view, many rest calls turn, eq_no (length rest.gathered + 1) (quorum_of s) (λ same. omega (arith, same, few))))

      abbrev pub after_asking : Rest → Rest
      after_asking rest = record (after_call rest) { asked = v; ask_cert = higher rest.high call.cert; orders = [] }

      -- The call that completes the quorum: the leader asks.
      pub call_last : (rest : Rest) (made capacity : ℕ) → rest.high.view ≤ call.cert.view → rest.asked < v → AreCalls v 0 rest.gathered
          → length rest.gathered ≡ replica
          → length rest.gathered + 1 ≡ quorum_of s → made < capacity
          → on_new_view fits gives (state_at (before rest) made capacity) replica call
          ≡ record {
            reported = reported (state_at (before (after_asking rest)) made capacity) Done (call_spelling ASK me v (higher rest.high call.cert) ∷ [])
                (to_each (range_with_len 0 s.n)
                (message_spelling (messages.Ask me v (higher rest.high call.cert) (gives made (call_spelling ASK me v (higher rest.high call.cert))))));
            state = state_at (before (after_asking rest)) (made + 1) capacity;
          }
      unfolding new_view_done
      call_last rest made capacity high asked calls turn all room =
          rw (in_time rest (omega (arith, high, is.below)) asked calls (omega (arith, turn)))
          (ap (λ (k : Known). if nat_eq (callers_of k.gathered call.view) (quorum_of k.setting)
          then asks gives (state_at (asked_for call.view k) made capacity) else quiet (state_at k made capacity) Done)
          (joins rest high)
          ∙ rw (is.view, many rest calls turn, eq_yes (length rest.gathered + 1) (quorum_of s) all, eq_no made capacity (λ same. omega (arith, same, room))))

    module _ (leader : ℕ) (call : Call) (is : IsCall 2 leader v call) (leads : leader ≡ leader_of s v) where
      to_be_drawn : (rest : Rest) → rest.high.view < v → rest.ordered < v → ask_reason fits (before rest) leader call ≡ Done
      to_be_drawn rest high ordered = passes_all (ask_rows fits (before rest) leader call) (
        not_from_true _ (eq_yes call.replica leader is.own),
        (
          not_from_true _ (and_from _ _ (lt_yes 0 call.view (omega (arith, is.view, some))) (le_yes call.view views (omega (arith, is.view, inside)))),
          (
            not_from_true _ (eq_yes leader _ (leads ∙ ap (leader_of s) (sym is.view))),
            (
              or_from _ _ (lt_no call.view v (omega (arith, is.view))) (le_no call.view rest.high.view (omega (arith, is.view, high))),
              (
                not_from_true _ is.seal_fits,
                (
                  no_bad s views me list bs chain fits (before rest) call.cert call.view refl refl
                      (omega (arith, is.view, is.below)) is.stored is.block is.good,
                  (
                    not_from_true _ (rw is.block (is_stored_at bs chain call.cert.view is.stored)),
                    (
                      le_no call.view rest.ordered (omega (arith, is.view, ordered)),
                      tt,
                    ),
                  ),
                ),
              ),
            ),
          ),
        ),
      )

      abbrev pub after_drawing : Rest → Rest
      after_drawing rest = record (saw call.cert rest) { ordered = v }

      -- A replica that is asked sends its order.
      pub draws : (rest : Rest) (made capacity : ℕ) → rest.high.view ≤ call.cert.view → rest.ordered < v → made < capacity
          → on_ask fits gives (state_at (before rest) made capacity) leader call
          ≡ record {
            reported = reported (state_at (before (after_drawing rest)) made capacity) Done (order_spelling (order_over s me v list bs call.cert.block) ∷ [])
                (record {
                  to = leader;
                  bytes = message_spelling (messages.Order
                      (record {
                        order = order_over s me v list bs call.cert.block;
                        seal = gives made (order_spelling (order_over s me v list bs call.cert.block));
                      }));
                } ∷ []);
            state = state_at (before (after_drawing rest)) (made + 1) capacity;
          }
      unfolding ask_done
      draws rest made capacity high ordered room =
          rw (to_be_drawn rest (omega (arith, high, is.below)) ordered)
          (ap (λ (k : Known). sealed_to gives (state_at (ordering call.view k) made capacity)
          (order_spelling (order_of_view (ordering call.view k) call.view call.cert.block)) (leader ∷ []))
          (sees s views me list bs chain v rest call.cert (omega (arith, is.below)) is.stored is.block high)
          ∙ rw (is.view, eq_no made capacity (λ same. omega (arith, same, room))))
