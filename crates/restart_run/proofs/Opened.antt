-- A reopened replica has the state that it had.
use Rattle.std.proofs.Common.{◌≡◌, ℕ, ◌+◌, ◌≤◌, length, List, ◌++◌, drop, refl, ap, sym, subst, ◌∙◌, arith}
use Rattle.std.specs.Prelude.{All}
use Rattle.std.proofs.lemmas.Bool.Decides.{nat_tests}
use Rattle.std.proofs.lemmas.List.{drop_at, take_all}
use Rattle.seq_base.specs.Setting.{Parameters}
use Rattle.node_core.specs.Rows.{Check}
use Rattle.node_core.specs.Runs.{opening_state, state_after}
use Rattle.node_core.specs.State.{State}
use Rattle.node_core.specs.Reported.{Gives}
use Rattle.node_core.specs.declared.event.Event.{Event}
use Rattle.durable_node.specs.Check.{header_digest}
use Rattle.durable_node.specs.Header.{header_of, height_number, records_in}
use Rattle.durable_node.specs.Keeping.{Stays}
use Rattle.durable_node.specs.Log.{CanBeKept, IsWholePrefix, LogOf, log_digest, records_of}
use Rattle.durable_node.specs.Node.{IsOpened}
use Rattle.plan_text.specs.declared.plan.Plan.{Plan}
use Rattle.replica_seat.specs.Seats.{Replica}
use Rattle.replay_run.specs.Kept.{HoldsLogOf, Incarnations, Meant, events_of, header_at, keys_of}
use Rattle.restart_run.specs.Started.{IsAgain, once_more, started_again}

-- a log is read back whole, and in one way
pub record ReadsBack : Type 0 where
  pub whole : (digest : List ℕ) (events : List Event) → All CanBeKept events
      → IsWholePrefix digest (records_of digest events) events (length (records_of digest events))
  pub size : (s : Parameters) (views me height : ℕ) (keys : List ℕ) → length keys ≡ 32 → length (header_of s views me height keys) ≡ 76
  pub one : (digest log : List ℕ) (a b : List Event) (i j : ℕ) → IsWholePrefix digest log a i → IsWholePrefix digest log b j → (a ≡ b) × (i ≡ j)

length_keys : (plan : Plan) → length (keys_of plan) ≡ 32
unfolding keys_of
length_keys plan = refl

once_here : (at : ℕ) (starts : ℕ → ℕ) → once_more at starts at ≡ starts at + 1
once_here at starts = grind (arith, nat_tests)

pub again : {K : Type 0} (m : Meant K) (fits : Check) (plan : Plan) (l : Incarnations) (at : ℕ) (r : Replica) (k stopped after : K)
    (gives : Gives) (number capacity : ℕ) (keys digest : List ℕ) (now : State)
    → ReadsBack → HoldsLogOf m fits plan l at k r → number ≡ at → keys ≡ keys_of plan → gives ≡ l.gives at → capacity ≡ l.capacity
    → Stays (m.durable_size k) (m.bytes k) (m.bytes stopped) → m.openings stopped ≡ m.openings k
    → IsOpened fits gives plan.setting plan.views number (height_number plan.height) capacity keys (m.bytes stopped) (m.bytes after) digest now
    → m.durable_size after ≡ length (m.bytes after) → m.openings after ≡ m.openings stopped + 1
    → IsAgain m fits plan (started_again l at) at after digest r now
again m fits plan l at r k stopped after gives number capacity keys digest now reads kept is_number is_keys is_gives is_capacity stays
    same_openings opened durable_size openings =
    let events = events_of r.journal in
    let all : length (m.bytes k) ≤ stays.size = (let a = stays.holds in let b = kept.durable_size in omega arith) in
    let header = header_at plan at in
    let height = height_number plan.height in
    let left : m.bytes stopped ≡ header ++ LogOf header events = stays.prefix ∙ take_all stays.size (m.bytes k) all ∙ kept.log in
    let start = header_digest header in
    let records : records_in (m.bytes stopped) ≡ LogOf header events =
    ap (λ (b : List ℕ). drop 76 b) left
    ∙ drop_at header (LogOf header events) 76 (reads.size plan.setting plan.views at height (keys_of plan) (length_keys plan)) in
    let own : header_of plan.setting plan.views number height keys ≡ header =
    ap (λ (me : ℕ). header_of plan.setting plan.views me height keys) is_number
    ∙ ap (λ (ks : List ℕ). header_of plan.setting plan.views at height ks) is_keys in
    let prefix : IsWholePrefix start (LogOf header events) opened.events opened.end =
    subst (λ (log : List ℕ). IsWholePrefix start log opened.events opened.end) records
    (subst (λ (h : List ℕ). IsWholePrefix (header_digest h) (records_in (m.bytes stopped)) opened.events opened.end) own opened.prefix) in
    let read : opened.events ≡ events =
    (reads.one start (LogOf header events) opened.events events opened.end (length (LogOf header events)) prefix (reads.whole start events kept.each)).0 in
    let state : now ≡ state_after fits (l.gives at) (opening_state plan.setting plan.views at l.capacity) events =
    opened.state
    ∙ ap (λ (es : List Event). state_after fits gives (opening_state plan.setting plan.views number capacity) es) read
    ∙ ap (λ (s : Gives). state_after fits s (opening_state plan.setting plan.views number capacity) events) is_gives
    ∙ ap (λ (me : ℕ). state_after fits (l.gives at) (opening_state plan.setting plan.views me capacity) events) is_number
    ∙ ap (λ (c : ℕ). state_after fits (l.gives at) (opening_state plan.setting plan.views at c) events) is_capacity in
    record {
      state = state ∙ sym kept.state;
      kept = record {
        number = kept.number;
        gives = kept.gives;
        log = opened.kept ∙ ap (λ (h : List ℕ). h ++ LogOf h opened.events) own ∙ ap (λ (es : List Event). header ++ LogOf header es) read;
        durable_size = durable_size;
        each = kept.each;
        state = kept.state;
        starts = openings ∙ ap (λ (n : ℕ). n + 1) (same_openings ∙ kept.starts) ∙ sym (once_here at l.starts);
      };
      moved = opened.moved ∙ ap (λ (h : List ℕ). log_digest h opened.events) own ∙ ap (λ (es : List Event). log_digest header es) read;
    }
