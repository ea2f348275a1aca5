-- The marks of a state, one for each kind of statement, which increase with what is sealed.
use Rattle.std.proofs.Common.{◌≡◌, ℕ, ◌+◌, ◌^◌, ◌<◌, ◌≤◌, List, [], ◌∷◌, ◌++◌, take, drop, Bool, true, false, refl, ap, ◌∙◌, arith, if◌then◌else◌}
use Rattle.std.specs.Int.{w8, w32, from_be_bytes, to_be_bytes}
use Rattle.std.proofs.lemmas.List.{take_at, drop_at}
use Rattle.std.proofs.lemmas.Nat.{from_be_bytes-to_be_bytes_4}
use Rattle.seq_base.specs.declared.kinds.TheConstants.{NEW_VIEW, ASK, ORDER, PROPOSE, VOTE}
use Rattle.seq_base.specs.declared.tx.Tx.{Tx}
use Rattle.seq_base.specs.declared.digest.Digest.{Digest}
use Rattle.seq_base.specs.declared.block.Cert.{Cert}
use Rattle.seq_base.specs.declared.order.SealedOrder.{SealedOrder}
use Rattle.seq_base.specs.Spelling.{call_spelling, order_spelling, propose_spelling, vote_spelling}
use Rattle.node_core.specs.State.{Known, State}
use Rattle.node_core.specs.Reported.{Gives, Outcome, sealed_to, is_spent}
use Rattle.journal_laws.specs.Sealed.{views_of, Rise}

-- ---- ascending views

pub within : (low high : ℕ) (vs : List ℕ) → Rise low vs high → low ≤ high
within low high [] rise = rise
within low high (v ∷ vs) rise = omega (arith, rise.0, within v high vs rise.1)

pub rise_on : (low mid high : ℕ) (vs ws : List ℕ) → Rise low vs mid → Rise mid ws high → Rise low (vs ++ ws) high
rise_on low mid high [] ws first next = from low mid ws first next
  where
    from : (low mid : ℕ) (ws : List ℕ) → low ≤ mid → Rise mid ws high → Rise low ws high
    from low mid [] below rise = omega (arith, below, rise)
    from low mid (w ∷ ws) below rise = (omega (arith, below, rise.0), rise.1)
rise_on low mid high (v ∷ vs) ws first next = (first.0, rise_on v mid high vs ws first.1 next)

-- ---- the view of a statement

pub view_read : (me view : ℕ) (rest : List ℕ) → view < 2 ^ 32 → from_be_bytes w32 (take 4 (drop 1 (to_be_bytes w8 me ++ to_be_bytes w32 view ++ rest))) ≡ view
view_read me view rest small =
    ap (λ (xs : List ℕ). from_be_bytes w32 (take 4 xs)) (drop_at (to_be_bytes w8 me) (to_be_bytes w32 view ++ rest) 1 refl)
    ∙ ap (from_be_bytes w32) (take_at (to_be_bytes w32 view) rest 4 refl)
    ∙ from_be_bytes-to_be_bytes_4 view small

-- ---- what a turn does to the marks

pub record InBounds (s : Known) : Type 0 where
  pub ordered : s.ordered ≤ s.view
  pub proposed : s.proposed ≤ s.asked
  pub view : s.view ≤ s.views
  pub asked : s.asked ≤ s.views
  pub voted : s.safety.voted ≤ s.views
  pub wide : s.views < 2 ^ 32

-- Statements were sealed between two states: for each kind the views ascend from its mark before to its mark after.
pub record Seals (s : Known) (sealed : List (List ℕ)) (t : Known) : Type 0 where
  pub bounds : InBounds t
  pub views : t.views ≡ s.views
  pub calls : Rise s.view (views_of NEW_VIEW sealed) t.view
  pub asks : Rise s.asked (views_of ASK sealed) t.asked
  pub orders : Rise s.ordered (views_of ORDER sealed) t.ordered
  pub proposals : Rise s.proposed (views_of PROPOSE sealed) t.proposed
  pub votes : Rise s.safety.voted (views_of VOTE sealed) t.safety.voted

abbrev pub SealsIn : Known → Outcome → Type 0
SealsIn s o = Seals s o.reported.sealed o.state.known

-- the marks alone
pub forget : (s : Known) (sealed : List (List ℕ)) (t : Known) → Seals s sealed t → Seals s [] t
forget s sealed t h = record {
  bounds = h.bounds;
  views = h.views;
  calls = within s.view t.view (views_of NEW_VIEW sealed) h.calls;
  asks = within s.asked t.asked (views_of ASK sealed) h.asks;
  orders = within s.ordered t.ordered (views_of ORDER sealed) h.orders;
  proposals = within s.proposed t.proposed (views_of PROPOSE sealed) h.proposals;
  votes = within s.safety.voted t.safety.voted (views_of VOTE sealed) h.votes;
}

pub if_seals : (old : Known) (b : Bool) (x y : Outcome) → SealsIn old x → SealsIn old y → SealsIn old (if b then x else y)
if_seals old true x y p q = p
if_seals old false x y p q = q

-- what is sealed, if anything is
pub one_sealed : (old : Known) (gives : Gives) (s : State) (statement receivers : List ℕ) → Seals old (statement ∷ []) s.known
    → SealsIn old (sealed_to gives s statement receivers)
one_sealed old gives s statement receivers h = if_seals old (is_spent s) _ _ (forget old (statement ∷ []) s.known h) h

-- ---- the marks of two states

-- no mark decreases
pub record Goes (s t : Known) : Type 0 where
  pub bounds : InBounds t
  pub views : t.views ≡ s.views
  pub view : s.view ≤ t.view
  pub asked : s.asked ≤ t.asked
  pub ordered : s.ordered ≤ t.ordered
  pub proposed : s.proposed ≤ t.proposed
  pub voted : s.safety.voted ≤ t.safety.voted

pub nothing : (s t : Known) → Goes s t → Seals s [] t
nothing s t h = record { bounds = h.bounds; views = h.views; calls = h.view; asks = h.asked; orders = h.ordered; proposals = h.proposed; votes = h.voted }

module _ (s t : Known) (me view : ℕ) (small : view < 2 ^ 32) (h : Goes s t) where
  pub a_call : (cert : Cert) → s.view < view → view ≤ t.view → Seals s (call_spelling NEW_VIEW me view cert ∷ []) t
  a_call cert above below = record {
    bounds = h.bounds;
    views = h.views;
    calls = rw (view_read me view _ small) (above, below);
    asks = h.asked;
    orders = h.ordered;
    proposals = h.proposed;
    votes = h.voted;
  }

  pub an_ask : (cert : Cert) → s.asked < view → view ≤ t.asked → Seals s (call_spelling ASK me view cert ∷ []) t
  an_ask cert above below = record {
    bounds = h.bounds;
    views = h.views;
    asks = rw (view_read me view _ small) (above, below);
    calls = h.view;
    orders = h.ordered;
    proposals = h.proposed;
    votes = h.voted;
  }

  pub an_order : (parent : Digest) (fresh late : List Tx) → s.ordered < view → view ≤ t.ordered
      → Seals s (order_spelling (record { replica = me; view = view; parent = parent; fresh = fresh; late = late }) ∷ []) t
  an_order parent fresh late above below = record {
    bounds = h.bounds;
    views = h.views;
    orders = rw (view_read me view _ small) (above, below);
    calls = h.view;
    asks = h.asked;
    proposals = h.proposed;
    votes = h.voted;
  }

  pub a_proposal : (cert : Cert) (orders : List SealedOrder) → s.proposed < view → view ≤ t.proposed
      → Seals s (propose_spelling me (record { view = view; cert = cert; orders = orders }) ∷ []) t
  a_proposal cert orders above below = record {
    bounds = h.bounds;
    views = h.views;
    proposals = rw (view_read me view _ small) (above, below);
    calls = h.view;
    asks = h.asked;
    orders = h.ordered;
    votes = h.voted;
  }

  pub a_vote : (block : Digest) → s.safety.voted < view → view ≤ t.safety.voted → Seals s (vote_spelling me view block ∷ []) t
  a_vote block above below = record {
    bounds = h.bounds;
    views = h.views;
    votes = rw (view_read me view _ small) (above, below);
    calls = h.view;
    asks = h.asked;
    orders = h.ordered;
    proposals = h.proposed;
  }

  -- with the order that it carries
  pub with_order : (block parent : Digest) (fresh late : List Tx) → s.safety.voted < view → view ≤ t.safety.voted → view + 1 < 2 ^ 32
      → s.ordered < view + 1 → view + 1 ≤ t.ordered
      → Seals s (vote_spelling me view block ∷ order_spelling (record { replica = me; view = view + 1; parent = parent; fresh = fresh; late = late }) ∷ []) t
  with_order block parent fresh late above below wide above_ordered below_ordered = record {
    bounds = h.bounds;
    views = h.views;
    votes = rw (view_read me view _ small) (above, below);
    orders = rw (view_read me (view + 1) _ wide) (above_ordered, below_ordered);
    calls = h.view;
    asks = h.asked;
    proposals = h.proposed;
  }
