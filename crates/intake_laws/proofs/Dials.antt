-- The clocks of a desk only go up, and its own clock is among those that it heard of.
use Rattle.std.proofs.Common.{◌≡◌, ◌≢◌, ℕ, zero, suc, ◌<◌, ◌≤◌, ◌+◌, List, [], ◌∷◌, length, get_or, set, Bool, true, false, cond, leb, ltb, refl, ap, ◌∙◌, inl, inr, arith}
use Rattle.std.specs.Prelude.{max}
use Rattle.std.proofs.lemmas.Bool.{cases_Bool, both_ways, or_parts, leb-false}
use Rattle.std.proofs.lemmas.List.{length-set, get_or-set_same, get_or-set_other, get_or-replicate, length-replicate}
use Rattle.seq_base.specs.declared.tx.Tx.{Tx}
use Rattle.intake.specs.declared.slot.Receipt.{Receipt}
use Rattle.intake.specs.declared.slot.Slot.{Slot}
use Rattle.intake.specs.declared.slot.Taken.TheVariants.{Final, Held, Full, New}
use Rattle.intake.specs.Keys.{limit}
use Rattle.intake.specs.Desk.{Desk, opening, next_stamp, is_final, is_held, quota, charged}
use Rattle.intake.specs.Receiving.{answer_of, restore_answer, is_new, is_full, is_late, received, heard, clock_heard, clock_raised, stamped, noted, settled, restored}
use Rattle.intake.specs.Arriving.{arrived, given}
use Rattle.intake_laws.specs.Past.{Call, desk_after}

-- the clocks of a desk, with its numbers
pub record Fits (n f me : ℕ) (d : Desk) : Type 0 where
  pub n_is : d.n ≡ n
  pub f_is : d.f ≡ f
  pub me_is : d.me ≡ me
  pub clocks : length d.clocks ≡ n
  pub own : d.clock ≤ get_or d.clocks me 0
  pub below : d.clock < limit

-- a later desk
pub record Moves (n f me : ℕ) (d e : Desk) : Type 0 where
  pub fits : Fits n f me e
  pub clock : d.clock ≤ e.clock
  pub others : (i : ℕ) → i ≢ me → get_or d.clocks i 0 ≤ get_or e.clocks i 0

-- the answers to a transaction
pub new_if : (x y z : Bool) → is_new (cond x Final (cond y Held (cond z Full New))) ≡ true → (x ≡ false) × (y ≡ false) × (z ≡ false)
new_if true y z new = absurd (both_ways false refl new)
new_if false true z new = absurd (both_ways false refl new)
new_if false false true new = absurd (both_ways false refl new)
new_if false false false new = (refl, refl, refl)

not_late : (d : Desk) → is_late d ≡ false → next_stamp d < limit
not_late d early = leb-false limit (next_stamp d) early

pub new_is_early : (source : ℕ) (tx : Tx) (d : Desk) → is_new (answer_of source tx d) ≡ true → next_stamp d < limit
new_is_early source tx d new =
    let parts = new_if (is_final tx d) (is_held tx d) (is_full source d) new in
    not_late d (or_parts (leb (quota source d) (charged source d)) (is_late d) parts.2).1

pub restored_is_early : (tx : Tx) (d : Desk) → is_new (restore_answer tx d) ≡ true → next_stamp d < limit
restored_is_early tx d new = not_late d (new_if (is_final tx d) (is_held tx d) (is_late d) new).2

pub clock_next : (d : Desk) → d.clock < next_stamp d
unfolding next_stamp
clock_next d = omega arith

pub raised_at : (clocks : List ℕ) (peer c i : ℕ) → get_or clocks i 0 ≤ get_or (set clocks peer (max (get_or clocks peer 0) c)) i 0
raised_at [] peer c i = omega arith
raised_at (x ∷ xs) zero c zero = omega arith
raised_at (x ∷ xs) zero c (suc i) = omega arith
raised_at (x ∷ xs) (suc peer) c zero = omega arith
raised_at (x ∷ xs) (suc peer) c (suc i) = raised_at xs peer c i

module _ (n f me : ℕ) where
  pub stays : (d : Desk) → Fits n f me d → Moves n f me d d
  stays d fits = record { fits = fits; clock = omega arith; others = λ i other. omega arith }

  pub along : (d e g : Desk) → Moves n f me d e → Moves n f me e g → Moves n f me d g
  along d e g one two = record {
    fits = two.fits;
    clock = omega (arith, one.clock, two.clock);
    others = λ i other. omega (arith, one.others i other, two.others i other);
  }

  pub moves_raised : (d : Desk) (peer c : ℕ) → Fits n f me d → Moves n f me d (clock_raised peer c d)
  moves_raised d peer c fits = record {
    fits = record {
      n_is = fits.n_is;
      f_is = fits.f_is;
      me_is = fits.me_is;
      clocks = length-set d.clocks peer (max (get_or d.clocks peer 0) c) ∙ fits.clocks;
      own = omega (arith, fits.own, raised_at d.clocks peer c me);
      below = fits.below;
    };
    clock = omega arith;
    others = λ i other. raised_at d.clocks peer c i;
  }

  own_stamp_is : (d : Desk) (stamp : ℕ) → Fits n f me d → me < n → get_or (set d.clocks d.me stamp) me 0 ≡ stamp
  own_stamp_is d stamp fits mine =
      ap (λ (m : ℕ). get_or (set d.clocks m stamp) me 0) fits.me_is ∙ get_or-set_same d.clocks me stamp 0 (omega (arith, fits.clocks, mine))

  other_stamp_is : (d : Desk) (stamp i : ℕ) → Fits n f me d → i ≢ me → get_or (set d.clocks d.me stamp) i 0 ≡ get_or d.clocks i 0
  other_stamp_is d stamp i fits other =
      ap (λ (m : ℕ). get_or (set d.clocks m stamp) i 0) fits.me_is ∙ get_or-set_other d.clocks me i stamp 0 other

  pub moves_stamped : (d : Desk) (arrived : Bool) (source : ℕ) (tx : Tx) → Fits n f me d → me < n → next_stamp d < limit
      → Moves n f me d (stamped (next_stamp d) arrived source tx d)
  moves_stamped d arrived source tx fits mine early = record {
    fits = record {
      n_is = fits.n_is;
      f_is = fits.f_is;
      me_is = fits.me_is;
      clocks = length-set d.clocks d.me (next_stamp d) ∙ fits.clocks;
      own = omega (arith, own_stamp_is d (next_stamp d) fits mine);
      below = early;
    };
    clock = omega (arith, clock_next d);
    others = λ i other. omega (arith, other_stamp_is d (next_stamp d) i fits other);
  }

  pub moves_received : (d : Desk) (source : ℕ) (tx : Tx) → Fits n f me d → me < n → Moves n f me d (received source tx d)
  moves_received d source tx fits mine =
      elim (cases_Bool (is_new (answer_of source tx d))) [
        | inl new ↦ rw new (moves_stamped d false source tx fits mine (new_is_early source tx d new))
        | inr old ↦ rw old (stays d fits)
      ]

  pub moves_restored : (d : Desk) (tx : Tx) → Fits n f me d → me < n → Moves n f me d (restored tx d)
  moves_restored d tx fits mine =
      elim (cases_Bool (is_new (restore_answer tx d))) [
        | inl new ↦ rw new (moves_stamped d true (d.n + 1) tx fits mine (restored_is_early tx d new))
        | inr old ↦ rw old (stays d fits)
      ]

  -- what is held and what is final moves no clock
  pub same_dials : (d : Desk) (held : List (Tx × Slot)) (finals : List Tx) → Fits n f me d → Moves n f me d (record d { held = held; finals = finals })
  same_dials d held finals fits = record {
    fits = record { n_is = fits.n_is; f_is = fits.f_is; me_is = fits.me_is; clocks = fits.clocks; own = fits.own; below = fits.below };
    clock = omega arith;
    others = λ i other. omega arith;
  }

  pub moves_heard : (d : Desk) (peer : ℕ) (receipt : Receipt) → Fits n f me d → me < n → Moves n f me d (heard peer receipt d)
  moves_heard d peer receipt fits mine =
      elim (cases_Bool (ltb receipt.stamp limit)) [
        | inl low ↦
            let raise = moves_raised d peer receipt.stamp fits in
            let take = moves_received (clock_raised peer receipt.stamp d) peer receipt.tx raise.fits mine in
            rw low (along d (clock_raised peer receipt.stamp d) (noted peer receipt (received peer receipt.tx (clock_raised peer receipt.stamp d))) raise
            (along (clock_raised peer receipt.stamp d) (received peer receipt.tx (clock_raised peer receipt.stamp d))
            (noted peer receipt (received peer receipt.tx (clock_raised peer receipt.stamp d))) take
            (same_dials (received peer receipt.tx (clock_raised peer receipt.stamp d))
            (noted peer receipt (received peer receipt.tx (clock_raised peer receipt.stamp d))).held
            (received peer receipt.tx (clock_raised peer receipt.stamp d)).finals take.fits)))
        | inr high ↦ rw high (stays d fits)
      ]

  pub moves_clock : (d : Desk) (peer c : ℕ) → Fits n f me d → Moves n f me d (clock_heard peer c d)
  moves_clock d peer c fits =
      elim (cases_Bool (ltb c limit)) [
        | inl low ↦ rw low (moves_raised d peer c fits)
        | inr high ↦ rw high (stays d fits)
      ]

  pub moves_after : (d : Desk) (call : Call) → Fits n f me d → me < n → Moves n f me d (desk_after call d)
  moves_after d (Call.Receive tx source) fits mine = moves_received d source tx fits mine
  moves_after d (Call.Hear peer receipt) fits mine = moves_heard d peer receipt fits mine
  moves_after d (Call.HearClock peer clock) fits mine = moves_clock d peer clock fits
  moves_after d (Call.Settle txs) fits mine = same_dials d (settled txs d).held (settled txs d).finals fits
  moves_after d (Call.Restore tx) fits mine = moves_restored d tx fits mine
  moves_after d (Call.Arrive bound extra) fits mine = same_dials d (arrived bound extra d).held d.finals fits
  moves_after d (Call.Give tx) fits mine = same_dials d (given tx d).held d.finals fits

  pub opening_fits : me < n → Fits n f me (opening n f me)
  opening_fits mine = record {
    n_is = refl;
    f_is = refl;
    me_is = refl;
    clocks = length-replicate n 0;
    own = omega (arith, get_or-replicate {A = ℕ} n me 0 0 mine);
    below = omega arith;
  }
