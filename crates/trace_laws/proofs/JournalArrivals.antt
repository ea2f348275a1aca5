-- The arrivals of each entry of a lawful journal are a part of the arrival list.
use Rattle.std.proofs.Common.{◌≡◌, ◌≢◌, ◌∙◌, ◌<◌, ◌+◌, ◌^◌, ℕ, true, List, [], ◌∷◌, ◌++◌, length, take, drop, get_or, refl, sym, ap, subst, append_assoc, arith}
use Rattle.std.specs.Prelude.{All, ⊤}
use Rattle.std.specs.List.{AllPairs}
use Rattle.std.proofs.lemmas.Grind.{flat_map-append}
use Rattle.std.proofs.lemmas.List.{append-nil, get_or_append_left, get_or-append-add, length-append, take-append-drop}
use Rattle.std.proofs.lemmas.List.Elements.{All-cons, All-nil, recursion_from_All}
use Rattle.seq_base.specs.declared.tx.Tx.{Tx}
use Rattle.seq_base.specs.Tx.{FitsTx}
use Rattle.agreement_laws.specs.Lawful.{EachEntry}
use Rattle.node_core.specs.declared.event.Event.{Event}
use Rattle.node_core.specs.declared.event.Event.TheVariants.{Arrived, Deliver, Tick}
use Rattle.node_core.specs.declared.entry.Entry.{Entry}
use Rattle.journal_rules.specs.JournalPrefixes.{arrived_by, arrived_in}
use Rattle.journal_rules.specs.Rules.{IsLawful, Knows, Scale, up_to}
use Rattle.replica_seat.specs.Arrivals.{IsArrivalList}
use Rattle.trace_form.specs.Fitting.{FitsList}
use Rattle.trace_laws.proofs.Lengths.{of_first, of_rest}

-- ---- a part of a list

module _ {X : Type 0} (xs ys zs : List X) where
  -- an item of the part is one of the whole
  at_part : (i : ℕ) (d : X) → i < length ys → get_or (xs ++ (ys ++ zs)) (length xs + i) d ≡ get_or ys i d
  at_part i d inside = get_or-append-add xs (ys ++ zs) i d ∙ get_or_append_left ys zs d i inside

  inside_all : (i : ℕ) → i < length ys → length xs + i < length (xs ++ (ys ++ zs))
  inside_all i inside =
      let size : length (xs ++ (ys ++ zs)) ≡ length xs + length (ys ++ zs) = length-append xs (ys ++ zs) in
      omega (arith, size, inside, of_first ys zs)

  all_part : (P : X → Type 0) → All P (xs ++ (ys ++ zs)) → All P ys
  all_part P all i d inside = subst P (at_part i d inside) (all (length xs + i) d (inside_all i inside))

  pairs_part : (R : X → X → Type 0) → AllPairs R (xs ++ (ys ++ zs)) → AllPairs R ys
  pairs_part R all i j d less inside =
      subst (λ (x : X). R x (get_or ys j d)) (at_part i d (omega (arith, less, inside)))
      (subst (R (get_or (xs ++ (ys ++ zs)) (length xs + i) d)) (at_part j d inside)
      (all (length xs + i) (length xs + j) d (omega (arith, less)) (inside_all j inside)))

pub part_fits : (txs before list after : List Tx) → txs ≡ before ++ (list ++ after) → IsArrivalList txs → FitsList true list
part_fits txs before list after is arrivals =
    let whole : IsArrivalList (before ++ (list ++ after)) = subst IsArrivalList is arrivals in
    record {
      few = omega (arith, of_rest before (list ++ after), of_first list after, whole.few);
      each = recursion_from_All FitsTx list (all_part before list after FitsTx whole.each);
      apart = λ yes. pairs_part before list after (λ u v. u ≢ v) whole.distinct;
    }

-- ---- the entries of a lawful journal

abbrev pub ArrivesFitly : Event → Type 0
ArrivesFitly (Arrived list) = FitsList true list
ArrivesFitly (Deliver from bytes) = ⊤
ArrivesFitly (Tick floor) = ⊤

-- the arrivals of an entry are within the fields
pub record IsHeard (e : Entry) : Type 0 where
  pub event : ArrivesFitly e.event
  pub kept : e.turned.kept < 2 ^ 32

heard : (by : Scale) (before : List Entry) (e : Entry) → IsArrivalList by.arrivals → Knows by before e → IsHeard e
heard by before e arrivals knows = record {
  event = by_event e.event (part_fits by.arrivals (arrived_in before) (arrived_by e.event) (drop e.turned.kept by.arrivals) split arrivals);
  kept =
      let size : length (take e.turned.kept by.arrivals ++ drop e.turned.kept by.arrivals) ≡ length by.arrivals =
      ap length (take-append-drop e.turned.kept by.arrivals) in
      let same : length (arrived_in (up_to before e)) ≡ length (take e.turned.kept by.arrivals) = ap length knows.first in
      omega (arith, knows.all, same, of_first (take e.turned.kept by.arrivals) (drop e.turned.kept by.arrivals), size, arrivals.few);
}
  where
    by_event : (event : Event) → FitsList true (arrived_by event) → ArrivesFitly event
    by_event (Arrived list) fits = fits
    by_event (Deliver from bytes) fits = tt
    by_event (Tick floor) fits = tt

    split : by.arrivals ≡ arrived_in before ++ (arrived_by e.event ++ drop e.turned.kept by.arrivals)
    split =
        sym (take-append-drop e.turned.kept by.arrivals)
        ∙ ap (λ (txs : List Tx). txs ++ drop e.turned.kept by.arrivals)
        (sym knows.first ∙ flat_map-append (λ (x : Entry). arrived_by x.event) before (e ∷ [])
        ∙ ap (λ (txs : List Tx). arrived_in before ++ txs) (append-nil (arrived_by e.event)))
        ∙ append_assoc (arrived_in before) (arrived_by e.event) (drop e.turned.kept by.arrivals)

-- each entry of a list that follows some
each_after : (P : Entry → Type 0) (Q : List Entry → Entry → Type 0) → ((before : List Entry) (e : Entry) → Q before e → P e)
    → (journal before es : List Entry) → journal ≡ before ++ es → EachEntry Q journal → All P es
each_after P Q so journal before [] is each = All-nil P
each_after P Q so journal before (e ∷ es) is each =
    All-cons P e es (so before e (each before e es is))
    (each_after P Q so journal (before ++ e ∷ []) es (is ∙ sym (append_assoc before (e ∷ []) es)) each)

pub all_heard : (by : Scale) (journal : List Entry) → IsArrivalList by.arrivals → IsLawful by journal → All IsHeard journal
all_heard by journal arrivals lawful =
    each_after IsHeard (λ before e. Knows by before e) (λ before e knows. heard by before e arrivals knows) journal [] journal refl
    (λ before e after is. lawful before e after is 1)
