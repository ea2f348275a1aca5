-- Loops that take one seat or one sealer after another.
use Rattle.std.proofs.Common.{◌≡◌, ◌<◌, List, [], ◌∷◌, ◌++◌, length, get_or, map, sym, subst, ◌∙◌, ap, arith, append_assoc, All}
use Rattle.std.specs.Prelude.{remove}
use Rattle.std.proofs.lemmas.List.{map-append}
use Rattle.std.proofs.lemmas.List.Elements.{All-append, All-cons, All-nil}
use Rattle.node_core.specs.declared.entry.Entry.{Entry}
use Rattle.run_record.specs.declared.record.Journal.{Journal}
use Rattle.replica_seat.specs.Seats.{AreReadable}

-- one seat more, for the first sealer that is left
pub seated_more : {A B S : Type 0} (shown : A → B) (fresh : S → B) (seats : List A) (seat : A) (sealers left : List S) (sealer : S) (whole : List B)
    → 0 < length sealers → sealer ≡ get_or sealers 0 sealer → left ≡ remove sealers 0 → shown seat ≡ fresh sealer
    → map shown seats ++ map fresh sealers ≡ whole
    → map shown (seats ++ seat ∷ []) ++ map fresh left ≡ whole
seated_more shown fresh seats seat [] left sealer whole some first rest made all = absurd (omega (arith, some))
seated_more shown fresh seats seat (s ∷ sealers) left sealer whole some first rest made all =
    rw (rest, map-append shown seats (seat ∷ []), made, first) (append_assoc (map shown seats) (fresh s ∷ []) (map fresh sealers) ∙ all)

-- one journal more that reads as can be written
pub readable_more : (js more : List Journal) (j : Journal) (journal : List Entry) → more ≡ js ++ j ∷ [] → j.entries ≡ journal
    → All (λ j. AreReadable j.entries) js → AreReadable journal → All (λ j. AreReadable j.entries) more
readable_more js more j journal are is before this =
    let read : Journal → Type 0 = λ k. AreReadable k.entries in
    subst (All read) (sym are) (All-append read js (j ∷ []) before (All-cons read j [] (subst AreReadable (sym is) this) (All-nil read)))

-- the first seat that is left is taken
pub seat_taken : {A B : Type 0} (f : A → B) (done more : List B) (one : B) (left rest : List A) (seat : A) (whole : List B)
    → more ≡ done ++ one ∷ [] → one ≡ f seat → left ≡ seat ∷ rest → done ++ map f left ≡ whole → more ++ map f rest ≡ whole
seat_taken f done more one left rest seat whole is shown taken all =
    rw (is, shown) (append_assoc done (f seat ∷ []) (map f rest) ∙ ap (λ l. done ++ map f l) (sym taken) ∙ all)
