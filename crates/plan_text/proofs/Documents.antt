-- The accessors of a value agree with what it is read as.
use Rattle.std.proofs.Common.{◌≡◌, ◌<◌, ℕ, zero, suc, Bool, true, Bor, length, get_or, arith, List, [], ◌∷◌, map, find, Some, None, Ok, Err, option_map, String, Global, string_bytes, refl, ap, inl, inr}
use Rattle.std.proofs.Math.Bool.{or-true}
use Rattle.std.proofs.lemmas.Bool.{cases_Bool}
use Rattle.std.specs.Str.{bytes_eq}
use Rattle.std.specs.Map.{keys_of}
use Rattle.toml.specs.Data.{Data, Members, as_array, string, integer, float, boolean, datetime, array, table}
use Rattle.toml.specs.View.{view, items_of, items_view, members_view}
use Rattle.toml.specs.declared.value.Value.{Value}
use Rattle.toml.proofs.Views.{Entry}
use Rattle.plan_text.specs.Fields.{is_named, keys_in}
use Rattle.toml.specs.Parse.{parse_document}
use Rattle.std.specs.Str.{IsUtf8, is_utf8}
use Rattle.std.proofs.lemmas.Str.{is_utf8-from_IsUtf8, IsUtf8-from_is_utf8}
use Rattle.plan_text.specs.declared.fault.FaultKind.TheVariants.{NotToml}
use Rattle.plan_text.specs.Plans.{document_in}
use Rattle.plan_text.specs.Values.{values_of, array_in, word_in, tx_in, tx_or_range}
use Rattle.plan_text.specs.TxTexts.{tx_of_text}

values_of-items_of : (ds : List Data) → values_of (items_of ds) ≡ ds
values_of-items_of [] = refl
values_of-items_of (d ∷ ds) = ap (λ (rest : List Data). d ∷ rest) (values_of-items_of ds)

pub array_in-view : (d : Data) (vs : List Value) → Some (items_view vs) ≡ as_array d → array_in d ≡ Ok (map view vs)
array_in-view (array ds) vs same = let found : items_view vs ≡ ds = cc in rw (← found, values_of-items_of (map view vs))
array_in-view (string s) vs same = cc
array_in-view (integer z) vs same = cc
array_in-view (float x) vs same = cc
array_in-view (boolean b) vs same = cc
array_in-view (datetime t) vs same = cc
array_in-view (table ms) vs same = cc

pub tx_in-word : (d : Data) (s : List ℕ) → word_in d ≡ Ok s → tx_in d ≡ tx_or_range (tx_of_text s)
tx_in-word (string s) t same = let found : s ≡ t = cc in rw found
tx_in-word (array ds) t same = cc
tx_in-word (integer z) t same = cc
tx_in-word (float x) t same = cc
tx_in-word (boolean b) t same = cc
tx_in-word (datetime d) t same = cc
tx_in-word (table ms) t same = cc

-- the first key of a map that passes a test of its bytes
pub find-keys_in : (p : List ℕ → Bool) (es : List Entry)
    → find p (keys_in (members_view es)) ≡ option_map string_bytes (find (λ (k : String Global). p (string_bytes k)) (keys_of es))
find-keys_in p [] = refl
find-keys_in p (e ∷ es) =
    elim (cases_Bool (p (string_bytes e.0))) [
      | inl yes' ↦ rw yes'
      | inr no' ↦ rw (no', find-keys_in p es)
    ]

-- a name that is the key is among the names
pub is_named-at : (names : List (Bor (List ℕ))) (key : List ℕ) (i : ℕ) (d : Bor (List ℕ)) → i < length names
    → bytes_eq (get_or names i d).now key ≡ true → is_named (map (λ name. name.now) names) key ≡ true
is_named-at [] key i d within same = absurd (omega arith)
is_named-at (n ∷ names) key zero d within same = rw same
is_named-at (n ∷ names) key (suc i) d within same = rw (is_named-at names key i d (omega arith) same, or-true (bytes_eq n.now key))

-- a document is present where the bytes are text and TOML, and else is refused
pub document_in-ok : (bytes : List ℕ) (members : Members) → IsUtf8 bytes → parse_document bytes ≡ Some members → document_in bytes ≡ Ok members
document_in-ok bytes members text is = rw (is_utf8-from_IsUtf8 bytes text, is)

pub document_in-err : (bytes : List ℕ) → (IsUtf8 bytes → parse_document bytes ≡ None) → document_in bytes ≡ Err (record { kind = NotToml; key = [] })
document_in-err bytes none =
    elim (cases_Bool (is_utf8 bytes)) [
      | inl text ↦ rw (text, none (IsUtf8-from_is_utf8 bytes text))
      | inr other ↦ rw other
    ]
