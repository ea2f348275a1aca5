-- A text of the grammar is read, and what is read is a text of the grammar.
use Rattle.std.proofs.Common.{◌≡◌, ℕ, zero, suc, ◌+◌, ◌<◌, ◌≤◌, true, List, [], ◌∷◌, ◌++◌, length, map, codes, Option, Some, None, Ok, refl, sym, ap, ◌∙◌, subst, arith, inl, inr, append_assoc}
use Rattle.std.specs.List.{AllByRecursion, join_with_byte}
use Rattle.std.specs.Fmt.{decimal}
use Rattle.std.specs.Str.{bytes_eq}
use Rattle.std.specs.Prelude.{nat_lt}
use Rattle.std.proofs.lemmas.Bool.{cases_Bool, lt-ltb, ltb-true}
use Rattle.std.proofs.lemmas.List.{append-nil, length-append}
use Rattle.std.proofs.lemmas.Option.{option_and_then_some}
use Rattle.std.proofs.lemmas.Slice.Eq.{bytes_eq-Decides}
use Rattle.seq_base.specs.declared.tx.Tx.{Tx}
use Rattle.seq_base.specs.Tx.{tx_text, FitsTx}
use Rattle.seq_base.specs.Setting.{Parameters, parameters, IsValid, quorum_of}
use Rattle.plan_text.specs.declared.order.OrderText.{OrderText}
use Rattle.plan_text.specs.Head.{setting_of, settled}
use Rattle.plan_text.specs.TxTexts.{tx_of_text}
use Rattle.plan_text.specs.OrderGrammar.{setting_words, order_words, line_of, text_of, order_text_of, IsLocalOrder, AreOrders}
use Rattle.plan_text.specs.OrderReading.{cut_at, line_at, of_form, words_in, number_of_text, numbers_of, parameters_in, setting_in, next_tx, txs_after, txs_in, are_distinct, once, order_in, ended, lists_after, make_order_text, read_orders}
use Rattle.plan_text.proofs.Cuts.{Lacks, cut_at-byte, cut_at-is, split-join, join-split}
use Rattle.plan_text.proofs.Distinct.{distinct_reported, distinct_tested}
use Rattle.plan_text.proofs.ReadSteps.{read_first}
use Rattle.plan_text.proofs.Settled.{settled_valid, valid_settled, narrow}
use Rattle.plan_text.proofs.TxTexts.{tx_of_text-text, text_of_tx}
use Rattle.plan_text.proofs.Words.{IsWord, word_lacks, decimals_are_words, txs_are_words, number_of_text-decimal, decimal_of_number}

formed : {X : Type 0} (number : ℕ) (found : Option X) (x : X) → of_form number found ≡ Ok x → found ≡ Some x
formed number (Some y) x is = cc
formed number None x is = absurd (cc)

-- Lines.

line_is : (number : ℕ) (text : List ℕ) (found : List ℕ × List ℕ) → line_at number text ≡ Ok found → text ≡ found.0 ++ 10 ∷ found.1
line_is number [] found is = absurd (cc)
line_is number (b ∷ bs) found is = cut_at-is 10 (b ∷ bs) found (formed number _ found is)

cut_is_line : (number : ℕ) (text : List ℕ) (found : List ℕ × List ℕ) → cut_at 10 text ≡ Some found → line_at number text ≡ Ok found
cut_is_line number [] found is = absurd (cc)
cut_is_line number (b ∷ bs) found is = rw is refl

line_is_read : (number : ℕ) (line rest : List ℕ) → Lacks 10 line → line_at number (line ++ 10 ∷ rest) ≡ Ok (line, rest)
line_is_read number line rest lacks = cut_is_line number (line ++ 10 ∷ rest) (line, rest) (cut_at-byte 10 line rest lacks)

-- words with no line feed, joined by spaces, have none
lacks-append : (byte : ℕ) (xs ys : List ℕ) → Lacks byte xs → Lacks byte ys → Lacks byte (xs ++ ys)
lacks-append byte [] ys a b = b
lacks-append byte (x ∷ xs) ys a b = (a.0, lacks-append byte xs ys a.1 b)

no_line_feed : (words : List (List ℕ)) → AllByRecursion IsWord words → Lacks 10 (line_of words)
no_line_feed [] all = tt
no_line_feed (word ∷ []) all = word_lacks 10 word (omega arith) all.0
no_line_feed (word ∷ next ∷ words) all =
    lacks-append 10 word (32 ∷ line_of (next ∷ words)) (word_lacks 10 word (omega arith) all.0)
    ((λ same. absurd (omega (arith, same))), no_line_feed (next ∷ words) all.1)

words_lack : (words : List (List ℕ)) → AllByRecursion IsWord words → AllByRecursion (Lacks 32) words
words_lack [] all = tt
words_lack (word ∷ words) all = (word_lacks 32 word (omega arith) all.0, words_lack words all.1)

words_are_read : (word : List ℕ) (words : List (List ℕ)) → IsWord word → AllByRecursion IsWord words → words_in (line_of (word ∷ words)) ≡ word ∷ words
words_are_read word words first all = split-join 32 word words (word_lacks 32 word (omega arith) first) (words_lack words all)

line_is_spelled : (line : List ℕ) (words : List (List ℕ)) → words_in line ≡ words → line ≡ line_of words
line_is_spelled line words is = sym (join-split 32 line) ∙ ap (join_with_byte 32) is

-- The line of a setting.

setting_is_word : IsWord (codes "setting")
setting_is_word = (omega arith, (omega arith, (omega arith, (omega arith, (omega arith, (omega arith, (omega arith, tt)))))))

order_is_word : IsWord (codes "order")
order_is_word = (omega arith, (omega arith, (omega arith, (omega arith, (omega arith, tt)))))

setting_words_are_words : (s : Parameters) → IsValid s → AllByRecursion IsWord (setting_words s)
setting_words_are_words s valid =
    let small = narrow s valid in (
      setting_is_word,
      (
        decimals_are_words s.n (omega (arith, small.0)),
        (
          decimals_are_words s.f (omega (arith, small.1)),
          (decimals_are_words s.p (omega (arith, small.2)), (decimals_are_words s.q (omega (arith, small.3)), tt)),
        ),
      ),
    )

parameters_are_read : (s : Parameters) → IsValid s → parameters_in (setting_words s) ≡ Some s
parameters_are_read s valid =
    let small = narrow s valid in
    rw (number_of_text-decimal s.n small.0, number_of_text-decimal s.f small.1, number_of_text-decimal s.p small.2, number_of_text-decimal s.q small.3) refl

setting_is_read : (s : Parameters) → IsValid s → setting_in (line_of (setting_words s)) ≡ Ok s
setting_is_read s valid =
    let words = setting_words_are_words s valid in
    rw (words_are_read (codes "setting") (decimal s.n ∷ decimal s.f ∷ decimal s.p ∷ decimal s.q ∷ []) words.0 words.1, parameters_are_read s valid)
    (valid_settled s valid)

numbers_are_spelled : (n f p q : List ℕ) (s : Parameters) → numbers_of n f p q ≡ Some s
    → (n ≡ decimal s.n) × (f ≡ decimal s.f) × (p ≡ decimal s.p) × (q ≡ decimal s.q)
numbers_are_spelled n f p q s is =
    option_and_then_some _ (number_of_text n) s is (λ a an more.
    option_and_then_some _ (number_of_text f) s more (λ b bn more.
    option_and_then_some _ (number_of_text p) s more (λ c cn more.
    option_and_then_some _ (number_of_text q) s more (λ d dn more.
    let same : parameters a b c d ≡ s = cc more in (
      (decimal_of_number n a an).0 ∙ ap (λ (x : Parameters). decimal x.n) same,
      (decimal_of_number f b bn).0 ∙ ap (λ (x : Parameters). decimal x.f) same,
      (decimal_of_number p c cn).0 ∙ ap (λ (x : Parameters). decimal x.p) same,
      (decimal_of_number q d dn).0 ∙ ap (λ (x : Parameters). decimal x.q) same,
    )))))

parameters_are_spelled : (words : List (List ℕ)) (s : Parameters) → parameters_in words ≡ Some s → words ≡ setting_words s
parameters_are_spelled [] s is = absurd (cc)
parameters_are_spelled (w ∷ []) s is = absurd (cc)
parameters_are_spelled (w ∷ n ∷ []) s is = absurd (cc)
parameters_are_spelled (w ∷ n ∷ f ∷ []) s is = absurd (cc)
parameters_are_spelled (w ∷ n ∷ f ∷ p ∷ []) s is = absurd (cc)
parameters_are_spelled (w ∷ n ∷ f ∷ p ∷ q ∷ []) s is =
    elim (cases_Bool (bytes_eq w (codes "setting"))) [
      | inl so ↦
          let (a, b, c, d) = numbers_are_spelled n f p q s (rw so at is) in
          let first : w ≡ codes "setting" = (bytes_eq-Decides w (codes "setting")).0 so in
          rw (first, a, b, c, d) refl
      | inr not_so ↦ let wrong = rw not_so at is in absurd (cc)
    ]
parameters_are_spelled (w ∷ n ∷ f ∷ p ∷ q ∷ r ∷ rest) s is = absurd (cc)

setting_is_spelled : (line : List ℕ) (s : Parameters) → setting_in line ≡ Ok s → IsValid s × (line ≡ line_of (setting_words s))
setting_is_spelled line s is =
    let (t, found, valid) = read_first _ (λ t. settled (setting_of t)) s is in
    let (same, holds) = settled_valid t s valid in (
      holds,
      line_is_spelled line (setting_words s)
          (subst (λ (x : Parameters). words_in line ≡ setting_words x) same (parameters_are_spelled (words_in line) t (formed 1 _ t found))),
    )

-- The line of a local order.

order_words_are_words : (txs : List Tx) → AllByRecursion FitsTx txs → AllByRecursion IsWord (map tx_text txs)
order_words_are_words [] fits = tt
order_words_are_words (t ∷ ts) fits = (txs_are_words t fits.0, order_words_are_words ts fits.1)

txs_are_read : (before txs : List Tx) → AllByRecursion FitsTx txs → length before + length txs ≤ 128 → txs_after before (map tx_text txs) ≡ Some (before ++ txs)
txs_are_read before [] fits short = rw append-nil refl
txs_are_read before (t ∷ ts) fits short =
    rw (lt-ltb (length before) 128 (omega (arith, short)), tx_of_text-text t fits.0)
    (txs_are_read (before ++ t ∷ []) ts fits.1 (omega (arith, short, length-append before (t ∷ [])))
    ∙ ap (λ (x : List Tx). Some x) (append_assoc before (t ∷ []) ts))

order_is_read : (number : ℕ) (txs : List Tx) → IsLocalOrder txs → order_in number (line_of (order_words txs)) ≡ Ok txs
order_is_read number txs is =
    rw (
      words_are_read (codes "order") (map tx_text txs) order_is_word (order_words_are_words txs is.fits),
      txs_are_read [] txs is.fits (omega (arith, is.short)),
      distinct_tested txs is.distinct,
    )
    refl

txs_are_spelled : (words : List (List ℕ)) (before txs : List Tx) → length before ≤ 128 → txs_after before words ≡ Some txs
    → (ts : List Tx) × (txs ≡ before ++ ts) × (words ≡ map tx_text ts) × AllByRecursion FitsTx ts × (length txs ≤ 128)
txs_are_spelled [] before txs short is =
    let same : before ≡ txs = cc is in
    ([], sym same ∙ sym (append-nil before), refl, tt, rw (← same) short)
txs_are_spelled (word ∷ words) before txs short is =
    option_and_then_some _ (next_tx (length before) word) txs is (λ t found more.
    let (few, read) = room (length before) word t found in
    let here : FitsTx t × (word ≡ tx_text t) = rw read at (text_of_tx word) in
    let (ts, same, spelled, fits, all) = txs_are_spelled words (before ++ t ∷ []) txs (omega (arith, few, length-append before (t ∷ []))) more in (
      t ∷ ts,
      same ∙ append_assoc before (t ∷ []) ts,
      ap (λ (w : List ℕ). w ∷ words) here.1 ∙ ap (λ (ws : List (List ℕ)). tx_text t ∷ ws) spelled,
      (here.0, fits),
      all,
    ))
  where
    room : (count : ℕ) (word : List ℕ) (t : Tx) → next_tx count word ≡ Some t → (count < 128) × (tx_of_text word ≡ Some t)
    room count word t found =
        elim (cases_Bool (nat_lt count 128)) [
          | inl so ↦ (ltb-true count 128 so, rw so at found)
          | inr not_so ↦ let wrong = rw not_so at found in absurd (cc)
        ]

txs_in_words : (words : List (List ℕ)) (txs : List Tx) → txs_in words ≡ Some txs → (words ≡ order_words txs) × AllByRecursion FitsTx txs × (length txs ≤ 128)
txs_in_words [] txs is = absurd (cc)
txs_in_words (word ∷ words) txs is =
    elim (cases_Bool (bytes_eq word (codes "order"))) [
      | inl so ↦
          let (ts, same, spelled, fits, short) = txs_are_spelled words [] txs (omega arith) (rw so at is) in
          let first : word ≡ codes "order" = (bytes_eq-Decides word (codes "order")).0 so in (
            ap (λ (w : List ℕ). w ∷ words) first ∙ ap (λ (ws : List (List ℕ)). codes "order" ∷ ws) (spelled ∙ ap (map tx_text) (sym same)),
            subst (AllByRecursion FitsTx) (sym same) fits,
            short,
          )
      | inr not_so ↦ let wrong = rw not_so at is in absurd (cc)
    ]

once_is : (number : ℕ) (all txs : List Tx) → once number all ≡ Ok txs → (all ≡ txs) × (are_distinct txs ≡ true)
once_is number all txs is =
    elim (cases_Bool (are_distinct all)) [
      | inl so ↦ let same : all ≡ txs = cc (rw so at is) in (same, rw (← same) so)
      | inr not_so ↦ let wrong = rw not_so at is in absurd (cc)
    ]

order_is_spelled : (number : ℕ) (line : List ℕ) (txs : List Tx) → order_in number line ≡ Ok txs → IsLocalOrder txs × (line ≡ line_of (order_words txs))
order_is_spelled number line txs is =
    let (all, found, once) = read_first _ (λ all. once number all) txs is in
    let (same, distinct) = once_is number all txs once in
    let read : txs_in (words_in line) ≡ Some txs = formed number _ all found ∙ ap (λ (x : List Tx). Some x) same in
    let (spelled, fits, short) = txs_in_words (words_in line) txs read in
    (record { short = short; distinct = distinct_reported txs distinct; fits = fits }, line_is_spelled line (order_words txs) spelled)

-- The lines of the lists.

lists_are_read : (number : ℕ) (before lists : List (List Tx)) → AllByRecursion IsLocalOrder lists
    → lists_after (length lists) number before (text_of (map (λ txs. line_of (order_words txs)) lists)) ≡ Ok (before ++ lists)
lists_are_read number before [] each = rw append-nil refl
lists_are_read number before (txs ∷ lists) each =
    let lines : List ℕ = text_of (map (λ txs. line_of (order_words txs)) lists) in
    let lacks : Lacks 10 (line_of (order_words txs)) = no_line_feed (order_words txs) (order_is_word, order_words_are_words txs (each.0).fits) in
    rw (append_assoc (line_of (order_words txs)) (10 ∷ []) lines, line_is_read number (line_of (order_words txs)) lines lacks, order_is_read number txs each.0)
    (lists_are_read (number + 1) (before ++ txs ∷ []) lists each.1 ∙ ap (λ (x : List (List Tx)). Ok x) (append_assoc before (txs ∷ []) lists))

nothing_after : {X : Type 0} (number : ℕ) (x y : X) (text : List ℕ) → ended number x text ≡ Ok y → (text ≡ []) × (x ≡ y)
nothing_after number x y [] is = (refl, cc)
nothing_after number x y (b ∷ bs) is = absurd (cc)

lists_are_spelled : (left number : ℕ) (before : List (List Tx)) (text : List ℕ) (lists : List (List Tx)) → lists_after left number before text ≡ Ok lists
    → (ls : List (List Tx)) × (lists ≡ before ++ ls) × (length ls ≡ left) × (text ≡ text_of (map (λ txs. line_of (order_words txs)) ls))
    × AllByRecursion IsLocalOrder ls
lists_are_spelled zero number before text lists is =
    let (none, same) = nothing_after number before lists text is in
    ([], sym same ∙ sym (append-nil before), refl, none, tt)
lists_are_spelled (suc left) number before text lists is =
    let (found, line, more) = read_first (line_at number text) _ lists is in
    let (txs, order, more) = read_first (order_in number found.0) _ lists more in
    let (local, spelled) = order_is_spelled number found.0 txs order in
    let (ls, same, count, following, each) = lists_are_spelled left (number + 1) (before ++ txs ∷ []) found.1 lists more in (
      txs ∷ ls,
      same ∙ append_assoc before (txs ∷ []) ls,
      ap suc count,
      line_is number text found line
          ∙ ap (λ (l : List ℕ). l ++ 10 ∷ found.1) spelled
          ∙ ap (λ (r : List ℕ). line_of (order_words txs) ++ 10 ∷ r) following
          ∙ sym (append_assoc (line_of (order_words txs)) (10 ∷ []) (text_of (map (λ txs. line_of (order_words txs)) ls))),
      (local, each),
    )

-- The whole.

first_line : (number : ℕ) (line : List ℕ) (lines : List (List ℕ)) → Lacks 10 line → line_at number (text_of (line ∷ lines)) ≡ Ok (line, text_of lines)
first_line number line lines lacks = ap (line_at number) (append_assoc line (10 ∷ []) (text_of lines)) ∙ line_is_read number line (text_of lines) lacks

read_by_parts : (text line rest : List ℕ) (s : Parameters) (lists : List (List Tx)) → line_at 1 text ≡ Ok (line, rest)
    → setting_in line ≡ Ok s → lists_after (quorum_of s) 2 [] rest ≡ Ok lists
    → read_orders text ≡ Ok (make_order_text s lists)
unfolding read_orders
read_by_parts text line rest s lists first setting following = rw (first, setting, following) refl

pub spelled_is_read : (s : Parameters) (lists : List (List Tx)) → AreOrders s lists → read_orders (order_text_of s lists) ≡ Ok (make_order_text s lists)
spelled_is_read s lists are =
    let lines : List (List ℕ) = map (λ txs. line_of (order_words txs)) lists in
    read_by_parts (order_text_of s lists) (line_of (setting_words s)) (text_of lines) s lists
    (first_line 1 (line_of (setting_words s)) lines (no_line_feed (setting_words s) (setting_words_are_words s are.setting)))
    (setting_is_read s are.setting)
    (ap (λ (k : ℕ). lists_after k 2 [] (text_of lines)) (sym are.quorum) ∙ lists_are_read 2 [] lists are.each)

pub read_is_spelled : (text : List ℕ) (orders : OrderText) → read_orders text ≡ Ok orders
    → AreOrders orders.setting orders.lists × (text ≡ order_text_of orders.setting orders.lists)
unfolding read_orders
read_is_spelled text orders is =
    let (found, line, more) = read_first (line_at 1 text) _ orders is in
    let (s, setting, more) = read_first (setting_in found.0) _ orders more in
    let (lists, following, more) = read_first (lists_after (quorum_of s) 2 [] found.1) _ orders more in
    let same : make_order_text s lists ≡ orders = cc more in
    let (valid, spelled) = setting_is_spelled found.0 s setting in
    let (ls, all, count, rest, each) = lists_are_spelled (quorum_of s) 2 [] found.1 lists following in
    let are : AreOrders s ls = record { setting = valid; quorum = count; each = each } in
    let whole : text ≡ order_text_of s ls =
    line_is 1 text found line
    ∙ ap (λ (l : List ℕ). l ++ 10 ∷ found.1) spelled
    ∙ ap (λ (r : List ℕ). line_of (setting_words s) ++ 10 ∷ r) rest
    ∙ sym (append_assoc (line_of (setting_words s)) (10 ∷ []) (text_of (map (λ txs. line_of (order_words txs)) ls))) in
    let here : make_order_text s ls ≡ orders = ap (make_order_text s) (sym all) ∙ same in
    (subst (λ (o : OrderText). AreOrders o.setting o.lists) here are, subst (λ (o : OrderText). text ≡ order_text_of o.setting o.lists) here whole)
