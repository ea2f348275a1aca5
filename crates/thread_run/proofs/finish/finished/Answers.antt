use Rattle.std.proofs.Common.{◌≡◌, ◌∙◌, ◌∷◌, ◌++◌, ◌<◌, List, [], ap, append_assoc, append-nil, arith, get_or, length, length-append, subst, sym}
use Rattle.std.specs.Prelude.{remove}
use Rattle.seq_base.specs.declared.tx.Tx.{Tx}
use Rattle.locked_log.specs.History.{Known, Opened as Log}
use Rattle.thread_run.specs.declared.driver.Driver.{Driver}
use Rattle.thread_run.specs.Finishing.{AreFinished, CanFinish, IsListOf, column, later_columns, rows_of}
use Rattle.thread_run.proofs.finish.finished.Goals as goal

-- a log less
module _ (rows : List (List (Known Tx))) where
  can_more : (logs ls : List Log) (ds es : List Driver) (os ps : List (Known Tx)) → 0 < length logs → CanFinish logs ds os rows
      → ls ≡ remove logs 0 → es ≡ remove ds 0 → ps ≡ remove os 0
      → CanFinish ls es ps (later_columns rows)
  can_more [] ls ds es os ps lt can a b e = absurd (omega (arith, lt))
  can_more (l ∷ logs) ls [] es os ps lt can a b e = absurd can
  can_more (l ∷ logs) ls (d ∷ ds) es [] ps lt can a b e = absurd can
  can_more (l ∷ logs) ls (d ∷ ds) es (o ∷ os) ps lt can a b e =
      subst (λ (x : List Log). CanFinish x es ps (later_columns rows)) (sym a)
      (subst (λ (x : List Driver). CanFinish logs x ps (later_columns rows)) (sym b)
      (subst (λ (x : List (Known Tx)). CanFinish logs ds x (later_columns rows)) (sym e) can.2))

  done_more : (logs : List Log) (ds es : List Driver) (os ps : List (Known Tx)) (d : Driver) (o : Known Tx) (x : List Tx) (rest : List (List Tx))
      → 0 < length logs → CanFinish logs ds os rows
      → d ≡ get_or ds 0 d → o ≡ get_or os 0 o → es ≡ remove ds 0 → ps ≡ remove os 0 → IsListOf (d.pass ∷ o ∷ column 0 rows) x
      → AreFinished es ps (later_columns rows) rest → AreFinished ds os rows (x ∷ rest)
  done_more [] ds es os ps d o x rest lt can id io a b is h = absurd (omega (arith, lt))
  done_more (l ∷ logs) [] es os ps d o x rest lt can id io a b is h = absurd can
  done_more (l ∷ logs) (v ∷ ds) es [] ps d o x rest lt can id io a b is h = absurd can
  done_more (l ∷ logs) (v ∷ ds) es (w ∷ os) ps d o x rest lt can id io a b is h = (
    subst (λ (q : Driver). IsListOf (q.pass ∷ w ∷ column 0 rows) x) id (subst (λ (p : Known Tx). IsListOf (d.pass ∷ p ∷ column 0 rows) x) io is),
    subst (λ (y : List Driver). AreFinished y os (later_columns rows) rest) a (subst (λ (z : List (Known Tx)). AreFinished es z (later_columns rows) rest) b h),
  )

pub left-preserved : goal.left-preserved
left-preserved c =
    let i = c.left.invariant in
    let rows = rows_of c.left.clients.items in
    let later = c.list_of.ensures.rest in
    let less = c.remove-log.ensures.len in
    let old = c.left.logs.ok.0 in
    let some : 0 < length c.left.logs.items = omega (arith, less, old) in
    let list = c.in_ok-list_of.field-0 in
    let pushed = c.in_ok-push.ensures.items in record {
      can = subst (CanFinish c.remove-log.new.self.items c.remove-driver.new.self.items c.remove-worker.new.self.items) (sym later)
          (can_more rows c.left.logs.items c.remove-log.new.self.items c.left.drivers.items c.remove-driver.new.self.items c.left.own.items
          c.remove-worker.new.self.items some i.can c.remove-log.ensures.items
          c.remove-driver.ensures.items c.remove-worker.ensures.items);
      done = λ rest h. subst (AreFinished c.args.drivers.items c.args.own.items (rows_of c.args.clients.items))
          (sym (ap (λ (l : List (List Tx)). l ++ rest) pushed ∙ append_assoc c.left.lists.items (list ∷ []) rest))
          (i.done (list ∷ rest) (done_more rows c.left.logs.items c.left.drivers.items c.remove-driver.new.self.items c.left.own.items
          c.remove-worker.new.self.items c.remove-driver.result c.remove-worker.result list rest
          some i.can c.remove-driver.ensures.value c.remove-worker.ensures.value c.remove-driver.ensures.items c.remove-worker.ensures.items
          c.in_ok-list_of.ensures.list
          (subst (λ (r : List (List (Known Tx))). AreFinished c.remove-driver.new.self.items c.remove-worker.new.self.items r rest) later h)));
      count = (
          let new = c.remove-log.new.self.ok.0 in
          let longer = ap length pushed in
          let one = length-append c.left.lists.items (list ∷ []) in
          let so = i.count in
          omega (arith, less, old, new, longer, one, so));
    }

pub returns-clause-lists : goal.returns-clause-lists
returns-clause-lists c =
    subst (AreFinished c.args.drivers.items c.args.own.items (rows_of c.args.clients.items))
    (append-nil c.left.lists.items ∙ sym c.of.ensures) (c.left.invariant.done [] tt)
