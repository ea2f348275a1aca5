use Rattle.std.proofs.Common.{◌≡◌, ◌∙◌, ◌+◌, ◌-◌, ◌++◌, ℕ, List, [], ◌∷◌, All, ap, arith, length, length-append, map, subst, sym}
use Rattle.std.proofs.lemmas.List.{map-append}
use Rattle.std.proofs.lemmas.List.Elements.{All-push}
use Rattle.locked_log.specs.History.{Opened as Log, given, giving, known}
use Rattle.thread_run.specs.Starting.{pass_with}
use Rattle.thread_run.proofs.start.open_logs.Goals as goal

-- one element more on both sides
map_push : {A B : Type 0} (f : A → B) (xs more : List A) (x : A) (ys zs : List B) (y : B) → more ≡ xs ++ x ∷ [] → zs ≡ ys ++ y ∷ []
    → y ≡ f x → ys ≡ map f xs → zs ≡ map f more
map_push {B = B} f xs more x ys zs y longer is one all =
    is ∙ ap (λ (l : List B). l ++ y ∷ []) all ∙ ap (λ (v : B). map f xs ++ v ∷ []) one ∙ sym (map-append f xs (x ∷ [])) ∙ ap (map f) (sym longer)

pub loop-at-preserved : goal.loop-at-preserved
loop-at-preserved c =
    let i = c.loop-at.invariant in
    let log = c.in_ok-log.log in
    let pass = c.in_ok-log.ensures.pass in
    let parts = c.in_ok-log.ensures.parts in
    let logs = c.in_ok-push-3.ensures.items in
    let less : log.parts - 1 ≡ c.args.clients + 2 = omega (arith, parts) in record {
      count = (
          let len = ap length logs in
          let one = length-append c.loop-at.logs.items (log ∷ []) in
          let so = i.count in
          omega (arith, len, one, so));
      parts = subst (All (λ (l : Log). l.parts ≡ c.args.clients + 3)) (sym logs)
          (All-push (λ (l : Log). l.parts ≡ c.args.clients + 3) c.loop-at.logs.items log i.parts parts);
      own = map_push (pass_with 1) c.loop-at.logs.items c.push-in-loop-at-2.new.self.items log c.loop-at.own.items c.push.new.self.items
          c.split.result logs c.in_ok-push.ensures.items
          (c.split.ensures.given ∙ ap given pass) i.own;
      mains = map_push (pass_with (c.args.clients + 2)) c.loop-at.logs.items c.push-in-loop-at-2.new.self.items log c.loop-at.mains.items
          c.push-in-loop-at.new.self.items c.split.new.pass logs c.in_ok-push-2.ensures.items
          (c.split.ensures.kept ∙ ap giving pass ∙ ap (λ (k : ℕ). known log.name k [] []) less) i.mains;
    }
