use Rattle.std.proofs.Common.{sym}
use Rattle.plan_text.proofs.Words.{sixth_word}
use Rattle.plan_text.proofs.order.setting_words.Goals as goal

pub returns-then-is_some : goal.returns-then-is_some
returns-then-is_some c =
    sym (rw (c.in_ok-word.ensures.some, c.in_ok-n.ensures.some, c.in_ok-f.ensures.some, c.in_ok-p.ensures.some)
    (sixth_word c.in_ok-word.word.now c.in_ok-n.n.now c.in_ok-f.f.now c.in_ok-p.p.now c.in_ok-p.q.now c.split_at_byte-5.result
    (sym c.if-is_some.ensures) c.split_at_byte-5.ensures.some))
