use Rattle.std.proofs.Common.{◌≡◌, map}
use Rattle.trace_form.specs.declared.account.Account.{Account}
use Rattle.trace_form.proofs.contents.Contents.into_trace.Given as goal

abbrev pub invariant-loop-account : goal.invariant-loop-account
invariant-loop-account l = record {
  journals : l.journals.items ≡ map (λ (x : Account). x.journal) l.yielded;
  heads : l.heads.items ≡ map (λ (x : Account). x.head) l.yielded;
  batches : l.batches.items ≡ map (λ (x : Account). x.batches) l.yielded;
}
