use Rattle.std.proofs.Common.{◌≡◌, ℕ, ◌<◌, List, true, arith}
use Rattle.std.specs.Prelude.{All}
use Rattle.seq_base.specs.Setting.{Parameters, IsValid}
use Rattle.intake_laws.specs.Past.{Call, opened, names_replica}
use Rattle.intake_laws.specs.Premises.{lifetime_of}
use Rattle.intake_laws.proofs.Sounds.{Sound, sound_calls, opened_sound}
use Rattle.intake_laws.proofs.Ascents.{ascend_calls}
use Rattle.intake_laws.proofs.lifetimes.lifetimes_keep_time.Goals as goal

sound : (s : Parameters) (r : ℕ) (lifetime : List Call) → IsValid s → r < s.n → All (λ call. names_replica s.n call ≡ true) lifetime
    → Sound s.n s.f r (lifetime_of s r lifetime)
sound s r lifetime valid below names =
    sound_calls s.n s.f r below valid.replicas.few (opened s.n s.f r) lifetime names (opened_sound s.n s.f r below valid.replicas.few)

pub returns : goal.returns
returns c = record {
  ascending = λ s r lifetime valid below names.
      ascend_calls s.n s.f r below valid.replicas.few (opened s.n s.f r) lifetime names (opened_sound s.n s.f r below valid.replicas.few)
      (λ i j d less inside. absurd (omega arith));
  reported = λ s r lifetime valid below names e held i inside known. ((sound s r lifetime valid below names).noted e held).reported i inside known;
  own_clock = λ s r lifetime valid below names. (sound s r lifetime valid below names).own;
  clocks = λ s r lifetime valid below names. (sound s r lifetime valid below names).others;
}
