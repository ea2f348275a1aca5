use Rattle.replica_box.proofs.CrashedLog.{appended, crashed, dropped, each_lived, follow, headed, prepared, unheaded}
use Rattle.replica_box.proofs.laws.hosts_keep_logs.Goals as goal

pub returns : goal.returns
returns c = record {
  unheaded = unheaded;
  prepared = λ fits gives opening header now ready bytes durable_size lifetime next h can.
      prepared fits gives opening header now bytes durable_size lifetime ready next h can;
  dropped = λ fits gives opening header now first more bytes durable_size lifetime h lacks.
      dropped fits gives opening header now bytes durable_size lifetime first more h lacks;
  appended = λ fits gives opening header now events bytes more durable_size more_durable lifetime h grown within durable.
      appended fits gives opening header now events bytes durable_size lifetime h more more_durable grown within durable;
  headed = λ fits gives opening header now events bytes new durable_size lifetime h stays.
      headed fits gives opening header now events bytes durable_size lifetime h new stays;
  crashed = λ fits gives opening header now ready bytes new durable_size lifetime h stays events end prefix.
      crashed fits gives opening header now ready bytes durable_size lifetime h new stays events end prefix;
  follow = follow;
  lived = each_lived;
}
