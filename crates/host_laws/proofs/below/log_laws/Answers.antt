use Rattle.durable_node.specs.Check.{header_digest}
use Rattle.durable_node.specs.Header.{records_in}
use Rattle.host_laws.proofs.OneRole.{one_role_by}
use Rattle.host_laws.proofs.below.log_laws.Goals as goal

pub returns : goal.returns
returns c = record {
  prepared = c.hosts_keep_logs.ensures.prepared;
  dropped = c.hosts_keep_logs.ensures.dropped;
  appended = c.hosts_keep_logs.ensures.appended;
  headed = c.hosts_keep_logs.ensures.headed;
  crashed = c.hosts_keep_logs.ensures.crashed;
  one_prefix = λ header log. c.logs_are_read_back.ensures.one_prefix (header_digest header) (records_in log);
  one_role = one_role_by c.logs_fix_what_opens_them.ensures.header;
  opened = c.records_continue_logs.ensures.opened;
  lined = c.records_continue_logs.ensures.prepared;
  taken = c.records_continue_logs.ensures.taken;
  records = c.records_continue_logs.ensures.records;
  counted = c.numbers_are_places.ensures.counted;
}
