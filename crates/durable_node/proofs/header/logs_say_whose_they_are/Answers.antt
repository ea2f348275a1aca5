use Rattle.durable_node.proofs.Headers.{has_owner, headers_differ, heights_differ, length_header, one_owner, owner_is}
use Rattle.durable_node.proofs.header.logs_say_whose_they_are.Goals as goal

pub returns : goal.returns
returns c = record { size = length_header; differ = headers_differ; owned = has_owner; owner = owner_is; one = one_owner; heights = heights_differ }
