-- The text for each reason why bytes are not a message.
use Rattle.std.specs.Prelude.{ℕ, List, codes}
use Rattle.wire_view.specs.declared.fault.WireFault.{WireFault}
use Rattle.wire_view.specs.declared.fault.WireFault.TheVariants.{Short, Trailing, Kind, Version, Count, Shape}

abbrev pub fault_words : WireFault → List ℕ
fault_words Short = codes "the bytes end inside a field"
fault_words Trailing = codes "bytes follow the message"
fault_words Kind = codes "no such kind"
fault_words Version = codes "another version"
fault_words Count = codes "a count is over its limit"
fault_words Shape = codes "replicas do not ascend, or a transaction is repeated"
