-- How long an input may be.
use Rattle.std.specs.Prelude.{ℕ}

-- the maximum length of an order text or a plan in bytes, 2^20
abbrev pub most_input : ℕ
most_input = 1048576

-- The maximum length of a trace that an audit reads in bytes, 2^26. A longer one may be written; an audit of it answers
-- that it is too long.
abbrev pub most_trace : ℕ
most_trace = 67108864
