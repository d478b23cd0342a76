-- The numbers of the wire, in one place: those of its version 1; this project's own.
use Rattle.std.specs.Prelude.{ℕ}

-- the version byte
abbrev pub wire_version : ℕ
wire_version = 1

-- the longest content, in bytes: a PRE_PREPARE of the longest event
abbrev pub longest_content : ℕ
longest_content = 32791

-- the most tags of a statement, and the most vouchers of a packet
abbrev pub most_tags : ℕ
most_tags = 10

abbrev pub most_vouchers : ℕ
most_vouchers = 10

-- the most checkpoints of a view change, rows of each of its sets, and digests of a row
abbrev pub most_checkpoints : ℕ
most_checkpoints = 3

abbrev pub most_rows : ℕ
most_rows = 32

abbrev pub most_digests : ℕ
most_digests = 16

-- the most view changes that a new view names, and digests that it chooses
abbrev pub most_named : ℕ
most_named = 10

abbrev pub most_chosen : ℕ
most_chosen = 32
