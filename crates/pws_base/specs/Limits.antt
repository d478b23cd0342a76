-- The bounds of numbers, texts, groups and windows; this project's own rules. `pws_base::limits` has the same numbers
-- under the same names.
use Rattle.std.specs.Prelude.{ℕ, ◌^◌}

-- the greatest number of a place, a view, a request, a call or an ask
abbrev pub max_number : ℕ
max_number = 1000000

-- the longest body, in bytes
abbrev pub max_body : ℕ
max_body = 32768

-- the most groups of a layout, the most replicas of a group, and the most of these that may be compromised
abbrev pub max_groups : ℕ
max_groups = 16

abbrev pub max_replicas : ℕ
max_replicas = 10

abbrev pub max_compromised : ℕ
max_compromised = 3

-- how many numbers of calls between two groups are open at once, from the low number on
abbrev pub call_window : ℕ
call_window = 16

-- how many places above the low mark are open at once, and how many lie between two checkpoints
abbrev pub place_window : ℕ
place_window = 32

abbrev pub checkpoint_distance : ℕ
checkpoint_distance = 16

-- the longest text of an event, of a packet, in bytes
abbrev pub max_event : ℕ
max_event = 32782

abbrev pub max_packet : ℕ
max_packet = 98304

-- how many bytes of texts a list of events keeps
abbrev pub max_kept : ℕ
max_kept = 2 ^ 30
