-- The line that a request about a received block or message is written as: words, with one blank between.
use Rattle.std.specs.Prelude.{ℕ, ◌^◌, ◌<◌, ◌≤◌, List, ◌++◌, vec_items, string_bytes, codes, decimal, ◌≢◌}
use Rattle.tokens.specs.Bytes.{shown_bytes, Bytes}
use Rattle.tokens.specs.Words.{spaced, Plain}
use Rattle.arrivals.specs.declared.arrival.Arrival.{Arrival}
use Rattle.arrivals.specs.declared.arrival.Arrival.TheVariants.{Receive, Next}

-- numbers in decimal, bytes in hex with `-` for none
abbrev pub written_arrival : Arrival → List ℕ
written_arrival (Receive id depth size block) = spaced (codes "receive") (spaced (string_bytes id) (spaced (codes "depth=" ++ decimal depth) (spaced (codes "msglen=" ++ decimal size) (codes "block=" ++ shown_bytes (vec_items block)))))
written_arrival (Next id message) = spaced (codes "next") (spaced (string_bytes id) (shown_bytes (vec_items message)))

-- the depth is a number of 64 bits, the length one of 16 bits, bytes are bytes, and an id is one word
abbrev pub GoodArrival : Arrival → Type 0
GoodArrival (Receive id depth size block) = Plain (string_bytes id) × (depth < 2 ^ 64) × (size ≤ 65535) × Bytes (vec_items block)
GoodArrival (Next id message) = Plain (string_bytes id) × Bytes (vec_items message)

-- no such request is written so
abbrev pub NoArrival : List ℕ → Type 0
NoArrival line = (q : Arrival) → GoodArrival q → line ≢ written_arrival q
